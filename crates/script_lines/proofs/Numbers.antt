-- The numbers of the generated script: an odd factor keeps numbers below 2^64 apart.
use Rattle.std.proofs.Common.{◌≡◌, ℕ, ◌+◌, ◌*◌, ◌%◌, ◌^◌, ◌<◌, ◌≤◌, inl, inr, refl, sym, ap, ◌∙◌, arith, mul-one, mod-eq_of_lt}
use Rattle.store_spec.proofs.Common.{cases_lt}
use Rattle.std.proofs.Math.Nat.{mul_assoc}
use Rattle.std.proofs.lemmas.Nat.{mul-mod_first, mul-mod_second}
use Rattle.script_lines.specs.Generated.{generated_number, spread}

-- what takes the factor back
inverse : ℕ
inverse = 0x572B5EE77A54E3BD

taken_back : spread * inverse % 2 ^ 64 ≡ 1
unfolding inverse
taken_back = refl

-- a number can be told from its product
told : (x : ℕ) → x < 2 ^ 64 → x * spread % 2 ^ 64 * inverse % 2 ^ 64 ≡ x
told x small =
    mul-mod_first (x * spread) inverse (2 ^ 64) ∙ ap (λ n. n % 2 ^ 64) (mul_assoc x spread inverse)
    ∙ sym (mul-mod_second x (spread * inverse) (2 ^ 64)) ∙ ap (λ n. x * n % 2 ^ 64) taken_back ∙ ap (λ n. n % 2 ^ 64) (mul-one x) ∙ mod-eq_of_lt small

-- no two ballots have one number
pub apart : (seed i j : ℕ) → seed + i < 2 ^ 64 → seed + j < 2 ^ 64 → generated_number seed i ≡ generated_number seed j → i ≡ j
apart seed i j first second same =
    let sums : seed + i ≡ seed + j = sym (told (seed + i) first) ∙ ap (λ n. n * inverse % 2 ^ 64) same ∙ told (seed + j) second in
    omega (arith, sums)

-- none has the number 0
pub some : (seed i : ℕ) → seed + i < 2 ^ 64 → 1 ≤ i → 1 ≤ generated_number seed i
unfolding inverse
some seed i small positive =
    let none : generated_number seed i ≡ 0 → seed + i ≡ 0 = λ zero. sym (told (seed + i) small) ∙ ap (λ n. n * inverse % 2 ^ 64) zero in
    elim (cases_lt (generated_number seed i) 1) [
      | inl below ↦ absurd (let zero = none (omega arith) in omega arith)
      | inr above ↦ above
    ]
