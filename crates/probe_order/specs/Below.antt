-- A home has no more bits than it is asked for.
use Rattle.std.proofs.Common.{◌≡◌, ℕ, ◌-◌, ◌*◌, ◌%◌, ◌^◌, ◌<◌, ◌≤◌, arith, mod-lt, div-lt_iff_lt-mul, sym, ap, ◌∙◌, subst}
use Rattle.std.proofs.lemmas.Nat.{pow-add, pow_pos}
use Rattle.std.specs.Prelude.{bit_xor, ◌+◌}
use Rattle.store_spec.specs.Home.{home_of, multiplier}

whole : (bits : ℕ) → bits ≤ 16 → 2 ^ 64 ≡ 2 ^ bits * 2 ^ (64 - bits)
whole bits few =
    let parts : bits + (64 - bits) ≡ 64 = omega arith in
    ap (λ n. 2 ^ n) (sym parts) ∙ pow-add 2 bits (64 - bits)

pub home_of-lt : (bits salt v : ℕ) → bits ≤ 16 → home_of bits salt v < 2 ^ bits
home_of-lt bits salt v few =
    let P : ℕ → Type 0 = λ n. bit_xor v salt * multiplier % 2 ^ 64 < n in
    (div-lt_iff_lt-mul (pow_pos (64 - bits))).1 (subst P (whole bits few) (mod-lt (bit_xor v salt * multiplier) (pow_pos 64)))
