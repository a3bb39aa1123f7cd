-- Numbers of 64 bits, and how many parts there are.
use Rattle.std.proofs.Common.{◌≡◌, ◌+◌, ◌^◌, ◌<◌, ◌≤◌, ℕ, zero, suc, All, List, Some, arith, length, slice_get, subst, sym, take}
use Rattle.store_spec.proofs.Common.{All-push}
use Rattle.phase_kind.proofs.Counts.{something_there}
use Rattle.phase_kind.proofs.Trays.{take_next}

-- there are 8 parts at most
pub few_parts : (bits : ℕ) → bits ≤ 3 → 2 ^ bits ≤ 8
few_parts zero few = let le : 1 ≤ 8 = omega arith in le
few_parts (suc zero) few = let le : 2 ≤ 8 = omega arith in le
few_parts (suc (suc zero)) few = let le : 4 ≤ 8 = omega arith in le
few_parts (suc (suc (suc zero))) few = let le : 8 ≤ 8 = omega arith in le
few_parts (suc (suc (suc (suc n)))) few = absurd (omega (arith, few))

-- one item more with such a number
pub one_short : {I : Type 0} (number : I → ℕ) (list : List I) (index n : ℕ) → index < length list → n < 2 ^ 64 → ((x : I) → slice_get list index ≡ Some x → n ≡ number x) → All (λ x. number x < 2 ^ 64) (take index list) → All (λ x. number x < 2 ^ 64) (take (index + 1) list)
one_short {I} number list index n within short tells all =
    let Short : I → Type 0 = λ x. number x < 2 ^ 64 in
    let x = something_there list index within in
    subst (All Short) (sym (take_next list index x.0 x.1)) (All-push Short (take index list) x.0 all (subst (λ (m : ℕ). m < 2 ^ 64) (tells x.0 x.1) short))
