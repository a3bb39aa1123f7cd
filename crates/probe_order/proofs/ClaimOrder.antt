-- The claim words of a number come round the array from its first on.
use Rattle.std.proofs.Common.{◌≡◌, ℕ, ◌+◌, ◌-◌, ◌%◌, ◌<◌, ◌≤◌, ⊎_elim, arith, mod-lt, ap, ◌∙◌}
use Rattle.store_spec.proofs.Common.{cases_lt, claim_place}
use Rattle.std.proofs.Math.Nat.{mod-eq_of_lt, add-mod_right}

-- those up to the end of the array
pub up_to_end : (number tries length : ℕ) → number % length + tries < length → claim_place number tries length ≡ number % length + tries
up_to_end number tries length before = mod-eq_of_lt before

-- and those from its beginning on
pub from_beginning : (number tries length : ℕ) → tries < length → length ≤ number % length + tries → claim_place number tries length ≡ number % length + tries - length
from_beginning number tries length few round =
    let first : number % length < length = mod-lt number (omega arith) in
    let rest = number % length + tries - length in
    let whole : number % length + tries ≡ rest + length = omega arith in
    ap (λ n. n % length) whole ∙ add-mod_right rest length ∙ mod-eq_of_lt (let short : rest < length = omega arith in short)

pub reached : (number length place : ℕ) → place < length → (tries : ℕ) × (tries < length) × (claim_place number tries length ≡ place)
reached number length place within =
    let first : number % length < length = mod-lt number (omega arith) in
    ⊎_elim
    (λ (before : place < number % length).
    let tries = length - number % length + place in
    (tries, omega arith, omega (arith, from_beginning number tries length (omega arith) (omega arith))))
    (λ (on : number % length ≤ place).
    let tries = place - number % length in
    (tries, omega arith, omega (arith, up_to_end number tries length (omega arith))))
    (cases_lt place (number % length))

pub once : (number a b length : ℕ) → a < length → b < length → claim_place number a length ≡ claim_place number b length → a ≡ b
once number a b length few_a few_b same =
    let first : number % length < length = mod-lt number (omega arith) in
    ⊎_elim
    (λ (a_on : number % length + a < length). ⊎_elim
    (λ (b_on : number % length + b < length). omega (arith, up_to_end number a length a_on, up_to_end number b length b_on))
    (λ (b_round : length ≤ number % length + b). omega (arith, up_to_end number a length a_on, from_beginning number b length few_b b_round))
    (cases_lt (number % length + b) length))
    (λ (a_round : length ≤ number % length + a). ⊎_elim
    (λ (b_on : number % length + b < length). omega (arith, from_beginning number a length few_a a_round, up_to_end number b length b_on))
    (λ (b_round : length ≤ number % length + b). omega (arith, from_beginning number a length few_a a_round, from_beginning number b length few_b b_round))
    (cases_lt (number % length + b) length))
    (cases_lt (number % length + a) length)

pub within : (number tries length : ℕ) → 0 < length → claim_place number tries length < length
within number tries length some = mod-lt (number % length + tries) some
