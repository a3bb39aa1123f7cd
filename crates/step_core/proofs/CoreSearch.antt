-- What a binary search in numbers that are in order tells.
use Rattle.std.proofs.Common.{◌≡◌, ◌↔◌, true, ℕ, ◌<◌, ◌≤◌, ⊎_elim, List, length, get_or, Result, Ok, Err, MatchResult, refl, ◌∙◌, arith}
use Rattle.store_spec.proofs.Common.{Contains, cases_lt, false≢true, get_or_default}
use Rattle.std.specs.Result.{is_ok}

pub contains_from_search : (xs : List ℕ) (x : ℕ) (r : Result ℕ ℕ) → MatchResult r (λ i. (i < length xs) × (get_or xs i 0 ≡ x)) (λ i. (i ≤ length xs) × ((k : ℕ) → k < i → get_or xs k 0 < x) × ((k : ℕ) → i ≤ k → k < length xs → x < get_or xs k 0)) → (is_ok r ≡ true) ↔ Contains xs x
contains_from_search xs x (Ok i) h = (λ _. (i, h.0, get_or_default xs i x 0 h.0 ∙ h.1), λ _. refl)
contains_from_search xs x (Err i) h = (
  λ e. absurd (false≢true e),
  λ c.
      let here = get_or_default xs c.0 0 x c.1 ∙ c.2 in
      ⊎_elim
      (λ (before : c.0 < i). let less = h.1 c.0 before in absurd (omega arith))
      (λ (after : i ≤ c.0). let more = h.2 c.0 after c.1 in absurd (omega arith))
      (cases_lt c.0 i),
)
