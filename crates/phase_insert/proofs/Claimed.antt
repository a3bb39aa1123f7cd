-- What it says of a number that its seat claimed it.
use Rattle.std.proofs.Common.{◌≡◌, ◌≢◌, ℕ, inl, inr, List, [], ◌∷◌, refl}
use Rattle.store_spec.proofs.Common.{CastView, Claimed}
use Rattle.phase_insert.specs.Gains.{IsNewTo}
use Rattle.word_rule.specs.CastSeats.{IsToldAlike}

no_more : {X : Type 0} (xs : List X) → ((xs ≢ []) → ⊥) → xs ≡ []
no_more [] some = refl
no_more (x ∷ xs) some = absurd (some (λ same. cc))

pub claimed_new : (claims : ℕ) (view : CastView) (number : ℕ) → claims ≢ 0 → IsToldAlike view number Claimed → IsNewTo claims view number
claimed_new claims view number some told = record {
  some_claim = some;
  not_accepted = λ c. (told.again (inl c)).0 refl;
  not_taken = λ c. (told.again (inr c)).0 refl;
  no_full = no_more view.full (λ some. told.no_room some refl);
}
