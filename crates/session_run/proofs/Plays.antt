-- Lines are played one after another.
use Rattle.std.proofs.Common.{◌≡◌, ℕ, ◌+◌, List, [], ◌∷◌, ◌++◌, length, Option, arith, subst, refl}
use Rattle.store_spec.proofs.Common.{AnswersBy, Closes, Effect, Election, PlaysBy, State}

pub one_more : (closes : Closes) (e : Election) (n : ℕ) (s : State) (lines : List (Option (List ℕ))) (effects : List Effect)
    (state : State) (line : Option (List ℕ)) (effect : Effect)
    → PlaysBy closes e n s lines effects state → AnswersBy closes e (n + length lines) state line effect
    → PlaysBy closes e n s (lines ++ line ∷ []) (effects ++ effect ∷ []) effect.next
one_more closes e n s [] [] state line effect plays answers =
    let is : n + 0 ≡ n = omega arith in (
      subst (λ (t : State). AnswersBy closes e n t line effect) plays (subst (λ m. AnswersBy closes e m state line effect) is answers),
      refl,
    )
one_more closes e n s [] (x ∷ effects) state line effect plays answers = absurd plays
one_more closes e n s (l ∷ lines) [] state line effect plays answers = absurd plays
one_more closes e n s (l ∷ lines) (x ∷ effects) state line effect plays answers =
    let is : n + length (l ∷ lines) ≡ n + 1 + length lines = omega arith in (
      plays.0,
      one_more closes e (n + 1) x.next lines effects state line effect plays.1
          (subst (λ m. AnswersBy closes e m state line effect) is answers),
    )
