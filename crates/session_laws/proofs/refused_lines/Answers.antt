use Rattle.std.proofs.Common.{◌≡◌, [], ◌∷◌, codes, refl, ◌∙◌, arith}
use Rattle.store_spec.proofs.Common.{Cast, CastInvalid, Casting, Checkpoint, Close, Export, Find, Finding, IsMalformed, IsPermutation-refl, Open, Tally, Withdraw, Withdrawing, append_cancel_left, decimal, decimal_injective, example}
use Rattle.std.specs.Fmt.{digits}
use Rattle.session_laws.proofs.Closing.{all_accepted_close}
use Rattle.session_laws.proofs.ExampleBallots.{spells_9}
use Rattle.session_laws.proofs.ExampleSets.{empty_is_set}
use Rattle.session_laws.proofs.Spelled.{casts, checkpoint_while_casting, close_while_closed, closes_casting, malformed, opens, withdraw_while_casting}
use Rattle.session_laws.proofs.Texts.{differ}
use Rattle.session_laws.proofs.Steps.{ends, plays_only_so, step}
use Rattle.session_laws.proofs.refused_lines.Goals as goal

-- how 65 is spelled
decimal_65 : decimal 65 ≡ codes "65"
unfolding digits
decimal_65 = refl

-- a phase has no 65 tabulators
too_many : IsMalformed example (codes "open cast 65")
too_many (Open Casting tabs) (is, text) =
    let same : codes "65" ≡ decimal tabs = append_cancel_left (codes "open cast ") (codes "65") (decimal tabs) text in
    let e : 65 ≡ tabs = decimal_injective 65 tabs (omega arith) (omega arith) (decimal_65 ∙ same) in
    omega arith
too_many (Open Withdrawing tabs) (is, text) = differ 5 text refl
too_many (Open Finding tabs) (is, text) = differ 5 text refl
too_many (Cast tab b) (is, rest, text, spelled) = differ 0 text refl
too_many (CastInvalid tab) (is, rest, text, spelled, not) = differ 0 text refl
too_many (Withdraw tab number) (is, some, text) = differ 0 text refl
too_many (Find tab number) (is, some, text) = differ 0 text refl
too_many Close text = differ 0 text refl
too_many Checkpoint text = differ 0 text refl
too_many Tally text = differ 0 text refl
too_many Export text = differ 0 text refl

pub returns : goal.returns
unfolding digits
returns c = record {
  is = plays_only_so
      (step (opens Casting 1 (omega arith, omega arith) refl)
      (step checkpoint_while_casting
      (step (withdraw_while_casting 1 9 (omega arith, omega arith) (omega arith, omega arith) refl)
      (step (casts 2 (omega arith, omega arith) refl spells_9)
      (step (malformed too_many)
      (step (closes_casting (all_accepted_close ([] ∷ []) [] empty_is_set (omega arith) (IsPermutation-refl [])))
      (step close_while_closed (ends 8 _))))))))
      _ refl;
}
