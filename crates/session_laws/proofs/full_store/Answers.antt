use Rattle.std.proofs.Common.{List, [], ◌∷◌, refl, arith}
use Rattle.store_spec.proofs.Common.{BallotOutcome, CastLine, Casting, Duplicate, Finding, Full, IsPermutation-refl, IsRightReply, MayBeCastBefore, example, example_ballot}
use Rattle.std.specs.Fmt.{digits}
use Rattle.session_laws.specs.SessionFigures.{full}
use Rattle.session_laws.proofs.Closing.{one_list_casts}
use Rattle.session_laws.proofs.ExampleBallots.{spells_5_unmarked, spells_9_unmarked}
use Rattle.session_laws.proofs.ExampleSets.{full_is_set}
use Rattle.session_laws.proofs.Growing.{no_number_in}
use Rattle.session_laws.proofs.Lists.{all_each, pairs_each}
use Rattle.session_laws.proofs.Spelled.{casts, closes_casting, closes_finding, finds, opens}
use Rattle.session_laws.proofs.Steps.{ends, plays_only_so, step}
use Rattle.session_laws.proofs.full_store.Goals as goal

-- the list and its replies
abbrev lines : List CastLine
lines = record { ballot = example_ballot 5 0 0; reply = Full } ∷ record { ballot = example_ballot 9 0 0; reply = Duplicate } ∷ []

-- they are an outcome, and the set stays
outcome : BallotOutcome example full (lines ∷ []) full
outcome = record {
  gains = IsPermutation-refl full;
  set = full_is_set;
  within_limit = omega arith;
  replies = all_each (λ (l : CastLine). IsRightReply example full full l.ballot l.reply) (lines ∷ []) (((no_number_in full 5 refl, refl), ((3, omega arith, refl), tt)), tt);
  in_order = pairs_each MayBeCastBefore (lines ∷ []) ((((λ accepted. absurd cc), tt), (tt, tt)), tt);
}

pub returns : goal.returns
unfolding digits
returns c = record {
  is = plays_only_so
      (step (opens Casting 1 (omega arith, omega arith) refl)
      (step (casts 1 (omega arith, omega arith) refl spells_5_unmarked)
      (step (casts 1 (omega arith, omega arith) refl spells_9_unmarked)
      (step (closes_casting (one_list_casts lines full outcome))
      (step (opens Finding 1 (omega arith, omega arith) refl)
      (step (finds 1 5 (omega arith, omega arith) (omega arith, omega arith) refl)
      (step (finds 1 9 (omega arith, omega arith) (omega arith, omega arith) refl)
      (step closes_finding (ends 9 _)))))))))
      _ refl;
}
