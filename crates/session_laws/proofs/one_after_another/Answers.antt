use Rattle.std.proofs.Common.{List, [], ◌∷◌, refl, arith}
use Rattle.store_spec.proofs.Common.{Accepted, BallotOutcome, CastLine, Casting, Conflict, Duplicate, IsPermutation-refl, IsRightReply, MayBeCastBefore, Withdrawing, example}
use Rattle.std.specs.Fmt.{digits}
use Rattle.session_laws.specs.SessionFigures.{one_way, other_way}
use Rattle.session_laws.proofs.Closing.{no_number, one_list_casts, one_list_withdraws}
use Rattle.session_laws.proofs.ExampleBallots.{apart, spells_one_way, spells_other_way}
use Rattle.session_laws.proofs.ExampleSets.{one_is_set}
use Rattle.session_laws.proofs.Lists.{all_each, pairs_each}
use Rattle.session_laws.proofs.Spelled.{casts, closes_casting, closes_withdrawing, opens, withdraws}
use Rattle.session_laws.proofs.Steps.{ends, plays_only_so, step}
use Rattle.session_laws.proofs.Withdrawals.{reply_to}
use Rattle.session_laws.proofs.one_after_another.Goals as goal

-- the list and its replies
abbrev lines : List CastLine
lines = record { ballot = one_way; reply = Accepted } ∷ record { ballot = one_way; reply = Duplicate } ∷ record { ballot = other_way; reply = Conflict } ∷ []

-- they are an outcome
outcome : BallotOutcome example [] (lines ∷ []) (one_way ∷ [])
outcome = record {
  gains = IsPermutation-refl (one_way ∷ []);
  set = one_is_set one_way spells_one_way.valid;
  within_limit = omega arith;
  replies = all_each (λ (l : CastLine). IsRightReply example [] (one_way ∷ []) l.ballot l.reply) (lines ∷ [])
      (((no_number 6, (0, omega arith, refl)), ((0, omega arith, refl), ((0, one_way, omega arith, refl, (refl, apart)), tt))), tt);
  in_order = pairs_each MayBeCastBefore (lines ∷ []) ((((λ e. absurd cc), ((λ e. absurd cc), tt)), (((λ e. absurd cc), tt), (tt, tt))), tt);
}

pub returns : goal.returns
unfolding digits reply_to
returns c = record {
  is = plays_only_so
      (step (opens Casting 1 (omega arith, omega arith) refl)
      (step (casts 1 (omega arith, omega arith) refl spells_one_way)
      (step (casts 1 (omega arith, omega arith) refl spells_one_way)
      (step (casts 1 (omega arith, omega arith) refl spells_other_way)
      (step (closes_casting (one_list_casts lines (one_way ∷ []) outcome))
      (step (opens Withdrawing 1 (omega arith, omega arith) refl)
      (step (withdraws 1 6 (omega arith, omega arith) (omega arith, omega arith) refl)
      (step (withdraws 1 6 (omega arith, omega arith) (omega arith, omega arith) refl)
      (step (withdraws 1 9 (omega arith, omega arith) (omega arith, omega arith) refl)
      (step (closes_withdrawing (one_list_withdraws (6 ∷ 6 ∷ 9 ∷ []) [] refl)) (ends 11 _)))))))))))
      _ refl;
}
