use Rattle.std.proofs.Common.{arith}
use Rattle.store_spec.proofs.step_figures.example_race.Goals as goal
use Rattle.store_spec.specs.CastStep.CastRow.{claim_won, claim_passed, look_ready, takes_empty, displaces, lost_ready}

pub returns : goal.returns
returns c = record {
  one_claims = claim_won 1 0;
  nine_passes = claim_passed 9 0 1 (omega arith) (omega arith) (omega arith);
  nine_claims = claim_won 9 1;
  one_looks = look_ready 1 4 0 (omega arith);
  nine_looks = look_ready 9 4 0 (omega arith);
  one_wins = takes_empty 1 4;
  nine_loses = lost_ready 9 4 0 1 (omega arith) (omega arith);
  nine_wins = displaces 9 4 1 (omega arith);
}
