use Rattle.std.proofs.Common.{[], ◌∷◌}
use Rattle.store_spec.proofs.Common.{Ballot, IsCellOf}
use Rattle.tally_export.proofs.Placing.{AddedTo}
use Rattle.tally_export.proofs.contests.add_ballot.Given as goal

-- the marks in the first contests are counted
abbrev pub invariant-contests : goal.invariant-contests
invariant-contests l = (b : Ballot) → IsCellOf l.election l.cell b → AddedTo l.election (b ∷ []) l.place l.fn.all l.all
