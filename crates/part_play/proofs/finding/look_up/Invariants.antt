use Rattle.std.proofs.Common.{◌≡◌, ℕ, ◌<◌, length, get_or, false, map}
use Rattle.part_play.specs.Plays.{is_present_in}
use Rattle.part_play.proofs.finding.look_up.Given as goal

-- the first numbers are answered
abbrev pub invariant-loop-index : goal.invariant-loop-index
invariant-loop-index g l = record {
  as_many : length l.found ≡ length l.list;
  answered : (k : ℕ) → k < l.index → get_or l.found k false ≡ is_present_in l.spread (map (λ store. store.ballots) l.stores) (get_or l.list k 0);
}
