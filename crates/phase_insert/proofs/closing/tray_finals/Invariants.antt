use Rattle.std.proofs.Common.{◌≡◌, ◌≤◌, length, take, vec_capacity, vec_len}
use Rattle.phase_insert.proofs.closing.tray_finals.Given as goal
use Rattle.phase_insert.specs.Ends.{AreFinals}
use Rattle.phase_insert.specs.Tray.{casts_of}

abbrev pub invariant-loop-place : goal.invariant-loop-place
invariant-loop-place l = record {
  told : AreFinals l.after.ballots (take l.place (casts_of l.tray)) l.finals.items;
  count : vec_len l.finals ≡ l.place;
  space : length l.tray.replies.items ≤ vec_capacity l.finals;
}
