use Rattle.std.proofs.Common.{◌*◌, ◌≤◌, vec_capacity}
use Rattle.crash_disk.specs.Notes.{state_of}
use Rattle.crash_disk.specs.Stop.{Replays}
use Rattle.crash_disk.proofs.recording.Recording.left.Given as goal

-- the calls so far were made again
abbrev pub invariant-loop-index : goal.invariant-loop-index
invariant-loop-index l = record {
  so_far : Replays l.torn (state_of l.self (2 * l.index)) l.seen.items l.left.items;
  seen_room : l.self.room.size ≤ vec_capacity l.seen;
  left_room : l.self.room.size ≤ vec_capacity l.left;
}
