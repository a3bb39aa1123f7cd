use Rattle.std.proofs.Common.{◌≡◌, ◌*◌, List, ℕ, length, ap, arith}
use Rattle.store_spec.proofs.Common.{common_steps}
use Rattle.crash_disk.proofs.Stops.{left_now, replays-none, seen_room}
use Rattle.crash_disk.proofs.recording.Recording.left.Goals as goal

pub loop-index-init : goal.loop-index-init
loop-index-init c =
    let m = c.args.self.now in
    let seen : c.extend_from_slice.new.self.items ≡ m.first.items = grind (arith, common_steps) in
    let left : c.extend_from_slice-2.new.self.items ≡ m.first.items = grind (arith, common_steps) in
    record {
      so_far = replays-none m c.args.torn c.extend_from_slice.new.self.items c.extend_from_slice-2.new.self.items seen left;
      seen_room = omega (arith, c.in_ok-seen.ensures.capacity, c.extend_from_slice.ensures.capacity);
      left_room = omega (arith, c.in_ok-left.ensures.capacity, c.extend_from_slice-2.ensures.capacity);
    }

pub returns-clause-size : goal.returns-clause-size
returns-clause-size c =
    let m = c.args.self.now in
    let l = c.loop-index in
    omega (arith, ap (λ (xs : List ℕ). length xs) l.invariant.so_far.leaves, (left_now m c.args.torn (2 * l.index)).short, seen_room m (2 * l.index))
