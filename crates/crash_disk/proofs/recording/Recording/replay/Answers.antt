use Rattle.std.proofs.Common.{◌≡◌, ℕ, ◌+◌, List, ap, arith}
use Rattle.store_spec.proofs.Common.{common_steps, on_ok_weaker, slice_range}
use Rattle.crash_disk.proofs.Stops.{replays-failed, replays-quiet, replays-synced, write-begins, write-replays, write-room, write-tears}
use Rattle.crash_disk.proofs.recording.Recording.replay.Goals as goal

pub returns-then-not-entry-clause-after : goal.returns-then-not-entry-clause-after
returns-then-not-entry-clause-after c =
    let m = c.args.self.now in
    let entry = c.index-entry.result.now in
    let seen = c.args.seen.now.items in
    let left = c.args.left.now.items in
    replays-failed m c.args.index entry c.requires.within c.index-entry.ensures c.args.torn seen left c.requires.before c.if-not-entry.true

pub overwrite-requires-clause-at : goal.overwrite-requires-clause-at
overwrite-requires-clause-at c =
    let m = c.args.self.now in
    let entry = c.index-entry.result.now in
    let seen = c.args.seen.now.items in
    let left = c.args.left.now.items in
    let bytes = slice_range c.deref.result.now entry.start (entry.start + entry.count) in
    let puts : bytes ≡ slice_range m.written.items entry.start (entry.start + entry.count) = ap (λ (xs : List ℕ). slice_range xs entry.start (entry.start + entry.count)) c.deref.ensures.value in
    write-begins m c.args.index entry c.requires.within c.index-entry.ensures c.args.torn seen left c.requires.before c.in-Write.at c.in-Write.count bytes c.if-not-entry.false c.in-Write.is puts

pub overwrite-requires-clause-room : goal.overwrite-requires-clause-room
overwrite-requires-clause-room c =
    let m = c.args.self.now in
    let entry = c.index-entry.result.now in
    let seen = c.args.seen.now.items in
    let left = c.args.left.now.items in
    let bytes = slice_range c.deref.result.now entry.start (entry.start + entry.count) in
    let puts : bytes ≡ slice_range m.written.items entry.start (entry.start + entry.count) = ap (λ (xs : List ℕ). slice_range xs entry.start (entry.start + entry.count)) c.deref.ensures.value in
    omega (arith, write-room m c.args.index entry c.requires.within c.index-entry.ensures c.args.torn seen left c.requires.before c.in-Write.at c.in-Write.count bytes c.if-not-entry.false c.in-Write.is puts, c.requires.seen_room)

pub tear-requires-clause-at : goal.tear-requires-clause-at
tear-requires-clause-at c =
    let m = c.args.self.now in
    let entry = c.index-entry.result.now in
    let seen = c.args.seen.now.items in
    let left = c.args.left.now.items in
    let bytes = slice_range c.deref.result.now entry.start (entry.start + entry.count) in
    let puts : bytes ≡ slice_range m.written.items entry.start (entry.start + entry.count) = ap (λ (xs : List ℕ). slice_range xs entry.start (entry.start + entry.count)) c.deref.ensures.value in
    write-tears m c.args.index entry c.requires.within c.index-entry.ensures c.args.torn seen left c.requires.before c.in-Write.at c.in-Write.count bytes c.if-not-entry.false c.in-Write.is puts

pub tear-requires-clause-room : goal.tear-requires-clause-room
tear-requires-clause-room c =
    let m = c.args.self.now in
    let entry = c.index-entry.result.now in
    let seen = c.args.seen.now.items in
    let left = c.args.left.now.items in
    let bytes = slice_range c.deref.result.now entry.start (entry.start + entry.count) in
    let puts : bytes ≡ slice_range m.written.items entry.start (entry.start + entry.count) = ap (λ (xs : List ℕ). slice_range xs entry.start (entry.start + entry.count)) c.deref.ensures.value in
    omega (arith, write-room m c.args.index entry c.requires.within c.index-entry.ensures c.args.torn seen left c.requires.before c.in-Write.at c.in-Write.count bytes c.if-not-entry.false c.in-Write.is puts, c.requires.left_room)

pub returns-in-Write-clause-after : goal.returns-in-Write-clause-after
returns-in-Write-clause-after c =
    let m = c.args.self.now in
    let entry = c.index-entry.result.now in
    let seen = c.args.seen.now.items in
    let left = c.args.left.now.items in
    let bytes = slice_range c.deref.result.now entry.start (entry.start + entry.count) in
    let puts : bytes ≡ slice_range m.written.items entry.start (entry.start + entry.count) = ap (λ (xs : List ℕ). slice_range xs entry.start (entry.start + entry.count)) c.deref.ensures.value in
    on_ok_weaker c.tear.result (λ torn. write-replays m c.args.index entry c.requires.within c.index-entry.ensures c.args.torn seen left c.requires.before c.in-Write.at c.in-Write.count bytes c.if-not-entry.false c.in-Write.is puts c.overwrite.new.file.items c.tear.new.left.items c.overwrite.ensures.items torn) c.tear.ensures.items

pub returns-in_ok-extend_from_slice-in-Sync-clause-after : goal.returns-in_ok-extend_from_slice-in-Sync-clause-after
returns-in_ok-extend_from_slice-in-Sync-clause-after c =
    let m = c.args.self.now in
    let entry = c.index-entry.result.now in
    let seen = c.args.seen.now.items in
    let left = c.args.left.now.items in
    let copied : c.extend_from_slice.new.self.items ≡ seen = grind (arith, common_steps) in
    replays-synced m c.args.index entry c.requires.within c.index-entry.ensures c.args.torn seen left c.requires.before c.if-not-entry.false c.in-Sync.is c.extend_from_slice.new.self.items copied

pub returns-in_default-clause-after : goal.returns-in_default-clause-after
returns-in_default-clause-after c =
    let m = c.args.self.now in
    let entry = c.index-entry.result.now in
    let seen = c.args.seen.now.items in
    let left = c.args.left.now.items in
    replays-quiet m c.args.index entry c.requires.within c.index-entry.ensures c.args.torn seen left c.requires.before c.if-not-entry.false c.in_default.not-Write c.in_default.not-Sync
