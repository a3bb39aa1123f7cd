use Rattle.std.proofs.Common.{◌≡◌, List, ℕ, [], ◌∷◌, ◌+◌, ◌++◌, Option, None, option_map, sym, ap, arith, length-append}
use Rattle.ballot_record.specs.LineReading.{groups_of}
use Rattle.ballot_record.specs.Line.{sets_seen}
use Rattle.ballot_record.proofs.LineMarks.{group_read, no_groups_yet, no_group, last_group, no_slash, next_group, no_more_groups, set_written, sets_at_end}
use Rattle.ballot_record.proofs.line.put_groups.Goals as goal

none_seen : (o : Option (List (List ℕ))) → o ≡ None → None ≡ option_map sets_seen o
none_seen o none = sym (ap (option_map sets_seen) none)

pub loop-place-init : goal.loop-place-init
loop-place-init c = ([], no_groups_yet c.args.choices c.args.groups c.args.bytes.now, c.requires.empty)

pub returns-in_err-set : goal.returns-in_err-set
returns-in_err-set c =
    let l = c.loop-place in
    let all = groups_of c.args.choices c.args.groups c.args.bytes.now in
    rw (c.from_residual.ensures) (none_seen all (no_group c.args.choices c.args.groups l.invariant.0 l.place l.rest.now all (omega arith) l.invariant.1 c.in_err-set.ensures))

pub returns-then-is_empty : goal.returns-then-is_empty
returns-then-is_empty c =
    let l = c.loop-place in
    let all = groups_of c.args.choices c.args.groups c.args.bytes.now in
    let after = c.in_ok-set.after.now in
    let group = group_read c.args.choices l.rest.now c.in_ok-set.set after c.in_ok-set.ensures in
    let before = l.invariant.0 ++ group.choices ∷ [] in
    let kept = set_written l.invariant.0 l.place l.marks c.in_ok-set.set group.choices (omega arith) l.invariant.1.counted l.invariant.2 group.is in
    sets_at_end before (l.place + 1) _ all (omega (arith, length-append l.invariant.0 (group.choices ∷ []), l.invariant.1.counted)) kept
    (last_group c.args.choices c.args.groups l.invariant.0 l.place l.rest.now all (omega arith) l.invariant.1 group.choices after group.found (sym c.if-is_empty.ensures))

pub returns-in_err-rest : goal.returns-in_err-rest
returns-in_err-rest c =
    let l = c.loop-place in
    let all = groups_of c.args.choices c.args.groups c.args.bytes.now in
    let after = c.in_ok-set.after.now in
    let group = group_read c.args.choices l.rest.now c.in_ok-set.set after c.in_ok-set.ensures in
    rw (c.from_residual-in_err-rest.ensures) (none_seen all
    (no_slash c.args.choices c.args.groups l.invariant.0 l.place l.rest.now all (omega arith) l.invariant.1 group.choices after group.found (sym c.if-is_empty.ensures) c.in_err-rest.ensures))

pub loop-place-preserved : goal.loop-place-preserved
loop-place-preserved c =
    let l = c.loop-place in
    let all = groups_of c.args.choices c.args.groups c.args.bytes.now in
    let after = c.in_ok-set.after.now in
    let group = group_read c.args.choices l.rest.now c.in_ok-set.set after c.in_ok-set.ensures in (
      l.invariant.0 ++ group.choices ∷ [],
      next_group c.args.choices c.args.groups l.invariant.0 l.place l.rest.now all (omega arith) l.invariant.1 group.choices after c.in_ok-rest.rest.now group.found (sym c.if-is_empty.ensures) c.in_ok-rest.ensures,
      set_written l.invariant.0 l.place l.marks c.in_ok-set.set group.choices (omega arith) l.invariant.1.counted l.invariant.2 group.is,
    )

pub returns : goal.returns
returns c =
    let l = c.loop-place in
    let all = groups_of c.args.choices c.args.groups c.args.bytes.now in
    none_seen all (no_more_groups c.args.choices c.args.groups l.invariant.0 l.place l.rest.now all (omega arith) l.invariant.1)
