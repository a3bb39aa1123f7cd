use Rattle.std.proofs.Common.{◌≡◌, ◌≢◌, ◌+◌, ◌-◌, ◌<◌, ◌≤◌, Some, length, ap, sym, ◌∙◌, arith}
use Rattle.store_spec.proofs.Common.{Ballot, get_or_from_slice_get, length-map, nat_cmp, numbers_of, slice_get, slice_get-get_or, slice_index}
use Rattle.std.proofs.lemmas.List.{get_or_read}
use Rattle.std.specs.BTreeMap.{get}
use Rattle.script_commands.specs.Index.{slot_of}
use Rattle.script_commands.proofs.Slots.{HasPassed, absent_among, absent_at, passed_more, passed_taken}
use Rattle.script_commands.proofs.build.index.Index.look.Goals as goal

pub loop-at-init : goal.loop-at-init
loop-at-init c = λ at from below. absurd (omega (arith, from, below, c.slot_of-home.ensures.slot))

pub returns-then-place-eq0 : goal.returns-then-place-eq0
returns-then-place-eq0 c =
    let slots = c.args.self.now.slots.items in
    let numbers = numbers_of c.args.ballots.now.ballots in
    let number = c.args.number in
    let at = c.loop-at.at in
    let home = c.slot_of-home.ensures.slot in
    let within : at < length slots = omega (arith, c.requires.slots, c.slot_of-home.ensures.at_most, c.loop-at-test.true) in
    let from : slot_of number ≤ at = omega (arith, home, c.loop-at.auto.at) in
    let near : at < slot_of number + 8 = omega (arith, home, c.loop-at-test.true) in
    let free : slice_index slots at ≡ 0 = sym (c.from-place.ensures ∙ get_or_read slots at c.index.result.now within c.index.ensures 0) ∙ c.if-place-eq0.true in (
      absent_at slots (get nat_cmp c.args.self.now.others) numbers number c.requires.noted at from near free c.loop-at.invariant,
      (from, near, free, passed_taken slots numbers number at c.loop-at.invariant),
    )

pub number-requires : goal.number-requires
number-requires c =
    let slots = c.args.self.now.slots.items in
    let ballots = c.args.ballots.now.ballots in
    let at = c.loop-at.at in
    let within : at < length slots = omega (arith, c.requires.slots, c.slot_of-home.ensures.at_most, c.loop-at-test.true) in
    let read = c.from-place.ensures ∙ get_or_read slots at c.index.result.now within c.index.ensures 0 in
    omega (arith, read, c.requires.places at, c.if-place-eq0.false, length-map ballots (λ (b : Ballot). b.number))

pub returns-then-number : goal.returns-then-number
returns-then-number c =
    let slots = c.args.self.now.slots.items in
    let numbers = numbers_of c.args.ballots.now.ballots in
    let at = c.loop-at.at in
    let k = c.from-place.result - 1 in
    let within : at < length slots = omega (arith, c.requires.slots, c.slot_of-home.ensures.at_most, c.loop-at-test.true) in
    let read = c.from-place.ensures ∙ get_or_read slots at c.index.result.now within c.index.ensures 0 in
    slice_get-get_or numbers k 0 (omega (arith, read, c.requires.places at, c.if-place-eq0.false)) ∙ ap Some (sym c.number.ensures ∙ c.if-number.true)

pub loop-at-preserved : goal.loop-at-preserved
loop-at-preserved c =
    let slots = c.args.self.now.slots.items in
    let numbers = numbers_of c.args.ballots.now.ballots in
    let number = c.args.number in
    let at = c.loop-at.at in
    let k = c.from-place.result - 1 in
    let within : at < length slots = omega (arith, c.requires.slots, c.slot_of-home.ensures.at_most, c.loop-at-test.true) in
    let read = c.from-place.ensures ∙ get_or_read slots at c.index.result.now within c.index.ensures 0 in
    let taken : slice_index slots at ≡ k + 1 = omega (arith, read, c.if-place-eq0.false) in
    let other : slice_get numbers k ≢ Some number = λ there. c.if-number.false (c.number.ensures ∙ get_or_from_slice_get numbers k number 0 there) in
    passed_more slots numbers number at k c.loop-at.invariant taken other

pub returns-in-None : goal.returns-in-None
returns-in-None c =
    let slots = c.args.self.now.slots.items in
    let numbers = numbers_of c.args.ballots.now.ballots in
    let number = c.args.number in
    let all : HasPassed slots numbers number (slot_of number + 8) = λ at from below.
    c.loop-at.invariant at from (omega (arith, below, c.slot_of-home.ensures.slot, c.loop-at-test.false)) in (
      absent_among slots (get nat_cmp c.args.self.now.others) numbers number c.requires.noted (sym c.in-None.ensures.value) all,
      passed_taken slots numbers number (slot_of number + 8) all,
    )
