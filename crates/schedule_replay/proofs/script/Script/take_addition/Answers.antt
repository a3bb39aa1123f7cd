use Rattle.std.proofs.Common.{◌-◌, ◌≤◌, arith, drop, get_or, length, refl}
use Rattle.schedule_replay.proofs.Takings.{addition_of, first_number, form_some, list_extended, lists_set, refused_addition, refused_as_list, taken_as_list, took_addition}
use Rattle.schedule_replay.proofs.script.Script.take_addition.Goals as goal

pub returns-then-tab-len : goal.returns-then-tab-len
returns-then-tab-len c e =
    let numbers = c.args.numbers.now in
    let form = form_some numbers c.requires.read.form in
    refused_as_list numbers e c.args.self.now form (refused_addition e c.args.self.now (addition_of numbers) c.requires.stage (omega (arith, c.if-tab-len.true, c.len.ensures)))

pub returns : goal.returns
returns c e =
    let old = c.args.self.now in
    let lists = old.lists.items in
    let numbers = c.args.numbers.now in
    let form = form_some numbers c.requires.read.form in
    let named = first_number numbers (drop 1 numbers) form c.requires.read.each in
    let within : get_or numbers 0 0 ≤ length lists = omega (arith, c.if-tab-len.false, c.len.ensures) in
    let some : 1 ≤ get_or numbers 0 0 = (named.0).0 in
    taken_as_list numbers e old _ form
    (took_addition e old _ (addition_of numbers) c.extend_from_slice.new.self.items c.requires.stage refl refl refl refl some within
    (list_extended lists (get_or numbers 0 0 - 1) c.index_mut.result.now numbers c.extend_from_slice.new.self.items (omega arith) c.index_mut.ensures.value c.in_ok-extend_from_slice.ensures.items)
    (lists_set lists (get_or numbers 0 0 - 1) c.extend_from_slice.new.self) named.1)
