use Rattle.std.proofs.Common.{◌+◌, List, ℕ, map, subst, sym, ap, ◌∙◌, refl}
use Rattle.step_core.proofs.WithdrawCoreOpens.{each_stands, known_base, phase_holds, phase_is, shape_fits, stand_once, words_are}
use Rattle.step_core.proofs.withdraw_core.WithdrawCore.new.Goals as goal
use Rattle.step_core.specs.CellIndex.{IsCellIndex}
use Rattle.step_core.proofs.WithdrawingLists.{opened_lists}
use Rattle.step_core.specs.WithdrawCore.{tab_of}
use Rattle.step_core.specs.Withdrawing.{lists_in}

pub new-requires-clause-each : goal.new-requires-clause-each
new-requires-clause-each c =
    let order = c.args.order in
    each_stands order.bits order.salt c.args.limit c.homes.result c.args.start.now c.in_ok-words.words.items order.few_bits c.requires.within_limit c.requires.some c.requires.distinct c.homes.ensures c.in_ok-words.ensures _ c.deref.ensures.value

pub new-requires-clause-once : goal.new-requires-clause-once
new-requires-clause-once c =
    let order = c.args.order in
    stand_once order.bits order.salt c.args.limit c.homes.result c.args.start.now c.in_ok-words.words.items order.few_bits c.requires.within_limit c.requires.some c.requires.distinct c.homes.ensures c.in_ok-words.ensures _ c.deref.ensures.value

pub invariant_of-result : goal.invariant_of-result
invariant_of-result c =
    let order = c.args.order in
    let laid = c.in_ok-words.words.items in
    let numbers = c.in_ok-index.index.numbers.items in
    let places = c.in_ok-index.index.places.items in
    let lists = map (λ list. list.items) c.args.lists.items in
    let few = order.few_bits in let r = c.requires in
    let words = words_are order.bits order.salt c.args.limit c.homes.result c.args.start.now laid few r.within_limit r.some r.distinct c.homes.ensures c.in_ok-words.ensures c.resize.new.self.items c.in_ok-words.words.len c.in_ok-words.words.ok.0 c.in_ok-resize.ensures.items in
    let is = phase_is order.bits order.salt c.args.limit c.homes.result c.args.start.now laid few r.within_limit r.some r.distinct c.homes.ensures c.in_ok-words.ensures numbers c.resize.new.self.items (map tab_of c.in_ok-tabs.tabs.items) lists c.in_ok-index.ensures.numbers words c.in_ok-tabs.ensures.tabs in
    record {
      phase = phase_holds order.bits order.salt c.args.limit c.homes.result c.args.start.now laid few r.within_limit r.some r.distinct c.homes.ensures c.in_ok-words.ensures _ lists is;
      cells = ap (λ n. n + c.args.limit) c.homes.ensures;
      shape = shape_fits order.bits order.salt c.args.limit c.homes.result c.args.start.now laid few r.within_limit r.some r.distinct c.homes.ensures c.in_ok-words.ensures order numbers r.few_numbers refl refl c.in_ok-index.ensures.numbers;
      index = subst (λ (l : List ℕ). IsCellIndex l numbers places)
          (c.deref.ensures.value ∙ sym (known_base order.bits order.salt c.args.limit c.homes.result c.args.start.now laid few r.within_limit r.some r.distinct c.homes.ensures c.in_ok-words.ensures numbers c.in_ok-index.ensures.numbers))
          c.in_ok-index.ensures.index;
      room = c.in_ok-tabs.ensures.room;
    }

pub returns-clause-opened : goal.returns-clause-opened
returns-clause-opened c =
    let order = c.args.order in
    let laid = c.in_ok-words.words.items in
    let numbers = c.in_ok-index.index.numbers.items in
    let lists = map (λ list. list.items) c.args.lists.items in
    let few = order.few_bits in let r = c.requires in
    let words = words_are order.bits order.salt c.args.limit c.homes.result c.args.start.now laid few r.within_limit r.some r.distinct c.homes.ensures c.in_ok-words.ensures c.resize.new.self.items c.in_ok-words.words.len c.in_ok-words.words.ok.0 c.in_ok-resize.ensures.items in
    let is = phase_is order.bits order.salt c.args.limit c.homes.result c.args.start.now laid few r.within_limit r.some r.distinct c.homes.ensures c.in_ok-words.ensures numbers c.resize.new.self.items (map tab_of c.in_ok-tabs.tabs.items) lists c.in_ok-index.ensures.numbers words c.in_ok-tabs.ensures.tabs in
    is

pub returns-clause-lists : goal.returns-clause-lists
returns-clause-lists c =
    ap lists_in (returns-clause-opened c)
    ∙ opened_lists c.args.order.bits c.args.order.salt c.args.limit c.args.start.now (map (λ list. list.items) c.args.lists.items)

pub returns-clause-invariant : goal.returns-clause-invariant
returns-clause-invariant c =
    let order = c.args.order in
    let laid = c.in_ok-words.words.items in
    let numbers = c.in_ok-index.index.numbers.items in
    let lists = map (λ list. list.items) c.args.lists.items in
    let few = order.few_bits in let r = c.requires in
    let words = words_are order.bits order.salt c.args.limit c.homes.result c.args.start.now laid few r.within_limit r.some r.distinct c.homes.ensures c.in_ok-words.ensures c.resize.new.self.items c.in_ok-words.words.len c.in_ok-words.words.ok.0 c.in_ok-resize.ensures.items in
    let is = phase_is order.bits order.salt c.args.limit c.homes.result c.args.start.now laid few r.within_limit r.some r.distinct c.homes.ensures c.in_ok-words.ensures numbers c.resize.new.self.items (map tab_of c.in_ok-tabs.tabs.items) lists c.in_ok-index.ensures.numbers words c.in_ok-tabs.ensures.tabs in
    phase_holds order.bits order.salt c.args.limit c.homes.result c.args.start.now laid few r.within_limit r.some r.distinct c.homes.ensures c.in_ok-words.ensures _ lists is
