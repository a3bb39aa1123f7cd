use Rattle.std.proofs.Common.{◌∷◌, ◌++◌, [], List, map, ap, ◌∙◌, sym, subst, rules}
use Rattle.store_spec.proofs.Common.{All, All-push, YieldsList-end, YieldsList-from_vec, map-id, map_push}
use Rattle.step_core.proofs.withdraw_core.withdrawers.Goals as goal
use Rattle.step_core.specs.WithdrawCore.{HasReplyRoom, tab_of}
use Rattle.step_core.specs.Withdrawing.{opened_tab}
use Rattle.step_core.specs.declared.withdrawer.Withdrawer.{Withdrawer}

pub loop-list-preserved : goal.loop-list-preserved
loop-list-preserved c =
    let held = c.args.index.now.numbers.items in
    let tab = c.in_ok-new.field-0 in
    let items = c.loop-list.tabs.items in
    let lists = map (λ list. list.items) c.loop-list.yielded in
    record {
      tabs = ap (map tab_of) c.in_ok-push.ensures.items
          ∙ map_push tab_of items tab
          ∙ ap (λ ts. ts ++ tab_of tab ∷ []) c.loop-list.invariant.tabs
          ∙ ap (λ t. map (opened_tab held) lists ++ t ∷ []) c.in_ok-new.ensures.opened
          ∙ sym (map_push (opened_tab held) lists c.in-Some.list.items)
          ∙ ap (map (opened_tab held)) (sym (map_push (λ list. list.items) c.loop-list.yielded c.in-Some.list));
      room = subst (λ (ts : List Withdrawer). All HasReplyRoom ts) (sym c.in_ok-push.ensures.items)
          (All-push HasReplyRoom items tab c.loop-list.invariant.room c.in_ok-new.ensures.room);
    }

pub returns-clause-tabs : goal.returns-clause-tabs
returns-clause-tabs c =
    let lists = c.args.lists in
    let t = YieldsList-end (YieldsList-from_vec lists.items (search rules) (search rules)) c.loop-list.yielded c.loop-list.list-iterator c.loop-list.yielded_by _ c.next.new.self c.in-None.is c.next.ensures.steps in
    c.loop-list.invariant.tabs ∙ ap (λ ls. map (opened_tab c.args.index.now.numbers.items) (map (λ list. list.items) ls)) (sym (map-id _) ∙ t.0)
