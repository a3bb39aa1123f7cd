use Rattle.std.proofs.Common.{◌∷◌, ◌++◌, [], List, map, ap, ◌∙◌, sym, subst, rules}
use Rattle.store_spec.proofs.Common.{All, All-push, YieldsList-end, YieldsList-from_vec, map-id, map_push}
use Rattle.step_core.proofs.cast_core.tabulators.Goals as goal
use Rattle.step_core.specs.CastCore.{HasReplyRoom, tab_of}
use Rattle.step_core.specs.Casting.{opened_tab, opened_tabs}
use Rattle.step_core.specs.declared.tabulator.Tabulator.{Tabulator}

pub loop-list-preserved : goal.loop-list-preserved
loop-list-preserved c =
    let base = c.args.base.now in
    let claims = c.args.claims in
    let tab = c.in_ok-new.field-0 in
    let items = c.loop-list.tabs.items in
    let lists = map (λ list. list.items) c.loop-list.yielded in
    record {
      tabs = ap (map tab_of) c.in_ok-push.ensures.items
          ∙ map_push tab_of items tab
          ∙ ap (λ ts. ts ++ tab_of tab ∷ []) c.loop-list.invariant.tabs
          ∙ ap (λ t. opened_tabs base claims lists ++ t ∷ []) c.in_ok-new.ensures.opened
          ∙ sym (map_push (opened_tab base claims) lists c.in-Some.list.items)
          ∙ ap (opened_tabs base claims) (sym (map_push (λ list. list.items) c.loop-list.yielded c.in-Some.list));
      room = subst (λ (ts : List Tabulator). All HasReplyRoom ts) (sym c.in_ok-push.ensures.items)
          (All-push HasReplyRoom items tab c.loop-list.invariant.room c.in_ok-new.ensures.room);
    }

pub returns-clause-tabs : goal.returns-clause-tabs
returns-clause-tabs c =
    let lists = c.args.lists in
    let t = YieldsList-end (YieldsList-from_vec lists.items (search rules) (search rules)) c.loop-list.yielded c.loop-list.list-iterator c.loop-list.yielded_by _ c.next.new.self c.in-None.is c.next.ensures.steps in
    c.loop-list.invariant.tabs ∙ ap (λ ls. opened_tabs c.args.base.now c.args.claims (map (λ list. list.items) ls)) (sym (map-id _) ∙ t.0)
