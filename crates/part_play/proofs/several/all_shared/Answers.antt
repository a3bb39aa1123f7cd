use Rattle.std.proofs.Common.{◌∙◌, [], All, Global, List, Vec, ℕ, length, map, rules, subst, sym, zip}
use Rattle.store_spec.proofs.Common.{All-nil, YieldsList-end, YieldsList-from_vec, YieldsList-turn, map-id, map_push}
use Rattle.part_play.proofs.Stages.{none_shared}
use Rattle.part_play.proofs.several.all_shared.Goals as goal
use Rattle.part_play.specs.Several.{AreAllShared}
use Rattle.phase_kind.specs.Team.{GoesWithin}

pub loop-list-init : goal.loop-list-init
loop-list-init g c =
    let goes : g.row.K-Item.Denot → ℕ = λ x. g.S.Spread.to c.args.spread.now (g.K.Kind.number x) in
    let R = Vec g.row.K-List.Denot Global in
    let O = Vec ℕ Global in
    let places = length c.args.stores.now in
    let IsOf : R → Type 0 = λ row. All (λ at. g.K.Kind.is_of at.0 at.1) (zip c.args.stores.now row.items) in
    record {
      shared =
          subst (λ (rows : List R). AreAllShared goes places [] (map (λ (row : R). map g.K.Kind.items row.items) rows) (map (λ (order : O). order.items) c.in_ok-rows.orders.items)) (sym c.in_ok-rows.ensures.first)
          (subst (λ (orders : List O). AreAllShared goes places [] [] (map (λ (order : O). order.items) orders)) (sym c.in_ok-rows.ensures.second) (none_shared goes places));
      is_of = subst (All IsOf) (sym c.in_ok-rows.ensures.first) (All-nil IsOf);
    }

pub share_one-requires-clause-within : goal.share_one-requires-clause-within
share_one-requires-clause-within g c κs within =
    let goes : g.row.K-Item.Denot → ℕ = λ x. g.S.Spread.to c.args.spread.now (g.K.Kind.number x) in
    let turn = YieldsList-turn (YieldsList-from_vec c.args.work.items (search rules) (search rules)) c.loop-list.yielded c.loop-list.list-iterator c.loop-list.yielded_by c.next.result c.next.new.self c.in-Some.list c.in-Some.is c.next.ensures.steps in
    subst (λ (list : g.row.K-List.Denot). GoesWithin goes (length c.args.stores.now) (g.K.Kind.items list)) (sym turn.1) (c.requires.within (length c.loop-list.yielded) c.in-Some.list turn.0)

pub share_one-requires-clause-is_of : goal.share_one-requires-clause-is_of
share_one-requires-clause-is_of g c κs within =
    let turn = YieldsList-turn (YieldsList-from_vec c.args.work.items (search rules) (search rules)) c.loop-list.yielded c.loop-list.list-iterator c.loop-list.yielded_by c.next.result c.next.new.self c.in-Some.list c.in-Some.is c.next.ensures.steps in
    subst (λ (list : g.row.K-List.Denot). All (λ store. g.K.Kind.is_of store list) c.args.stores.now) (sym turn.1) (c.requires.is_of (length c.loop-list.yielded) c.in-Some.list turn.0)

pub loop-list-preserved : goal.loop-list-preserved
loop-list-preserved g c =
    let goes : g.row.K-Item.Denot → ℕ = λ x. g.S.Spread.to c.args.spread.now (g.K.Kind.number x) in
    let so_far = c.loop-list.invariant in
    let yielded = c.loop-list.yielded in
    let rows = map (λ (row : Vec g.row.K-List.Denot Global). map g.K.Kind.items row.items) c.share_one.new.rows.items in
    let orders = map (λ (order : Vec ℕ Global). order.items) c.share_one.new.orders.items in
    record {
      shared =
          subst (λ (work : List (List g.row.K-Item.Denot)). AreAllShared goes (length c.args.stores.now) work rows orders) (sym (map_push g.K.Kind.items yielded c.in-Some.list))
          (c.in_ok-share_one.ensures.shared (map g.K.Kind.items yielded) so_far.shared);
      is_of = c.in_ok-share_one.ensures.is_of so_far.is_of;
    }

pub returns-clause-shared : goal.returns-clause-shared
returns-clause-shared g c =
    let goes : g.row.K-Item.Denot → ℕ = λ x. g.S.Spread.to c.args.spread.now (g.K.Kind.number x) in
    let L = g.row.K-List.Denot in
    let end = YieldsList-end (YieldsList-from_vec c.args.work.items (search rules) (search rules)) c.loop-list.yielded c.loop-list.list-iterator c.loop-list.yielded_by c.next.result c.next.new.self c.in-None.is c.next.ensures.steps in
    subst (λ (lists : List L). AreAllShared goes (length c.args.stores.now) (map g.K.Kind.items lists) (map (λ (row : Vec L Global). map g.K.Kind.items row.items) c.loop-list.rows.items) (map (λ (order : Vec ℕ Global). order.items) c.loop-list.orders.items)) (sym (map-id c.loop-list.yielded) ∙ end.0) c.loop-list.invariant.shared
