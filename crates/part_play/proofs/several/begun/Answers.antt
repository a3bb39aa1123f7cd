use Rattle.std.proofs.Common.{◌≤◌, ◌++◌, ◌∷◌, ◌∙◌, [], All, Global, List, Vec, ap, arith, length, map, rules, subst, sym, zip}
use Rattle.store_spec.proofs.Common.{map_push, nil_from_length}
use Rattle.body_store.specs.Contents.{Contents}
use Rattle.part_play.proofs.Stages.{none_begun}
use Rattle.phase_kind.proofs.Taken.{all_taken, as_many_left, beside_there, both_there, none_taken, one_taken}
use Rattle.part_play.proofs.several.begun.Goals as goal
use Rattle.part_play.specs.Several.{HaveBegun}
use Rattle.phase_kind.proofs.Planned.{holds_at}
use Rattle.phase_kind.specs.Phase.{OpenPhase}
use Rattle.phase_kind.specs.Worker.{WorkerView}

pub loop-store-init : goal.loop-store-init
loop-store-init g c =
    let W = WorkerView g.row.K-Sight.Denot g.row.K-Item.Denot g.row.K-Reply.Denot in
    let fresh = g.K.Kind.fresh in (
      [],
      [],
      none_taken c.args.stores.items c.args.lists.items _ _ (search rules) (search rules),
      subst (λ (phases : List OpenPhase). HaveBegun fresh [] [] phases (map (λ (row : Vec W Global). row.items) c.in_ok-phases.rows.items)) (sym c.in_ok-phases.ensures.first)
          (subst (λ (rows : List (Vec W Global)). HaveBegun fresh [] [] [] (map (λ (row : Vec W Global). row.items) rows)) (sym c.in_ok-phases.ensures.second) (none_begun fresh)),
    )

pub unreachable-requires : goal.unreachable-requires
unreachable-requires g c =
    let i = c.loop-store.invariant in
    omega (arith, as_many_left c.args.stores.items c.args.lists.items i.0 i.1 c.loop-store.store-iterator.rest.items c.loop-store.rest.rest.items i.2 c.requires.as_many, ap length c.in-Some.ensures.steps.0, c.in-None-next.ensures, c.loop-store.rest.rest.ok.0)

pub begin_one-requires-clause-some : goal.begin_one-requires-clause-some
begin_one-requires-clause-some g c κs within =
    let i = c.loop-store.invariant in
    holds_at (λ (row : Vec g.row.K-List.Denot Global). 1 ≤ length row.items) c.args.lists.items (length i.0) c.in-Some-next.row c.requires.some
    (beside_there c.args.stores.items c.args.lists.items i.0 i.1 c.loop-store.store-iterator.rest.items c.loop-store.rest.rest.items i.2 c.in-Some.store c.next.new.self.rest.items c.in-Some-next.row c.next-in-loop-store.new.self.rest.items c.in-Some.ensures.steps.0 c.in-Some-next.ensures.items)

pub begin_one-requires-clause-few : goal.begin_one-requires-clause-few
begin_one-requires-clause-few g c κs within =
    let i = c.loop-store.invariant in
    holds_at (λ (row : Vec g.row.K-List.Denot Global). length row.items ≤ 64) c.args.lists.items (length i.0) c.in-Some-next.row c.requires.few
    (beside_there c.args.stores.items c.args.lists.items i.0 i.1 c.loop-store.store-iterator.rest.items c.loop-store.rest.rest.items i.2 c.in-Some.store c.next.new.self.rest.items c.in-Some-next.row c.next-in-loop-store.new.self.rest.items c.in-Some.ensures.steps.0 c.in-Some-next.ensures.items)

pub begin_one-requires-clause-is_of : goal.begin_one-requires-clause-is_of
begin_one-requires-clause-is_of g c κs within =
    let i = c.loop-store.invariant in
    holds_at (λ (at : Contents × Vec g.row.K-List.Denot Global). All (λ list. g.K.Kind.is_of at.0 list) at.1.items) (zip c.args.stores.items c.args.lists.items) (length i.0) (c.in-Some.store, c.in-Some-next.row) c.requires.is_of
    (both_there c.args.stores.items c.args.lists.items i.0 i.1 c.loop-store.store-iterator.rest.items c.loop-store.rest.rest.items i.2 c.in-Some.store c.next.new.self.rest.items c.in-Some-next.row c.next-in-loop-store.new.self.rest.items c.in-Some.ensures.steps.0 c.in-Some-next.ensures.items)

pub loop-store-preserved : goal.loop-store-preserved
loop-store-preserved g c =
    let W = WorkerView g.row.K-Sight.Denot g.row.K-Item.Denot g.row.K-Reply.Denot in
    let lists_in : Vec g.row.K-List.Denot Global → List (List g.row.K-Item.Denot) = λ row. map g.K.Kind.items row.items in
    let i = c.loop-store.invariant in
    let rows = map (λ (row : Vec W Global). row.items) c.begin_one.new.rows.items in (
      i.0 ++ c.in-Some.store ∷ [],
      i.1 ++ c.in-Some-next.row ∷ [],
      one_taken c.args.stores.items c.args.lists.items i.0 i.1 c.loop-store.store-iterator.rest.items c.loop-store.rest.rest.items i.2 c.in-Some.store c.next.new.self.rest.items c.in-Some-next.row c.next-in-loop-store.new.self.rest.items c.in-Some.ensures.steps.0 c.in-Some-next.ensures.items,
      subst (λ (plans : List (List (List g.row.K-Item.Denot))). HaveBegun g.K.Kind.fresh (i.0 ++ c.in-Some.store ∷ []) plans c.begin_one.new.phases.items rows) (sym (map_push lists_in i.1 c.in-Some-next.row))
          (c.in_ok-begin_one.ensures i.0 (map lists_in i.1) i.3),
    )

pub returns : goal.returns
returns g c =
    let W = WorkerView g.row.K-Sight.Denot g.row.K-Item.Denot g.row.K-Reply.Denot in
    let i = c.loop-store.invariant in
    let none = nil_from_length c.loop-store.store-iterator.rest.items (sym c.loop-store.store-iterator.rest.ok.0 ∙ c.in-None.ensures.steps.0) in
    let all = all_taken c.args.stores.items c.args.lists.items i.0 i.1 c.loop-store.store-iterator.rest.items c.loop-store.rest.rest.items i.2 c.requires.as_many none in
    let lists_in : Vec g.row.K-List.Denot Global → List (List g.row.K-Item.Denot) = λ row. map g.K.Kind.items row.items in
    let rows = map (λ (row : Vec W Global). row.items) c.loop-store.rows.items in
    subst (λ (s : List Contents). HaveBegun g.K.Kind.fresh s (map lists_in c.args.lists.items) c.loop-store.phases.items rows) all.0
    (subst (λ (l : List (Vec g.row.K-List.Denot Global)). HaveBegun g.K.Kind.fresh i.0 (map lists_in l) c.loop-store.phases.items rows) all.1 i.3)
