use Rattle.std.proofs.Common.{◌++◌, ◌∷◌, ◌∙◌, [], Global, List, Vec, ap, arith, length, map, rules, subst, sym, zip}
use Rattle.store_spec.proofs.Common.{length-map, map_push, nil_from_length}
use Rattle.body_store.specs.Contents.{Contents}
use Rattle.part_play.proofs.Stages.{none_ended}
use Rattle.phase_kind.proofs.Taken.{all_taken, as_many_left, both_there, none_taken, one_taken}
use Rattle.part_play.proofs.several.closed.Goals as goal
use Rattle.part_play.specs.Several.{HaveEnded}
use Rattle.phase_kind.proofs.Planned.{holds_at}
use Rattle.phase_kind.specs.Phase.{OpenPhase}
use Rattle.phase_kind.specs.Worker.{AreAll, WorkerView}

pub loop-phase-init : goal.loop-phase-init
loop-phase-init g c =
    let F = g.row.K-Final.Denot in
    let T = Vec (Vec F Global) Global in
    let closes = g.K.Kind.closes in
    let finals_in : T → List (List F) = λ finals. map (λ list. list.items) finals.items in (
      [],
      [],
      none_taken c.args.phases.items c.args.columns.items _ _ (search rules) (search rules),
      subst (λ (stores : List Contents). HaveEnded {V = g.row.K-Sight.Denot} closes [] [] stores (map finals_in c.in_ok-stores.told.items)) (sym c.in_ok-stores.ensures.first)
          (subst (λ (told : List T). HaveEnded {V = g.row.K-Sight.Denot} closes [] [] [] (map finals_in told)) (sym c.in_ok-stores.ensures.second) (none_ended closes)),
    )

pub unreachable-requires : goal.unreachable-requires
unreachable-requires g c =
    let i = c.loop-phase.invariant in
    omega (arith, as_many_left c.args.phases.items c.args.columns.items i.0 i.1 c.loop-phase.phase-iterator.rest.items c.loop-phase.rest.rest.items i.2 c.requires.as_many, ap length c.in-Some.ensures.steps.0, c.in-None-next.ensures, c.loop-phase.rest.rest.ok.0)

pub close_one-requires-clause-all : goal.close_one-requires-clause-all
close_one-requires-clause-all g c κs within =
    let W = WorkerView g.row.K-Sight.Denot g.row.K-Item.Denot g.row.K-Reply.Denot in
    let i = c.loop-phase.invariant in
    (holds_at (λ (at : OpenPhase × Vec W Global). AreAll at.0 at.1.items) (zip c.args.phases.items c.args.columns.items) (length i.0) (c.in-Some.phase, c.in-Some-next.column) c.requires.all
    (both_there c.args.phases.items c.args.columns.items i.0 i.1 c.loop-phase.phase-iterator.rest.items c.loop-phase.rest.rest.items i.2 c.in-Some.phase c.next.new.self.rest.items c.in-Some-next.column c.next-in-loop-phase.new.self.rest.items c.in-Some.ensures.steps.0 c.in-Some-next.ensures.items)).all

pub close_one-requires-clause-belong : goal.close_one-requires-clause-belong
close_one-requires-clause-belong g c κs within =
    let W = WorkerView g.row.K-Sight.Denot g.row.K-Item.Denot g.row.K-Reply.Denot in
    let i = c.loop-phase.invariant in
    (holds_at (λ (at : OpenPhase × Vec W Global). AreAll at.0 at.1.items) (zip c.args.phases.items c.args.columns.items) (length i.0) (c.in-Some.phase, c.in-Some-next.column) c.requires.all
    (both_there c.args.phases.items c.args.columns.items i.0 i.1 c.loop-phase.phase-iterator.rest.items c.loop-phase.rest.rest.items i.2 c.in-Some.phase c.next.new.self.rest.items c.in-Some-next.column c.next-in-loop-phase.new.self.rest.items c.in-Some.ensures.steps.0 c.in-Some-next.ensures.items)).belong

pub close_one-requires-clause-idle : goal.close_one-requires-clause-idle
close_one-requires-clause-idle g c κs within =
    let W = WorkerView g.row.K-Sight.Denot g.row.K-Item.Denot g.row.K-Reply.Denot in
    let i = c.loop-phase.invariant in
    (holds_at (λ (at : OpenPhase × Vec W Global). AreAll at.0 at.1.items) (zip c.args.phases.items c.args.columns.items) (length i.0) (c.in-Some.phase, c.in-Some-next.column) c.requires.all
    (both_there c.args.phases.items c.args.columns.items i.0 i.1 c.loop-phase.phase-iterator.rest.items c.loop-phase.rest.rest.items i.2 c.in-Some.phase c.next.new.self.rest.items c.in-Some-next.column c.next-in-loop-phase.new.self.rest.items c.in-Some.ensures.steps.0 c.in-Some-next.ensures.items)).idle

pub loop-phase-preserved : goal.loop-phase-preserved
loop-phase-preserved g c =
    let W = WorkerView g.row.K-Sight.Denot g.row.K-Item.Denot g.row.K-Reply.Denot in
    let F = g.row.K-Final.Denot in
    let workers_in : Vec W Global → List W = λ column. column.items in
    let i = c.loop-phase.invariant in
    let told = map (λ (finals : Vec (Vec F Global) Global). map (λ (list : Vec F Global). list.items) finals.items) c.close_one.new.told.items in (
      i.0 ++ c.in-Some.phase ∷ [],
      i.1 ++ c.in-Some-next.column ∷ [],
      one_taken c.args.phases.items c.args.columns.items i.0 i.1 c.loop-phase.phase-iterator.rest.items c.loop-phase.rest.rest.items i.2 c.in-Some.phase c.next.new.self.rest.items c.in-Some-next.column c.next-in-loop-phase.new.self.rest.items c.in-Some.ensures.steps.0 c.in-Some-next.ensures.items,
      subst (λ (columns : List (List W)). HaveEnded g.K.Kind.closes (i.0 ++ c.in-Some.phase ∷ []) columns c.close_one.new.stores.items told) (sym (map_push workers_in i.1 c.in-Some-next.column))
          (c.in_ok-close_one.ensures i.0 (map workers_in i.1) (length-map i.1 workers_in ∙ i.2.as_many) i.3),
    )

pub returns : goal.returns
returns g c =
    let W = WorkerView g.row.K-Sight.Denot g.row.K-Item.Denot g.row.K-Reply.Denot in
    let F = g.row.K-Final.Denot in
    let i = c.loop-phase.invariant in
    let none = nil_from_length c.loop-phase.phase-iterator.rest.items (sym c.loop-phase.phase-iterator.rest.ok.0 ∙ c.in-None.ensures.steps.0) in
    let all = all_taken c.args.phases.items c.args.columns.items i.0 i.1 c.loop-phase.phase-iterator.rest.items c.loop-phase.rest.rest.items i.2 c.requires.as_many none in
    let told = map (λ (finals : Vec (Vec F Global) Global). map (λ (list : Vec F Global). list.items) finals.items) c.loop-phase.told.items in
    subst (λ (p : List OpenPhase). HaveEnded g.K.Kind.closes p (map (λ column. column.items) c.args.columns.items) c.loop-phase.stores.items told) all.0
    (subst (λ (w : List (Vec W Global)). HaveEnded g.K.Kind.closes i.0 (map (λ column. column.items) w) c.loop-phase.stores.items told) all.1 i.3)
