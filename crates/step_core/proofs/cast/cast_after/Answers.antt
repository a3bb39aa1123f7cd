use Rattle.std.proofs.Common.{◌≢◌, ◌+◌, sym, subst}
use Rattle.store_spec.proofs.Common.{Carrying, Placed, Rest}
use Rattle.step_core.proofs.CastLeads.{leads_displaced, leads_empty, leads_look, leads_lost}
use Rattle.step_core.proofs.cast.cast_after.Goals as goal
use Rattle.step_core.specs.CastTables.{LeadsTo, MayFind, state_of}
use Rattle.step_core.specs.Shape.{table_of}
use Rattle.step_core.specs.declared.cast.CastState.{CastState}
use Rattle.store_spec.specs.CastStep.CastNote.{Quiet}

pub returns-in-Carrying : goal.returns-in-Carrying
returns-in-Carrying c =
    let t = table_of c.args.shape.now in
    let is = c.in-Carrying.is in
    let new = state_of c.after_look.result in
    let apart : c.args.found ≢ c.in-Carrying.number = subst (λ (s : CastState). MayFind (state_of s) c.args.found) is c.requires.may_find in
    subst (λ (s : CastState). LeadsTo t (state_of s) c.args.found new Quiet) (sym is)
    (leads_look t c.in-Carrying.number c.in-Carrying.place c.args.found new apart
    (record { passes = c.after_look.ensures.passes; ready = c.after_look.ensures.ready }))

pub returns-then-found-seen : goal.returns-then-found-seen
returns-then-found-seen c =
    let t = table_of c.args.shape.now in
    let is = c.in-Ready.is in
    let look = c.after_look-then-found-seen in
    let new = state_of look.result in
    let apart : c.args.found ≢ c.in-Ready.number = subst (λ (s : CastState). MayFind (state_of s) c.args.found) is c.requires.may_find in
    subst (λ (s : CastState). LeadsTo t (state_of s) c.args.found new Quiet) (sym is)
    (leads_lost t c.in-Ready.number c.in-Ready.place c.in-Ready.seen c.args.found new c.if-found-seen.true apart
    (record { passes = look.ensures.passes; ready = look.ensures.ready }))

pub returns-then-seen-eq0 : goal.returns-then-seen-eq0
returns-then-seen-eq0 c =
    let t = table_of c.args.shape.now in
    subst (λ (s : CastState). LeadsTo t (state_of s) c.args.found Rest Placed) (sym c.in-Ready.is)
    (leads_empty t c.in-Ready.number c.in-Ready.place c.in-Ready.seen c.args.found c.if-found-seen.false c.if-seen-eq0.true)

pub returns-else-seen-eq0 : goal.returns-else-seen-eq0
returns-else-seen-eq0 c =
    let t = table_of c.args.shape.now in
    subst (λ (s : CastState). LeadsTo t (state_of s) c.args.found (Carrying c.in-Ready.seen (c.in-Ready.place + 1)) Quiet) (sym c.in-Ready.is)
    (leads_displaced t c.in-Ready.number c.in-Ready.place c.in-Ready.seen c.args.found c.if-found-seen.false c.if-seen-eq0.false)
