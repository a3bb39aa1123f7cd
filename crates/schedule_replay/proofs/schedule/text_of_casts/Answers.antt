use Rattle.std.proofs.Common.{subst, sym}
use Rattle.std.specs.Prelude.{◌≢◌, All, string_bytes}
use Rattle.schedule_replay.proofs.Opening.{cast_counted, cast_opens, cast_replays, each_some, lists_some, opened_under, turns_within}
use Rattle.step_core.specs.Casting as phase
use Rattle.schedule_replay.proofs.schedule.text_of_casts.Goals as goal

pub new-requires-clause-listed : goal.new-requires-clause-listed
new-requires-clause-listed c = lists_some (λ list. list.items) c.args.script.lists.items c.requires.ready.listed

pub new-requires-clause-some : goal.new-requires-clause-some
new-requires-clause-some c = subst (All (λ x. x ≢ 0)) (sym c.deref.ensures.value) (each_some c.args.script.base.items c.requires.ready.base)

pub replay_text-requires-clause-scheduled : goal.replay_text-requires-clause-scheduled
replay_text-requires-clause-scheduled c =
    let core = c.in_ok-core.core in
    let is = opened_under phase.opened c.args.election.now c.args.script c.order-order.result.bits c.order-order.result.salt c.limit.result c.deref.result.now core
    c.order-order.ensures.bits c.order-order.ensures.salt c.limit.ensures.limit c.deref.ensures.value c.in_ok-core.ensures.opened in
    turns_within c.args.election.now c.args.script c.deref-2.result.now _ c.requires.ready c.deref-2.ensures.value (cast_counted c.args.election.now c.args.script core is)

pub replay_text-requires-clause-sound : goal.replay_text-requires-clause-sound
replay_text-requires-clause-sound c =
    let core = c.in_ok-core.core in
    let is = opened_under phase.opened c.args.election.now c.args.script c.order-order.result.bits c.order-order.result.salt c.limit.result c.deref.result.now core
    c.order-order.ensures.bits c.order-order.ensures.salt c.limit.ensures.limit c.deref.ensures.value c.in_ok-core.ensures.opened in
    cast_opens c.args.election.now c.args.script core c.requires.ready c.limit.ensures.valid.few_ballots is c.in_ok-core.ensures.invariant

pub returns : goal.returns
returns c =
    let core = c.in_ok-core.core in
    let is = opened_under phase.opened c.args.election.now c.args.script c.order-order.result.bits c.order-order.result.salt c.limit.result c.deref.result.now core
    c.order-order.ensures.bits c.order-order.ensures.salt c.limit.ensures.limit c.deref.ensures.value c.in_ok-core.ensures.opened in
    cast_replays c.args.election.now c.args.script core c.deref-2.result.now c.replay_text.result (λ text. string_bytes text) c.deref-2.ensures.value is c.replay_text.ensures
