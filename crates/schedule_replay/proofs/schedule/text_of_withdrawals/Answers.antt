use Rattle.std.proofs.Common.{subst, sym}
use Rattle.std.specs.Prelude.{◌≢◌, All, string_bytes}
use Rattle.schedule_replay.proofs.Opening.{withdraw_counted, withdraw_opens, withdraw_replays, each_some, opened_under, turns_within}
use Rattle.step_core.specs.Withdrawing as phase
use Rattle.schedule_replay.proofs.schedule.text_of_withdrawals.Goals as goal

pub new-requires-clause-some : goal.new-requires-clause-some
new-requires-clause-some c = subst (All (λ x. x ≢ 0)) (sym c.deref.ensures.value) (each_some c.args.script.base.items c.requires.ready.base)

pub replay_text-requires-clause-scheduled : goal.replay_text-requires-clause-scheduled
replay_text-requires-clause-scheduled c =
    let core = c.in_ok-core.core in
    let is = opened_under phase.opened c.args.election.now c.args.script c.order-order.result.bits c.order-order.result.salt c.limit.result c.deref.result.now core
    c.order-order.ensures.bits c.order-order.ensures.salt c.limit.ensures.limit c.deref.ensures.value c.in_ok-core.ensures.opened in
    turns_within c.args.election.now c.args.script c.deref-2.result.now _ c.requires.ready c.deref-2.ensures.value (withdraw_counted c.args.election.now c.args.script core is)

pub replay_text-requires-clause-sound : goal.replay_text-requires-clause-sound
replay_text-requires-clause-sound c =
    let core = c.in_ok-core.core in
    let is = opened_under phase.opened c.args.election.now c.args.script c.order-order.result.bits c.order-order.result.salt c.limit.result c.deref.result.now core
    c.order-order.ensures.bits c.order-order.ensures.salt c.limit.ensures.limit c.deref.ensures.value c.in_ok-core.ensures.opened in
    withdraw_opens c.args.election.now c.args.script core c.requires.ready c.limit.ensures.valid.few_ballots is c.in_ok-core.ensures.invariant

pub returns : goal.returns
returns c =
    let core = c.in_ok-core.core in
    let is = opened_under phase.opened c.args.election.now c.args.script c.order-order.result.bits c.order-order.result.salt c.limit.result c.deref.result.now core
    c.order-order.ensures.bits c.order-order.ensures.salt c.limit.ensures.limit c.deref.ensures.value c.in_ok-core.ensures.opened in
    withdraw_replays c.args.election.now c.args.script core c.deref-2.result.now c.replay_text.result (λ text. string_bytes text) c.deref-2.ensures.value is c.replay_text.ensures
