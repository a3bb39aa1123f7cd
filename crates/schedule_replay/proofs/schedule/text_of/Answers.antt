use Rattle.std.proofs.Common.{subst, sym}
use Rattle.store_spec.proofs.Common.{IfOk, string_bytes}
use Rattle.schedule_replay.specs.Replayed.{ReplaysAs}
use Rattle.schedule_replay.specs.Script.{lists_of}
use Rattle.schedule_replay.specs.declared.line.Kind.{Kind}
use Rattle.schedule_replay.proofs.schedule.text_of.Goals as goal

pub returns-in-Cast : goal.returns-in-Cast
returns-in-Cast c =
    let script = c.args.script in
    subst (λ (k : Kind). IfOk c.text_of_casts.result (λ text. ReplaysAs k c.args.election.now script.base.items (lists_of script) script.schedule.items (string_bytes text)))
    (sym c.in-Cast.is) c.text_of_casts.ensures

pub returns-in-Withdraw : goal.returns-in-Withdraw
returns-in-Withdraw c =
    let script = c.args.script in
    subst (λ (k : Kind). IfOk c.text_of_withdrawals.result (λ text. ReplaysAs k c.args.election.now script.base.items (lists_of script) script.schedule.items (string_bytes text)))
    (sym c.in-Withdraw.is) c.text_of_withdrawals.ensures
