use Rattle.std.proofs.Common.{◌≡◌, ◌-◌, Some, map}
use Rattle.store_spec.proofs.Common.{slice_get, string_bytes, withdraw_text}
use Rattle.schedule_replay.proofs.Replies.{withdraw_words_are, lines_are}
use Rattle.schedule_replay.specs.Replayed.{withdraw_words}
use Rattle.step_core.specs.WithdrawCore.{reply_of}
use Rattle.schedule_replay.proofs.machine.WithdrawCoreMachine.push_replies.Goals as goal

pub returns : goal.returns
returns c =
    let replies = c.replies.result.now in
    lines_are c.push_replies.result (string_bytes c.args.text.now) (string_bytes c.push_replies.new.text) c.args.list (map (λ met. withdraw_text (reply_of met)) replies)
    (λ ws. slice_get (withdraw_words c.args.self.now) (c.args.list - 1) ≡ Some ws)
    (λ ws stands. withdraw_words_are c.args.self.now (c.args.list - 1) replies ws c.replies.ensures.replies stands) c.push_replies.ensures
