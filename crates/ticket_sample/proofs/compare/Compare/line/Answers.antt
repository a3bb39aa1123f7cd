use Rattle.std.proofs.Common.{List, subst}
use Rattle.ballot_record.specs.Record.{ballot}
use Rattle.ballot_record.specs.declared.record.Record.{Record}
use Rattle.body_store.specs.Contents.{ballots_of}
use Rattle.ticket_sample.proofs.Replying.{look_replies, look_takes}
use Rattle.ticket_sample.specs.Compared.{IsReplyTo}
use Rattle.ticket_sample.specs.Comparing.{Comparison, IsLook, IsNoneOfRest, Takes, TakesOut, unset}
use Rattle.ticket_sample.proofs.compare.Compare.line.Goals as goal

pub returns-in-Ok-clause-reply : goal.returns-in-Ok-clause-reply
returns-in-Ok-clause-reply c =
    let e = c.args.election.now in
    let bytes = c.args.line.now in
    let flags = c.self.inside.compared.items in
    let b = ballot c.read_line_into.new.out in
    subst (λ (now : Comparison). IsReplyTo e now.sample (IsNoneOfRest now.rest) bytes c.look.result) c.self.view_is
    (look_replies e (ballots_of c.self.inside.sample.items) (IsNoneOfRest (unset (ballots_of c.self.inside.sample.items) flags)) bytes b c.look.result c.in-Ok.ensures.read
    (subst (λ (records : List Record). IsLook (ballots_of records) (IsNoneOfRest (unset (ballots_of records) flags)) b c.look.result) c.deref.ensures.value c.look.ensures.reply))

pub returns-in-Ok-clause-rest : goal.returns-in-Ok-clause-rest
returns-in-Ok-clause-rest c =
    let e = c.args.election.now in
    let bytes = c.args.line.now in
    let flags = c.self.inside.compared.items in
    let now = c.look.new.compared.items in
    let b = ballot c.read_line_into.new.out in
    let sample = ballots_of c.self.inside.sample.items in
    subst (λ (old : Comparison). Takes e bytes c.look.result old.rest (unset sample now)) c.self.view_is
    (look_takes e bytes b c.look.result (unset sample flags) (unset sample now) c.in-Ok.ensures.read
    (subst (λ (records : List Record). TakesOut b c.look.result (unset (ballots_of records) flags) (unset (ballots_of records) now)) c.deref.ensures.value c.look.ensures.rest))
