use Rattle.std.proofs.Common.{◌+◌, ◌∙◌, ℕ, List, Option, Some, None, Err, ap, refl, subst}
use Rattle.store_spec.proofs.Common.{Rose}
use Rattle.outside_io.proofs.Reading.{few_given, read_fault, read_first, read_nothing, read_out, read_too_much, read_whole, read_wide}
use Rattle.outside_io.proofs.Told.{told_as}
use Rattle.outside_io.specs.Outside.{input, output, outside}
use Rattle.run_outcome.proofs.Laws.{ended_with}
use Rattle.run_outcome.specs.declared.status.Status.TheVariants as status
use Rattle.sample_commands.proofs.Answering.{answered_none, leaves_more, leaves_wide, none_answered}
use Rattle.sample_commands.proofs.Telling.{Behind, Replied, answer_failed, behind, end_told, first_later, nothing_answered, read_failed, replied_more, replied_none, too_long, whole_right, wide_right}
use Rattle.sample_commands.specs.Compare.{LinesEnd}
use Rattle.ticket_sample.specs.Comparing.{Takes}
use Rattle.ticket_sample.specs.declared.compare.CompareReply.TheVariants.{Malformed}
use Rattle.sample_commands.proofs.compare.answer_lines.Goals as goal

pub returns-in_err-lines : goal.returns-in_err-lines
returns-in_err-lines g c =
    let before = outside (input g.S.Source.left g.S.Source.faults c.args.script.now) (output g.K.Sink.taken g.K.Sink.faults c.args.out.now) in
    ended_with c.from_residual.result status.Memory (λ a. LinesEnd c.args.election.now c.args.compare.now.sample a before before) c.from_residual.ensures.1
    (nothing_answered c.args.election.now c.args.compare.now.sample before)

pub returns-in_err-text : goal.returns-in_err-text
returns-in_err-text g c =
    let before = outside (input g.S.Source.left g.S.Source.faults c.args.script.now) (output g.K.Sink.taken g.K.Sink.faults c.args.out.now) in
    ended_with c.from_residual-in_err-text.result status.Memory (λ a. LinesEnd c.args.election.now c.args.compare.now.sample a before before) c.from_residual-in_err-text.ensures.1
    (nothing_answered c.args.election.now c.args.compare.now.sample before)

pub lines-init : goal.lines-init
lines-init g c =
    let e = c.args.election.now in
    let sample = c.args.compare.now.sample in
    let rest = c.args.compare.now.rest in
    record {
      read = read_nothing c.in_ok-lines.lines c.in_ok-lines.ensures.text c.in_ok-lines.ensures.room c.in_ok-lines.ensures.ended
          (replied_none e sample rest (output g.K.Sink.taken g.K.Sink.faults c.args.out.now) (answered_none e sample) (none_answered e sample rest c.requires.ascending c.requires.fresh));
      sample = refl;
      steady = refl;
    }

pub lines-preserved-in-Ok : goal.lines-preserved-in-Ok
lines-preserved-in-Ok g c =
    let i = c.lines.invariant in
    let e = c.args.election.now in
    let sample = c.args.compare.now.sample in
    let said = c.in-Ok-Whole.ensures in
    let line = c.next_line.new.self.line in
    let reply = c.line-reply.result in
    let old = output g.K.Sink.taken g.K.Sink.faults c.args.out.now in
    let mid = output g.K.Sink.taken g.K.Sink.faults c.lines.out in
    let new = output g.K.Sink.taken g.K.Sink.faults c.answer.new.out in
    let rest = c.lines.compare.rest in
    let now = c.line-reply.new.self.rest in
    let takes = subst (λ (bytes : List ℕ). Takes e bytes reply rest now) c.line.ensures c.line-reply.ensures.rest in
    record {
      read = read_whole {Q = Replied e sample old new now (c.lines.count + 1)} i.read c.in-Ok-Whole.field-0-is said.answers said.progress said.within_room (λ lines so_far.
          replied_more e sample old mid new rest now c.lines.count lines (record { line = Some line; reply = reply }) so_far
          (whole_right e sample old mid rest c.lines.count lines so_far c.lines.compare.sample c.line.result.now line reply i.sample c.line.ensures c.line-reply.ensures.reply)
          (leaves_more e sample so_far.answers line reply rest now so_far.leaves takes)
          c.in-Ok.ensures);
      sample = c.line-reply.ensures.sample ∙ i.sample;
      steady = said.fault.steady (λ failed. cc) ∙ i.steady;
    }

pub lines-preserved : goal.lines-preserved
lines-preserved g c =
    let i = c.lines.invariant in
    let e = c.args.election.now in
    let sample = c.args.compare.now.sample in
    let said = c.in-Ok-TooWide.ensures in
    let old = output g.K.Sink.taken g.K.Sink.faults c.args.out.now in
    let mid = output g.K.Sink.taken g.K.Sink.faults c.lines.out in
    let new = output g.K.Sink.taken g.K.Sink.faults c.answer-in-Ok-TooWide.new.out in
    let rest = c.lines.compare.rest in
    record {
      read = read_wide {Q = Replied e sample old new rest (c.lines.count + 1)} i.read c.in-Ok-TooWide.field-0-is said.answers said.progress said.within_room (λ lines so_far.
          replied_more e sample old mid new rest rest c.lines.count lines (record { line = None; reply = Malformed }) so_far
          (wide_right e sample old mid rest c.lines.count lines so_far)
          (leaves_wide e sample so_far.answers rest so_far.leaves)
          c.in-Ok-answer.ensures);
      sample = i.sample;
      steady = said.fault.steady (λ failed. cc) ∙ i.steady;
    }

pub returns-in-Ok-End : goal.returns-in-Ok-End
returns-in-Ok-End g c =
    let i = c.lines.invariant in
    let e = c.args.election.now in
    let sample = c.args.compare.now.sample in
    let said = c.in-Ok-End.ensures in
    let before = outside (input g.S.Source.left g.S.Source.faults c.args.script.now) (output g.K.Sink.taken g.K.Sink.faults c.args.out.now) in
    let after = outside (input g.S.Source.left g.S.Source.faults c.next_line.new.source) (output g.K.Sink.taken g.K.Sink.faults c.tell_missing.new.out) in
    let mid = output g.K.Sink.taken g.K.Sink.faults c.lines.out in
    let first = read_first i.read in
    let few = few_given i.read said.answers said.within_room in
    end_told e sample before after mid c.lines.compare.rest c.lines.count (said.fault.steady (λ failed. cc) ∙ i.steady) few c.missing.result c.tell_missing.result
    (read_out i.read c.in-Ok-End.field-0-is said.answers)
    (record { lines = first.lines; told = told_as (first_later first.lines first.told few) (λ x y h. h.0); good = first.good })
    c.missing.ensures c.tell_missing.ensures

pub returns-in-Err-TooLong : goal.returns-in-Err-TooLong
returns-in-Err-TooLong g c =
    let i = c.lines.invariant in
    let e = c.args.election.now in
    let sample = c.args.compare.now.sample in
    let said = c.in-Err-TooLong.ensures in
    let before = outside (input g.S.Source.left g.S.Source.faults c.args.script.now) (output g.K.Sink.taken g.K.Sink.faults c.args.out.now) in
    let mid = output g.K.Sink.taken g.K.Sink.faults c.lines.out in
    let after = outside (input g.S.Source.left g.S.Source.faults c.next_line.new.source) mid in
    too_long e sample before after mid c.lines.compare.rest c.lines.count (said.fault.steady (λ failed. cc) ∙ i.steady) (few_given i.read said.answers said.within_room)
    (read_too_much i.read c.in-Err-TooLong.field-0-is said.answers said.gives said.within_room) refl

pub returns-in-Err-ReadFault : goal.returns-in-Err-ReadFault
returns-in-Err-ReadFault g c =
    let i = c.lines.invariant in
    let e = c.args.election.now in
    let sample = c.args.compare.now.sample in
    let said = c.in-Err-ReadFault.ensures in
    let before = outside (input g.S.Source.left g.S.Source.faults c.args.script.now) (output g.K.Sink.taken g.K.Sink.faults c.args.out.now) in
    let mid = output g.K.Sink.taken g.K.Sink.faults c.lines.out in
    let after = outside (input g.S.Source.left g.S.Source.faults c.next_line.new.source) mid in
    read_failed e sample before after mid c.lines.compare.rest c.lines.count
    (read_fault i.read c.in-Err-ReadFault.field-0-is said.answers said.gives (said.none_whole (ap (λ fault. Err fault) c.in-Err-ReadFault.field-0-is))) refl
    (subst (λ n. Rose n after.script.faults) i.steady (said.fault.rose (ap (λ fault. Err fault) c.in-Err-ReadFault.field-0-is)))

pub returns-in-Err : goal.returns-in-Err
returns-in-Err g c =
    let i = c.lines.invariant in
    let e = c.args.election.now in
    let sample = c.args.compare.now.sample in
    let said = c.in-Ok-Whole.ensures in
    let line = c.next_line.new.self.line in
    let reply = c.line-reply.result in
    let before = outside (input g.S.Source.left g.S.Source.faults c.args.script.now) (output g.K.Sink.taken g.K.Sink.faults c.args.out.now) in
    let after = outside (input g.S.Source.left g.S.Source.faults c.next_line.new.source) (output g.K.Sink.taken g.K.Sink.faults c.answer.new.out) in
    let mid = output g.K.Sink.taken g.K.Sink.faults c.lines.out in
    let rest = c.lines.compare.rest in
    let P = λ (lines : List (Option (List ℕ))). Replied e sample before.sink mid rest c.lines.count lines in
    let all = read_whole {Q = Behind P (Some line)} i.read c.in-Ok-Whole.field-0-is said.answers said.progress said.within_room (λ lines good. behind P (Some line) lines good) in
    answer_failed e sample before after mid rest c.lines.count (said.fault.steady (λ failed. cc) ∙ i.steady) (few_given i.read said.answers said.within_room)
    (record { line = Some line; reply = reply }) c.in-Err.status (read_first all)
    (λ lines so_far. whole_right e sample before.sink mid rest c.lines.count lines so_far c.lines.compare.sample c.line.result.now line reply i.sample c.line.ensures c.line-reply.ensures.reply)
    c.in-Err.ensures

pub returns-in-Err-answer : goal.returns-in-Err-answer
returns-in-Err-answer g c =
    let i = c.lines.invariant in
    let e = c.args.election.now in
    let sample = c.args.compare.now.sample in
    let said = c.in-Ok-TooWide.ensures in
    let before = outside (input g.S.Source.left g.S.Source.faults c.args.script.now) (output g.K.Sink.taken g.K.Sink.faults c.args.out.now) in
    let after = outside (input g.S.Source.left g.S.Source.faults c.next_line.new.source) (output g.K.Sink.taken g.K.Sink.faults c.answer-in-Ok-TooWide.new.out) in
    let mid = output g.K.Sink.taken g.K.Sink.faults c.lines.out in
    let rest = c.lines.compare.rest in
    let P = λ (lines : List (Option (List ℕ))). Replied e sample before.sink mid rest c.lines.count lines in
    let all = read_wide {Q = Behind P None} i.read c.in-Ok-TooWide.field-0-is said.answers said.progress said.within_room (λ lines good. behind P None lines good) in
    answer_failed e sample before after mid rest c.lines.count (said.fault.steady (λ failed. cc) ∙ i.steady) (few_given i.read said.answers said.within_room)
    (record { line = None; reply = Malformed }) c.in-Err-answer.status (read_first all)
    (λ lines so_far. wide_right e sample before.sink mid rest c.lines.count lines so_far)
    c.in-Err-answer.ensures
