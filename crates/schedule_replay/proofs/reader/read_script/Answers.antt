use Rattle.std.proofs.Common.{◌≡◌, ◌+◌, ◌<◌, Err, Ok, ap, subst, sym, refl, ◌∙◌, arith}
use Rattle.store_spec.proofs.Common.{Malformed, both_ways}
use Rattle.ballot_record.specs.LineWhy.{reason}
use Rattle.outside_io.proofs.Reading.{few_given, read_nothing, read_whole, read_wide, read_first, read_out, read_too_much, read_fault}
use Rattle.outside_io.specs.Told.{AsTold}
use Rattle.outside_io.specs.declared.lines.NextLine.TheVariants.{End, Whole}
use Rattle.schedule_replay.proofs.Reading.{AreBad, none_taken, one_more, one_bad, bad_wide, told_bad, told_early, told_fault, told_input, told_too_much}
use Rattle.schedule_replay.specs.Ends.{HasBadLine, NoInput}
use Rattle.schedule_replay.specs.Script.{TakesLine}
use Rattle.schedule_replay.specs.declared.fault.Refusal.{Refusal}
use Rattle.schedule_replay.proofs.reader.read_script.Goals as goal

pub lines-init : goal.lines-init
lines-init g c = record {
  read = read_nothing c.in_ok-lines.lines c.in_ok-lines.ensures.text c.in_ok-lines.ensures.room c.in_ok-lines.ensures.ended (none_taken c.args.election.now c.new-script.result (c.new-script.ensures c.args.election.now));
  few = omega (arith, c.in_ok-lines.ensures.room);
  no_fault = refl;
}

pub lines-preserved : goal.lines-preserved
lines-preserved g c =
    let i = c.lines.invariant in
    let e = c.args.election.now in
    let said = c.in-Ok-Whole.ensures in
    let takes = subst (λ line. TakesLine (Ok tt) e line c.lines.script c.take.new.self) c.line.ensures c.in-Ok.ensures in
    let less : c.next_line.new.self.room < c.lines.lines.room = said.progress (λ end. let clash : Whole ≡ End = sym c.in-Ok-Whole.field-0-is ∙ end in cc) in
    record {
      read = read_whole i.read c.in-Ok-Whole.field-0-is said.answers said.progress said.within_room (one_more e c.lines.script c.take.new.self c.next_line.new.self.line c.lines.count tt takes);
      few = omega (arith, i.few, less);
      no_fault = said.fault.steady (λ failed. cc) ∙ i.no_fault;
    }

pub returns-in-Err-Bad-clause-refused : goal.returns-in-Err-Bad-clause-refused
returns-in-Err-Bad-clause-refused g c =
    let i = c.lines.invariant in
    let e = c.args.election.now in
    let said = c.in-Ok-Whole.ensures in
    let count = c.lines.count in
    let why = reason c.in-Err-Bad.why in
    let T : Refusal → Type 0 = λ refusal. TakesLine (Err refusal) e c.next_line.new.self.line c.lines.script c.take.new.self in
    let takes = subst T c.in-Err-Bad.field-0-is (subst (λ line. TakesLine (Err c.in-Err-Bad.field-0) e line c.lines.script c.take.new.self) c.line.ensures c.in-Err-Bad.ensures) in
    let all = read_whole {Q = AreBad e count why} i.read c.in-Ok-Whole.field-0-is said.answers said.progress said.within_room (one_bad e c.lines.script c.take.new.self c.next_line.new.self.line count c.in-Err-Bad.why takes) in
    subst (λ w. AsTold g.S.Source.left c.args.source.now c.next_line.new.source (HasBadLine e (count + 1) (reason w))) (sym c.in-Err-Bad.why-is)
    (told_bad e count why (read_first all) (few_given i.read said.answers said.within_room))

pub returns-in-Err-Memory-clause-refused : goal.returns-in-Err-Memory-clause-refused
returns-in-Err-Memory-clause-refused g c =
    let said = c.in-Ok-Whole.ensures in
    few_given c.lines.invariant.read said.answers said.within_room

pub returns-in-Ok-TooWide-clause-refused : goal.returns-in-Ok-TooWide-clause-refused
returns-in-Ok-TooWide-clause-refused g c =
    let i = c.lines.invariant in
    let e = c.args.election.now in
    let said = c.in-Ok-TooWide.ensures in
    let count = c.lines.count in
    let all = read_wide {Q = AreBad e count Malformed} i.read c.in-Ok-TooWide.field-0-is said.answers said.progress said.within_room (bad_wide e c.lines.script count) in
    subst (λ fault. AsTold g.S.Source.left c.args.source.now c.next_line.new.source (NoInput e fault)) (sym c.malformed.ensures)
    (told_bad e count Malformed (read_first all) (few_given i.read said.answers said.within_room))

pub returns-then-is_whole-clause-input : goal.returns-then-is_whole-clause-input
returns-then-is_whole-clause-input g c =
    told_input c.args.election.now c.lines.script c.lines.count (c.is_whole.ensures.0 c.if-is_whole.true) (read_out c.lines.invariant.read c.in-Ok-End.field-0-is c.in-Ok-End.ensures.answers)

pub returns-in-Ok-End-clause-refused : goal.returns-in-Ok-End-clause-refused
returns-in-Ok-End-clause-refused g c =
    let e = c.args.election.now in
    subst (λ fault. AsTold g.S.Source.left c.args.source.now c.next_line.new.source (NoInput e fault)) (sym c.malformed-in-Ok-End.ensures)
    (told_early e c.lines.script c.lines.count (λ whole. both_ways c.is_whole.result c.if-is_whole.false (c.is_whole.ensures.1 whole)) (read_out c.lines.invariant.read c.in-Ok-End.field-0-is c.in-Ok-End.ensures.answers))

pub returns-in-Err-TooLong-clause-refused : goal.returns-in-Err-TooLong-clause-refused
returns-in-Err-TooLong-clause-refused g c =
    let said = c.in-Err-TooLong.ensures in
    told_too_much c.args.election.now c.lines.script c.lines.count (read_too_much c.lines.invariant.read c.in-Err-TooLong.field-0-is said.answers said.gives said.within_room)

pub returns-in-Err-ReadFault-clause-refused : goal.returns-in-Err-ReadFault-clause-refused
returns-in-Err-ReadFault-clause-refused g c =
    let said = c.in-Err-ReadFault.ensures in
    told_fault c.args.election.now c.lines.script c.lines.count (read_fault c.lines.invariant.read c.in-Err-ReadFault.field-0-is said.answers said.gives (said.none_whole (ap (λ fault. Err fault) c.in-Err-ReadFault.field-0-is)))
