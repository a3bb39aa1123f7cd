use Rattle.std.proofs.Common.{◌+◌, Err, List, [], ◌∷◌, ◌++◌, length, Some, None, ap, subst, sym, refl, ◌∙◌, arith, length-append}
use Rattle.store_spec.proofs.Common.{Ballot, IsRefused, Malformed, Spells}
use Rattle.ballot_record.specs.LineWhy.{reason}
use Rattle.script_commands.specs.Ballots.{ballots_so_far, Judges}
use Rattle.script_commands.specs.Build.{HasBadLine}
use Rattle.script_commands.specs.declared.build.ballots.Refusal.{Refusal}
use Rattle.script_commands.proofs.Reading.{AreSpelled, AreSpelledBut, spelled_more, told_all, told_bad, told_fault, told_too_much, refused_whole, refused_wide}
use Rattle.outside_io.proofs.Reading.{few_given, read_nothing, read_whole, read_wide, read_first, read_out, read_too_much, read_fault}
use Rattle.outside_io.specs.Told.{AsTold}
use Rattle.script_commands.proofs.build.script.read_ballots.Goals as goal

pub lines-init : goal.lines-init
lines-init g c = record {
  read = read_nothing c.in_ok-lines.lines c.in_ok-lines.ensures.text c.in_ok-lines.ensures.room c.in_ok-lines.ensures.ended
      (subst (λ (ballots : List Ballot). AreSpelled c.args.election.now ballots []) (sym c.in_ok-ballots.ensures.none) ([], refl, tt));
  sound = c.in_ok-ballots.ensures.sound;
  counted = omega (arith, ap length c.in_ok-ballots.ensures.none);
  no_fault = refl;
}

pub lines-preserved : goal.lines-preserved
lines-preserved g c =
    let i = c.lines.invariant in
    let e = c.args.election.now in
    let j = c.in-Ok.ensures in
    let said = c.in-Ok-Whole.ensures in
    record {
      read = read_whole i.read c.in-Ok-Whole.field-0-is said.answers said.progress said.within_room (λ lines each.
          subst (λ (ballots : List Ballot). AreSpelled e ballots (lines ++ Some c.next_line.new.self.line ∷ [])) (sym j.2)
          (spelled_more e (ballots_so_far c.lines.ballots) c.next_line.new.self.line j.0 (subst (λ line. Spells e line j.0) c.line.ensures j.1) lines each));
      sound = j.3;
      counted = omega (arith, i.counted, ap length j.2, length-append (ballots_so_far c.lines.ballots) (j.0 ∷ []));
      no_fault = said.fault.steady (λ failed. cc) ∙ i.no_fault;
    }

pub returns-in-Err-Bad-clause-reads : goal.returns-in-Err-Bad-clause-reads
returns-in-Err-Bad-clause-reads g c =
    let i = c.lines.invariant in
    let e = c.args.election.now in
    let said = c.in-Ok-Whole.ensures in
    let listing = ballots_so_far c.lines.ballots in
    let J : Refusal → Type 0 = λ refusal. Judges (Err refusal) e c.line.result.now c.lines.ballots c.judge.new.self in
    let bad = subst J c.in-Err-Bad.field-0-is c.in-Err-Bad.ensures in
    let all = read_whole {Q = AreSpelledBut e listing (Some c.next_line.new.self.line)} i.read c.in-Ok-Whole.field-0-is said.answers said.progress said.within_room (λ lines each. (lines, each, refl)) in
    subst (λ n. AsTold g.S.Source.left c.args.script.now c.next_line.new.source (HasBadLine e n (reason c.in-Err-Bad.why))) (ap (λ n. n + 1) (sym i.counted))
    (told_bad e (Some c.next_line.new.self.line) listing (reason c.in-Err-Bad.why) i.sound.listing i.sound.within_limit
    (refused_whole e listing c.next_line.new.self.line (reason c.in-Err-Bad.why) (subst (λ line. IsRefused e listing line (reason c.in-Err-Bad.why)) c.line.ensures bad)) (read_first all) (few_given i.read said.answers said.within_room))

pub returns-in-Ok-TooWide-clause-reads : goal.returns-in-Ok-TooWide-clause-reads
returns-in-Ok-TooWide-clause-reads g c =
    let i = c.lines.invariant in
    let e = c.args.election.now in
    let said = c.in-Ok-TooWide.ensures in
    let listing = ballots_so_far c.lines.ballots in
    let all = read_wide {Q = AreSpelledBut e listing None} i.read c.in-Ok-TooWide.field-0-is said.answers said.progress said.within_room (λ lines each. (lines, each, refl)) in
    subst (λ n. AsTold g.S.Source.left c.args.script.now c.next_line.new.source (HasBadLine e n Malformed)) (ap (λ n. n + 1) (sym i.counted))
    (told_bad e None listing Malformed i.sound.listing i.sound.within_limit (refused_wide e listing) (read_first all) (few_given i.read said.answers said.within_room))

pub returns-in-Ok-End-clause-reads : goal.returns-in-Ok-End-clause-reads
returns-in-Ok-End-clause-reads g c =
    told_all c.args.election.now (ballots_so_far c.lines.ballots) (read_out c.lines.invariant.read c.in-Ok-End.field-0-is c.in-Ok-End.ensures.answers)

pub returns-in-Err-TooLong-clause-reads : goal.returns-in-Err-TooLong-clause-reads
returns-in-Err-TooLong-clause-reads g c =
    let i = c.lines.invariant in
    let said = c.in-Err-TooLong.ensures in
    told_too_much c.args.election.now (ballots_so_far c.lines.ballots) i.sound.listing i.sound.within_limit (read_too_much i.read c.in-Err-TooLong.field-0-is said.answers said.gives said.within_room)

pub returns-in-Err-ReadFault-clause-reads : goal.returns-in-Err-ReadFault-clause-reads
returns-in-Err-ReadFault-clause-reads g c =
    let i = c.lines.invariant in
    let said = c.in-Err-ReadFault.ensures in
    told_fault c.args.election.now (ballots_so_far c.lines.ballots) i.sound.listing i.sound.within_limit
    (read_fault i.read c.in-Err-ReadFault.field-0-is said.answers said.gives (said.none_whole (ap (λ fault. Err fault) c.in-Err-ReadFault.field-0-is)))

pub returns-in-Err-Memory-clause-reads : goal.returns-in-Err-Memory-clause-reads
returns-in-Err-Memory-clause-reads g c =
    let said = c.in-Ok-Whole.ensures in
    few_given c.lines.invariant.read said.answers said.within_room
