use Rattle.std.proofs.Common.{sym, ap, ◌∙◌, arith, option_map}
use Rattle.ballot_record.proofs.LineSets.{after_set, after_no_set, no_choices, falls_to_none, within_most, set_grows, choice_goes_on, choice_ends}
use Rattle.ballot_record.specs.LineReading.{choices_at}
use Rattle.ballot_record.proofs.line.take_choices.Goals as goal

pub loop-choice-init : goal.loop-choice-init
loop-choice-init c = record { last = omega arith; set = omega arith; more = (c.args.most, omega arith, after_no_set (choices_at c.args.most c.args.most 0 c.args.bytes.now)) }

pub returns-in_err-choice : goal.returns-in_err-choice
returns-in_err-choice c =
    let l = c.loop-choice in
    let none = no_choices c.args.most l.invariant.more.0 l.last l.rest.now c.in_err-choice.ensures in
    rw (c.from_residual.ensures) (sym (ap (option_map (after_set l.set)) none) ∙ l.invariant.more.2)

pub returns-then-choice-last : goal.returns-then-choice-last
returns-then-choice-last c =
    let l = c.loop-choice in
    sym (ap (option_map (after_set l.set)) (falls_to_none c.args.most l.invariant.more.0 l.last l.rest.now c.in_ok-choice.choice c.in_ok-choice.after.now c.in_ok-choice.ensures c.if-choice-last.true)) ∙ l.invariant.more.2

pub overflow_shl-set : goal.overflow_shl-set
overflow_shl-set c = omega (arith, within_most c.args.most c.requires.high c.loop-choice.rest.now c.in_ok-choice.choice c.in_ok-choice.after.now c.in_ok-choice.ensures)

pub loop-choice-smaller : goal.loop-choice-smaller
loop-choice-smaller c = omega (arith, within_most c.args.most c.requires.high c.loop-choice.rest.now c.in_ok-choice.choice c.in_ok-choice.after.now c.in_ok-choice.ensures)

pub loop-choice-preserved : goal.loop-choice-preserved
loop-choice-preserved c =
    let l = c.loop-choice in
    let k = c.in_ok-choice in
    let within = within_most c.args.most c.requires.high l.rest.now k.choice k.after.now k.ensures in
    let grown = set_grows l.set l.last k.choice l.invariant.set c.if-choice-last.false (omega (arith, within.1)) in
    let next = choice_goes_on c.args.most c.requires.high l.set l.invariant.more.0 l.last l.rest.now k.choice k.after.now c.in-Some.more.now k.ensures c.if-choice-last.false l.invariant.more.1 c.in-Some.ensures in
    record {
      last = within.1;
      set = rw (grown.0) grown.1;
      more = (next.0, next.1, rw (grown.0) (next.2 ∙ l.invariant.more.2));
    }

pub returns-in-None : goal.returns-in-None
returns-in-None c =
    let l = c.loop-choice in
    let k = c.in_ok-choice in
    let within = within_most c.args.most c.requires.high l.rest.now k.choice k.after.now k.ensures in
    let grown = set_grows l.set l.last k.choice l.invariant.set c.if-choice-last.false (omega (arith, within.1)) in
    rw (grown.0) (choice_ends c.args.most c.requires.high l.set l.invariant.more.0 l.last l.rest.now k.choice k.after.now k.ensures c.if-choice-last.false l.invariant.more.1 c.in-None.ensures ∙ l.invariant.more.2)
