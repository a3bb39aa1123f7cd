use Rattle.std.proofs.Common.{◌≡◌, ◌≤◌, true, false, length, ap, sym, ◌∙◌, arith}
use Rattle.outside_io.proofs.Told.{gives_on}
use Rattle.outside_io.specs.Window.{Kept}
use Rattle.outside_io.proofs.Answered.{EndedBefore, alike_more, told_line, told_too_long, told_last, told_fault}
use Rattle.outside_io.proofs.lines.Lines.next_line.Goals as goal

pub returns-in-Line-clause-answers : goal.returns-in-Line-clause-answers
returns-in-Line-clause-answers g c =
    let known : EndedBefore c.args.self.now c.lines.self (g.S.Source.left c.args.source.now) (g.S.Source.left c.lines.source) =
    λ is. ((c.lines.invariant.first is).0, ap g.S.Source.left (c.lines.invariant.first is).1) in
    told_line c.in-Line.answer (g.S.Source.left c.args.source.now) (g.S.Source.left c.lines.source) c.args.self.now c.lines.self c.cut.new.self c.lines.invariant.alike c.lines.invariant.room known c.in-Line.ensures.finds

pub returns-in-TooMuch-clause-answers : goal.returns-in-TooMuch-clause-answers
returns-in-TooMuch-clause-answers g c =
    let known : EndedBefore c.args.self.now c.lines.self (g.S.Source.left c.args.source.now) (g.S.Source.left c.lines.source) =
    λ is. ((c.lines.invariant.first is).0, ap g.S.Source.left (c.lines.invariant.first is).1) in
    told_too_long (g.S.Source.left c.args.source.now) (g.S.Source.left c.lines.source) c.args.self.now c.lines.self c.cut.new.self c.lines.invariant.alike c.lines.invariant.room known c.in-TooMuch.ensures.finds.0 c.in-TooMuch.ensures.finds.1

pub lines-preserved : goal.lines-preserved
lines-preserved g c = record {
  alike = alike_more c.args.self.now c.lines.self c.cut.new.self c.fill.new.self c.lines.invariant.alike c.in-Nothing.ensures.finds.2.text c.fill.ensures.text;
  gives = gives_on c.lines.invariant.gives c.fill.ensures.gives;
  room = omega (arith, c.fill.ensures.room, c.in-Nothing.ensures.finds.2.room, c.lines.invariant.room);
  over = λ long. absurd (omega (arith, (c.lines.invariant.over long).more, c.in-Nothing.ensures.finds.1));
  ended = c.fill.ensures.ended ∙ c.in-Nothing.ensures.finds.2.ended ∙ c.lines.invariant.ended;
  first = λ is. absurd (let clash : true ≡ false = sym is ∙ c.fill.ensures.ended ∙ ap (λ (kept : Kept). kept.ended) (sym c.self.view_is) ∙ c.if-self.false in cc);
  steady = c.in_ok-fill.ensures.fault.steady ∙ c.lines.invariant.steady;
}

pub returns-in_err-fill-clause-answers : goal.returns-in_err-fill-clause-answers
returns-in_err-fill-clause-answers g c =
    told_fault c.from_residual.result (g.S.Source.left c.args.source.now) (g.S.Source.left c.fill.new.source) c.args.self.now c.fill.new.self c.from_residual.ensures.1 (alike_more c.args.self.now c.lines.self c.cut.new.self c.fill.new.self c.lines.invariant.alike c.in-Nothing.ensures.finds.2.text c.fill.ensures.text)
    (omega (arith, c.fill.ensures.room, c.in-Nothing.ensures.finds.2.room, c.lines.invariant.room))
    (sym (c.in-Nothing.ensures.finds.2.ended ∙ c.lines.invariant.ended) ∙ ap (λ (kept : Kept). kept.ended) (sym c.self.view_is) ∙ c.if-self.false) (c.fill.ensures.ended ∙ ap (λ (kept : Kept). kept.ended) (sym c.self.view_is) ∙ c.if-self.false)

pub returns-in_err-fill-clause-gives : goal.returns-in_err-fill-clause-gives
returns-in_err-fill-clause-gives g c = gives_on c.lines.invariant.gives c.fill.ensures.gives

pub returns-then-branch-eq0-clause-gives : goal.returns-then-branch-eq0-clause-gives
returns-then-branch-eq0-clause-gives g c = gives_on c.lines.invariant.gives c.fill.ensures.gives

pub returns-then-branch-eq0-clause-answers : goal.returns-then-branch-eq0-clause-answers
returns-then-branch-eq0-clause-answers g c =
    let still = c.in-Nothing.ensures.finds.2 in
    let f = c.in_ok-fill.ensures in
    let within : length c.fill.new.self.text ≤ c.fill.new.self.room =
    omega (arith, f.size, f.room, ap length still.text, still.room, c.in-Nothing.ensures.finds.1) in
    told_last c.take_last-then-branch-eq0.result (g.S.Source.left c.args.source.now) (g.S.Source.left c.fill.new.source) c.args.self.now c.fill.new.self c.take_last-then-branch-eq0.new.self
    (alike_more c.args.self.now c.lines.self c.cut.new.self c.fill.new.self c.lines.invariant.alike c.in-Nothing.ensures.finds.2.text c.fill.ensures.text) (omega (arith, f.room, still.room, c.lines.invariant.room)) (f.still_none (omega arith)) within (λ _. f.end (omega arith)) c.take_last-then-branch-eq0.ensures

pub returns-in-Line-clause-still_over : goal.returns-in-Line-clause-still_over
returns-in-Line-clause-still_over g c = λ long.
    let now = c.lines.invariant.over long in
    absurd (omega (arith, now.no_end, c.in-Line.ensures.finds.within))

pub returns-in_err-fill-clause-still_over : goal.returns-in_err-fill-clause-still_over
returns-in_err-fill-clause-still_over g c = λ long.
    let now = c.lines.invariant.over long in
    absurd (omega (arith, now.more, c.in-Nothing.ensures.finds.1))

pub returns-then-branch-eq0-clause-still_over : goal.returns-then-branch-eq0-clause-still_over
returns-then-branch-eq0-clause-still_over g c = λ long.
    let now = c.lines.invariant.over long in
    absurd (omega (arith, now.more, c.in-Nothing.ensures.finds.1))
