use Rattle.std.proofs.Common.{sym, ap, ◌∙◌, arith, refl}
use Rattle.store_spec.proofs.Common.{is_on_style}
use Rattle.script_lines.proofs.Ballots.{choices_offered, marked, off_style, unmarked}
use Rattle.script_lines.proofs.generated.marked_choice.Goals as goal

pub returns-then-i-eq0 : goal.returns-then-i-eq0
returns-then-i-eq0 c = unmarked c.args.election.now c.args.i c.args.k c.if-i-eq0.true

pub returns-then-not-on_style : goal.returns-then-not-on_style
returns-then-not-on_style c =
    off_style c.args.election.now c.args.i c.args.k
    (ap (λ s. is_on_style c.args.election.now s c.args.k) (sym c.requires.style) ∙ sym c.if-not-on_style.ensures.on_style)

pub returns : goal.returns
returns c =
    let e = c.args.election.now in
    let known = c.if-not-on_style.ensures.known refl in
    let valid = c.contest.ensures.valid in
    rw (c.from.ensures, c.from-choices.ensures)
    (marked e c.args.i c.args.k c.contest.result.choices (omega arith)
    (ap (λ s. is_on_style e s c.args.k) (sym c.requires.style) ∙ sym c.if-not-on_style.ensures.on_style)
    (choices_offered e c.args.k c.contest.result (omega arith) c.contest.ensures.contest) valid.some_choice valid.few_choices)
