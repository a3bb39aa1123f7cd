use Rattle.std.proofs.Common.{◌≡◌, ◌+◌, ◌-◌, ◌≤◌, ◌<◌, length, take, refl, ap, sym, ◌∙◌, subst, inl, inr, arith}
use Rattle.store_spec.proofs.Common.{IsTooLong, cases_lt, first_width, length-take-le, line_limit, slice_range, take_all}
use Rattle.outside_io.specs.Lines.{IsAnswerFor, CutsOff, StaysSame}
use Rattle.outside_io.specs.Window.{Kept, kept_of, window_of}
use Rattle.outside_io.specs.declared.lines.NextLine.{NextLine}
use Rattle.outside_io.proofs.Windows.{measured, behind_cut, line_cut}
use Rattle.outside_io.proofs.lines.Lines.cut.Goals as goal
use Rattle.outside_io.proofs.lines.Lines.cut.Goals.{else-length-kept-via-then-length-kept+else-width-self, else-length-kept-via-else-length-kept}

pub overflow_add-length : goal.overflow_add-length
overflow_add-length c =
    let m = measured c.self.inside c.deref.result.now c.line_width.result c.self.invariant c.deref.ensures.value (c.deref.ensures.len ∙ c.self.invariant.size) c.line_width.ensures in
    omega (arith, m.found, m.short, c.self.invariant.within)

pub overflow_add-width : goal.overflow_add-width
overflow_add-width c =
    let m = measured c.self.inside c.deref.result.now c.line_width.result c.self.invariant c.deref.ensures.value (c.deref.ensures.len ∙ c.self.invariant.size) c.line_width.ensures in
    omega (arith, m.found, m.short, c.self.invariant.within, c.self.invariant.counted, c.self.invariant.limited)

pub returns-then-width-self-clause-finds : goal.returns-then-width-self-clause-finds
returns-then-width-self-clause-finds c =
    let a = c.self.inside in
    let m = measured a c.deref.result.now c.line_width.result c.self.invariant c.deref.ensures.value (c.deref.ensures.len ∙ c.self.invariant.size) c.line_width.ensures in
    let text = (kept_of a).text in
    let size = a.searched + c.line_width.result in
    let width = a.skipped + size in
    let line = take (first_width text) text in
    let is : first_width text ≡ width = omega (arith, m.text_width, m.found) in
    let before : size < a.end - a.start = omega (arith, c.if-length-kept.true, m.kept) in
    let room : width < a.room = omega (arith, c.if-width-self.true) in
    let long : length line ≡ width = length-take-le (first_width text) text (omega (arith, m.text_length)) ∙ is in
    let kept_line = slice_range a.buffer.items a.start (a.start + size) in
    let whole : width ≤ line_limit → a.skipped ≡ 0 = λ few. elim (cases_lt 0 a.skipped) [
      | inl some ↦ absurd (omega (arith, c.self.invariant.wide some))
      | inr none ↦ omega arith
    ] in
    let Q : NextLine → Type 0 = λ told. IsAnswerFor told line kept_line in
    let P : Kept → Type 0 = λ old. CutsOff c.answer_for.result old (record { text = slice_range a.buffer.items (a.start + (size + 1)) a.end; room = a.room - (width + 1); line = kept_line; space = 65536 - a.end; ended = a.ended }) in
    subst P c.self.view_is (record {
      ends = omega (arith, m.text_length);
      within = omega arith;
      answer = elim (cases_lt line_limit width) [
        | inl wide ↦ subst Q (sym (c.answer_for.ensures.too_wide wide)) (omega arith)
        | inr few ↦ subst Q (sym (c.answer_for.ensures.whole few)) (omega arith, line_cut a.buffer.items a.skipped a.start a.end size (first_width text) (whole few) (omega arith) is)
      ];
      rest = behind_cut a.buffer.items a.skipped a.start a.end size (first_width text + 1) (omega arith) (omega arith);
      room = omega arith;
      ended = refl;
    })

pub returns-then-self-kept-clause-finds : goal.returns-then-self-kept-clause-finds
returns-then-self-kept-clause-finds c =
    let a = c.self.inside in
    let m = measured a c.deref.result.now c.line_width.result c.self.invariant c.deref.ensures.value (c.deref.ensures.len ∙ c.self.invariant.size) c.line_width.ensures in
    let P : Kept → Type 0 = λ old. IsTooLong old.text old.room × StaysSame old old in
    subst P c.self.view_is (
      record {
        more = omega (arith, c.if-self-kept.true, m.kept, m.text_length);
        no_end = elim c.else-length-kept.branch [
          | else-length-kept-via-then-length-kept+else-width-self w ↦ omega (arith, w.if-width-self.false, m.found, m.text_width)
          | else-length-kept-via-else-length-kept w ↦ omega (arith, w.if-length-kept.false, m.found, m.kept, m.text_width, c.if-self-kept.true)
        ];
      },
      record { text = refl; room = refl; ended = refl },
    )

pub invariant_of-self-2 : goal.invariant_of-self-2
invariant_of-self-2 c =
    let a = c.self.inside in
    let i = c.self.invariant in
    let m = measured a c.deref.result.now c.line_width.result i c.deref.ensures.value (c.deref.ensures.len ∙ i.size) c.line_width.ensures in
    let none : first_width (window_of a) ≡ a.end - a.start = elim c.else-length-kept.branch [
      | else-length-kept-via-then-length-kept+else-width-self w ↦ absurd (omega (arith, w.if-width-self.false, w.if-length-kept.true, m.kept, c.if-self-kept.false))
      | else-length-kept-via-else-length-kept w ↦ omega (arith, w.if-length-kept.false, m.found, m.kept, m.short)
    ] in
    record {
      size = i.size;
      ordered = i.ordered;
      within = i.within;
      line_ordered = i.line_ordered;
      line_within = i.line_within;
      searched = omega (arith, m.kept);
      no_end = ap first_width (take_all (length (slice_range c.deref.result.now a.start a.end)) (window_of a) (omega (arith, m.kept, m.size))) ∙ none ∙ sym m.kept;
      wide = i.wide;
      counted = i.counted;
      limited = i.limited;
    }

pub returns-clause-finds : goal.returns-clause-finds
returns-clause-finds c =
    let a = c.self.inside in
    let i = c.self.invariant in
    let m = measured a c.deref.result.now c.line_width.result i c.deref.ensures.value (c.deref.ensures.len ∙ i.size) c.line_width.ensures in
    let none : first_width (window_of a) ≡ a.end - a.start = elim c.else-length-kept.branch [
      | else-length-kept-via-then-length-kept+else-width-self w ↦ absurd (omega (arith, w.if-width-self.false, w.if-length-kept.true, m.kept, c.if-self-kept.false))
      | else-length-kept-via-else-length-kept w ↦ omega (arith, w.if-length-kept.false, m.found, m.kept, m.short)
    ] in
    let P : Kept → Type 0 = λ old. (first_width old.text ≡ length old.text) × (length old.text ≤ old.room) × StaysSame old (kept_of a) in
    subst P c.self.view_is (omega (arith, m.text_width, m.text_length), omega (arith, m.text_length, m.kept, c.if-self-kept.false), record { text = refl; room = refl; ended = refl })
