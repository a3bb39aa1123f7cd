use Rattle.std.proofs.Common.{◌≡◌, ◌+◌, ◌-◌, ◌≤◌, ◌<◌, [], ◌++◌, length, take, drop, replicate, refl, ap, sym, ◌∙◌, arith, append_assoc}
use Rattle.store_spec.proofs.Common.{first_width, slice_range, with_items, with_items_is}
use Rattle.outside_io.specs.Window.{Kept, window_of}
use Rattle.outside_io.proofs.Answered.{filled, not_filled, still_ended}
use Rattle.outside_io.proofs.Windows.{refilled, refilled_more, text_length, window_grown}
use Rattle.outside_io.proofs.lines.Lines.fill.Goals as goal

pub invariant_of-self : goal.invariant_of-self
invariant_of-self g c =
    let a = c.self.inside in
    let i = c.self.invariant in
    let buffer = with_items a.buffer c.read_piece.new.buffer in
    let items = with_items_is a.buffer c.read_piece.new.buffer (omega (arith, c.read_piece.auto.buffer, c.deref_mut.ensures.len)) in
    let size : length a.buffer.items ≡ 65536 = sym (ap length c.deref_mut.ensures.value) ∙ c.deref_mut.ensures.len ∙ i.size in
    let same = ap (λ bytes. take a.end bytes) items ∙ c.read_piece.ensures.before ∙ ap (λ bytes. take a.end bytes) c.deref_mut.ensures.value in
    let few = c.in-Ok.ensures.within in
    window_grown a buffer (a.end + c.in-Ok.count) i size refl same (omega arith) (omega (arith, few, i.within)) (omega (arith, few, i.ordered, i.counted))

pub invariant_of-self-in-Err : goal.invariant_of-self-in-Err
invariant_of-self-in-Err g c =
    let a = c.self.inside in
    let i = c.self.invariant in
    let buffer = with_items a.buffer c.read_piece.new.buffer in
    let items = with_items_is a.buffer c.read_piece.new.buffer (omega (arith, c.read_piece.auto.buffer, c.deref_mut.ensures.len)) in
    let size : length a.buffer.items ≡ 65536 = sym (ap length c.deref_mut.ensures.value) ∙ c.deref_mut.ensures.len ∙ i.size in
    let same = ap (λ bytes. take a.end bytes) items ∙ c.read_piece.ensures.before ∙ ap (λ bytes. take a.end bytes) c.deref_mut.ensures.value in
    window_grown a buffer a.end i size refl same (omega arith) i.within i.counted

pub returns-in-Ok-clause-text : goal.returns-in-Ok-clause-text
returns-in-Ok-clause-text g c =
    let a = c.self.inside in
    let i = c.self.invariant in
    let count = c.in-Ok.count in
    let bytes = c.read_piece.new.buffer in
    let new = with_items a.buffer bytes in
    let items = with_items_is a.buffer bytes (omega (arith, c.read_piece.auto.buffer, c.deref_mut.ensures.len)) in
    let same = ap (λ bytes. take a.end bytes) items ∙ c.read_piece.ensures.before ∙ ap (λ bytes. take a.end bytes) c.deref_mut.ensures.value in
    let zeros = replicate a.skipped 0 in
    let piece = slice_range bytes a.end (a.end + count) in
    let mid : c.make_space.new.self.text ≡ zeros ++ window_of a = ap (λ (kept : Kept). kept.text) (sym c.self.view_is) in
    let grown : zeros ++ slice_range new.items a.start (a.end + count) ≡ c.make_space.new.self.text ++ piece =
    ap (λ window. zeros ++ window) (refilled_more a new.items count i.ordered same ∙ ap (λ bytes. window_of a ++ slice_range bytes a.end (a.end + count)) items)
    ∙ sym (append_assoc zeros (window_of a) piece) ∙ ap (λ front. front ++ piece) (sym mid) in
    filled c.args.self.now.text c.make_space.new.self.text _ piece c.requires.no_end c.make_space.ensures.no_end c.make_space.ensures.size c.make_space.ensures.narrow grown c.in-Ok.ensures.gives

pub returns-in-Ok-clause-end : goal.returns-in-Ok-clause-end
returns-in-Ok-clause-end g c = λ none.
    let a = c.self.inside in
    let bytes = c.read_piece.new.buffer in
    let space : 0 < 65536 - a.end = omega (arith, c.make_space.ensures.space, ap (λ (kept : Kept). kept.space) c.self.view_is) in
    let size : length a.buffer.items ≡ 65536 = sym (ap length c.deref_mut.ensures.value) ∙ c.deref_mut.ensures.len ∙ c.self.invariant.size in
    let text : length c.make_space.new.self.text ≡ a.skipped + (a.end - a.start) =
    ap (λ (kept : Kept). length kept.text) (sym c.self.view_is) ∙ text_length a c.self.invariant size in
    let same_room = ap (λ (kept : Kept). kept.room) c.self.view_is in
    let room : a.skipped + (a.end - a.start) ≤ a.room = omega (arith, text, same_room, c.make_space.ensures.room, c.make_space.ensures.size, c.requires.within) in
    let asked : 0 < c.min-asked.result = omega (arith, c.min-asked.ensures) in
    let nothing : a.end + c.in-Ok.count - a.end ≡ 0 = omega arith in
    let piece : slice_range bytes a.end (a.end + c.in-Ok.count) ≡ [] = ap (λ n. take n (drop a.end bytes)) nothing in
    still_ended (g.S.Source.left c.args.source.now) (g.S.Source.left c.read_piece.new.source) _ c.in-Ok.ensures.gives piece (c.in-Ok.ensures.end none asked)

pub returns-in-Err-clause-text : goal.returns-in-Err-clause-text
returns-in-Err-clause-text g c =
    let a = c.self.inside in
    let i = c.self.invariant in
    let bytes = c.read_piece.new.buffer in
    let new = with_items a.buffer bytes in
    let items = with_items_is a.buffer bytes (omega (arith, c.read_piece.auto.buffer, c.deref_mut.ensures.len)) in
    let same = ap (λ bytes. take a.end bytes) items ∙ c.read_piece.ensures.before ∙ ap (λ bytes. take a.end bytes) c.deref_mut.ensures.value in
    let zeros = replicate a.skipped 0 in
    let mid : c.make_space.new.self.text ≡ zeros ++ window_of a = ap (λ (kept : Kept). kept.text) (sym c.self.view_is) in
    let still : zeros ++ slice_range new.items a.start a.end ≡ c.make_space.new.self.text = ap (λ window. zeros ++ window) (refilled a new.items i.ordered same) ∙ sym mid in
    not_filled c.args.self.now.text c.make_space.new.self.text _ c.requires.no_end c.make_space.ensures.no_end c.make_space.ensures.size c.make_space.ensures.narrow still c.in-Err.ensures.unmoved

pub returns-in-Err-clause-no_end : goal.returns-in-Err-clause-no_end
returns-in-Err-clause-no_end g c =
    let a = c.self.inside in
    let i = c.self.invariant in
    let bytes = c.read_piece.new.buffer in
    let new = with_items a.buffer bytes in
    let items = with_items_is a.buffer bytes (omega (arith, c.read_piece.auto.buffer, c.deref_mut.ensures.len)) in
    let same = ap (λ bytes. take a.end bytes) items ∙ c.read_piece.ensures.before ∙ ap (λ bytes. take a.end bytes) c.deref_mut.ensures.value in
    let zeros = replicate a.skipped 0 in
    let mid : c.make_space.new.self.text ≡ zeros ++ window_of a = ap (λ (kept : Kept). kept.text) (sym c.self.view_is) in
    let still : zeros ++ slice_range new.items a.start a.end ≡ c.make_space.new.self.text = ap (λ window. zeros ++ window) (refilled a new.items i.ordered same) ∙ sym mid in
    ap first_width still ∙ c.make_space.ensures.no_end ∙ ap length (sym still)

pub returns-in-Ok-clause-still_none : goal.returns-in-Ok-clause-still_none
returns-in-Ok-clause-still_none g c = λ none.
    let a = c.self.inside in
    let i = c.self.invariant in
    let bytes = c.read_piece.new.buffer in
    let new = with_items a.buffer bytes in
    let items = with_items_is a.buffer bytes (omega (arith, c.read_piece.auto.buffer, c.deref_mut.ensures.len)) in
    let same = ap (λ bytes. take a.end bytes) items ∙ c.read_piece.ensures.before ∙ ap (λ bytes. take a.end bytes) c.deref_mut.ensures.value in
    let zeros = replicate a.skipped 0 in
    let mid : c.make_space.new.self.text ≡ zeros ++ window_of a = ap (λ (kept : Kept). kept.text) (sym c.self.view_is) in
    let end : a.end + c.in-Ok.count ≡ a.end = omega arith in
    let still : zeros ++ slice_range new.items a.start (a.end + c.in-Ok.count) ≡ c.make_space.new.self.text =
    ap (λ e. zeros ++ slice_range new.items a.start e) end ∙ ap (λ window. zeros ++ window) (refilled a new.items i.ordered same) ∙ sym mid in
    ap first_width still ∙ c.make_space.ensures.no_end ∙ ap length (sym still)
