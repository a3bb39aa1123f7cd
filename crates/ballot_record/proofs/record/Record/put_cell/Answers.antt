use Rattle.std.proofs.Common.{◌≡◌, ◌-◌, ◌%◌, ◌<◌, ◌≤◌, ◌∷◌, [], ◌++◌, length, take, drop, refl, ap, sym, ◌∙◌, arith, get_or, get_or-take, length-append, length-drop, length-take}
use Rattle.store_spec.proofs.Common.{bytes_high_first, flat_map, mod-eq_of_lt, set_width, to_be_bytes, w64}
use Rattle.store_spec.specs.Election.{cell_size}
use Rattle.store_spec.specs.Image.{ballot_bytes}
use Rattle.std.proofs.Math.ListN.{set, length-set}
use Rattle.ballot_record.specs.Record.{ballot}
use Rattle.ballot_record.proofs.ValidMarks.{set_spellable}
use Rattle.ballot_record.proofs.FormatWriting.{cell_written}
use borrow.Rule.Slice.PartMut.{put_mid}
use Rattle.ballot_record.proofs.record.Record.put_cell.Goals as goal

pub returns : goal.returns
unfolding ballot_bytes cell_size
returns c =
    let r = c.args.self.now in
    let number = to_be_bytes w64 r.number in
    let out = c.args.out.now in
    let written = set c.write_u64.new.buf 8 r.style in
    let n = length written - 9 in
    let style : r.style < 256 = omega (arith, c.requires.valid.known_style, c.contests.ensures.valid.few_styles) in
    let room : 9 ≤ length out = omega (arith, c.requires.room) in
    let size : length written ≡ length out =
    length-set c.write_u64.new.buf 8 r.style ∙ ap length c.write_u64.ensures ∙ omega (arith, length-append number (drop 8 out), length-drop 8 out) in
    ap (λ buf. put_mid 9 n (set buf 8 r.style) c.put_all_sets.new.out) c.write_u64.ensures
    ∙ cell_written number out c.put_all_sets.new.out r.style n refl room (ap (λ k. k - 9) size)
    ∙ ap (λ marks. (number ++ r.style ∷ []) ++ marks) c.put_all_sets.ensures
    ∙ ap (λ s. (number ++ s ∷ []) ++ flat_map (bytes_high_first c.set_bytes.result) (take c.contests.result r.marks)) (sym (mod-eq_of_lt style))
    ∙ ap (λ width. (number ++ (r.style % 256) ∷ []) ++ flat_map (bytes_high_first width) (take c.contests.result r.marks)) c.set_bytes.ensures.width
    ∙ ap (λ k. (number ++ (r.style % 256) ∷ []) ++ flat_map (bytes_high_first (set_width c.args.election.now)) (take k r.marks)) c.contests.ensures.count

pub put_all_sets-requires-clause-fit : goal.put_all_sets-requires-clause-fit
put_all_sets-requires-clause-fit c k within =
    let e = c.args.election.now in
    let r = c.args.self.now in
    let set : get_or (take c.contests.result r.marks) k 0 ≡ get_or r.marks k 0 = get_or-take c.contests.result r.marks k 0 (omega (arith, within, length-take c.contests.result r.marks)) in
    rw (set, c.set_bytes.ensures.width) (set_spellable e (ballot r) c.contests.ensures.valid c.requires.valid k)
