use Rattle.std.proofs.Common.{arith, ◌≡◌, ℕ, List, ap, ◌∙◌, sym, length, take}
use Rattle.layout_def.specs.Changes.{AreChanges}
use Rattle.store_spec.proofs.Common.{length-take-le, on_ok_weaker}
use Rattle.std.specs.Mem.Slots.{slots_items}
use Rattle.word_rule.proofs.words.close_table.Goals as goal
use Rattle.word_rule.specs.Seats.{HasEnded}

pub returns : goal.returns
returns g c =
    let q = g.Q.PhaseRule in
    let before = c.args.before.now in
    let last = c.close_with-closed.ensures.values.2 in
    let words = slots_items c.close_with-closed.result.words in
    let count = length before in
    let cells = take count words in
    let full : c.args.table.shared.table_id.words ≡ length words = sym c.close_with-closed.ensures.counts.0 ∙ c.close_with-closed.result.words.ok.0 in
    let size : length cells ≡ count = length-take-le count words (omega (arith, full, c.requires.within)) in
    let ended : HasEnded q.holds q.fresh c.args.table.shared.key c.args.seat.id c.args.seat.me.0 cells = record {
      last = last.0;
      kept = last.1.0;
      seen = last.1.1;
      cells_are = ap (λ (n : ℕ). take n words) (sym size) ∙ ap (take (length cells)) (sym last.2);
    } in
    on_ok_weaker {Q = (cells : List ℕ) × HasEnded q.holds q.fresh c.args.table.shared.key c.args.seat.id c.args.seat.me.0 cells × AreChanges before cells c.note_words-noted.new.changes.items}
    c.note_words-noted.result (λ noted. (cells, ended, noted)) c.note_words-noted.ensures
