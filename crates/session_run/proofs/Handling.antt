-- A line is handled: the room for a row is taken before it, and the row of its mark added behind it.
use Rattle.std.proofs.Common.{◌≡◌, ℕ, List, Result, length, map, ap, sym, subst, ◌∙◌}
use Rattle.store_spec.proofs.Common.{Election, State, length-map}
use Rattle.any_store.specs.Beside.{AreRows}
use Rattle.any_store.specs.Disks.{StoreModel}
use Rattle.outside_io.specs.Outside.{Output}
use Rattle.phase_gate.specs.Around.{around, rows_of, with_rows}
use Rattle.phase_gate.specs.Beside.{AddsRow, IsOneMore}
use Rattle.phase_gate.specs.LineEnds.{LineEnds}
use Rattle.phase_gate.specs.declared.fault.SessionFault.{SessionFault}
use Rattle.phase_gate.specs.declared.report.Report.{Report}
use Rattle.session_run.proofs.Marks.{one_more}
use Rattle.session_run.proofs.Rows.{as_many, line_ends_then}

-- The report at first, with the room, behind the line, and with the row.
module _ {K D : Type 0} (model : StoreModel D) (write : List ℕ → List ℕ) (e : Election) (n : ℕ) (s : State)
    (bytes : List ℕ) (sink sunk : Output K) (disk now : D) (old mid new : Report) (r : Result State SessionFault)
    (first : mid.marks ≡ old.marks) (mid_others : mid.others.items ≡ old.others.items) (mid_held : mid.held ≡ old.held)
    (new_others : new.others ≡ mid.others)
    (ends : LineEnds model write e n s bytes r (around sink disk mid) (around sunk now new))
    (are : AreRows model.disks old.begun old.marks.items (rows_of old)) where
  -- a mark more was made, or none, and there is no row for it yet
  more : IsOneMore mid.marks.items new.marks.items
  more = one_more model write e n s bytes (around sink disk mid) (around sunk now new) r ends

  many : length new.others.items ≡ length old.marks.items
  many =
      ap (λ others. length others.items) new_others ∙ ap length mid_others
      ∙ sym (length-map old.others.items (λ list. list.items)) ∙ as_many model.disks old.begun old.marks.items (rows_of old) are

  pub before : (marks : List ℕ) × IsOneMore marks new.marks.items × (length new.others.items ≡ length marks)
  before = (mid.marks.items, more, many ∙ ap (λ marks. length marks.items) (sym first))

  module _ (last : Report) (last_marks : last.marks ≡ new.marks) (last_held : last.held ≡ new.held)
      (adds : (marks : List ℕ) → IsOneMore marks new.marks.items → length new.others.items ≡ length marks
      → AddsRow model.disks now last.begun marks last.marks.items (rows_of new) (rows_of last)) where
    -- the row was added
    adds_there : AddsRow model.disks now last.begun mid.marks.items last.marks.items (rows_of mid) (rows_of last)
    adds_there =
        subst (λ rows. AddsRow model.disks now last.begun mid.marks.items last.marks.items rows (rows_of last))
        (ap (λ others. map (λ list. list.items) others.items) new_others)
        (adds mid.marks.items more (many ∙ ap (λ marks. length marks.items) (sym first)))

    pub rows : AddsRow model.disks now last.begun old.marks.items last.marks.items (rows_of old) (rows_of last)
    rows =
        subst (λ rows. AddsRow model.disks now last.begun old.marks.items last.marks.items rows (rows_of last))
        (ap (map (λ list. list.items)) mid_others)
        (subst (λ marks. AddsRow model.disks now last.begun marks.items last.marks.items (rows_of mid) (rows_of last))
        first adds_there)

    -- and the line ended as it did
    was : around sink disk mid ≡ around sink disk old
    was = λ i. record {
      sink = sink;
      disk = disk;
      marks = (first i).items;
      others = map (λ list. list.items) (mid_others i);
      held = mid_held i;
    }

    is : around sunk now last ≡ with_rows (around sunk now new) (rows_of last)
    is = λ i. record {
      sink = sunk;
      disk = now;
      marks = (last_marks i).items;
      others = rows_of last;
      held = last_held i;
    }

    pub ended : LineEnds model write e n s bytes r (around sink disk old) (around sunk now last)
    ended = line_ends_then model write e n s bytes last.begun (around sink disk old) (around sink disk mid)
        (around sunk now new) (around sunk now last) r was is
        (subst (λ marks. AddsRow model.disks now last.begun mid.marks.items marks.items (rows_of mid) (rows_of last))
        last_marks adds_there) ends
