-- Rows beside marks: a line adds one, or none.
use Rattle.std.proofs.Common.{◌≡◌, ℕ, zero, suc, ◌≤◌, List, [], ◌∷◌, ◌++◌, get_or, map, length, Option, inl, inr, refl, ap, sym, subst, ◌∙◌, arith, length-append, Result, Ok, Err}
use Rattle.store_spec.proofs.Common.{All-push, DiskModel, Election, State, get_or-map-range_with_len, length-map, length-map-range_with_len, map-append}
use Rattle.std.specs.Prelude.{All}
use Rattle.any_store.specs.Beside.{AreRows, calls_beside, further_calls, row_beside}
use Rattle.any_store.specs.Disks.{StoreDisks, StoreModel}
use Rattle.any_store.specs.Disks.StoreDisks.{Alone, Parted}
use Rattle.phase_gate.specs.Around.{Around, with_rows}
use Rattle.phase_gate.specs.Beside.{AddsRow}
use Rattle.phase_gate.specs.LineEnds.{IsHalfWritten, LineEnds}
use Rattle.phase_gate.specs.declared.fault.SessionFault.{SessionFault}
use Rattle.phase_gate.specs.declared.fault.SessionFault.TheVariants.{DiskFault, WriteFault, Memory}
use Rattle.session_run.specs.History.{column}

-- one more is not the same
not_one_more : (x : ℕ) (xs now : List ℕ) → now ≡ xs → now ≡ xs ++ x ∷ [] → ⊥
not_one_more x xs now same more =
    let long = length-append xs (x ∷ []) in
    let is = ap length (sym same ∙ more) in
    absurd (omega (arith, long, is))

module _ {D : Type 0} (disks : StoreDisks D) (now : D) (begun : Option (ℕ × ℕ)) (marks marks_now : List ℕ)
    (rows rows_now : List (List ℕ)) where
  -- no mark, no row
  pub no_row : AddsRow disks now begun marks marks_now rows rows_now → marks_now ≡ marks → rows_now ≡ rows
  no_row (inl none) same = none.1
  no_row (inr one) same = absurd (not_one_more one.0 marks marks_now same one.1)

  -- a row for a mark
  pub a_row : AddsRow disks now begun marks marks_now rows rows_now → (calls : ℕ) → marks_now ≡ marks ++ calls ∷ []
      → (mark : ℕ) × (rows_now ≡ rows ++ row_beside disks now begun mark ∷ [])
  a_row (inl none) calls more = absurd (not_one_more calls marks marks_now none.0 more)
  a_row (inr one) calls more = (one.0, one.2)

-- there are as many rows as marks
pub as_many : {D : Type 0} (disks : StoreDisks D) (begun : Option (ℕ × ℕ)) (marks : List ℕ) (rows : List (List ℕ))
    → AreRows disks begun marks rows → length rows ≡ length marks
as_many (Alone model) begun marks rows are = ap length are ∙ length-map marks (calls_beside begun)
as_many (Parted more models parts) begun marks rows are = are.0

-- and so there are with one more
pub rows_then : {D : Type 0} (disks : StoreDisks D) (now : D) (begun : Option (ℕ × ℕ)) (marks marks_now : List ℕ)
    (rows rows_now : List (List ℕ)) → AreRows disks begun marks rows
    → AddsRow disks now begun marks marks_now rows rows_now → AreRows disks begun marks_now rows_now
rows_then disks now begun marks marks_now rows rows_now are (inl none) =
    subst (AreRows disks begun marks_now) (sym none.1) (subst (λ marks. AreRows disks begun marks rows) (sym none.0) are)
rows_then (Alone model) now begun marks marks_now rows rows_now are (inr one) =
    one.2 ∙ ap (λ rows. rows ++ calls_beside begun one.0 ∷ []) are
    ∙ sym (ap (map (calls_beside begun)) one.1 ∙ map-append (calls_beside begun) marks (one.0 ∷ []))
rows_then (Parted more models parts) now begun marks marks_now rows rows_now are (inr one) =
    let row = further_calls more models now in
    let some_rows = ap length one.2 ∙ length-append rows (row ∷ []) in
    let some_marks = ap length one.1 ∙ length-append marks (one.0 ∷ []) in (
      omega (arith, some_rows, some_marks, are.0),
      subst (All (λ row. length row ≡ more)) (sym one.2)
          (All-push (λ row. length row ≡ more) rows row are.1
          (length-map-range_with_len (λ i. (models i).calls now) 1 more)),
    )

-- each column of the table has one number more
pub column_then : {D : Type 0} (more : ℕ) (models : ℕ → DiskModel D) (now : D) (marks : List ℕ) (rows : List (List ℕ))
    (i : ℕ) → i ≤ more
    → column (marks ++ (models 0).calls now ∷ []) (rows ++ further_calls more models now ∷ []) i
    ≡ column marks rows i ++ (models i).calls now ∷ []
column_then more models now marks rows zero within = refl
column_then more models now marks rows (suc k) within =
    map-append (λ row. get_or row k 0) rows (further_calls more models now ∷ []) ∙ ap
    (λ n. column marks rows (suc k) ++ n ∷ [])
    (get_or-map-range_with_len (λ i. (models i).calls now) 1 more k (suc k) 0 (omega (arith, within)) (omega arith))

-- a line, with the row behind it
module _ {K D : Type 0} (model : StoreModel D) (write : List ℕ → List ℕ) (e : Election) (n : ℕ) (s : State)
    (bytes : List ℕ) (begun : Option (ℕ × ℕ)) (before after : Around K D) (rows : List (List ℕ))
    (adds : AddsRow model.disks after.disk begun before.marks after.marks before.others rows) where
  half : IsHalfWritten model write e n s bytes before after
      → IsHalfWritten model write e n s bytes before (with_rows after rows)
  half told = record {
    effect = told.effect;
    answers = told.answers;
    done = record { acknowledged = told.done.acknowledged; held = told.done.held };
    taken = told.taken;
  }

  pub line_with_row : (r : Result State SessionFault) → LineEnds model write e n s bytes r before after
      → LineEnds model write e n s bytes r before (with_rows after rows)
  line_with_row (Ok next) did = record {
    effect = did.effect;
    answers = did.answers;
    next_state = did.next_state;
    done = record { acknowledged = did.done.acknowledged; held = did.done.held };
    taken = did.taken;
    no_fault = did.no_fault;
  }
  line_with_row (Err DiskFault) failed = record {
    closed = failed.closed;
    says = failed.says;
    fails = failed.fails;
    sink = failed.sink;
    marks = failed.marks;
    others = no_row model.disks after.disk begun before.marks after.marks before.others rows adds failed.marks;
    held = failed.held;
  }
  line_with_row (Err WriteFault) told = (half told.0, told.1)
  line_with_row (Err Memory) (inr told) = inr (half told.0, told.1)
  line_with_row (Err Memory) (inl same) =
      let still = no_row model.disks after.disk begun before.marks after.marks before.others rows adds
      (ap (λ a. a.marks) same) in
      inl (λ i. record {
        sink = (same i).sink;
        disk = (same i).disk;
        marks = (same i).marks;
        others = still i;
        held = (same i).held;
      })

-- the same, where what was before and after is told otherwise
pub line_ends_then : {K D : Type 0} (model : StoreModel D) (write : List ℕ → List ℕ) (e : Election) (n : ℕ) (s : State)
    (bytes : List ℕ) (begun : Option (ℕ × ℕ)) (before mid after now : Around K D) (r : Result State SessionFault)
    → mid ≡ before → now ≡ with_rows after now.others
    → AddsRow model.disks after.disk begun mid.marks after.marks mid.others now.others
    → LineEnds model write e n s bytes r mid after → LineEnds model write e n s bytes r before now
line_ends_then {K} {D} model write e n s bytes begun before mid after now r was is adds ends =
    subst (λ (a : Around K D). LineEnds model write e n s bytes r a now) was
    (subst (λ (a : Around K D). LineEnds model write e n s bytes r mid a) (sym is)
    (line_with_row model write e n s bytes begun mid after now.others adds r ends))
