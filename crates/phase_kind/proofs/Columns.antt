-- A table that is turned round row by row.
use Rattle.std.proofs.Common.{◌≡◌, ◌+◌, ◌<◌, ◌++◌, ◌∙◌, ℕ, zero, suc, All, List, [], ◌∷◌, Some, ap, ap₂, arith, get_or, length, map, refl, slice_get, slice_set, sym, take}
use Rattle.store_spec.proofs.Common.{All-map, get_or-map, get_or_from_slice_get, length-map, length-take-le, map-set, map_push, none-some, same_Some, slice_get_within, take_more}
use Rattle.std.proofs.lemmas.List.FromFn.{get_or-enumerate_from, length-enumerate_from}
use Rattle.std.specs.List.{enumerate_from}
use Rattle.phase_kind.specs.Table.{IsTurned, grown}

module _ {X : Type 0} where
  pub grown_none : (columns : List (List X)) → grown columns [] ≡ columns
  grown_none [] = refl
  grown_none (column ∷ columns) = refl

  pub length-grown : (columns : List (List X)) (row : List X) → length (grown columns row) ≡ length columns
  length-grown [] row = refl
  length-grown (column ∷ columns) [] = refl
  length-grown (column ∷ columns) (x ∷ row) = ap suc (length-grown columns row)

  -- the next entry of a row goes to the end of the next column
  grown_more : (columns : List (List X)) (row : List X) (x : X) → length row < length columns → slice_set (grown columns row) (length row) (get_or (grown columns row) (length row) [] ++ x ∷ []) ≡ grown columns (row ++ x ∷ [])
  grown_more [] row x more = absurd (omega arith)
  grown_more (column ∷ columns) [] x more = ap (λ l. (column ++ x ∷ []) ∷ l) (sym (grown_none columns))
  grown_more (column ∷ columns) (y ∷ row) x more = ap (λ l. (column ++ y ∷ []) ∷ l) (grown_more columns row x (omega arith))

  -- where it is put there
  pub dealt : {V : Type 0} (items : V → List X) (columns : List V) (old : List (List X)) (row : List X) (place : ℕ) (was new : V) (x : X)
      → map items columns ≡ grown old row → place ≡ length row → place < length columns → was ≡ get_or columns place was → items new ≡ items was ++ x ∷ []
      → map items (slice_set columns place new) ≡ grown old (row ++ x ∷ [])
  dealt items columns old row place was new x are at within is pushed =
      let column : items new ≡ get_or (grown old row) place [] ++ x ∷ [] =
      pushed ∙ ap (λ v. items v ++ x ∷ []) is ∙ ap (λ l. l ++ x ∷ []) (sym (get_or-map items columns place was [] within) ∙ ap (λ l. get_or l place []) are) in
      map-set items columns place new
      ∙ ap₂ (λ l c. slice_set l place c) are column
      ∙ ap (λ n. slice_set (grown old row) n (get_or (grown old row) n [] ++ x ∷ [])) at
      ∙ grown_more old row x (omega (arith, within, at, length-map columns items, ap length are, length-grown old row))

  -- what a row's next entry is, where entries come with their places
  pub entry_at : (row : List X) (count place : ℕ) (x : X) → count < length (enumerate_from 0 row) → (place, x) ≡ get_or (enumerate_from 0 row) count (place, x) → (place ≡ count) × (count < length row) × (x ≡ get_or row count x)
  entry_at row count place x within is =
      let below : count < length row = omega (arith, within, length-enumerate_from 0 row) in
      let at : (place, x) ≡ (0 + count, get_or row count x) = is ∙ get_or-enumerate_from 0 row count (place, x) below in
      (ap (λ (p : ℕ × X). p.0) at ∙ omega arith, below, ap (λ (p : ℕ × X). p.1) at)

  -- the next entry of a row is put to the column at its place
  pub dealt_next : {V : Type 0} (items : V → List X) (columns : List V) (old : List (List X)) (row : List X) (count place : ℕ) (was new : V) (x : X)
      → map items columns ≡ grown old (take count row) → length row ≡ length old → count < length row → place ≡ count → x ≡ get_or row count x → was ≡ get_or columns place was → items new ≡ items was ++ x ∷ []
      → map items (slice_set columns place new) ≡ grown old (take (count + 1) row)
  dealt_next items columns old row count place was new x are same within at x_is is pushed =
      let front = length-take-le count row (omega (arith, within)) in
      dealt items columns old (take count row) place was new x are (at ∙ sym front) (omega (arith, at, within, same, length-map columns items, ap length are, length-grown old (take count row))) is pushed
      ∙ ap (grown old) (ap (λ y. take count row ++ y ∷ []) x_is ∙ sym (take_more row count x within))

  -- a column of before, and the entry that it got
  grown_at : (columns : List (List X)) (row : List X) (place : ℕ) (column : List X) → length row ≡ length columns → slice_get (grown columns row) place ≡ Some column
      → (before : List X) × (x : X) × (slice_get columns place ≡ Some before) × (slice_get row place ≡ Some x) × (column ≡ before ++ x ∷ [])
  grown_at [] row place column same there = absurd (none-some column there)
  grown_at (c ∷ columns) [] place column same there = absurd (omega arith)
  grown_at (c ∷ columns) (x ∷ row) zero column same there = (c, x, refl, refl, sym (same_Some (c ++ x ∷ []) column there))
  grown_at (c ∷ columns) (x ∷ row) (suc place) column same there = grown_at columns row place column (omega arith) there

  -- columns of no rows
  pub turned_none : {V : Type 0} (items : V → List X) (places : ℕ) (columns : List V) → length columns ≡ places → All (λ column. items column ≡ []) columns → IsTurned {X = X} places [] (map items columns)
  turned_none {V} items places columns same empty = record {
    as_many = length-map columns items ∙ same;
    each = λ place column there.
        let none : All (λ (c : List X). c ≡ []) (map items columns) = All-map (λ (c : List X). c ≡ []) items columns empty in
        ap (map (λ (x : X). Some x)) (sym (get_or_from_slice_get (map items columns) place column column there) ∙ none place column (slice_get_within (map items columns) place column there));
  }

  pub turned_more : (places : ℕ) (rows columns : List (List X)) (row : List X) → IsTurned places rows columns → length row ≡ places → IsTurned places (rows ++ row ∷ []) (grown columns row)
  turned_more places rows columns row turned same = record {
    as_many = length-grown columns row ∙ turned.as_many;
    each = λ place column there.
        let at = grown_at columns row place column (same ∙ sym turned.as_many) there in
        ap (map (λ (x : X). Some x)) at.4
        ∙ map_push (λ (x : X). Some x) at.0 at.1
        ∙ ap₂ (λ l o. l ++ o ∷ []) (turned.each place at.0 at.2) (sym at.3)
        ∙ sym (map_push (λ (r : List X). slice_get r place) rows row);
  }
