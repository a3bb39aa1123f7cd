-- What a stop at any moment of a session leaves, checkpoint after checkpoint.
use Rattle.std.proofs.Common.{ℕ, ◌<◌, ◌≤◌, List, [], ◌∷◌, ◌++◌, zero, suc, refl, arith, sym, subst, ⊎_elim}
use Rattle.store_spec.proofs.Common.{Any, Ballot, Election, HoldsAcknowledged, HoldsOneOf, HoldsSet, LeavesMediumOf, after_calls, cases_lt}
use Rattle.session_run.specs.History.{AreMarks, latest}

-- ---- one of two sets

pub first_of : (P : List Ballot → Type 0) (set : List Ballot) (sets : List (List Ballot)) → P set → Any P (set ∷ sets)
first_of P set sets p = (0, set, omega arith, refl, p)

pub second_of : (P : List Ballot → Type 0) (set next : List Ballot) (sets : List (List Ballot)) → P next
    → Any P (set ∷ next ∷ sets)
second_of P set next sets p = (1, next, omega arith, refl, p)

pub the_one : (P : List Ballot → Type 0) (set : List Ballot) → Any P (set ∷ []) → P set
the_one P set (zero, x, within, is, p) = subst P (sym is) p
the_one P set (suc k, x, within, is, p) = absurd (omega (arith, within))

-- ---- marks

-- each mark is within
pub marks_within : (from : ℕ) (marks : List ℕ) (sets : List (List Ballot)) (to : ℕ) → AreMarks from marks sets to
    → from ≤ to
marks_within from [] [] to are = are
marks_within from [] (set ∷ sets) to are = absurd are
marks_within from (mark ∷ marks) [] to are = absurd are
marks_within from (mark ∷ marks) (set ∷ sets) to are = omega (arith, are.0, marks_within mark marks sets to are.1)

-- one mark more
pub marks_more : (from : ℕ) (marks : List ℕ) (sets : List (List Ballot)) (mid to : ℕ) (set : List Ballot)
    → AreMarks from marks sets mid → mid ≤ to → AreMarks from (marks ++ to ∷ []) (sets ++ set ∷ []) to
marks_more from [] [] mid to set are le = (omega (arith, are), omega arith)
marks_more from [] (x ∷ sets) mid to set are le = absurd are
marks_more from (mark ∷ marks) [] mid to set are le = absurd are
marks_more from (mark ∷ marks) (x ∷ sets) mid to set are le = (are.0, marks_more mark marks sets mid to set are.1 le)

-- more calls, and no mark
pub marks_stay : (from : ℕ) (marks : List ℕ) (sets : List (List Ballot)) (mid to : ℕ) → AreMarks from marks sets mid
    → mid ≤ to → AreMarks from marks sets to
marks_stay from [] [] mid to are le = omega (arith, are)
marks_stay from [] (x ∷ sets) mid to are le = absurd are
marks_stay from (mark ∷ marks) [] mid to are le = absurd are
marks_stay from (mark ∷ marks) (x ∷ sets) mid to are le = (are.0, marks_stay mark marks sets mid to are.1 le)

module _ (e : Election) (was now : ℕ → List ℕ → Type 0) (mid to : ℕ)
    (past : (m : ℕ) → m ≤ after_calls mid → (c : List ℕ) → now m c → was m c) (later : mid ≤ to) where
  -- moments that are past stay as they were
  kept : (from end : ℕ) (sets : List (List Ballot)) → end ≤ mid → HoldsOneOf e was from end sets
      → HoldsOneOf e now from end sets
  kept from end sets le holds = λ m low high c left. holds m low high c (past m (omega arith) c left)

  -- what was so up to `mid`, and from there on, is so
  joined : (from : ℕ) (sets more : List (List Ballot))
      → ((c : List ℕ) → Any (HoldsSet e c) sets → Any (HoldsSet e c) more) → HoldsOneOf e was from mid sets
      → HoldsOneOf e now mid to more → HoldsOneOf e now from to more
  joined from sets more wider early late = λ m low high c left. ⊎_elim
      (λ (before : m < after_calls mid). wider c (early m low (omega arith) c (past m (omega arith) c left)))
      (λ (after : after_calls mid ≤ m). late m after high c left)
      (cases_lt m (after_calls mid))

  -- A checkpoint from `mid` to `to` that ends well: from there on the next set is held.
  pub acknowledged_more : (from : ℕ) (set : List Ballot) (marks : List ℕ) (sets : List (List Ballot))
      (next : List Ballot) → AreMarks from marks sets mid → HoldsAcknowledged e was from set marks sets [] mid
      → HoldsOneOf e now mid to (latest set sets ∷ next ∷ []) → LeavesMediumOf e now to next
      → HoldsOneOf e now to to (next ∷ [])
      → HoldsAcknowledged e now from set (marks ++ to ∷ []) (sets ++ next ∷ []) [] to
  acknowledged_more from set [] [] next are so_far late medium end = (
    joined from (set ∷ []) (set ∷ next ∷ []) (λ c one. first_of (HoldsSet e c) set (next ∷ [])
        (the_one (HoldsSet e c) set one)) so_far late,
    medium,
    end,
  )
  acknowledged_more from set [] (x ∷ sets) next are so_far late medium end = absurd are
  acknowledged_more from set (mark ∷ marks) [] next are so_far late medium end = absurd are
  acknowledged_more from set (mark ∷ marks) (x ∷ sets) next are so_far late medium end =
      let within : mark ≤ mid = marks_within mark marks sets mid are.1 in (
        kept from mark (set ∷ x ∷ []) within so_far.0,
        (λ c left. so_far.1 c (past (after_calls mark) (omega arith) c left)),
        acknowledged_more mark x marks sets next are.1 so_far.2 late medium end,
      )

  -- A checkpoint from `mid` to `to` that fails.
  pub acknowledged_tried : (from : ℕ) (set : List Ballot) (marks : List ℕ) (sets : List (List Ballot))
      (next : List Ballot) → AreMarks from marks sets mid → HoldsAcknowledged e was from set marks sets [] mid
      → HoldsOneOf e now mid to (latest set sets ∷ next ∷ [])
      → HoldsAcknowledged e now from set marks sets (next ∷ []) to
  acknowledged_tried from set [] [] next are so_far late = joined from (set ∷ []) (set ∷ next ∷ [])
      (λ c one. first_of (HoldsSet e c) set (next ∷ []) (the_one (HoldsSet e c) set one)) so_far late
  acknowledged_tried from set [] (x ∷ sets) next are so_far late = absurd are
  acknowledged_tried from set (mark ∷ marks) [] next are so_far late = absurd are
  acknowledged_tried from set (mark ∷ marks) (x ∷ sets) next are so_far late =
      let within : mark ≤ mid = marks_within mark marks sets mid are.1 in (
        kept from mark (set ∷ x ∷ []) within so_far.0,
        (λ c left. so_far.1 c (past (after_calls mark) (omega arith) c left)),
        acknowledged_tried mark x marks sets next are.1 so_far.2 late,
      )
