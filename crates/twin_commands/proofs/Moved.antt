-- What was acknowledged on a disk over two disks, by the moments of one of the two.
use Rattle.std.proofs.Common.{◌≡◌, ℕ, ◌+◌, ◌-◌, ◌*◌, ◌≤◌, List, [], ◌∷◌, map, subst, arith}
use Rattle.store_spec.proofs.Common.{All-head, All-tail, Ballot, Election, HoldsAcknowledged, HoldsOneOf, LeavesMediumOf, after_calls}
use Rattle.std.specs.Prelude.{All}
use Rattle.session_run.proofs.Stops.{marks_within}
use Rattle.session_run.specs.History.{AreMarks}

-- marks that were all made by so many calls
pub marks_by : (from k to : ℕ) (marks : List ℕ) (sets : List (List Ballot)) → from ≤ k → All (λ mark. mark ≤ k) marks → AreMarks from marks sets to → AreMarks from marks sets k
marks_by from k to [] [] le all are = le
marks_by from k to [] (set ∷ sets) le all are = absurd are
marks_by from k to (mark ∷ marks) [] le all are = absurd are
marks_by from k to (mark ∷ marks) (set ∷ sets) le all are =
    (are.0, marks_by mark k to marks sets (All-head (λ mark. mark ≤ k) mark marks all) (All-tail (λ mark. mark ≤ k) mark marks all) are.1)

-- Counts of one disk: `shift` tells those of the twin from `first` on, up to `last`, in the counts of a disk that began at
-- `begun`.
module _ (first begun last : ℕ) (shift : ℕ → ℕ) (is : (k : ℕ) → first ≤ k → k ≤ last → shift k + first ≡ k + begun) where
  pub marks_moved : (from to : ℕ) (marks : List ℕ) (sets : List (List Ballot)) → first ≤ from → from ≤ last → AreMarks from marks sets last → last + begun ≤ to + first → AreMarks (shift from) (map shift marks) sets to
  marks_moved from to [] [] begins within are ends = let here = is from begins within in omega (arith, here, are, ends)
  marks_moved from to [] (set ∷ sets) begins within are ends = absurd are
  marks_moved from to (mark ∷ marks) [] begins within are ends = absurd are
  marks_moved from to (mark ∷ marks) (set ∷ sets) begins within are ends =
      let inside : mark ≤ last = marks_within mark marks sets last are.1 in
      let here = is from begins within in
      let next = is mark (omega (arith, are.0)) inside in
      (omega (arith, here, next, are.0), marks_moved mark to marks sets (omega (arith, are.0)) inside are.1 ends)

  module _ (e : Election) (was now : ℕ → List ℕ → Type 0) (end to : ℕ)
      (here : (m : ℕ) → 2 * begun ≤ m → m ≤ after_calls end → (c : List ℕ) → now m c → was (m - after_calls begun + after_calls first) c)
      (ends : last + begun ≤ end + first) (later : end + first ≤ to + begun) where
    one_of : (from from_here until until_here : ℕ) (sets : List (List Ballot)) → first ≤ from → from_here + first ≡ from + begun → until_here ≤ end → until_here + first ≤ until + begun → HoldsOneOf e was from until sets → HoldsOneOf e now from_here until_here sets
    one_of from from_here until until_here sets begins same within less holds = λ m low high c left.
        holds (m - after_calls begun + after_calls first) (omega (arith, same)) (omega (arith, less)) c (here m (omega (arith, same)) (omega (arith, within)) c left)

    medium_of : (mark mark_here : ℕ) (set : List Ballot) → first ≤ mark → mark_here + first ≡ mark + begun → mark_here ≤ end → LeavesMediumOf e was mark set → LeavesMediumOf e now mark_here set
    medium_of mark mark_here set begins same within leaves c left =
        let is_there : after_calls mark_here - after_calls begun + after_calls first ≡ after_calls mark = omega (arith, same) in
        leaves c (subst (λ m. was m c) is_there (here (after_calls mark_here) (omega (arith, same)) (omega (arith, within)) c left))

    pub acknowledged_moved : (from : ℕ) (set : List Ballot) (marks : List ℕ) (sets tried : List (List Ballot)) → first ≤ from → from ≤ last → AreMarks from marks sets last
        → HoldsAcknowledged e was from set marks sets tried to → HoldsAcknowledged e now (shift from) set (map shift marks) sets tried end
    acknowledged_moved from set [] [] tried begins within are holds = one_of from (shift from) to end (set ∷ tried) begins (is from begins within) (omega arith) later holds
    acknowledged_moved from set [] (next ∷ sets) tried begins within are holds = absurd are
    acknowledged_moved from set (mark ∷ marks) [] tried begins within are holds = absurd are
    acknowledged_moved from set (mark ∷ marks) (next ∷ sets) tried begins within are holds =
        let inside : mark ≤ last = marks_within mark marks sets last are.1 in
        let above : first ≤ mark = omega (arith, are.0) in
        let same = is mark above inside in
        let stands : shift mark ≤ end = omega (arith, same, inside, ends) in (
          one_of from (shift from) mark (shift mark) (set ∷ next ∷ []) begins (is from begins within) stands (omega (arith, same)) holds.0,
          medium_of mark (shift mark) next above same stands holds.1,
          acknowledged_moved mark next marks sets tried above inside are.1 holds.2,
        )
