-- What a session on a disk over two disks leaves of one of the two.
use Rattle.std.proofs.Common.{◌≡◌, ℕ, ◌+◌, ◌-◌, ◌<◌, ◌≤◌, List, [], map, Some, sym, ◌∙◌, subst, arith}
use Rattle.store_spec.proofs.Common.{Ballot, DiskModel, Election, HoldsAcknowledged, HoldsSet, IfSome, IsMediumOf, IsSettled, after_calls, is_some, last_count, leaves_now}
use Rattle.std.specs.Prelude.{All}
use Rattle.crash_disk.proofs.Moments.{settled-only}
use Rattle.session_run.specs.History.{Acknowledged, AreMarks, HoldsOne, LosesNothing, LosesNothingOnceSynced, latest}
use Rattle.twin_commands.proofs.Moved.{acknowledged_moved, marks_by, marks_moved}

-- One of the two, from `s` to `d`, while the twin went from `start` to `now`. Its counts rose as the twin's did, up to the
-- `last` call that did not fail, and what a crash leaves of it, it leaves of the twin.
pub record IsSide {T D : Type 0} (both : DiskModel T) (own : DiskModel D) (start now : T) (s d : D) (last : ℕ) (shift : ℕ → ℕ) : Type 0 where
  pub few : both.calls start ≤ last
  pub shifts : (k : ℕ) → both.calls start ≤ k → k ≤ last → shift k + both.calls start ≡ k + own.calls s
  pub here : (m : ℕ) → after_calls (own.calls s) ≤ m → m ≤ after_calls (own.calls d) → (c : List ℕ) → own.may_leave d m c → both.may_leave now (m - after_calls (own.calls s) + after_calls (both.calls start)) c
  pub ends : last + own.calls s ≤ own.calls d + both.calls start
  pub later : own.calls d + both.calls start ≤ both.calls now + own.calls s
  pub below : both.calls now < last_count
  pub seen : own.seen s ≡ both.seen start
  pub told : is_some (own.seen d) ≡ is_some (own.seen s)
  pub law : (bytes : List ℕ) → own.seen s ≡ Some bytes → leaves_now own.calls own.may_leave s bytes
  pub settled : IsSettled both.seen both.calls both.may_leave start

module _ {T D : Type 0} (both : DiskModel T) (own : DiskModel D) (e : Election) (start now : T) (s d : D) (last : ℕ) (shift : ℕ → ℕ) (side : IsSide both own start now s d last shift) (set : List Ballot) where
  starts : shift (both.calls start) ≡ own.calls s
  starts = let is = side.shifts (both.calls start) (omega arith) side.few in omega (arith, is)

  -- the twin holds the set that the disk holds
  holds_both : HoldsOne own e set s → HoldsOne both e set start
  holds_both one =
      let sees = sym side.seen ∙ one.seen in
      record {
        bytes = one.bytes;
        seen = sees;
        held = one.held;
        images = λ image left. subst (λ x. HoldsSet e x set) (sym (settled-only both.calls both.may_leave both.seen start one.bytes image side.settled sees left)) one.held;
      }

  moved : (from : ℕ) (marks : List ℕ) (acknowledged tried : List (List Ballot)) → both.calls start ≤ from → from ≤ last → AreMarks from marks acknowledged last
      → HoldsAcknowledged e (both.may_leave now) from set marks acknowledged tried (both.calls now) → HoldsAcknowledged e (own.may_leave d) (shift from) set (map shift marks) acknowledged tried (own.calls d)
  moved from marks acknowledged tried begins within are holds =
      acknowledged_moved (both.calls start) (own.calls s) last shift side.shifts e (both.may_leave now) (own.may_leave d) (own.calls d) (both.calls now) side.here side.ends side.later
      from set marks acknowledged tried begins within are holds

  module _ (marks : List ℕ) (acknowledged : List (List Ballot)) (marked : AreMarks (both.calls start) marks acknowledged (both.calls now)) (all : All (λ mark. mark ≤ last) marks) (called : both.calls start + 1 ≤ last) where
    by_last : AreMarks (both.calls start) marks acknowledged last
    by_last = marks_by (both.calls start) last (both.calls now) marks acknowledged side.few all marked

    pub side_marked : AreMarks (own.calls s) (map shift marks) acknowledged (own.calls d)
    side_marked = subst (λ from. AreMarks from (map shift marks) acknowledged (own.calls d)) starts
        (marks_moved (both.calls start) (own.calls s) last shift side.shifts (both.calls start) (own.calls d) marks acknowledged (omega arith) side.few by_last side.ends)

    pub side_crashes : (tried : List (List Ballot)) → LosesNothing both e set start now marks acknowledged tried → LosesNothing own e set s d (map shift marks) acknowledged tried
    side_crashes tried loses one below =
        subst (λ from. HoldsAcknowledged e (own.may_leave d) from set (map shift marks) acknowledged tried (own.calls d)) starts
        (moved (both.calls start) marks acknowledged tried (omega arith) side.few by_last (loses (holds_both one) side.below))

    -- told from the sync on by which the session began
    pub side_once : (tried : List (List Ballot)) → LosesNothingOnceSynced both e set start now marks acknowledged tried → LosesNothingOnceSynced own e set s d (map shift marks) acknowledged tried
    side_once tried loses bytes sees held below =
        let both_sees : both.seen start ≡ Some bytes = sym side.seen ∙ sees in
        let once = loses bytes both_sees held side.below in
        let synced_by = marks_by (both.calls start + 1) last (both.calls now) marks acknowledged called all once.marked in
        let is = side.shifts (both.calls start + 1) (omega arith) called in
        let next : shift (both.calls start + 1) ≡ own.calls s + 1 = omega (arith, is) in
        record {
          early = λ m low high c left.
              let at = once.early (m - after_calls (own.calls s) + after_calls (both.calls start)) (omega arith) (omega arith) c (side.here m low (omega (arith, high, called, side.ends)) c left) in
              let same : c ≡ bytes = settled-only both.calls both.may_leave both.seen start bytes c side.settled both_sees at in
              subst (λ x. leaves_now own.calls own.may_leave s x) (sym same) (side.law bytes sees);
          marked = subst (λ from. AreMarks from (map shift marks) acknowledged (own.calls d)) next
              (marks_moved (both.calls start) (own.calls s) last shift side.shifts (both.calls start + 1) (own.calls d) marks acknowledged (omega arith) called synced_by side.ends);
          late = subst (λ from. HoldsAcknowledged e (own.may_leave d) from set (map shift marks) acknowledged tried (own.calls d)) next
              (moved (both.calls start + 1) marks acknowledged tried (omega arith) called synced_by once.late);
        }

    -- no call failed
    pub side_acknowledged : own.seen d ≡ both.seen now → own.calls d + both.calls start ≡ both.calls now + own.calls s
        → ((bytes : List ℕ) → own.seen d ≡ Some bytes → leaves_now own.calls own.may_leave d bytes) → own.faults d ≡ own.faults s
        → Acknowledged both e set acknowledged start now marks → Acknowledged own e set acknowledged s d (map shift marks)
    side_acknowledged same counts law steady was = record {
      told = side.told;
      medium = record {
        settled = λ c. (
          λ left.
              let at : after_calls (own.calls d) - after_calls (own.calls s) + after_calls (both.calls start) ≡ after_calls (both.calls now) = omega (arith, counts, starts_later) in
              same ∙ (was.medium.settled c).0 (subst (λ m. both.may_leave now m c) at (side.here (after_calls (own.calls d)) (omega (arith, starts_later)) (omega arith) c left)),
          λ sees. law c sees,
        );
        medium = subst (λ o. IfSome o (λ bytes. IsMediumOf e bytes (latest set acknowledged))) (sym same) was.medium.medium;
      };
      marked = side_marked;
      crashes = side_crashes [] was.crashes;
      once_synced = side_once [] was.once_synced;
      no_fault = steady;
    }
      where
        starts_later : own.calls s ≤ own.calls d
        starts_later = let few = side.few in let ends = side.ends in omega (arith, few, ends)
