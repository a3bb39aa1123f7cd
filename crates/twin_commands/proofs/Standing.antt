-- Which set a stop leaves on one of two disks.
use Rattle.std.proofs.Common.{◌≡◌, ℕ, ◌+◌, ◌<◌, ◌≤◌, List, [], ◌∷◌, Some, inl, inr, ⊎_elim, refl, sym, subst, arith}
use Rattle.store_spec.proofs.Common.{Any, Ballot, DiskModel, Election, HoldsAcknowledged, HoldsSet, IsElection, IsMediumOf, IsSome, IsUnused, LeavesOnly, LeavesOnlyOnceSynced, SyncsFirst, after_calls, cases_lt, last_count, leaves_now}
use Rattle.checkpoint.proofs.Unused.{unused_holds}
use Rattle.crash_disk.proofs.Moments.{settled-only, started, syncs_first}
use Rattle.image_builder.proofs.Held.{medium_holds, one_held}
use Rattle.outside_io.proofs.Told.{some_told}
use Rattle.any_store.specs.Checkpointed.{IsMediumNow}
use Rattle.run_outcome.proofs.Laws.{at_told}
use Rattle.session_run.specs.History.{HoldsOne, LosesNothing}
use Rattle.twin_commands.specs.Standing.{HoldsOwnOr, IsLostOr, StandsAt}
use Rattle.twin_commands.specs.Twin.{LeavesPair}
use Rattle.twin_media.specs.Pairing.{BothKept, IsKeptOr, IsPairSet, PairLeaves}

-- ---- from the pairing on

-- it is one of these, and holds
one_of : (e : Election) (image : List ℕ) (sets : List (List Ballot)) → Any (HoldsSet e image) sets → (one : List Ballot) × Any (λ other. one ≡ other) sets × HoldsSet e image one
one_of e image sets any = (any.1, (any.0, any.1, any.2, any.3, refl), any.4)

stands : (e : Election) (may_leave : ℕ → List ℕ → Type 0) (m : ℕ) (image : List ℕ) (from : ℕ) (set : List Ballot) (marks : List ℕ) (acknowledged tried : List (List Ballot)) (to : ℕ) → may_leave m image
    → after_calls from ≤ m → m ≤ after_calls to → HoldsAcknowledged e may_leave from set marks acknowledged tried to → (one : List Ballot) × StandsAt m set marks acknowledged tried one × HoldsSet e image one
stands e may_leave m image from set [] [] tried to left low high holds = one_of e image (set ∷ tried) (holds m low high image left)
stands e may_leave m image from set (mark ∷ marks) (next ∷ others) tried to left low high holds = ⊎_elim
    (λ (early : m < after_calls mark + 1).
    let one = one_of e image (set ∷ next ∷ []) (holds.0 m low (omega arith) image left) in
    (one.0, inl (omega arith, one.1), one.2))
    (λ (late : after_calls mark + 1 ≤ m).
    let rest = stands e may_leave m image mark next marks others tried to left (omega arith) high holds.2 in
    (rest.0, inr (omega arith, rest.1), rest.2))
    (cases_lt m (after_calls mark + 1))
stands e may_leave m image from set [] (next ∷ others) tried to left low high holds = absurd holds
stands e may_leave m image from set (mark ∷ marks) [] tried to left low high holds = absurd holds

-- a disk that is the medium of a set holds it, whatever a crash does
holds_one : {D : Type 0} (model : DiskModel D) (e : Election) (set : List Ballot) (disk : D) → IsElection e → IsSome (model.seen disk) → IsMediumNow model e set disk → HoldsOne model e set disk
holds_one model e set disk valid some now =
    let told = some_told (model.seen disk) some in
    let held = medium_holds e told.0 set valid (at_told (model.seen disk) told.0 (λ bytes. IsMediumOf e bytes set) told.1 now.medium) in
    record {
      bytes = told.0;
      seen = told.1;
      held = held;
      images = λ image left. subst (λ bytes. HoldsSet e bytes set) (sym (settled-only model.calls model.may_leave model.seen disk told.0 image now.settled told.1 left)) held;
    }

pub stands_at : {D : Type 0} (model : DiskModel D) (e : Election) (ready after : D) (set : List Ballot) (marks : List ℕ) (acknowledged tried : List (List Ballot)) → IsElection e → IsSome (model.seen ready) → IsMediumNow model e set ready
    → LosesNothing model e set ready after marks acknowledged tried → model.calls after < last_count → (m : ℕ) → after_calls (model.calls ready) ≤ m → m ≤ after_calls (model.calls after) → (image : List ℕ) → model.may_leave after m image
    → (one : List Ballot) × StandsAt m set marks acknowledged tried one × HoldsSet e image one
stands_at model e ready after set marks acknowledged tried valid some now loses below m low high image left =
    stands e (model.may_leave after) m image (model.calls ready) set marks acknowledged tried (model.calls after) left low high (loses (holds_one model e set ready valid some now) below)

-- ---- until then

-- what is left of a disk has P, where what might be left at the start has it, and its bytes, and what pairing makes of it
module _ {D : Type 0} (model : DiskModel D) (e : Election) (old new : D) (bytes : List ℕ) (New : List Ballot → Type 0) (P : List ℕ → Type 0) (start : (c : List ℕ) → leaves_now model.calls model.may_leave old c → P c) (same : P bytes)
    (kept : (c : List ℕ) → IsKeptOr e New bytes c → P c) where
  unchanged : new ≡ old → LeavesOnly model.calls model.may_leave old new P
  unchanged is = subst (λ (d : D). LeavesOnly model.calls model.may_leave old d P) (sym is) (started model.calls model.may_leave old P start)

  read_only : SyncsFirst model.calls model.may_leave old new (λ image. image ≡ bytes) → LeavesOnly model.calls model.may_leave old new P
  read_only run = syncs_first model.calls model.may_leave old new P (λ image. image ≡ bytes) start (λ c is. subst P (sym is) same) run

  made : LeavesOnlyOnceSynced model.calls model.may_leave old new (IsKeptOr e New bytes) → LeavesOnly model.calls model.may_leave old new P
  made run = syncs_first model.calls model.may_leave old new P (IsKeptOr e New bytes) start kept (inl run)

module _ {D : Type 0} (model : DiskModel D) (e : Election) (one one_after two two_after : D) (a b : List ℕ) (sees : model.seen one ≡ Some a) (sees_two : model.seen two ≡ Some b) (leaves : LeavesPair model e one one_after two two_after) where
  pub first_left : (P : List ℕ → Type 0) → ((c : List ℕ) → leaves_now model.calls model.may_leave one c → P c) → P a → ((c : List ℕ) → IsKeptOr e (IsPairSet e a b) a c → P c) → LeavesOnly model.calls model.may_leave one one_after P
  first_left P start same kept =
      let New = IsPairSet e a b in
      ⊎_elim
      (λ (none : (one_after ≡ one) × (two_after ≡ two)). unchanged model e one one_after a New P start same kept none.0)
      (λ (some : PairLeaves model model e a b one one_after two two_after). ⊎_elim
      (λ failed. read_only model e one one_after a New P start same kept (inr failed.0))
      (λ rest. ⊎_elim
      (λ looked. read_only model e one one_after a New P start same kept (inl looked.0))
      (λ (both : BothKept model model e a b one one_after two two_after). made model e one one_after a New P start same kept both.0)
      rest)
      some)
      (leaves a b sees sees_two)

  pub second_left : (P : List ℕ → Type 0) → ((c : List ℕ) → leaves_now model.calls model.may_leave two c → P c) → P b → ((c : List ℕ) → IsKeptOr e (IsPairSet e a b) b c → P c) → LeavesOnly model.calls model.may_leave two two_after P
  second_left P start same kept =
      let New = IsPairSet e a b in
      ⊎_elim
      (λ (none : (one_after ≡ one) × (two_after ≡ two)). unchanged model e two two_after b New P start same kept none.1)
      (λ (some : PairLeaves model model e a b one one_after two two_after). ⊎_elim
      (λ failed. unchanged model e two two_after b New P start same kept failed.1)
      (λ rest. ⊎_elim
      (λ looked. ⊎_elim (λ none. unchanged model e two two_after b New P start same kept none) (λ run. read_only model e two two_after b New P start same kept run) looked.1)
      (λ (both : BothKept model model e a b one one_after two two_after). made model e two two_after b New P start same kept both.1)
      rest)
      some)
      (leaves a b sees sees_two)

-- what pairing makes of a disk that held a set, and of a lost one
pub kept_own : (e : Election) (a b bytes : List ℕ) (own : List Ballot) → IsElection e → HoldsSet e bytes own → (c : List ℕ) → IsKeptOr e (IsPairSet e a b) bytes c → HoldsOwnOr e a b own c
kept_own e a b bytes own valid held c kept = ⊎_elim
    (λ lost. absurd (unused_holds e bytes lost.0 own held))
    (λ rest. ⊎_elim
    (λ same.
    let both : Some same.0 ≡ Some own = one_held e bytes (Some same.0) (Some own) valid same.1 held in
    let is : same.0 ≡ own = cc in
    inl (subst (HoldsSet e c) is same.2))
    inr
    rest)
    kept

pub kept_lost : (e : Election) (a b bytes : List ℕ) → IsUnused e bytes → (c : List ℕ) → IsKeptOr e (IsPairSet e a b) bytes c → IsLostOr e a b c
kept_lost e a b bytes lost c kept = ⊎_elim
    (λ both. inl both.1)
    (λ rest. ⊎_elim (λ same. absurd (unused_holds e bytes lost same.0 same.1)) inr rest)
    kept
