-- One more checkpoint of a session.
use Rattle.std.proofs.Common.{◌≡◌, ℕ, ◌+◌, ◌<◌, ◌≤◌, List, [], ◌∷◌, ◌++◌, map, length, Option, Some, None, refl, arith, ap, sym, subst, ◌∙◌, ◌⊎◌, inl, inr, ⊎_elim}
use Rattle.store_spec.proofs.Common.{All-push, Ballot, DiskModel, EachCrashImage, Election, HoldsAcknowledged, HoldsOneOf, HoldsSet, IfSome, IsElection, IsMediumOf, LeavesMediumOf, LeavesOnly, Rose, after_calls, append-nil, cases_lt, inside_next, is_some, last_count, leaves_now, length-map-range_with_len, map-append}
use Rattle.std.specs.Prelude.{All}
use Rattle.image_builder.proofs.Held.{medium_holds}
use Rattle.any_store.specs.Beside.{further_calls}
use Rattle.any_store.specs.Checkpointed.{Attempted, Checkpointed, FailsCheckpoint, HoldsEither, IsMediumNow, IsUncalled}
use Rattle.phase_gate.specs.Beside.{AddsRow}
use Rattle.phase_gate.specs.Checkpointed.{Acknowledges}
use Rattle.any_store.specs.Disks.{StoreDisks}
use Rattle.any_store.specs.Disks.StoreDisks.{Alone, Parted}
use Rattle.session_run.proofs.Rows.{a_row, column_then, no_row}
use Rattle.session_run.proofs.Stops.{acknowledged_more, acknowledged_tried, first_of, marks_more, marks_stay, marks_within, second_of}
use Rattle.session_run.specs.History.{Acknowledged, AreAcknowledged, AreMarks, AreTried, FailsOnOne, Tried, column, latest}

pub latest_more : (set : List Ballot) (sets : List (List Ballot)) (next : List Ballot)
    → latest set (sets ++ next ∷ []) ≡ next
latest_more set [] next = refl
latest_more set (x ∷ sets) next = latest_more x sets next

-- the share of the latest set is the latest share
latest_share : (part : List Ballot → List Ballot) (set : List Ballot) (sets : List (List Ballot))
    → part (latest set sets) ≡ latest (part set) (map part sets)
latest_share part set [] = refl
latest_share part set (x ∷ sets) = latest_share part x sets

-- ---- a checkpoint that failed on one disk, and the others

module _ {D : Type 0} (model : DiskModel D) (e : Election) where
  -- one that ended well was begun
  attempted_if_done : (next : List Ballot) (old new : D) → Checkpointed model e next old new
      → Attempted model e next old new
  attempted_if_done next old new did = record { told = did.told; crashes = did.crashes; later = did.later }

  -- a disk that was not called is still the medium of its set
  medium_if_uncalled : (set : List Ballot) (old new : D) → IsMediumNow model e set old → IsUncalled model old new
      → IsMediumNow model e set new
  medium_if_uncalled set old new was same = record {
    settled = λ image. (
      (λ left. same.seen ∙ (was.settled image).0 ((same.images (after_calls (model.calls old)) image).0
          (subst (λ n. model.may_leave new (after_calls n) image) same.calls left))),
      (λ sees. subst (λ n. model.may_leave new (after_calls n) image) (sym same.calls)
          ((same.images (after_calls (model.calls old)) image).1 ((was.settled image).1 (sym same.seen ∙ sees)))),
    );
    medium = subst (λ o. IfSome o (λ x. IsMediumOf e x set)) (sym same.seen) was.medium;
  }

  -- and a crash leaves of it what it might have left
  attempted_if_uncalled : IsElection e → (set next : List Ballot) (old new : D) → IsMediumNow model e set old
      → IsUncalled model old new → Attempted model e next old new
  attempted_if_uncalled election set next old new was same = record {
    told = ap is_some same.seen;
    later = omega (arith, same.calls);
    crashes = λ bytes before sees medium.
        let one : (image : List ℕ) → model.may_leave old (after_calls (model.calls old)) image → HoldsSet e image before
        = λ image left. let is : bytes ≡ image = some_is (sym sees ∙ (was.settled image).0 left) in
        subst (λ x. HoldsSet e x before) is (medium_holds e bytes before election medium) in
        record {
          later = omega (arith, same.calls);
          past = λ below m le image. same.images m image;
          each = λ below m low high image left.
              let is : m ≡ after_calls (model.calls old) = omega (arith, low, high, same.calls) in
              inl (one image (subst (λ m. model.may_leave old m image) is ((same.images m image).0 left)));
          now = λ image left. inl (one image ((same.images (after_calls (model.calls old)) image).0
              (subst (λ n. model.may_leave new (after_calls n) image) same.calls left)));
        };
  }
    where
      some_is : {a b : List ℕ} → Some a ≡ Some b → a ≡ b
      some_is is = cc

-- what is told now was told before
told_too : (was now : Option (List ℕ)) (bytes : List ℕ) → is_some now ≡ is_some was → was ≡ Some bytes
    → (x : List ℕ) × (now ≡ Some x)
told_too was None bytes told is = absurd (let some = told ∙ ap is_some is in cc)
told_too was (Some x) bytes told is = (x, refl)

medium_at : (e : Election) (set : List Ballot) (seen : Option (List ℕ)) (bytes : List ℕ) → seen ≡ Some bytes
    → IfSome seen (λ x. IsMediumOf e x set) → IsMediumOf e bytes set
medium_at e set seen bytes is medium = subst (λ o. IfSome o (λ x. IsMediumOf e x set)) is medium

module _ {D : Type 0} (model : DiskModel D) (e : Election) (election : IsElection e) where
  -- a disk that is the medium of a set leaves that
  leaves_medium : (set : List Ballot) (disk : D) → IsMediumNow model e set disk
      → LeavesMediumOf e (model.may_leave disk) (model.calls disk) set
  leaves_medium set disk now =
      λ image left. medium_at e set (model.seen disk) image ((now.settled image).0 left) now.medium

  ends_there : (set : List Ballot) (disk : D) → IsMediumNow model e set disk
      → HoldsOneOf e (model.may_leave disk) (model.calls disk) (model.calls disk) (set ∷ [])
  ends_there set disk now = λ m low high image left.
      let is : m ≡ after_calls (model.calls disk) = omega arith in
      first_of (HoldsSet e image) set [] (medium_holds e image set election
      (leaves_medium set disk now image (subst (λ t. model.may_leave disk t image) is left)))

  module _ (set : List Ballot) (sets : List (List Ballot)) (before mid : D) (marks : List ℕ)
      (so_far : Acknowledged model e set sets before mid marks) where
    -- how the disk goes on in a checkpoint, where it tells its bytes
    going : (next : List Ballot) (now : D) → HoldsEither model e next mid now
        → (bytes : List ℕ) → model.seen before ≡ Some bytes
        → LeavesOnly model.calls model.may_leave mid now
        (λ image. HoldsSet e image (latest set sets) ⊎ HoldsSet e image next)
    going next now crashes bytes sees =
        let seen = told_too (model.seen before) (model.seen mid) bytes so_far.told sees in
        crashes seen.0 (latest set sets) seen.1 (medium_at e (latest set sets) (model.seen mid) seen.0 seen.1
        so_far.medium.medium)

    -- what was early stays so
    early_still : (now : D) (P : List ℕ → Type 0) → LeavesOnly model.calls model.may_leave mid now P
        → model.calls now < last_count → AreMarks (model.calls before + 1) marks sets (model.calls mid)
        → EachCrashImage (model.may_leave mid) (after_calls (model.calls before)) (inside_next (model.calls before))
        (leaves_now model.calls model.may_leave before)
        → EachCrashImage (model.may_leave now) (after_calls (model.calls before)) (inside_next (model.calls before))
        (leaves_now model.calls model.may_leave before)
    early_still now P run below marked early = λ m low high image left.
        let within : model.calls before + 1 ≤ model.calls mid =
        marks_within (model.calls before + 1) marks sets (model.calls mid) marked in
        early m low high image ((run.past below m (omega arith) image).0 left)

    late : (next : List Ballot) (now : D)
        → LeavesOnly model.calls model.may_leave mid now
        (λ image. HoldsSet e image (latest set sets) ⊎ HoldsSet e image next) → model.calls now < last_count
        → HoldsOneOf e (model.may_leave now) (model.calls mid) (model.calls now) (latest set sets ∷ next ∷ [])
    late next now run below = λ m low high image left. ⊎_elim
        (first_of (HoldsSet e image) (latest set sets) (next ∷ []))
        (second_of (HoldsSet e image) (latest set sets) next [])
        (run.each below m low high image left)

    -- one set more was acknowledged, told from any moment on
    acknowledges : (from : ℕ) (next : List Ballot) (now : D) → Checkpointed model e next mid now
        → (bytes : List ℕ) → model.seen before ≡ Some bytes → model.calls now < last_count
        → AreMarks from marks sets (model.calls mid)
        → HoldsAcknowledged e (model.may_leave mid) from set marks sets [] (model.calls mid)
        → HoldsAcknowledged e (model.may_leave now) from set (marks ++ model.calls now ∷ []) (sets ++ next ∷ []) []
        (model.calls now)
    acknowledges from next now did bytes sees below marked was =
        let run = going next now did.crashes bytes sees in
        acknowledged_more e (model.may_leave mid) (model.may_leave now) (model.calls mid) (model.calls now)
        (λ m le c. (run.past below m le c).0) did.later from set marks sets next marked was
        (late next now run below) (leaves_medium next now did.now) (ends_there next now did.now)

    -- a checkpoint of one set more failed
    tries : (from : ℕ) (next : List Ballot) (now : D) → Attempted model e next mid now
        → (bytes : List ℕ) → model.seen before ≡ Some bytes → model.calls now < last_count
        → AreMarks from marks sets (model.calls mid)
        → HoldsAcknowledged e (model.may_leave mid) from set marks sets [] (model.calls mid)
        → HoldsAcknowledged e (model.may_leave now) from set marks sets (next ∷ []) (model.calls now)
    tries from next now failed bytes sees below marked was =
        let run = going next now failed.crashes bytes sees in
        acknowledged_tried e (model.may_leave mid) (model.may_leave now) (model.calls mid) (model.calls now)
        (λ m le c. (run.past below m le c).0) failed.later from set marks sets next marked was
        (late next now run below)

    pub checkpointed : (next : List Ballot) (now : D) → Checkpointed model e next mid now
        → Acknowledged model e set (sets ++ next ∷ []) before now (marks ++ model.calls now ∷ [])
    checkpointed next now did = record {
      told = did.told ∙ so_far.told;
      medium = subst (λ s. IsMediumNow model e s now) (sym (latest_more set sets next)) did.now;
      marked =
          marks_more (model.calls before) marks sets (model.calls mid) (model.calls now) next so_far.marked did.later;
      crashes = λ one below. acknowledges (model.calls before) next now did one.bytes one.seen below so_far.marked
          (so_far.crashes one (omega (arith, did.later)));
      once_synced = λ bytes sees held below.
          let was = so_far.once_synced bytes sees held (omega (arith, did.later)) in
          record {
            early = early_still now (λ image. HoldsSet e image (latest set sets) ⊎ HoldsSet e image next)
                (going next now did.crashes bytes sees) below was.marked was.early;
            marked = marks_more (model.calls before + 1) marks sets (model.calls mid) (model.calls now) next was.marked
                did.later;
            late = acknowledges (model.calls before + 1) next now did bytes sees below was.marked was.late;
          };
      no_fault = did.no_fault ∙ so_far.no_fault;
    }

    -- one set more was tried
    pub tried : (next : List Ballot) (now : D) → Attempted model e next mid now
        → Tried model e set before now marks sets next
    tried next now failed = record {
      told = failed.told ∙ so_far.told;
      marked = marks_stay (model.calls before) marks sets (model.calls mid) (model.calls now) so_far.marked failed.later;
      crashes = λ one below. tries (model.calls before) next now failed one.bytes one.seen below so_far.marked
          (so_far.crashes one (omega (arith, failed.later)));
      once_synced = λ bytes sees held below.
          let was = so_far.once_synced bytes sees held (omega (arith, failed.later)) in
          record {
            early = early_still now (λ image. HoldsSet e image (latest set sets) ⊎ HoldsSet e image next)
                (going next now failed.crashes bytes sees) below was.marked was.early;
            marked = marks_stay (model.calls before + 1) marks sets (model.calls mid) (model.calls now) was.marked
                failed.later;
            late = tries (model.calls before + 1) next now failed bytes sees below was.marked was.late;
          };
    }

-- ---- on the disks of a store

module _ {D : Type 0} (e : Election) (election : IsElection e) (set : List Ballot) (before mid now : D) where
  -- what a line acknowledged, or nothing
  pub acknowledged_then : (disks : StoreDisks D) (sets next : List (List Ballot)) (begun : Option (ℕ × ℕ))
      (marks marks_now : List ℕ) (rows rows_now : List (List ℕ))
      → AreAcknowledged disks e set sets before mid marks rows → Acknowledges disks e next mid now marks marks_now
      → AddsRow disks now begun marks marks_now rows rows_now
      → AreAcknowledged disks e set (sets ++ next) before now marks_now rows_now
  acknowledged_then disks sets [] begun marks marks_now rows rows_now so_far same adds =
      let unadded = no_row disks now begun marks marks_now rows rows_now adds same.1 in
      subst (λ (s : List (List Ballot)). AreAcknowledged disks e set s before now marks_now rows_now)
      (sym (append-nil sets))
      (subst (λ (d : D). AreAcknowledged disks e set sets before d marks_now rows_now) (sym same.0)
      (subst (λ (m : List ℕ). AreAcknowledged disks e set sets before mid m rows_now) (sym same.1)
      (subst (λ (r : List (List ℕ)). AreAcknowledged disks e set sets before mid marks r) (sym unadded) so_far)))
  acknowledged_then (Alone model) sets (one ∷ []) begun marks marks_now rows rows_now so_far did adds =
      subst (λ (m : List ℕ). Acknowledged model e set (sets ++ one ∷ []) before now m) (sym did.1)
      (checkpointed model e election set sets before mid marks so_far one now did.0)
  acknowledged_then (Parted more models parts) sets (one ∷ []) begun marks marks_now rows rows_now (whole, so_far) (did, marked) adds =
      let row = further_calls more models now in
      let added = (a_row (Parted more models parts) now begun marks marks_now rows rows_now adds ((models 0).calls now) marked).1 in (
        subst (All (λ row. length row ≡ more)) (sym added)
            (All-push (λ row. length row ≡ more) rows row whole
            (length-map-range_with_len (λ i. (models i).calls now) 1 more)),
        λ i within.
            let is : column marks_now rows_now i ≡ column marks rows i ++ (models i).calls now ∷ []
            = ap (λ m. column m rows_now i) marked ∙ ap (λ r. column (marks ++ (models 0).calls now ∷ []) r i) added
            ∙ column_then more models now marks rows i within in
            subst (λ m. Acknowledged (models i) e (parts i set) (map (parts i) (sets ++ one ∷ [])) before now m) (sym is)
            (subst (λ (s : List (List Ballot)). Acknowledged (models i) e (parts i set) s before now
            (column marks rows i ++ (models i).calls now ∷ [])) (sym (map-append (parts i) sets (one ∷ [])))
            (checkpointed (models i) e election (parts i set) (map (parts i) sets) before mid (column marks rows i)
            (so_far i within) (parts i one) now (did i within))),
      )
  acknowledged_then disks sets (one ∷ two ∷ next) begun marks marks_now rows rows_now so_far did adds = absurd did

  -- a checkpoint that failed
  pub tried_then : (disks : StoreDisks D) (sets : List (List Ballot)) (next : List Ballot) (marks : List ℕ)
      (rows : List (List ℕ)) → AreAcknowledged disks e set sets before mid marks rows
      → FailsCheckpoint disks e next mid now → AreTried disks e set before now marks rows sets next
  tried_then (Alone model) sets next marks rows so_far failed =
      tried model e election set sets before mid marks so_far next now failed.attempted
  tried_then (Parted more models parts) sets next marks rows (whole, so_far) (i, failed) = (
    whole,
    λ j within. tried (models j) e election (parts j set) (map (parts j) sets) before mid (column marks rows j)
        (so_far j within) (parts j next) now (attempted j within (cases_lt j i)),
  )
    where
      attempted : (j : ℕ) → j ≤ more → (j < i) ⊎ (i ≤ j) → Attempted (models j) e (parts j next) mid now
      attempted j within (inl before_it) = attempted_if_done (models j) e (parts j next) mid now (failed.done j before_it)
      attempted j within (inr from_it) = ⊎_elim
          (λ (behind : i < j). attempted_if_uncalled (models j) e election _ (parts j next) mid now
          (so_far j within).medium (failed.uncalled j behind within))
          (λ (le : j ≤ i). let is : i ≡ j = omega (arith, from_it, le) in
          subst (λ k. Attempted (models k) e (parts k next) mid now) is failed.failed.attempted)
          (cases_lt i j)

  -- one of them failed since then
  pub rose_then : (disks : StoreDisks D) (sets : List (List Ballot)) (next : List Ballot) (marks : List ℕ)
      (rows : List (List ℕ)) → AreAcknowledged disks e set sets before mid marks rows
      → FailsCheckpoint disks e next mid now → FailsOnOne disks e (latest set sets) next before now
  rose_then (Alone model) sets next marks rows so_far failed =
      subst (λ n. Rose n (model.faults now)) so_far.no_fault failed.rose
  rose_then (Parted more models parts) sets next marks rows (whole, so_far) (i, failed) = (
    i,
    record {
      within = failed.within;
      rose = subst (λ n. Rose n ((models i).faults now)) (so_far i failed.within).no_fault failed.failed.rose;
      steady = λ j other within. ⊎_elim
          (λ (before_it : j < i). (failed.done j before_it).no_fault)
          (λ (from_it : i ≤ j). ⊎_elim (λ (behind : i < j). (failed.uncalled j behind within).faults)
          (λ (le : j ≤ i). absurd (other (omega (arith, from_it, le)))) (cases_lt i j))
          (cases_lt j i) ∙ (so_far j within).no_fault;
      done = λ j before_it. (failed.done j before_it).now;
      uncalled = λ j behind within. subst (λ s. IsMediumNow (models j) e s now) (sym (latest_share (parts j) set sets))
          (medium_if_uncalled (models j) e _ mid now (so_far j within).medium (failed.uncalled j behind within));
    },
  )
