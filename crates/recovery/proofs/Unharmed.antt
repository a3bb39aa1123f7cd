-- A recovery that gives no store leaves the medium unharmed.
use Rattle.std.proofs.Common.{◌≡◌, ℕ, List, Some, Result, Ok, Err, inl, inr, ◌∙◌, ◌⊎◌, ⊎_elim}
use Rattle.store_spec.proofs.Common.{AddsNoCrashImage, Ballot, Bank, DiskModel, Election, HoldsSet, IfErr, IfSome, LeavesOnly, leaves_now}
use Rattle.crash_disk.proofs.Moments.{joined, one_call, weaker}
use Rattle.outside_io.proofs.Told.{told_holds}
use Rattle.recovery.proofs.Agreeing.{read_holds}
use Rattle.recovery.proofs.OnlyReading.{nothing_joined}
use Rattle.recovery.specs.Canonical.{IsReadAs}
use Rattle.recovery.specs.ReadsOnly.{WritesNothing}
use Rattle.recovery.specs.Refused.{HoldsSetOf, IsUnharmedAt}
use Rattle.recovery.specs.declared.fault.RecoverFault.{RecoverFault}
use Rattle.recovery.specs.declared.fault.RecoverFault.TheVariants.{NoStore, OtherElection, Damaged, DiskFault, Memory}

-- what holds of every fault holds of the one that is answered
pub each_fault : {T : Type 0} (r : Result T RecoverFault) (P : RecoverFault → Type 0) → ((fault : RecoverFault) → P fault)
    → IfErr r P
each_fault (Ok x) P holds = tt
each_fault (Err fault) P holds = holds fault

module _ {D : Type 0} (model : DiskModel D) (e : Election) (bytes : List ℕ) where
  -- what a crash may leave at the start, or what holds the set that was read
  abbrev Spared : D → List ℕ → Type 0
  Spared old image = leaves_now model.calls model.may_leave old image ⊎ HoldsSetOf e bytes image

  -- nothing new is left, whatever the fault
  pub unharmed : (fault : RecoverFault) (old new : D)
      → LeavesOnly model.calls model.may_leave old new (leaves_now model.calls model.may_leave old)
      → IsUnharmedAt model e bytes fault old new
  unharmed NoStore old new run = run
  unharmed (OtherElection header) old new run = run
  unharmed (Damaged cell) old new run = run
  unharmed Memory old new run = run
  unharmed DiskFault old new run = weaker model.calls model.may_leave old new
      (leaves_now model.calls model.may_leave old) (Spared old) (λ c left. inl left) run

  -- the first sync failed
  pub unsynced : (fault : RecoverFault) (old new : D) → AddsNoCrashImage model.calls model.may_leave old new
      → IsUnharmedAt model e bytes fault old new
  unsynced fault old new adds = unharmed fault old new
      (one_call model.calls model.may_leave old new (leaves_now model.calls model.may_leave old) (λ c left. left) adds)

  -- it succeeded, and what follows leaves the medium unharmed
  pub synced : (fault : RecoverFault) (old mid new : D) → AddsNoCrashImage model.calls model.may_leave old mid
      → IsUnharmedAt model e bytes fault mid new → IsUnharmedAt model e bytes fault old new
  synced fault old mid new adds = from fault
    where
      first : (P : List ℕ → Type 0) → ((c : List ℕ) → leaves_now model.calls model.may_leave old c → P c)
          → LeavesOnly model.calls model.may_leave old mid P
      first P start = one_call model.calls model.may_leave old mid P start adds

      early : (c : List ℕ) → leaves_now model.calls model.may_leave mid c
          → leaves_now model.calls model.may_leave old c
      early c left = adds.after c left

      still : LeavesOnly model.calls model.may_leave mid new (leaves_now model.calls model.may_leave mid)
          → LeavesOnly model.calls model.may_leave old new (leaves_now model.calls model.may_leave old)
      still run = joined model.calls model.may_leave old mid new (leaves_now model.calls model.may_leave old)
          (first (leaves_now model.calls model.may_leave old) (λ c left. left))
          (weaker model.calls model.may_leave mid new (leaves_now model.calls model.may_leave mid)
          (leaves_now model.calls model.may_leave old) early run)

      from : (fault : RecoverFault) → IsUnharmedAt model e bytes fault mid new
          → IsUnharmedAt model e bytes fault old new
      from NoStore run = still run
      from (OtherElection header) run = still run
      from (Damaged cell) run = still run
      from Memory run = still run
      from DiskFault run = joined model.calls model.may_leave old mid new (Spared old)
          (first (Spared old) (λ c left. inl left))
          (weaker model.calls model.may_leave mid new (Spared mid) (Spared old)
          (λ c. ⊎_elim (λ left. inl (early c left)) (λ holds. inr holds)) run)

  -- the bank was read, and the disk failed while the other one was made to agree
  pub half_restored : (set : List Ballot) (old one two new : D) (bank : Bank)
      → WritesNothing model.seen model.calls model.may_leave old one
      → WritesNothing model.seen model.calls model.may_leave one two → model.seen old ≡ Some bytes
      → IfSome (model.seen one) (λ x. IsReadAs e x bank set)
      → ((x : List ℕ) → model.seen two ≡ Some x
      → LeavesOnly model.calls model.may_leave two new (λ c. HoldsSet e c set))
      → IsUnharmedAt model e bytes DiskFault old new
  half_restored set old one two new bank first next sees read run =
      let reads = nothing_joined model.seen model.calls model.may_leave old one two first next in
      let found = told_holds (λ x. IsReadAs e x bank set) bytes (first.same_bytes ∙ sees) read in
      let held = read_holds e set bank bytes found in
      joined model.calls model.may_leave old two new (Spared old)
      (weaker model.calls model.may_leave old two (leaves_now model.calls model.may_leave old) (Spared old)
      (λ c left. inl left) reads.any_moment)
      (weaker model.calls model.may_leave two new (λ c. HoldsSet e c set) (Spared old)
      (λ c holds. inr (set, held, holds)) (run bytes (reads.same_bytes ∙ sees)))
