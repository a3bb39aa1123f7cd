-- All media were looked at and recovered: what a session on the parts finds.
use Rattle.std.proofs.Common.{◌≡◌, ◌⊎◌, ◌<◌, ◌≤◌, ⊎_elim, ℕ, zero, suc, All, List, [], ◌∷◌, Some, get_or, inl, inr, length, Ok, refl, sym, ap, subst, ◌∙◌, arith}
use Rattle.store_spec.proofs.Common.{All-head, All-tail, All-weaker, AllZip, Ballot, DiskModel, Election, HoldsSet, IfSome, IsBallotSet, IsElection, IsWithinLimit, begun, get_or_from_slice_get, last_count, of_parts, share, slice_get}
use Rattle.any_store.specs.Checkpointed.{IsMediumNow}
use Rattle.any_store.specs.Disks.{store_model}
use Rattle.outside_io.specs.Outside.{Output}
use Rattle.parted_store.specs.Slots.{models_of, parted_disks, seen_in, slot_model}
use Rattle.part_commands.proofs.Behind.{WasOpened, from_either}
use Rattle.part_commands.proofs.Lifting.{acknowledged_along, one_back}
use Rattle.part_commands.specs.Handled.{only_held}
use Rattle.part_commands.specs.Part.{IsSeenFrom, disk_of}
use Rattle.partition_store.proofs.Shares.{joined_set, share_joined}
use Rattle.partition_store.proofs.SideBySide.{zip_at, zip_from, zip_to}
use Rattle.partition_store.specs.Opening.{HoldsThroughout, IsOpened, LooksThenRecovers, Recovers}
use Rattle.partition_store.specs.Parted.{IsPart, Parted, joined}
use Rattle.partition_store.specs.declared.fault.PartFault.{PartFault}
use Rattle.recovery.specs.Media.{HoldsIfTold}
use Rattle.recovery.specs.ReadsOnly.{WritesNothing}
use Rattle.run_outcome.specs.World.{nothing_reported}
use Rattle.session_commands.specs.Session.{with_report}
use Rattle.session_run.specs.Ends.{HasBegun}
use Rattle.session_run.specs.History.{Acknowledged, HoldsOne, column}

-- ---- a place at which there is a disk

module _ {D : Type 0} (model : DiskModel D) (e : Election) (set : List Ballot) where
  one_there : (disk : D) → HoldsOne (slot_model model) e set (Some disk) → HoldsOne model e set disk
  one_there disk one = record { bytes = one.bytes; seen = one.seen; held = one.held; images = one.images }

  one_in : (disk : D) → HoldsOne model e set disk → HoldsOne (slot_model model) e set (Some disk)
  one_in disk one = record { bytes = one.bytes; seen = one.seen; held = one.held; images = one.images }

  acknowledged_in : (old new : D) → Acknowledged model e set [] old new [] → Acknowledged (slot_model model) e set [] (Some old) (Some new) []
  acknowledged_in old new did = record {
    told = did.told;
    medium = record { settled = did.medium.settled; medium = did.medium.medium };
    marked = did.marked;
    crashes = λ one below. did.crashes (one_there old one) below;
    once_synced = λ bytes sees held below. let once = did.once_synced bytes sees held below in record { early = once.early; marked = once.marked; late = once.late };
    no_fault = did.no_fault;
  }

-- ---- the disk of one part

module _ {D : Type 0} (model : DiskModel D) (e : Election) (valid : IsElection e) (set : List Ballot) (start looked ready from : D × List D) where
  first_part : WasOpened model e set start.0 looked.0 ready.0
      → (disk_of from 0 ≡ disk_of looked 0) ⊎ ((disk_of from 0 ≡ disk_of start 0) × HoldsOne (models_of model model 0) e set start)
      → Acknowledged (models_of model model 0) e set [] from ready []
  first_part was either = acknowledged_along model (λ (disks : D × List D). disks.0) e set [] from ready []
      (from_either model e set start.0 looked.0 ready.0 valid was from.0 (⊎_elim
      (λ same. inl (let is : from.0 ≡ looked.0 = cc in is))
      (λ begins. inr (let is : from.0 ≡ start.0 = cc in is, one_back model (λ (disks : D × List D). disks.0) e set start begins.1))
      either))

  further_part : (k : ℕ) (x y z : D) → slice_get start.1 k ≡ Some x → slice_get looked.1 k ≡ Some y → slice_get ready.1 k ≡ Some z → WasOpened model e set x y z
      → (disk_of from (suc k) ≡ disk_of looked (suc k)) ⊎ ((disk_of from (suc k) ≡ disk_of start (suc k)) × HoldsOne (models_of model model (suc k)) e set start)
      → Acknowledged (models_of model model (suc k)) e set [] from ready []
  further_part k x y z at_start at_looked at_ready was either =
      acknowledged_along (slot_model model) (λ (disks : D × List D). slice_get disks.1 k) e set [] from ready []
      (⊎_elim
      (λ same. placed y (same ∙ at_looked) (from_either model e set x y z valid was y (inl refl)))
      (λ begins. placed x (begins.0 ∙ at_start) (from_either model e set x y z valid was x (inr (
        refl,
        one_there model e set x
            (subst (λ slot. HoldsOne (slot_model model) e set slot) at_start (one_back (slot_model model) (λ (disks : D × List D). slice_get disks.1 k) e set start begins.1)),
      ))))
      either)
    where
      placed : (d : D) → slice_get from.1 k ≡ Some d → Acknowledged model e set [] d z [] → Acknowledged (slot_model model) e set [] (slice_get from.1 k) (slice_get ready.1 k) []
      placed d at did =
          subst (λ slot. Acknowledged (slot_model model) e set [] slot (slice_get ready.1 k) []) (sym at)
          (subst (λ slot. Acknowledged (slot_model model) e set [] (Some d) slot []) (sym at_ready) (acknowledged_in model e set d z did))

-- ---- all parts

pub stands : {X : Type 0} (xs : List X) (k : ℕ) → k < length xs → (x : X) × (slice_get xs k ≡ Some x)
stands [] k lt = absurd (omega (arith, lt))
stands (x ∷ xs) zero lt = (x, refl)
stands (x ∷ xs) (suc k) lt = stands xs k (omega (arith, lt))

each_of : {X : Type 0} (P : X → Type 0) (xs : List X) (k : ℕ) (other : X) → P other → All P xs → P (get_or xs k other)
each_of P [] k other holds all = holds
each_of P (x ∷ xs) zero other holds all = All-head P x xs all
each_of P (x ∷ xs) (suc k) other holds all = each_of P xs k other holds (All-tail P x xs all)

no_column : (part : ℕ) → column [] [] part ≡ []
no_column zero = refl
no_column (suc k) = refl

module _ {D : Type 0} (model : DiskModel D) (e : Election) (valid : IsElection e) (one after : D) (more now : List D) (store : Parted) (opened : IsOpened model model e one after more now store)
    (looks : LooksThenRecovers {T = Parted} {E = PartFault} model model e (Ok store) one after more now) (throughout : HoldsThroughout model e one after) (others : AllZip (HoldsThroughout model e) more now) where
  abbrev pub set : List Ballot
  set = joined store.sets

  sets_are : (part : ℕ) → share store.bits part set ≡ get_or (opened.set ∷ opened.sets) part []
  sets_are part = share_joined store.bits part store.sets opened.parted.parts ∙ ap (λ (sets : List (List Ballot)). get_or sets part []) opened.are

  was_first : WasOpened model e opened.set one looks.looked.0 after
  was_first = record {
    reads = looks.reads;
    recovers = looks.recovers;
    medium = opened.medium;
    throughout = throughout;
    steady = looks.steady opened.all.no_fault;
    no_fault = opened.all.no_fault;
    called = looks.called;
  }

  -- a further part: its disk at the start, behind the looks and when all were recovered, and its set
  pub record WasFurther (k : ℕ) : Type 0 where
    pub start : D
    pub looked : D
    pub ready : D
    pub own : List Ballot
    pub at_start : slice_get more k ≡ Some start
    pub at_looked : slice_get looks.looked.1 k ≡ Some looked
    pub at_ready : slice_get now k ≡ Some ready
    pub is : share store.bits (suc k) set ≡ own
    pub held : HoldsIfTold model e start own
    pub was : WasOpened model e own start looked ready

  further : (k : ℕ) (x : D) → slice_get more k ≡ Some x → WasFurther k
  further k x at_x =
      let second = zip_to (WritesNothing model.seen model.calls model.may_leave) more looks.looked.1 k x looks.others_read at_x in
      let third = zip_to (Recovers model e) looks.looked.1 now k second.0 looks.others_recover second.1 in
      let own = zip_from (λ (set : List Ballot) (disk : D). IsMediumNow model e set disk) opened.sets now k third.0 opened.media third.1 in
      record {
        start = x;
        looked = second.0;
        ready = third.0;
        own = own.0;
        at_start = at_x;
        at_looked = second.1;
        at_ready = third.1;
        is = sets_are (suc k) ∙ get_or_from_slice_get opened.sets k own.0 [] own.1;
        held = zip_at (HoldsIfTold model e) more opened.sets k x own.0 opened.all.each at_x own.1;
        was = record {
          reads = second.2;
          recovers = third.2;
          medium = own.2;
          throughout = zip_at (HoldsThroughout model e) more now k x third.0 others at_x third.1;
          steady = zip_at (λ old new. model.faults new ≡ model.faults old) more looks.looked.1 k x second.0 (looks.others_steady opened.all.none_rose) at_x second.1;
          no_fault = zip_at (λ old new. model.faults new ≡ model.faults old) more now k x third.0 opened.all.none_rose at_x third.1;
          called = zip_at (λ old new. model.calls new < last_count → model.calls old < model.calls new) looks.looked.1 now k second.0 third.0 looks.others_called second.1 third.1;
        };
      }

  module _ (from : D × List D) (seen : IsSeenFrom model e store.bits set (one, more) looks.looked from) where
    acknowledged : (part : ℕ) → part ≤ length more → Acknowledged (models_of model model part) e (share store.bits part set) [] from (after, now) []
    acknowledged zero few =
        first_part model e valid (share store.bits 0 set) (one, more) looks.looked (after, now) from
        (subst (λ (own : List Ballot). WasOpened model e own one looks.looked.0 after) (sym (sets_are 0)) was_first) (seen.each 0 few)
    acknowledged (suc k) few =
        let there = stands more k (omega (arith, few)) in
        let one_more = further k there.0 there.1 in
        further_part model e valid (share store.bits (suc k) set) (one, more) looks.looked (after, now) from k one_more.start one_more.looked one_more.ready one_more.at_start one_more.at_looked one_more.at_ready
        (subst (λ (own : List Ballot). WasOpened model e own one_more.start one_more.looked one_more.ready) (sym one_more.is) one_more.was) (seen.each (suc k) few)

    -- the bytes are those of the start
    first_bytes : model.seen from.0 ≡ model.seen one
    first_bytes = ⊎_elim
        (λ same. let is : from.0 ≡ looks.looked.0 = cc in ap model.seen is ∙ looks.reads.same_bytes)
        (λ begins. let same = begins.0 in let is : from.0 ≡ one = cc in ap model.seen is)
        (seen.each 0 (omega arith))

    further_bytes : (k : ℕ) (was : WasFurther k) → k < length more → seen_in model.seen (slice_get from.1 k) ≡ model.seen was.start
    further_bytes k was few = ⊎_elim
        (λ same. ap (seen_in model.seen) (same ∙ was.at_looked) ∙ was.was.reads.same_bytes)
        (λ begins. ap (seen_in model.seen) (begins.0 ∙ was.at_start))
        (seen.each (suc k) (omega (arith, few)))

    held : (part : ℕ) → part ≤ length more → IfSome ((models_of model model part).seen from) (λ bytes. HoldsSet e bytes (share store.bits part set))
    held zero few =
        subst (λ (own : List Ballot). IfSome (model.seen from.0) (λ bytes. HoldsSet e bytes own)) (sym (sets_are 0))
        (subst (λ told. IfSome told (λ bytes. HoldsSet e bytes opened.set)) (sym first_bytes) opened.all.held)
    held (suc k) few =
        let there = stands more k (omega (arith, few)) in
        let was = further k there.0 there.1 in
        subst (λ (own : List Ballot). IfSome (seen_in model.seen (slice_get from.1 k)) (λ bytes. HoldsSet e bytes own)) (sym was.is)
        (subst (λ told. IfSome told (λ bytes. HoldsSet e bytes was.own)) (sym (further_bytes k was (omega (arith, few)))) was.held)

    within : (part : ℕ) → IsWithinLimit e (share store.bits part set)
    within part =
        subst (λ (own : List Ballot). IsWithinLimit e own) (sym (share_joined store.bits part store.sets opened.parted.parts))
        (each_of (λ (own : List Ballot). IsWithinLimit e own) store.sets part [] (omega arith)
        (All-weaker (IsPart store.election) (λ own. IsWithinLimit e own) (λ own is. subst (λ (e : Election). IsWithinLimit e own) opened.election is.1) store.sets opened.parted.sets))

    legal : IsBallotSet e set
    legal = joined_set e store.bits store.sets opened.parted.bits opened.parted.parts
        (All-weaker (IsPart store.election) (IsBallotSet e) (λ own is. subst (λ (e : Election). IsBallotSet e own) opened.election is.0) store.sets opened.parted.sets)

    pub begins : {K : Type 0} (sink : Output K) → HasBegun (store_model (of_parts store.bits) (parted_disks model model store.bits (length more))) e set (begun set)
        (with_report sink from nothing_reported) (with_report sink (after, now) (only_held (length set)))
    begins sink = record {
      held = held;
      legal = legal;
      within_limit = λ part few. within part;
      state_is = refl;
      sink = refl;
      acknowledged = (λ k d lt. absurd (omega (arith, lt)), λ part few. subst (λ marks. Acknowledged (models_of model model part) e (share store.bits part set) [] from (after, now) marks) (sym (no_column part)) (acknowledged part few));
      count = refl;
    }
