-- How a run of `part` ends: with media that are not opened, or with a session on the parts.
use Rattle.std.proofs.Common.{◌≡◌, ◌≤◌, ℕ, zero, suc, List, Result, Ok, Err, Some, inl, length, refl, sym, ap, subst, ◌∙◌, arith}
use Rattle.store_spec.proofs.Common.{AllZip, AllZip-long, Ballot, DiskModel, Election, IsElection, Rose, begun, leaves_now, of_parts}
use Rattle.any_store.specs.Disks.{store_model}
use Rattle.crash_disk.proofs.Moments.{started}
use Rattle.outside_io.specs.Outside.{Input, Output}
use Rattle.part_commands.proofs.Together.{begins, stands}
use Rattle.part_commands.specs.Handled.{Handles, only_held}
use Rattle.part_commands.specs.Part.{IsSeenFrom, PartsHaveBegun, IsStatusOf, PartEnds, part_model}
use Rattle.parted_store.specs.Slots.{models_of, parted_disks, slot_count}
use Rattle.partition_store.proofs.Opened.{only_looked}
use Rattle.partition_store.proofs.SideBySide.{zip_to}
use Rattle.partition_store.specs.Opening.{HoldsThroughout, IsOpened, KeepsMedium, LooksThenRecovers}
use Rattle.partition_store.specs.Parted.{Parted, bits_of, joined}
use Rattle.partition_store.specs.declared.fault.PartFault.{PartFault}
use Rattle.partition_store.specs.declared.fault.PartFault.TheVariants as faults
use Rattle.recovery.proofs.OneByOne.{zip_same}
use Rattle.recovery.specs.ReadsOnly.{WritesNothing}
use Rattle.run_outcome.specs.World.{Reported, nothing_reported}
use Rattle.run_outcome.specs.declared.status.Status.{Status}
use Rattle.run_outcome.specs.declared.status.Status.TheVariants as status
use Rattle.session_commands.specs.Session.{with_report}
use Rattle.session_run.specs.Ends as session
use Rattle.session_run.specs.declared.fault.RunFault.{RunFault}
use Rattle.session_run.specs.declared.fault.RunFault.TheVariants as run

-- ---- before anything was done

module _ {D : Type 0} (model : DiskModel D) (e : Election) where
  wrote_nothing : (disk : D) → WritesNothing model.seen model.calls model.may_leave disk disk
  wrote_nothing disk = record {
    same_bytes = refl;
    still = λ image left. left;
    any_moment = started model.calls model.may_leave disk (leaves_now model.calls model.may_leave disk) (λ image left. left);
  }

  kept : (disk : D) → KeepsMedium model e disk disk
  kept disk = record { told = refl; related = λ x y was is. inl (let same : Some y ≡ Some x = sym is ∙ was in cc) }

  -- there was no memory
  pub no_memory : {S K : Type 0} (report : Reported) (old : Input S) (sink : Output K) (one : D) (more : List D) → report ≡ nothing_reported → PartEnds model e status.Memory report old old sink sink one one more more
  no_memory report old sink one more nothing = inl (record {
    fault = faults.Memory;
    is = refl;
    against = (refl, zip_same (λ old new. model.faults new ≡ model.faults old) (λ disk. refl) more);
    leaves = (kept one, zip_same (KeepsMedium model e) kept more);
    unwritten = inl (wrote_nothing one, zip_same (WritesNothing model.seen model.calls model.may_leave) wrote_nothing more);
    crashes = only_looked {T = Parted} {E = PartFault} model model e (Err faults.Memory) (λ fault. Unit {0}) one one more more tt (wrote_nothing one) (zip_same (WritesNothing model.seen model.calls model.may_leave) wrote_nothing more);
    script = refl;
    nothing_written = refl;
    reported = nothing;
  })

-- ---- a session

module _ {D : Type 0} (model : DiskModel D) (one ready after : D) (more ready_more now : List D) (no_fault : model.faults ready ≡ model.faults one) (none_rose : AllZip (λ old new. model.faults new ≡ model.faults old) more ready_more) where
  -- no count of faults rose until all were opened
  same_faults : (i : ℕ) → i ≤ length more → (models_of model model i).faults (ready, ready_more) ≡ (models_of model model i).faults (one, more)
  same_faults zero few = no_fault
  same_faults (suc k) few =
      let there = stands more k (omega (arith, few)) in
      let then = zip_to (λ old new. model.faults new ≡ model.faults old) more ready_more k there.0 none_rose there.1 in
      ap (slot_count model.faults) then.1 ∙ then.2 ∙ sym (ap (slot_count model.faults) there.1)

  size : length ready_more ≡ length more
  size = AllZip-long (λ old new. model.faults new ≡ model.faults old) more ready_more none_rose

  status_so : (answer : Result (Unit {0}) RunFault) (a : Status) → IsStatusOf model answer a ready after ready_more now → IsStatusOf model answer a one after more now
  status_so (Err run.DiskFault) a is =
      let few : is.0 ≤ length more = subst (λ n. is.0 ≤ n) size is.2.blamed.within in (
        is.0,
        is.1,
        record {
          blamed = record {
            within = few;
            told = refl;
            rose = subst (λ n. Rose n ((models_of model model is.0).faults (after, now))) (same_faults is.0 few) is.2.blamed.rose;
          };
          others = λ j within other. is.2.others j (subst (λ n. j ≤ n) (sym size) within) other ∙ same_faults j within;
        },
      )
  status_so (Ok done) a is = is
  status_so (Err other) a is = is

module _ {D : Type 0} (model : DiskModel D) (e : Election) (one ready after : D) (more ready_more now : List D) (store : Parted) (valid : IsElection e) (opened : IsOpened model model e one ready more ready_more store)
    (looks : LooksThenRecovers {T = Parted} {E = PartFault} model model e (Ok store) one ready more ready_more) (throughout : HoldsThroughout model e one ready) (others : AllZip (HoldsThroughout model e) more ready_more)
    (bits : store.bits ≡ bits_of (length more)) where
  pub has_begun : {S K : Type 0} (a : Status) (report : Reported) (old new : Input S) (sink sunk : Output K) → Handles model e (joined store.sets) a report old new sink sunk ready after ready_more now
      → PartsHaveBegun model e a report old new sink sunk one after more now
  has_begun {S} {K} a report old new sink sunk handles = record {
    looked = looks.looked;
    reads = looks.reads;
    others_read = looks.others_read;
    steady = looks.steady opened.all.no_fault;
    others_steady = looks.others_steady opened.all.none_rose;
    set = set;
    answer = handles.answer;
    is = status_so model one ready after more ready_more now opened.all.no_fault opened.all.none_rose handles.answer a handles.is;
    goes_on = λ from seen.
        subst (Goes from) same (handles.goes_on from (seen.size ∙ sym same))
        (subst (λ bits. Begins bits from) bits (begins model e valid one ready more ready_more store opened looks throughout others from (subst (λ bits. IsSeenFrom model e bits set (one, more) looks.looked from) (sym bits) seen) sink));
    rows = handles.rows;
    no_pair = handles.no_pair;
  }
    where
      set : List Ballot
      set = joined store.sets

      same : length ready_more ≡ length more
      same = size model one ready after more ready_more now opened.all.no_fault opened.all.none_rose

      Begins : ℕ → D × List D → Type 0
      Begins bits from = session.HasBegun (store_model (of_parts bits) (parted_disks model model bits (length more))) e set (begun set) (with_report sink from nothing_reported) (with_report sink (ready, ready_more) (only_held (length set)))

      Goes : D × List D → ℕ → Type 0
      Goes from n = session.HasBegun (part_model model n) e set (begun set) (with_report sink from nothing_reported) (with_report sink (ready, ready_more) (only_held (length set)))
          → session.BegunWith (part_model model n) (λ text. text) e set handles.answer old new (with_report sink from nothing_reported) (with_report sunk (after, now) report)
