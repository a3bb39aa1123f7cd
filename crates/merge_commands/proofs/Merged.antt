-- How a merge ends: the status of media that are not merged, and what came of telling that they were.
use Rattle.std.proofs.Common.{◌≡◌, ℕ, List, Result, Some, inl, inr, refl, sym, subst, ◌∙◌}
use Rattle.store_spec.proofs.Common.{CountsFault, DiskModel, Election, HoldsSet, IfErr, OnErr, OnOk}
use Rattle.merge_commands.specs.Merge.{MergeWrites, MergesNone, merge_status, merged_text}
use Rattle.merge_media.specs.Merging.{MergeRefuses, Merges}
use Rattle.merge_media.specs.declared.fault.MergeFault.{MergeFault}
use Rattle.merge_media.specs.declared.fault.MergeFault.TheVariants.{Target, OtherFault, Other, Dispute, TooMany, DiskFault, Memory}
use Rattle.outside_io.proofs.Told.{told_holds}
use Rattle.outside_io.specs.Outside.{Output}
use Rattle.outside_io.specs.Stream.{TakesAll, TakesSome}
use Rattle.recovery.proofs.OneByOne.{zip_same}
use Rattle.recovery.specs.declared.fault.RecoverFault.TheVariants as recover
use Rattle.run_outcome.proofs.Laws.{ended_told}
use Rattle.run_outcome.specs.Status.{ended}
use Rattle.run_outcome.specs.declared.status.Status.{Status}
use Rattle.run_outcome.specs.declared.status.Status.TheVariants as status
use Rattle.run_outcome.specs.declared.status.Status.TheVariants.{WriteFault}

-- it tells why they are not
pub refused_none : {D : Type 0} (model : DiskModel D) (e : Election) (before after : D) (more now : List D) (fault : MergeFault)
    → MergeRefuses model model e before after more now fault → MergesNone model e (merge_status fault) before after more now
refused_none model e before after more now (Target recover.NoStore) refused = refused
refused_none model e before after more now (Target (recover.OtherElection header)) refused = refused
refused_none model e before after more now (Target (recover.Damaged cell)) refused = refused
refused_none model e before after more now (Target recover.DiskFault) refused = inl refused
refused_none model e before after more now (Target recover.Memory) refused = absurd (refused.0.no_memory refl)
refused_none model e before after more now (OtherFault index) refused = refused
refused_none model e before after more now (Other index why) refused = refused
refused_none model e before after more now (Dispute number) refused = refused
refused_none model e before after more now (TooMany count) refused = refused
refused_none model e before after more now DiskFault refused = inr refused
refused_none model e before after more now Memory refused =
    (refused.0, refused.1, record { told = refused.2.told; related = λ x y was is. inl (refused.2.related x y was is) })

-- nothing was called
pub none_begun : {D : Type 0} (model : DiskModel D) (e : Election) (disk : D) (more : List D) → MergesNone model e status.Memory disk disk more more
none_begun model e disk more = (
  refl,
  zip_same (λ old new. model.faults new ≡ model.faults old) (λ disk. refl) more,
  record { told = refl; related = λ x y was is. inl (inl (let both : Some y ≡ Some x = sym is ∙ was in cc)) },
)

-- memory ran out for the line that tells it
pub none_told : {D : Type 0} (model : DiskModel D) (e : Election) (before after : D) (more now : List D) (count : ℕ) → Merges model model e before after more now count → MergesNone model e status.Memory before after more now
none_told model e before after more now count merges = (
  merges.no_fault,
  merges.none_rose,
  record {
    told = merges.medium.told;
    related = λ x y was is. inr (merges.set, merges.sets, told_holds (λ x. HoldsSet e x merges.set) x was merges.held, merges.each, merges.union, merges.is, merges.medium.related x y was is);
  },
)

-- they were, and the sink took the line that tells it, or some first part of it
pub told_merged : {K D : Type 0} (model : DiskModel D) (e : Election) (r : Result (Unit {0}) Status) (old new : Output K) (before after : D) (more now : List D) (count : ℕ) (text : List ℕ)
    → Merges model model e before after more now count → text ≡ merged_text count
    → OnOk r (TakesAll old.taken text new.taken) → OnErr r (TakesSome old.taken text new.taken) → IfErr r (λ status. status ≡ WriteFault) → CountsFault r old.faults new.faults
    → MergeWrites model e (ended r) old new before after more now
told_merged model e r old new before after more now count text merges is all some failed fault =
    ended_told r (TakesAll old.taken text new.taken) (TakesSome old.taken text new.taken) old.faults new.faults (λ status. MergeWrites model e status old new before after more now) all some failed fault
    (λ told steady. (record { count = count; merges = merges; takes = subst (λ (text : List ℕ). TakesAll old.taken text new.taken) is told }, steady))
    (λ cut rose. (record { count = count; merges = merges; takes = subst (λ (text : List ℕ). TakesSome old.taken text new.taken) is cut }, rose))
