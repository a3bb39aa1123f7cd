-- The runs of calls that merge media, and what they leave of the target at each moment.
use Rattle.std.proofs.Common.{◌≡◌, ℕ, ◌<◌, ◌⊎◌, inl, inr, ⊎_elim, List, ◌∷◌, Option, Some, refl, sym, subst}
use Rattle.store_spec.proofs.Common.{Ballot, DiskModel, Election, HoldsSet, HoldsTheSame, IfSome, IsElection, IsMediumOf, LeavesOnly, LeavesOnlyOnceSynced, SyncsFirst, last_count}
use Rattle.body_store.specs.Contents.{Contents}
use Rattle.checkpoint.proofs.Pages.{told_back}
use Rattle.crash_disk.proofs.Moments.{synced_then, syncs_weaker, weaker}
use Rattle.image_builder.proofs.Held.{one_held}
use Rattle.merge_media.proofs.Throughout.{kept_as_medium}
use Rattle.merge_media.specs.Merging.{HoldsAll, HoldsOldOrUnion, IsRecovered, MergeRefuses, RefusesBegin, RefusesFurther, RefusesUnion}
use Rattle.merge_media.specs.Union.{IsUnion}
use Rattle.merge_media.specs.declared.fault.MergeFault.{MergeFault}
use Rattle.merge_media.specs.declared.fault.MergeFault.TheVariants.{Target, OtherFault, Other, Dispute, TooMany, DiskFault, Memory}
use Rattle.outside_io.proofs.Told.{told_holds}
use Rattle.recovery.proofs.OneByOne.{zip_same}
use Rattle.recovery.specs.Media.{EachHolds}

-- the set that was read is the one that the bytes hold
pub same_set : (e : Election) (bytes : List ℕ) (seen : Option (List ℕ)) (set read : List Ballot) → IsElection e → seen ≡ Some bytes → HoldsSet e bytes set
    → IfSome seen (λ bytes. HoldsSet e bytes read) → read ≡ set
same_set e bytes seen set read valid sees holds found =
    let both : Some read ≡ Some set = one_held e bytes (Some read) (Some set) valid (told_holds (λ x. HoldsSet e x read) bytes sees found) holds in
    cc

-- ---- the whole run

module _ {A B : Type 0} (target : DiskModel A) (further : DiskModel B) (e : Election) (before after : A) (more : List B) where
  -- why the target gave no union to begin with, as why media are not merged
  pub refuses_begun : (fault : MergeFault) → RefusesBegin target e before after fault → MergeRefuses target further e before after more more fault
  refuses_begun (Target why) refused = (refused, refl)
  refuses_begun (OtherFault index) refused = absurd refused
  refuses_begun (Other index why) refused = absurd refused
  refuses_begun (Dispute number) refused = absurd refused
  refuses_begun (TooMany count) refused = absurd refused
  refuses_begun DiskFault refused = absurd refused
  refuses_begun Memory refused = (refused.0, zip_same (λ old new. further.faults new ≡ further.faults old) (λ disk. refl) more, refused.1)

  module _ (now : List B) (set : List Ballot) where
    -- why the further media are not joined
    pub refuses_joining : (fault : MergeFault) → IsRecovered target e set before after → RefusesFurther further e more now fault → MergeRefuses target further e before after more now fault
    refuses_joining (Target why) recovered refused = absurd refused.refused
    refuses_joining (OtherFault index) recovered refused = ((set, recovered), refused)
    refuses_joining (Other index why) recovered refused = ((set, recovered), refused)
    refuses_joining (Dispute number) recovered refused = absurd refused.refused
    refuses_joining (TooMany count) recovered refused = absurd refused.refused
    refuses_joining DiskFault recovered refused = absurd refused.refused
    refuses_joining Memory recovered refused = (recovered.no_fault, refused, kept_as_medium target e before after set recovered.held recovered.medium)

    -- and why the union is no store
    pub refuses_all : (sets : List (List Ballot)) (fault : MergeFault) → HoldsAll target further e before after more now set sets → RefusesUnion e (set ∷ sets) fault
        → MergeRefuses target further e before after more now fault
    refuses_all sets (Target why) all refused = absurd refused
    refuses_all sets (OtherFault index) all refused = absurd refused
    refuses_all sets (Other index why) all refused = absurd refused
    refuses_all sets (Dispute number) all refused = (set, sets, all, refused)
    refuses_all sets (TooMany count) all refused = (set, sets, all, refused)
    refuses_all sets DiskFault all refused = absurd refused
    refuses_all sets Memory all refused = (all.recovered.no_fault, all.none_rose, kept_as_medium target e before after set all.recovered.held all.recovered.medium)

module _ {A B : Type 0} (target : DiskModel A) (further : DiskModel B) (e : Election) (more : List B) (old mid new : A) (bytes : List ℕ) (set : List Ballot)
    (sees : target.seen old ≡ Some bytes) (holds : HoldsSet e bytes set) where
  -- the target was recovered, and no more
  pub begun_run : SyncsFirst target.calls target.may_leave old mid (HoldsTheSame e bytes) → SyncsFirst target.calls target.may_leave old mid (HoldsOldOrUnion further e set more)
  begun_run run =
      syncs_weaker target.calls target.may_leave old mid (HoldsTheSame e bytes) (HoldsOldOrUnion further e set more) (λ image same. inl (same (Some set) holds)) run

  -- and then the union was checkpointed
  pub merged_run : (read : List Ballot) (sets : List (List Ballot)) (store : Contents) → IsElection e → store.election ≡ e → IsRecovered target e read old mid → EachHolds further e more sets
      → IsUnion (read ∷ sets) store.ballots → (target.calls mid < last_count → target.calls old < target.calls mid)
      → LeavesOnlyOnceSynced target.calls target.may_leave old mid (HoldsTheSame e bytes)
      → ((x : List ℕ) (was : List Ballot) → target.seen mid ≡ Some x → IsMediumOf store.election x was
      → LeavesOnly target.calls target.may_leave mid new (λ c. HoldsSet store.election c was ⊎ HoldsSet store.election c store.ballots))
      → SyncsFirst target.calls target.may_leave old new (HoldsOldOrUnion further e set more)
  merged_run read sets store valid own recovered each union called synced run =
      let is : read ≡ set = same_set e bytes (target.seen old) set read valid sees holds recovered.held in
      let now = told_back (target.seen mid) (target.seen old) bytes (sym recovered.medium.told) sees in
      let medium = recovered.medium.related bytes now.0 sees now.1 in
      let Q = HoldsOldOrUnion further e set more in
      inl (synced_then target.calls target.may_leave old mid new (HoldsTheSame e bytes) Q called (λ image same. inl (same (Some set) holds)) synced
      (weaker target.calls target.may_leave mid new (λ c. HoldsSet store.election c read ⊎ HoldsSet store.election c store.ballots) Q
      (λ image either. ⊎_elim
      (λ was. inl (subst (λ s. HoldsSet e image s) is (subst (λ e. HoldsSet e image read) own was)))
      (λ both. inr (sets, each, store.ballots, subst (λ s. IsUnion (s ∷ sets) store.ballots) is union, subst (λ e. HoldsSet e image store.ballots) own both))
      either)
      (run now.0 read now.1 (subst (λ e. IsMediumOf e now.0 read) (sym own) medium))))
