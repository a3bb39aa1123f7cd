-- The laws of `merge`: the bytes of all media decide how it ends, but for faults and want of memory.
use Rattle.std.proofs.Common.{◌≡◌, ◌⊎◌, ℕ, List, ◌∷◌, length, Some, inl, inr, ⊎_elim, refl, sym, ◌∙◌, ap, arith}
use Rattle.store_spec.proofs.Common.{Ballot, DiskModel, Election, IsElection}
use Rattle.medium_commands.proofs.Refusing.{refuses}
use Rattle.medium_commands.proofs.Several.{MediaDecide, Tell, all_as, all_told, further_told, one_of_media, zip_at}
use Rattle.merge_commands.specs.Merge.{HaveUnion, MergeWrites, MergesNone, merge_row}
use Rattle.merge_media.proofs.Unions.{one_union, union_agrees}
use Rattle.merge_media.specs.Merging.{IsTooLarge}
use Rattle.merge_media.specs.Union.{IsLeastDisputed}
use Rattle.outside_io.proofs.Told.{told_at}
use Rattle.outside_io.specs.Outside.{Output}
use Rattle.recovery.specs.Refused.{IsRefusedMedium}
use Rattle.recovery.specs.declared.fault.RecoverFault.TheVariants as recover
use Rattle.run_outcome.proofs.Laws.{Laws, at_told, not_risen}
use Rattle.run_outcome.specs.Row.{Content, NothingFailed}
use Rattle.run_outcome.specs.Status.{IsDecided}
use Rattle.run_outcome.specs.World.{IsSteady, World}
use Rattle.run_outcome.specs.declared.status.Status.{Status}
use Rattle.run_outcome.specs.declared.status.Status.TheVariants as status

-- ---- one cause

-- the status that the sets of all media decide
abbrev pub SetsDecide : Election → Status → List (List Ballot) → Type 0
SetsDecide e status.Ok sets = HaveUnion e sets
SetsDecide e (status.MergeConflict number) sets = IsLeastDisputed sets number
SetsDecide e (status.MergeFull count) sets = IsTooLarge e sets count
SetsDecide e other sets = ⊥

not_full : (e : Election) (sets : List (List Ballot)) (count : ℕ) → HaveUnion e sets → IsTooLarge e sets count → ⊥
not_full e sets count fits large = omega (arith, ap length (one_union sets fits.union large.union fits.is large.is), fits.within_limit, large.count_is, large.above)

one_of_sets : (e : Election) (a b : Status) (sets : List (List Ballot)) → SetsDecide e a sets → SetsDecide e b sets → a ≡ b
one_of_sets e status.Ok status.Ok sets x y = refl
one_of_sets e status.Ok (status.MergeConflict n) sets x y = absurd (union_agrees sets x.union x.is n y.disputed)
one_of_sets e status.Ok (status.MergeFull n) sets x y = absurd (not_full e sets n x y)
one_of_sets e (status.MergeConflict m) status.Ok sets x y = absurd (union_agrees sets y.union y.is m x.disputed)
one_of_sets e (status.MergeConflict m) (status.MergeConflict n) sets x y =
    let low = x.least n y.disputed in
    let high = y.least m x.disputed in
    ap (λ (k : ℕ). status.MergeConflict k) (let same : m ≡ n = omega (arith, low, high) in same)
one_of_sets e (status.MergeConflict m) (status.MergeFull n) sets x y = absurd (union_agrees sets y.union y.is m x.disputed)
one_of_sets e (status.MergeFull m) status.Ok sets x y = absurd (not_full e sets m y x)
one_of_sets e (status.MergeFull m) (status.MergeConflict n) sets x y = absurd (union_agrees sets x.union x.is n y.disputed)
one_of_sets e (status.MergeFull m) (status.MergeFull n) sets x y =
    ap (λ (k : ℕ). status.MergeFull k) (sym x.count_is ∙ ap length (one_union sets x.union y.union x.is y.is) ∙ y.count_is)
one_of_sets e a b sets x y = absurd (assumption (x, y))

-- the status that the bytes of all media decide, and why
abbrev pub MergeDecides : Election → Content → Status → Type 0
MergeDecides e content a = MediaDecide e content a (SetsDecide e a)

one_merge : (e : Election) (content : Content) (a b : Status) → IsElection e → MergeDecides e content a → MergeDecides e content b → a ≡ b
one_merge e content a b valid x y = one_of_media e content valid a b (SetsDecide e a) (SetsDecide e b) (one_of_sets e a b) x y

-- ---- what the media tell

module _ {D : Type 0} (model : DiskModel D) (e : Election) (before after : D) (more now : List D) (content : Content) (is : model.seen before ≡ Some content.disk) (tell : Tell model more content.more) where
  none_decides : (a : Status) → IsDecided a → MergesNone model e a before after more now → MergeDecides e content a
  none_decides status.NoStore decided none =
      inl (refuses e content.disk recover.NoStore (λ is. cc) (λ is. cc) (at_told (model.seen before) content.disk (λ x. IsRefusedMedium e x recover.NoStore) is none.0.refused))
  none_decides (status.OtherElection header) decided none =
      inl (refuses e content.disk (recover.OtherElection header) (λ is. cc) (λ is. cc) (at_told (model.seen before) content.disk (λ x. IsRefusedMedium e x (recover.OtherElection header)) is none.0.refused))
  none_decides (status.Damaged cell) decided none =
      inl (refuses e content.disk (recover.Damaged cell) (λ is. cc) (λ is. cc) (at_told (model.seen before) content.disk (λ x. IsRefusedMedium e x (recover.Damaged cell)) is none.0.refused))
  none_decides (status.BadMedium index why) decided none =
      inr (inl (further_told model e before more content is tell now none.0.0 index why none.0.1.held none.1 none.1.refused.0 none.1.refused.1.0))
  none_decides (status.MergeConflict number) decided none =
      inr (inr (all_told model e before more content is tell (λ sets. IsLeastDisputed sets number) none.0 none.1 none.2.recovered.held none.2.each none.3))
  none_decides (status.MergeFull count) decided none =
      inr (inr (all_told model e before more content is tell (λ sets. IsTooLarge e sets count) none.0 none.1 none.2.recovered.held none.2.each none.3))
  none_decides (status.OtherDiskFault index) decided none = absurd decided
  none_decides status.DiskFault decided none = absurd decided
  none_decides status.Memory decided none = absurd decided
  none_decides other decided none = absurd none

  merge_decides : {K : Type 0} (a : Status) (old new : Output K) → IsDecided a → MergeWrites model e a old new before after more now → MergeDecides e content a
  merge_decides status.Ok old new decided tells =
      let merges = tells.0.merges in
      let fits : HaveUnion e (merges.set ∷ merges.sets) = record { union = merges.union; is = merges.is; within_limit = (told_at content.disk is merges.medium).1.within_limit } in
      inr (inr (all_told model e before more content is tell (HaveUnion e) merges.set merges.sets merges.held merges.each fits))
  merge_decides status.WriteFault old new decided tells = absurd decided
  merge_decides other old new decided tells = none_decides other decided tells.0

-- ---- no fault where no count rose

merge_settled : {S K D : Type 0} (model : DiskModel D) (e : Election) (a : Status) (before after : World S K D) → NothingFailed model merge_row.touches before after
    → MergeWrites model e a before.streams.sink after.streams.sink before.disk after.disk before.more after.more → IsDecided a ⊎ (a ≡ status.Memory)
merge_settled model e status.DiskFault before after none tells =
    absurd (not_risen (model.faults before.disk) (model.faults after.disk) none.disk (⊎_elim (λ target. target.0.fault.rose refl) (λ union. union.0) tells.0))
merge_settled model e (status.OtherDiskFault index) before after none tells =
    let one = tells.0.1 in
    absurd (not_risen (model.faults one.old) (model.faults one.new)
    (zip_at (λ old new. IsSteady (model.faults old) (model.faults new)) before.more after.more one.place one.old one.new none.more one.there one.there_now) one.refused.1)
merge_settled model e status.WriteFault before after none tells = absurd (not_risen before.streams.sink.faults after.streams.sink.faults none.sink tells.1)
merge_settled model e (status.ReadFault which) before after none tells = absurd tells.0
merge_settled model e status.Memory before after none tells = inr refl
merge_settled model e other before after none tells = inl tt

pub merge_laws : Laws merge_row
merge_laws = record {
  Cause = MergeDecides;
  caused = λ model e a report before after content tells decided ends.
      merge_decides model e before.disk after.disk before.more after.more content tells.disk tells.more a before.streams.sink after.streams.sink decided ends.tells;
  one = one_merge;
  settled = λ model e a report before after none ends. merge_settled model e a before after none ends.tells;
  served = λ e content a words valid further served decides. one_merge e content a status.Ok valid decides (inr (inr (all_as served (λ sets fits. fits))));
  no_usage = λ model e report before after ends. ends.tells.0;
}
