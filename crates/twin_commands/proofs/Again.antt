-- What the next run makes of a disk that is left alone, beside a lost one.
use Rattle.std.proofs.Common.{◌≡◌, ◌⊎◌, ℕ, List, [], ◌∷◌, Some, inl, inr, ⊎_elim, sym, subst}
use Rattle.store_spec.proofs.Common.{AllZip, Ballot, DiskModel, Election, HoldsSet, IsElection, IsUnused}
use Rattle.checkpoint.proofs.Unused.{unused_holds}
use Rattle.image_builder.proofs.Held.{one_held}
use Rattle.run_outcome.specs.Row.{Content, OfOne}
use Rattle.run_outcome.specs.Status.{IsDecided}
use Rattle.run_outcome.specs.World.{Reported, World}
use Rattle.run_outcome.specs.declared.status.Status.{Status}
use Rattle.run_outcome.specs.declared.status.Status.TheVariants as status
use Rattle.twin_commands.proofs.Refused.{HoldsPair, pair_not_refused}
use Rattle.twin_commands.proofs.TwinLaws.{not_begun, second_settled}
use Rattle.twin_commands.specs.Standing.{BringsBack, IsLeftAlone, RunsOnOne}
use Rattle.twin_commands.specs.Twin.{TwinEnds, TwinHasBegun}
use Rattle.twin_media.specs.Pairing.{IsPaired}
use Rattle.twin_media.specs.declared.pairing.Paired.{Paired}
use Rattle.twin_media.specs.declared.pairing.Paired.TheVariants.{Equal, Differed, FirstRestored, SecondRestored}

module _ (e : Election) (valid : IsElection e) (image lost : List ℕ) (set : List Ballot) (held : HoldsSet e image set) (unused : IsUnused e lost) where
  same_set : (other : List Ballot) → HoldsSet e image other → other ≡ set
  same_set other holds = let both : Some other ≡ Some set = one_held e image (Some other) (Some set) valid holds held in cc

  -- of two disks the first holds the set, and the second is lost
  first_alone : (paired : Paired) (other : List Ballot) → IsPaired e image lost paired other → other ≡ set
  first_alone Equal other is = same_set other is.0
  first_alone Differed other is = same_set other is.0
  first_alone FirstRestored other is = absurd (unused_holds e image is.0 set held)
  first_alone SecondRestored other is = same_set other is.0

  -- or the other way round
  second_alone : (paired : Paired) (other : List Ballot) → IsPaired e lost image paired other → other ≡ set
  second_alone Equal other is = absurd (unused_holds e lost unused other is.0)
  second_alone Differed other is = absurd (unused_holds e lost unused other is.0)
  second_alone FirstRestored other is = same_set other is.1
  second_alone SecondRestored other is = absurd (unused_holds e lost unused other is.0)

-- two disks that hold one set alone between them
pub record HoldOne (e : Election) (one two : List ℕ) (set : List Ballot) : Type 0 where
  pub pair : HoldsPair e one two
  pub only : (paired : Paired) (other : List Ballot) → IsPaired e one two paired other → other ≡ set

left_alone : (e : Election) (image : List ℕ) (set : List Ballot) (content : Content) → IsElection e → HoldsSet e image set → IsLeftAlone e image content → (two : List ℕ) × (content.more ≡ two ∷ []) × HoldOne e content.disk two set
left_alone e image set content valid held alone = ⊎_elim
    (λ first. (
      alone.0,
      first.1,
      subst (λ one. HoldOne e one alone.0 set) (sym first.0)
          (record { pair = (set, (SecondRestored, (held, alone.1))); only = first_alone e valid image alone.0 set held alone.1 }),
    ))
    (λ second. (
      image,
      second.1,
      subst (λ one. HoldOne e one image set) (sym second.0)
          (record { pair = (set, (FirstRestored, (alone.1, held))); only = second_alone e valid image alone.0 set held alone.1 }),
    ))
    alone.2

module _ {S K D : Type 0} (model : DiskModel D) (e : Election) (valid : IsElection e) (set : List Ballot) (a : Status) (report : Reported) (before after : World S K D) (content : Content) (decided : IsDecided a)
    (told : before.streams.script.left ≡ Some content.script) (sees : model.seen before.disk ≡ Some content.disk) where
  begins : (two two_after : D) (second : List ℕ) → model.seen two ≡ Some second → HoldOne e content.disk second set
      → TwinEnds model e a report before.streams.script after.streams.script before.streams.sink after.streams.sink before.disk after.disk two two_after
      → (begun : TwinHasBegun model e a report before.streams.script after.streams.script before.streams.sink after.streams.sink before.disk after.disk two two_after) × (begun.set ≡ set)
  begins two two_after second sees_two one ends = ⊎_elim
      (λ not. absurd (pair_not_refused e content.disk second a valid one.pair
      (not_begun model e before.disk after.disk two two_after content.disk second sees sees_two a report before.streams.script after.streams.script before.streams.sink after.streams.sink decided not)))
      (λ begun. (begun, one.only begun.paired begun.set (begun.are.found content.disk second sees sees_two)))
      ends

  brings : (more now : List D) (others : List (List ℕ)) (two : List ℕ) → others ≡ two ∷ [] → HoldOne e content.disk two set → AllZip (λ disk told. model.seen disk ≡ Some told) more others
      → OfOne (TwinEnds model e a report before.streams.script after.streams.script before.streams.sink after.streams.sink before.disk after.disk) more now
      → OfOne (λ two two_after. (begun : TwinHasBegun model e a report before.streams.script after.streams.script before.streams.sink after.streams.sink before.disk after.disk two two_after) × (begun.set ≡ set)) more now
  brings (disk ∷ []) (now ∷ []) (second ∷ []) two only one each ends =
      let is : two ≡ second = cc in
      begins disk now second each.0 (subst (λ bytes. HoldOne e content.disk bytes set) is one) ends
  brings (disk ∷ []) (now ∷ []) [] two only one each ends = absurd each
  brings (disk ∷ []) (now ∷ []) (second ∷ x ∷ others) two only one each ends = absurd each.1
  brings more now others two only one each ends = absurd (assumption ends)

pub brought_back : {S K D : Type 0} (model : DiskModel D) (e : Election) (image : List ℕ) (set : List Ballot) (a : Status) (report : Reported) (before after : World S K D) → IsElection e → HoldsSet e image set
    → RunsOnOne model e image a report before after → BringsBack model e set a report before after ⊎ (a ≡ status.Memory)
brought_back model e image set a report before after valid held runs = ⊎_elim
    (λ decided.
    let alone = left_alone e image set runs.content valid held runs.alone in
    inl (brings model e valid set a report before after runs.content decided runs.tells.script runs.tells.disk before.more after.more runs.content.more alone.0 alone.1 alone.2 runs.tells.more runs.ends))
    inr
    (second_settled model e a report before after before.more after.more runs.none_failed.script runs.none_failed.sink runs.none_failed.disk runs.none_failed.more runs.ends)
