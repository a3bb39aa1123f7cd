-- Two disks that were found to hold this or that become a pair.
use Rattle.std.proofs.Common.{◌≡◌, ℕ, ◌<◌, inr, ⊎_elim, List, Option, Some, None, sym, subst}
use Rattle.store_spec.proofs.Common.{Ballot, DiskModel, Election, HoldsSet, IfSome, IsMediumOf, LeavesOnly, LeavesOnlyOnceSynced, last_count}
use Rattle.std.specs.Prelude.{◌≢◌}
use Rattle.outside_io.proofs.Told.{told_holds}
use Rattle.twin_media.proofs.Kept.{held_holds, kept_once}
use Rattle.twin_media.specs.Finding.{HasFound}
use Rattle.outside_io.specs.Told.{IfTold}
use Rattle.twin_media.specs.Pairing.{AreCompared, BothKept, IsKeptOr, IsPaired, IsPairSet, IsUnwritten, IsUnwrittenPair, MakeRefuses}
use Rattle.twin_media.specs.declared.fault.PairFault.{PairFault}
use Rattle.twin_media.specs.declared.fault.PairFault.TheVariants.{First, Second, BothLost, FirstFault, SecondFault, Memory}
use Rattle.twin_media.specs.declared.finding.Held.{Held}
use Rattle.twin_media.specs.declared.pairing.Paired.{Paired}
use Rattle.twin_media.specs.declared.pairing.Paired.TheVariants.{Equal, Differed, FirstRestored, SecondRestored}

-- ---- the set of the pair

module _ (e : Election) (one two : List ℕ) (found other_found : Option Held) (has : HasFound e found one) (has_other : HasFound e other_found two) where
  holds_one : (held : Held) → found ≡ Some held → HasFound e (Some held) one
  holds_one held is = subst (λ f. HasFound e f one) is has

  holds_two : (held : Held) → other_found ≡ Some held → HasFound e (Some held) two
  holds_two held is = subst (λ f. HasFound e f two) is has_other

  -- neither is lost
  pub neither_lost : (held other : Held) (paired : Paired) → found ≡ Some held → other_found ≡ Some other → AreCompared held.store.ballots other.store.ballots paired → IsPaired e one two paired held.store.ballots
  neither_lost held other paired is is_other compared =
      let here = held_holds e one held (holds_one held is) in
      let there = held_holds e two other (holds_two other is_other) in
      ⊎_elim
      (λ (same : (paired ≡ Equal) × (other.store.ballots ≡ held.store.ballots)).
      subst (λ p. IsPaired e one two p held.store.ballots) (sym same.0) (here, subst (λ set. HoldsSet e two set) same.1 there))
      (λ (differ : (paired ≡ Differed) × (other.store.ballots ≢ held.store.ballots)).
      subst (λ p. IsPaired e one two p held.store.ballots) (sym differ.0) (here, (other.store.ballots, there, differ.1)))
      compared

  -- the second alone is
  pub second_lost : (held : Held) → found ≡ Some held → other_found ≡ None → IsPaired e one two SecondRestored held.store.ballots
  second_lost held is none = (held_holds e one held (holds_one held is), subst (λ f. HasFound e f two) none has_other)

  -- the first alone is
  pub first_lost : (other : Held) → found ≡ None → other_found ≡ Some other → IsPaired e one two FirstRestored other.store.ballots
  first_lost other none is = (subst (λ f. HasFound e f one) none has, held_holds e two other (holds_two other is))

-- ---- both were looked at, and then made the medium of the set

module _ {A B : Type 0} (first : DiskModel A) (second : DiskModel B) (e : Election) (old mid new : A) (before looked after : B) (found other_found : Option Held) (set : List Ballot) where
  pub both_kept : (one two : List ℕ) → first.seen old ≡ Some one → second.seen before ≡ Some two
      → IfSome (first.seen old) (HasFound e found) → IfSome (second.seen before) (HasFound e other_found)
      → (HasFound e found one → HasFound e other_found two → IsPairSet e one two set)
      → (first.calls mid < last_count → first.calls old < first.calls mid) → (second.calls looked < last_count → second.calls before < second.calls looked)
      → LeavesOnlyOnceSynced first.calls first.may_leave old mid (λ image. image ≡ one) → LeavesOnlyOnceSynced second.calls second.may_leave before looked (λ image. image ≡ two)
      → LeavesOnly first.calls first.may_leave mid new (IsKeptOr e (λ other. other ≡ set) one) → LeavesOnly second.calls second.may_leave looked after (IsKeptOr e (λ other. other ≡ set) two)
      → BothKept first second e one two old new before after
  both_kept one two sees sees_two has has_other pair called called_two synced synced_two made made_two =
      let here = told_holds (HasFound e found) one sees has in
      let there = told_holds (HasFound e other_found) two sees_two has_other in
      let is : (other : List Ballot) → other ≡ set → IsPairSet e one two other = λ other same. subst (IsPairSet e one two) (sym same) (pair here there) in (
        kept_once first.calls first.may_leave e one found (λ other. other ≡ set) (IsPairSet e one two) old mid new here is called synced made,
        kept_once second.calls second.may_leave e two other_found (λ other. other ≡ set) (IsPairSet e one two) before looked after there is called_two synced_two made_two,
      )

-- ---- both were looked at, and then one failed as it was made the medium of the set

module _ {A B : Type 0} (first : DiskModel A) (second : DiskModel B) (e : Election) (one looked_one one_after : A) (two looked two_after : B) (set : List Ballot) where
  pub make_unwritten : (fault : PairFault) → first.seen looked_one ≡ first.seen one → IsUnwritten second two looked
      → ((x y : List ℕ) → first.seen one ≡ Some x → second.seen two ≡ Some y → IsPairSet e x y set)
      → MakeRefuses first second e set looked_one one_after looked two_after fault → IsUnwrittenPair first second e one one_after two two_after fault
  make_unwritten (First why) same unwritten pair refused = absurd refused
  make_unwritten (Second why) same unwritten pair refused = absurd refused
  make_unwritten BothLost same unwritten pair refused = absurd refused
  make_unwritten FirstFault same unwritten pair refused = subst (IsUnwritten second two) (sym refused.1) unwritten
  make_unwritten SecondFault same unwritten pair refused =
      inr (set, pair, record { medium = subst (λ o. IfTold o (first.seen one_after) (λ _ bytes. IsMediumOf e bytes set)) same refused.1.medium; settled = refused.1.settled })
  make_unwritten Memory same unwritten pair refused = absurd refused
