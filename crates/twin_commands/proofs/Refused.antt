-- Why two disks are no pair, as far as their bytes tell.
use Rattle.std.proofs.Common.{◌≡◌, ◌≢◌, ◌⊎◌, ℕ, ◌<◌, List, length, inl, inr, ⊎_elim, sym, ◌∙◌, ap, arith}
use Rattle.store_spec.proofs.Common.{Ballot, Election, HoldsSet, IsElection, IsUnused, medium_size}
use Rattle.checkpoint.proofs.Unused.{unused_holds, unused_small}
use Rattle.recovery.proofs.Refusals.{one_refusal, refused_holds}
use Rattle.recovery.specs.Refused.{IsRefusedMedium}
use Rattle.recovery.specs.declared.fault.RecoverFault.{RecoverFault}
use Rattle.recovery.specs.declared.fault.RecoverFault.TheVariants as recover
use Rattle.run_outcome.specs.declared.status.Status.{Status}
use Rattle.run_outcome.specs.declared.status.Status.TheVariants as status
use Rattle.twin_commands.specs.Twin.{first_status, second_status}
use Rattle.twin_media.specs.Pairing.{IsLostOrHolds, IsPaired, IsPairSet, IsRefusedDisk}
use Rattle.twin_media.specs.declared.fault.DiskWhy.{DiskWhy}
use Rattle.twin_media.specs.declared.fault.DiskWhy.TheVariants.{TooLarge, OtherElection, Damaged}
use Rattle.twin_media.specs.declared.pairing.Paired.{Paired}
use Rattle.twin_media.specs.declared.pairing.Paired.TheVariants.{Equal, Differed, FirstRestored, SecondRestored}

-- ---- one disk

-- why a medium of such bytes gives no store
abbrev as_medium : DiskWhy → RecoverFault
as_medium (TooLarge size) = recover.NoStore
as_medium (OtherElection header) = recover.OtherElection header
as_medium (Damaged cell) = recover.Damaged cell

refused_medium : (e : Election) (bytes : List ℕ) (why : DiskWhy) → IsRefusedDisk e why bytes → IsRefusedMedium e bytes (as_medium why)
refused_medium e bytes (TooLarge size) is = inl (λ same. omega (arith, is.0, is.1, same))
refused_medium e bytes (OtherElection header) is = is
refused_medium e bytes (Damaged cell) is = is

-- its bytes tell why
told_by_bytes : (why : DiskWhy) → (as_medium why ≢ recover.DiskFault) × (as_medium why ≢ recover.Memory)
told_by_bytes (TooLarge size) = (λ is. cc, λ is. cc)
told_by_bytes (OtherElection header) = (λ is. cc, λ is. cc)
told_by_bytes (Damaged cell) = (λ is. cc, λ is. cc)

module _ (e : Election) (bytes : List ℕ) where
  same_medium : (a b : DiskWhy) → IsRefusedDisk e a bytes → IsRefusedDisk e b bytes → as_medium a ≡ as_medium b
  same_medium a b x y =
      one_refusal e bytes (as_medium a) (as_medium b) (told_by_bytes a).0 (told_by_bytes a).1 (told_by_bytes b).0 (told_by_bytes b).1 (refused_medium e bytes a x) (refused_medium e bytes b y)

  -- a disk is refused for one reason
  one_why : (a b : DiskWhy) → IsRefusedDisk e a bytes → IsRefusedDisk e b bytes → a ≡ b
  one_why (TooLarge m) (TooLarge n) x y = ap TooLarge (x.0 ∙ sym y.0)
  one_why (TooLarge m) (OtherElection k) x y = let is = same_medium (TooLarge m) (OtherElection k) x y in cc
  one_why (TooLarge m) (Damaged k) x y = let is = same_medium (TooLarge m) (Damaged k) x y in cc
  one_why (OtherElection h) (TooLarge n) x y = let is = same_medium (OtherElection h) (TooLarge n) x y in cc
  one_why (OtherElection h) (OtherElection k) x y = let is = same_medium (OtherElection h) (OtherElection k) x y in cc
  one_why (OtherElection h) (Damaged k) x y = let is = same_medium (OtherElection h) (Damaged k) x y in cc
  one_why (Damaged c) (TooLarge n) x y = let is = same_medium (Damaged c) (TooLarge n) x y in cc
  one_why (Damaged c) (OtherElection k) x y = let is = same_medium (Damaged c) (OtherElection k) x y in cc
  one_why (Damaged c) (Damaged k) x y = let is = same_medium (Damaged c) (Damaged k) x y in cc

  lost_medium : IsUnused e bytes → IsRefusedMedium e bytes recover.NoStore
  lost_medium unused = ⊎_elim (λ (less : length bytes < medium_size e). inl (λ same. omega arith)) (λ shut. inr (shut.1, shut.2)) unused

  lost_alone : (why : DiskWhy) → recover.NoStore ≢ as_medium why → IsUnused e bytes → IsRefusedDisk e why bytes → ⊥
  lost_alone why other unused is =
      other (one_refusal e bytes recover.NoStore (as_medium why) (λ no. cc) (λ no. cc) (told_by_bytes why).0 (told_by_bytes why).1 (lost_medium unused) (refused_medium e bytes why is))

  -- a disk that is lost is not refused
  lost_not_refused : (why : DiskWhy) → IsUnused e bytes → IsRefusedDisk e why bytes → ⊥
  lost_not_refused (TooLarge size) unused is = let small = unused_small e bytes unused in omega (arith, is.0, is.1, small)
  lost_not_refused (OtherElection header) unused is = lost_alone (OtherElection header) (λ no. cc) unused is
  lost_not_refused (Damaged cell) unused is = lost_alone (Damaged cell) (λ no. cc) unused is

  -- nor is one that holds a set
  not_refused : IsElection e → (why : DiskWhy) → IsLostOrHolds e bytes → IsRefusedDisk e why bytes → ⊥
  not_refused valid why has is = ⊎_elim
      (λ (lost : IsUnused e bytes). lost_not_refused why lost is)
      (λ (holds : (set : List Ballot) × HoldsSet e bytes set). refused_holds e bytes (as_medium why) valid (told_by_bytes why).0 (told_by_bytes why).1 (refused_medium e bytes why is) holds.0 holds.1)
      has

-- ---- both

-- they hold a set that both may come to hold
abbrev pub HoldsPair : Election → List ℕ → List ℕ → Type 0
HoldsPair e one two = (set : List Ballot) × IsPairSet e one two set

-- neither is refused then, and one of them is not lost
pub record HasPair (e : Election) (one two : List ℕ) : Type 0 where
  pub first : IsLostOrHolds e one
  pub second : IsLostOrHolds e two
  pub some : IsUnused e one → IsUnused e two → ⊥

has_pair : (e : Election) (one two : List ℕ) (set : List Ballot) (paired : Paired) → IsPaired e one two paired set → HasPair e one two
has_pair e one two set Equal is = record { first = inr (set, is.0); second = inr (set, is.1); some = λ lost other. unused_holds e one lost set is.0 }
has_pair e one two set Differed is = record { first = inr (set, is.0); second = inr (is.1.0, is.1.1); some = λ lost other. unused_holds e one lost set is.0 }
has_pair e one two set FirstRestored is = record { first = inl is.0; second = inr (set, is.1); some = λ lost other. unused_holds e two other set is.1 }
has_pair e one two set SecondRestored is = record { first = inr (set, is.0); second = inl is.1; some = λ lost other. unused_holds e one lost set is.0 }

abbrev pub FirstRefused : Election → List ℕ → Status → Type 0
FirstRefused e one a = (why : DiskWhy) × (a ≡ first_status why) × IsRefusedDisk e why one

abbrev pub SecondRefused : Election → List ℕ → List ℕ → Status → Type 0
SecondRefused e one two a = IsLostOrHolds e one × ((why : DiskWhy) × (a ≡ second_status why) × IsRefusedDisk e why two)

abbrev pub BothLost : Election → List ℕ → List ℕ → Status → Type 0
BothLost e one two a = (a ≡ status.NoStore) × IsUnused e one × IsUnused e two

-- the two disks are refused with this status, for a reason that their bytes tell
abbrev pub PairRefused : Election → List ℕ → List ℕ → Status → Type 0
PairRefused e one two a = FirstRefused e one a ⊎ (SecondRefused e one two a ⊎ BothLost e one two a)

module _ (e : Election) (one two : List ℕ) (valid : IsElection e) (a b : Status) where
  one_first : FirstRefused e one a → PairRefused e one two b → a ≡ b
  one_first x y = ⊎_elim
      (λ (z : FirstRefused e one b). x.1 ∙ ap first_status (one_why e one x.0 z.0 x.2 z.2) ∙ sym z.1)
      (λ rest. ⊎_elim
      (λ (z : SecondRefused e one two b). absurd (not_refused e one valid x.0 z.0 x.2))
      (λ (z : BothLost e one two b). absurd (lost_not_refused e one x.0 z.1 x.2))
      rest)
      y

  one_second : SecondRefused e one two a → PairRefused e one two b → a ≡ b
  one_second x y = ⊎_elim
      (λ (z : FirstRefused e one b). absurd (not_refused e one valid z.0 x.0 z.2))
      (λ rest. ⊎_elim
      (λ (z : SecondRefused e one two b). x.1.1 ∙ ap second_status (one_why e two x.1.0 z.1.0 x.1.2 z.1.2) ∙ sym z.1.1)
      (λ (z : BothLost e one two b). absurd (lost_not_refused e two x.1.0 z.2 x.1.2))
      rest)
      y

  one_lost : BothLost e one two a → PairRefused e one two b → a ≡ b
  one_lost x y = ⊎_elim
      (λ (z : FirstRefused e one b). absurd (lost_not_refused e one z.0 x.1 z.2))
      (λ rest. ⊎_elim
      (λ (z : SecondRefused e one two b). absurd (lost_not_refused e two z.1.0 x.2 z.1.2))
      (λ (z : BothLost e one two b). x.0 ∙ sym z.0)
      rest)
      y

  -- they are refused with one status
  pub one_pair_refused : PairRefused e one two a → PairRefused e one two b → a ≡ b
  one_pair_refused x y = ⊎_elim (λ first. one_first first y) (λ rest. ⊎_elim (λ second. one_second second y) (λ lost. one_lost lost y) rest) x

-- two disks of which one holds a set are not refused
pub pair_not_refused : (e : Election) (one two : List ℕ) (a : Status) → IsElection e → HoldsPair e one two → PairRefused e one two a → ⊥
pair_not_refused e one two a valid holds x =
    let has = has_pair e one two holds.0 holds.1.0 holds.1.1 in
    ⊎_elim
    (λ (z : FirstRefused e one a). not_refused e one valid z.0 has.first z.2)
    (λ rest. ⊎_elim
    (λ (z : SecondRefused e one two a). not_refused e two valid z.1.0 has.second z.1.2)
    (λ (z : BothLost e one two a). has.some z.1 z.2)
    rest)
    x
