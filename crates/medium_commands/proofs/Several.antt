-- Several media: the first one that is refused, or else the sets that all hold, tell how a command over them ends.
use Rattle.std.proofs.Common.{◌≡◌, ◌≢◌, ◌⊎◌, ℕ, zero, suc, ◌+◌, List, [], ◌∷◌, take, get_or, Some, inl, inr, ⊎_elim, refl, sym, ◌∙◌, ap, subst, arith}
use Rattle.store_spec.proofs.Common.{AllZip, Ballot, DiskModel, Election, HoldsSet, HoldsSome, IfSome, IsElection, get_or_from_slice_get, slice_get_within}
use Rattle.std.proofs.lemmas.List.Elements.{AllZip-get_or}
use Rattle.std.specs.List.{slice_get}
use Rattle.image_builder.proofs.Held.{one_held}
use Rattle.medium_commands.proofs.Refusing.{Refuses, not_both, one_refused, refuses}
use Rattle.medium_commands.specs.Refused.{refused_status}
use Rattle.medium_commands.specs.Several.{MediaHold}
use Rattle.recovery.proofs.Refusals.{one_refusal, refused_holds}
use Rattle.recovery.specs.Faults.{medium_fault}
use Rattle.recovery.specs.Media.{EachHolds, HoldsIfTold, StopsAt}
use Rattle.recovery.specs.Refused.{IsRefusedMedium}
use Rattle.recovery.specs.declared.fault.MediumWhy.{MediumWhy}
use Rattle.recovery.specs.declared.fault.MediumWhy.TheVariants as media
use Rattle.recovery.specs.declared.fault.RecoverFault.TheVariants as recover
use Rattle.run_outcome.proofs.Laws.{at_told}
use Rattle.run_outcome.specs.Row.{Content}
use Rattle.run_outcome.specs.declared.status.Status.{Status}
use Rattle.run_outcome.specs.declared.status.Status.TheVariants as status

-- ---- the first further medium that is refused

-- counted from a number on
abbrev pub IsFirstRefused : Election → List (List ℕ) → ℕ → ℕ → MediumWhy → Type 0
IsFirstRefused e [] at index why = ⊥
IsFirstRefused e (medium ∷ others) at index why =
    ((index ≡ at) × IsRefusedMedium e medium (medium_fault why)) ⊎ (HoldsSome e medium × IsFirstRefused e others (at + 1) index why)

no_fault : (why : MediumWhy) → medium_fault why ≢ recover.DiskFault
no_fault media.NoStore is = cc
no_fault (media.OtherElection header) is = cc
no_fault (media.Damaged cell) is = cc

no_memory : (why : MediumWhy) → medium_fault why ≢ recover.Memory
no_memory media.NoStore is = cc
no_memory (media.OtherElection header) is = cc
no_memory (media.Damaged cell) is = cc

same_why : (a b : MediumWhy) → medium_fault a ≡ medium_fault b → a ≡ b
same_why media.NoStore media.NoStore is = refl
same_why (media.OtherElection x) (media.OtherElection y) is = let same : x ≡ y = cc in ap (λ (header : List ℕ). media.OtherElection header) same
same_why (media.Damaged x) (media.Damaged y) is = let same : x ≡ y = cc in ap (λ (cell : ℕ). media.Damaged cell) same
same_why a b is = absurd cc

refused_not_held : (e : Election) (bytes : List ℕ) (why : MediumWhy) → IsElection e → HoldsSome e bytes → IsRefusedMedium e bytes (medium_fault why) → ⊥
refused_not_held e bytes why valid holds refused = refused_holds e bytes (medium_fault why) valid (no_fault why) (no_memory why) refused holds.0 holds.1

one_why : (e : Election) (bytes : List ℕ) (a b : MediumWhy) → IsRefusedMedium e bytes (medium_fault a) → IsRefusedMedium e bytes (medium_fault b) → a ≡ b
one_why e bytes a b x y = same_why a b (one_refusal e bytes (medium_fault a) (medium_fault b) (no_fault a) (no_memory a) (no_fault b) (no_memory b) x y)

one_first : (e : Election) (bytes : List (List ℕ)) (at i j : ℕ) (v w : MediumWhy) → IsElection e → IsFirstRefused e bytes at i v → IsFirstRefused e bytes at j w → (i ≡ j) × (v ≡ w)
one_first e [] at i j v w valid x y = absurd x
one_first e (medium ∷ others) at i j v w valid x y = ⊎_elim
    (λ here. ⊎_elim
    (λ too. (here.0 ∙ sym too.0, one_why e medium v w here.1 too.1))
    (λ later. absurd (refused_not_held e medium v valid later.0 here.1))
    y)
    (λ later. ⊎_elim
    (λ here. absurd (refused_not_held e medium w valid later.0 here.1))
    (λ too. one_first e others (at + 1) i j v w valid later.1 too.1)
    y)
    x

none_first : (e : Election) (bytes : List (List ℕ)) (sets : List (List Ballot)) (at i : ℕ) (why : MediumWhy) → IsElection e → AllZip (HoldsSet e) bytes sets → IsFirstRefused e bytes at i why → ⊥
none_first e [] sets at i why valid each first = first
none_first e (medium ∷ others) [] at i why valid each first = absurd each
none_first e (medium ∷ others) (set ∷ sets) at i why valid each first = ⊎_elim
    (λ here. refused_not_held e medium why valid (set, each.0) here.1)
    (λ later. none_first e others sets (at + 1) i why valid each.1 later.1)
    first

-- ---- the sets

same_sets : (e : Election) (bytes : List (List ℕ)) (xs ys : List (List Ballot)) → IsElection e → AllZip (HoldsSet e) bytes xs → AllZip (HoldsSet e) bytes ys → xs ≡ ys
same_sets e [] [] [] valid x y = refl
same_sets e [] [] (b ∷ ys) valid x y = absurd y
same_sets e [] (a ∷ xs) ys valid x y = absurd x
same_sets e (medium ∷ others) [] ys valid x y = absurd x
same_sets e (medium ∷ others) (a ∷ xs) [] valid x y = absurd y
same_sets e (medium ∷ others) (a ∷ xs) (b ∷ ys) valid x y =
    let both : Some a ≡ Some b = one_held e medium (Some a) (Some b) valid x.0 y.0 in
    let same : a ≡ b = cc in
    ap (λ (s : List Ballot). s ∷ xs) same ∙ ap (λ (rest : List (List Ballot)). b ∷ rest) (same_sets e others xs ys valid x.1 y.1)

-- what follows of them
pub all_as : {e : Election} {content : Content} {P Q : List (List Ballot) → Type 0} → MediaHold e content P → ((sets : List (List Ballot)) → P sets → Q sets) → MediaHold e content Q
all_as all step = record { set = all.set; sets = all.sets; held = all.held; each = all.each; so = step (all.set ∷ all.sets) all.so }

-- ---- what decides

-- the first medium holds a set, and a further one is refused with this status
pub record RefusesFurther (e : Election) (content : Content) (a : Status) : Type 0 where
  pub held : HoldsSome e content.disk
  pub index : ℕ
  pub why : MediumWhy
  pub is : a ≡ status.BadMedium index why
  pub first : IsFirstRefused e content.more 1 index why

-- the status that the bytes of all media decide, and why: one of them is refused, or this is so of the sets
abbrev pub MediaDecide : Election → Content → Status → (List (List Ballot) → Type 0) → Type 0
MediaDecide e content a So = Refuses e content.disk a ⊎ (RefusesFurther e content a ⊎ MediaHold e content So)

module _ (e : Election) (content : Content) (valid : IsElection e) where
  further_held : (a : Status) (So : List (List Ballot) → Type 0) → RefusesFurther e content a → MediaHold e content So → ⊥
  further_held a So refused all = none_first e content.more all.sets 1 refused.index refused.why valid all.each refused.first

  one_further : (a b : Status) → RefusesFurther e content a → RefusesFurther e content b → a ≡ b
  one_further a b x y =
      let same = one_first e content.more 1 x.index y.index x.why y.why valid x.first y.first in
      x.is ∙ ap (λ (k : ℕ). status.BadMedium k x.why) same.0 ∙ ap (λ (why : MediumWhy). status.BadMedium y.index why) same.1 ∙ sym y.is

  one_all : {P Q : List (List Ballot) → Type 0} {A : Type 0} → ((sets : List (List Ballot)) → P sets → Q sets → A) → MediaHold e content P → MediaHold e content Q → A
  one_all {P} {Q} {A} agree x y =
      let both : Some x.set ≡ Some y.set = one_held e content.disk (Some x.set) (Some y.set) valid x.held y.held in
      let first : x.set ≡ y.set = cc in
      let rest = same_sets e content.more x.sets y.sets valid x.each y.each in
      let same : x.set ∷ x.sets ≡ y.set ∷ y.sets = ap (λ (s : List Ballot). s ∷ x.sets) first ∙ ap (λ (sets : List (List Ballot)). y.set ∷ sets) rest in
      agree (y.set ∷ y.sets) (subst P same x.so) y.so

  -- the cause of one status alone, where the sets are
  pub one_of_media : (a b : Status) (P Q : List (List Ballot) → Type 0) → ((sets : List (List Ballot)) → P sets → Q sets → a ≡ b) → MediaDecide e content a P → MediaDecide e content b Q → a ≡ b
  one_of_media a b P Q agree x y = ⊎_elim
      (λ refused. ⊎_elim
      (λ too. one_refused e content.disk a b refused too)
      (λ rest. ⊎_elim
      (λ further. absurd (not_both e content.disk a valid further.held refused))
      (λ all. absurd (not_both e content.disk a valid (all.set, all.held) refused))
      rest)
      y)
      (λ rest. ⊎_elim
      (λ refused. ⊎_elim
      (λ further. absurd (not_both e content.disk b valid further.held refused))
      (λ all. absurd (not_both e content.disk b valid (all.set, all.held) refused))
      rest)
      (λ other. ⊎_elim
      (λ further. ⊎_elim (λ too. one_further a b further too) (λ all. absurd (further_held a Q further all)) other)
      (λ all. ⊎_elim (λ further. absurd (further_held b P further all)) (λ too. one_all agree all too) other)
      rest)
      y)
      x

-- ---- what the media tell

-- each disk tells its bytes
abbrev pub Tell : {D : Type 0} → DiskModel D → List D → List (List ℕ) → Type 0
Tell model disks bytes = AllZip (λ disk told. model.seen disk ≡ Some told) disks bytes

module _ {D : Type 0} (model : DiskModel D) (e : Election) where
  each_told : (disks : List D) (bytes : List (List ℕ)) (sets : List (List Ballot)) → Tell model disks bytes → EachHolds model e disks sets → AllZip (HoldsSet e) bytes sets
  each_told [] [] [] tell each = tt
  each_told [] [] (set ∷ sets) tell each = absurd each
  each_told [] (told ∷ bytes) sets tell each = absurd tell
  each_told (disk ∷ disks) [] sets tell each = absurd tell
  each_told (disk ∷ disks) (told ∷ bytes) [] tell each = absurd each
  each_told (disk ∷ disks) (told ∷ bytes) (set ∷ sets) tell each =
      (at_told (model.seen disk) told (λ x. HoldsSet e x set) tell.0 each.0, each_told disks bytes sets tell.1 each.1)

  first_told : (disks : List D) (bytes : List (List ℕ)) (sets : List (List Ballot)) (place at index : ℕ) (old : D) (why : MediumWhy) → Tell model disks bytes → EachHolds model e (take place disks) sets
      → slice_get disks place ≡ Some old → index ≡ place + at → IfSome (model.seen old) (λ x. IsRefusedMedium e x (medium_fault why)) → IsFirstRefused e bytes at index why
  first_told [] bytes sets place at index old why tell each there is refused = absurd (omega (arith, slice_get_within [] place old there))
  first_told (disk ∷ disks) [] sets place at index old why tell each there is refused = absurd tell
  first_told (disk ∷ disks) (told ∷ bytes) sets zero at index old why tell each there is refused =
      let same : disk ≡ old = cc in
      inl (omega (arith, is), at_told (model.seen disk) told (λ x. IsRefusedMedium e x (medium_fault why)) tell.0 (subst (λ (d : D). IfSome (model.seen d) (λ x. IsRefusedMedium e x (medium_fault why))) (sym same) refused))
  first_told (disk ∷ disks) (told ∷ bytes) [] (suc place) at index old why tell each there is refused = absurd each
  first_told (disk ∷ disks) (told ∷ bytes) (set ∷ sets) (suc place) at index old why tell each there is refused =
      inr ((set, at_told (model.seen disk) told (λ x. HoldsSet e x set) tell.0 each.0), first_told disks bytes sets place (at + 1) index old why tell.1 each.1 there (omega (arith, is)) refused)

  module _ (one : D) (more : List D) (content : Content) (is : model.seen one ≡ Some content.disk) (tell : Tell model more content.more) where
    -- the first one is refused
    pub one_told : (why : MediumWhy) → IfSome (model.seen one) (λ x. IsRefusedMedium e x (medium_fault why)) → Refuses e content.disk (refused_status (medium_fault why))
    one_told why refused =
        refuses e content.disk (medium_fault why) (no_fault why) (no_memory why) (at_told (model.seen one) content.disk (λ x. IsRefusedMedium e x (medium_fault why)) is refused)

    -- a further one is
    pub further_told : {Stops : ℕ → D → D → Type 0} (now : List D) (set : List Ballot) (index : ℕ) (why : MediumWhy) → HoldsIfTold model e one set → (stops : StopsAt model e Stops more now)
        → index ≡ stops.place + 1 → IfSome (model.seen stops.old) (λ x. IsRefusedMedium e x (medium_fault why)) → RefusesFurther e content (status.BadMedium index why)
    further_told now set index why held stops at refused = record {
      held = (set, at_told (model.seen one) content.disk (λ x. HoldsSet e x set) is held);
      index = index;
      why = why;
      is = refl;
      first = first_told more content.more stops.sets stops.place 1 index stops.old why tell stops.earlier stops.there at refused;
    }

    -- none is
    pub all_told : (So : List (List Ballot) → Type 0) (set : List Ballot) (sets : List (List Ballot)) → HoldsIfTold model e one set → EachHolds model e more sets → So (set ∷ sets) → MediaHold e content So
    all_told So set sets held each so = record {
      set = set;
      sets = sets;
      held = at_told (model.seen one) content.disk (λ x. HoldsSet e x set) is held;
      each = each_told more content.more sets tell each;
      so = so;
    }

-- ---- no count rose

pub zip_at : {X : Type 0} (R : X → X → Type 0) (xs ys : List X) (i : ℕ) (x y : X) → AllZip R xs ys → slice_get xs i ≡ Some x → slice_get ys i ≡ Some y → R x y
zip_at R xs ys i x y zip one other =
    subst (λ b. R x b) (get_or_from_slice_get ys i y y other)
    (subst (λ a. R a (get_or ys i y)) (get_or_from_slice_get xs i x x one) (AllZip-get_or R xs ys i x y zip (slice_get_within xs i x one)))
