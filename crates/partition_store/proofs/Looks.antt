-- The media are looked at one after another.
use Rattle.std.proofs.Common.{◌≡◌, ◌+◌, ◌<◌, ◌≤◌, ℕ, suc, ⊎_elim, List, [], ◌∷◌, drop, take, Option, None, refl, sym, ap, subst, arith}
use Rattle.store_spec.proofs.Common.{Ballot, DiskModel, Election, cases_lt}
use Rattle.partition_store.proofs.Seeking.{first_more}
use Rattle.partition_store.proofs.SideBySide.{later_same, zip_before}
use Rattle.partition_store.specs.Foreign.{IsFirstForeign, IsForeignIn, first_foreign}
use Rattle.partition_store.specs.Opening.{IsAgainst, NoOtherRose, RefusesAt, RefusesLook, RefusesParts}
use Rattle.partition_store.specs.declared.fault.PartFault.{PartFault}
use Rattle.partition_store.specs.declared.fault.PartFault.TheVariants.{First, Other, Misplaced, DiskFault, Memory}
use Rattle.recovery.proofs.OneByOne.{zip_same}
use Rattle.recovery.specs.Media.{HoldsIfTold, NoneRose}

pub refuses_further : {D : Type 0} (model : DiskModel D) (e : Election) (more now : List D) (fault : PartFault) → RefusesAt model e more now fault
    → (fault ≡ Memory → NoneRose model more now) → RefusesParts model e more now fault
refuses_further model e more now Memory one none = none refl
refuses_further model e more now (First why) one none = one
refuses_further model e more now (Other index why) one none = one
refuses_further model e more now (Misplaced index number) one none = one
refuses_further model e more now (DiskFault index) one none = one

-- without memory no disk failed
pub none_failed : {D : Type 0} (model : DiskModel D) (e : Election) (index : ℕ) (before after : D) (fault : PartFault) → RefusesLook model e index before after fault → fault ≡ Memory
    → model.faults after ≡ model.faults before
none_failed model e index before after fault refused is = subst (RefusesLook model e index before after) is refused

-- those before it were looked at, and those behind it were not
no_other_rose : {D : Type 0} (model : DiskModel D) (more now : List D) (place : ℕ) → NoneRose model (take place more) (take place now) → drop (place + 1) now ≡ drop (place + 1) more → NoOtherRose model place more now
no_other_rose model more now place before later i x y other at now_at =
    ⊎_elim
    (λ (lt : i < place). zip_before (λ old new. model.faults new ≡ model.faults old) more now place i x y lt before at now_at)
    (λ (le : place ≤ i).
    let behind : place + 1 ≤ i = omega (arith, other, le) in
    ap model.faults (later_same more now (place + 1) i x y behind later at now_at))
    (cases_lt i place)

module _ {A B : Type 0} (first : DiskModel A) (further : DiskModel B) (e : Election) (one after : A) (more : List B) where
  -- why a look at the first gave no store
  pub refuses_first : (fault : PartFault) → RefusesLook first e 0 one after fault → IsAgainst first further e one after more more fault
  refuses_first (First why) refused = (refused.1, refl)
  refuses_first (Other i why) refused = absurd (refused.1 refl)
  refuses_first (Misplaced i number) refused = absurd refused
  refuses_first (DiskFault i) refused =
      subst (λ i. IsAgainst first further e one after more more (DiskFault i)) (sym refused.0)
      (refused.1, zip_same (λ old new. further.faults new ≡ further.faults old) (λ disk. refl) more, tt)
  refuses_first Memory refused = (refused, zip_same (λ old new. further.faults new ≡ further.faults old) (λ disk. refl) more)

  -- why looks at the others gave none
  pub refuses_rest : (now : List B) (set : List Ballot) (fault : PartFault) → HoldsIfTold first e one set → first.faults after ≡ first.faults one → RefusesParts further e more now fault
      → IsAgainst first further e one after more now fault
  refuses_rest now set (First why) held steady refused = let never : ⊥ = omega (arith, refused.refused.0) in absurd never
  refuses_rest now set (Other i why) held steady refused = ((set, held), steady, refused)
  refuses_rest now set (Misplaced i number) held steady refused = absurd refused.refused
  refuses_rest now set (DiskFault i) held steady refused =
      let is : suc refused.place ≡ i = omega (arith, refused.refused.0) in
      subst (λ i. IsAgainst first further e one after more now (DiskFault i)) is (
        (refused.old, refused.new, refused.there, refused.there_now, refused.refused.1),
        (steady, no_other_rose further more now refused.place refused.none_rose refused.later),
        ((set, held), (refused.sets, refused.earlier)),
      )
  refuses_rest now set Memory held steady refused = (steady, refused)

-- what the first is found to hold of another part
pub first_found : (bits : ℕ) (set : List Ballot) (number : Option ℕ) → IsForeignIn bits 0 set number → IsFirstForeign bits (set ∷ []) (first_foreign None 0 number)
first_found bits set number one = first_more bits [] set None 0 number refl (λ part lt. absurd (omega arith)) one
