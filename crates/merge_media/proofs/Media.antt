-- Further media are looked at one after another.
use Rattle.std.proofs.Common.{◌≡◌, ℕ, ⊎_elim, List, [], ◌∷◌, ◌++◌, Option, refl, subst}
use Rattle.store_spec.proofs.Common.{Ballot, DiskModel, Election}
use Rattle.merge_media.proofs.Standing.{joined_same, none_stands, stands_behind, stands_cases, stands_either, stands_first, stands_left, stands_right}
use Rattle.merge_media.specs.Merging.{RefusesFurther, RefusesMedium, RefusesOne}
use Rattle.merge_media.specs.Union.{IsJoinedOf}
use Rattle.merge_media.specs.declared.fault.MergeFault.{MergeFault}
use Rattle.merge_media.specs.declared.fault.MergeFault.TheVariants.{Target, OtherFault, Other, Dispute, TooMany, DiskFault, Memory}
use Rattle.recovery.specs.Media.{NoneRose}

-- ---- why they are not joined

pub refuses_further : {D : Type 0} (model : DiskModel D) (e : Election) (more now : List D) (fault : MergeFault) → RefusesOne model e more now fault
    → (fault ≡ Memory → NoneRose model more now) → RefusesFurther model e more now fault
refuses_further model e more now Memory one none = none refl
refuses_further model e more now (Target why) one none = one
refuses_further model e more now (OtherFault index) one none = one
refuses_further model e more now (Other index why) one none = one
refuses_further model e more now (Dispute number) one none = one
refuses_further model e more now (TooMany count) one none = one
refuses_further model e more now DiskFault one none = one

-- without memory no disk failed
pub none_failed : {D : Type 0} (model : DiskModel D) (e : Election) (index : ℕ) (before after : D) (fault : MergeFault) → RefusesMedium model e index before after fault → fault ≡ Memory
    → model.faults after ≡ model.faults before
none_failed model e index before after fault refused is = subst (RefusesMedium model e index before after) is refused

-- ---- a set more is joined

pub joined_behind : (target next : List Ballot) (sets : List (List Ballot)) (ballots : List Ballot) (dispute : Option ℕ)
    → IsJoinedOf (next ∷ (target ∷ sets)) ballots dispute → IsJoinedOf (target ∷ (sets ++ next ∷ [])) ballots dispute
joined_behind target next sets ballots dispute j =
    joined_same (next ∷ (target ∷ sets)) (target ∷ (sets ++ next ∷ []))
    (λ b stands. ⊎_elim
    (λ c. stands_behind target (sets ++ next ∷ []) b (stands_right sets (next ∷ []) b (stands_first next [] b c)))
    (λ rest. ⊎_elim
    (λ c. stands_first target (sets ++ next ∷ []) b c)
    (λ other. stands_behind target (sets ++ next ∷ []) b (stands_left sets (next ∷ []) b other))
    (stands_cases target sets b rest))
    (stands_cases next (target ∷ sets) b stands))
    (λ b stands. ⊎_elim
    (λ c. stands_behind next (target ∷ sets) b (stands_first target sets b c))
    (λ rest. ⊎_elim
    (λ other. stands_behind next (target ∷ sets) b (stands_behind target sets b other))
    (λ last. ⊎_elim (λ c. stands_first next (target ∷ sets) b c) (λ none. absurd (none_stands b none)) (stands_cases next [] b last))
    (stands_either sets (next ∷ []) b rest))
    (stands_cases target (sets ++ next ∷ []) b stands))
    ballots dispute j
