use Rattle.std.proofs.Common.{◌≢◌, ℕ, zero, suc, [], ◌∷◌, refl, arith}
use Rattle.std.proofs.lemmas.List.Elements.{All-nil, All-cons}
use Rattle.std.proofs.lemmas.List.Kept.{AllPairs-cons}
use Rattle.std.proofs.lemmas.List.Sorted.{IsPermutation-append_comm}
use Rattle.std.specs.List.{All, AllPairs, Contains}
use Rattle.store_spec.proofs.step_figures.example_outcome.Goals as goal
use Rattle.store_spec.specs.Phase.{Answer, IsRightlyMet, MayBeMetBefore}

one : {X : Type 0} (R : X → X → Type 0) (x y : X) → R x y → AllPairs R (x ∷ y ∷ [])
one R x y h = AllPairs-cons R x (y ∷ []) (All-cons (R x) y [] h (All-nil (R x)))
    (AllPairs-cons R y [] (All-nil (R y)) (λ i j d lt in_range. absurd (omega arith)))

both : {X : Type 0} (P : X → Type 0) (x y : X) → P x → P y → All P (x ∷ y ∷ [])
both P x y p q = All-cons P x (y ∷ []) p (All-cons P y [] q (All-nil P))

abbrev Right : Answer → Type 0
Right a = IsRightlyMet 2 (9 ∷ []) (1 ∷ 9 ∷ []) a.number a.met

first : (x y : ℕ) → Contains (x ∷ y ∷ []) x
first x y = (0, omega arith, refl)

-- what stands in a list of one or two is one of them
not_in_one : (x y : ℕ) → x ≢ y → ¬ Contains (x ∷ []) y
not_in_one x y n (zero, lt, e) = n e
not_in_one x y n (suc k, lt, e) = absurd (omega arith)

not_in_two : (x y z : ℕ) → x ≢ z → y ≢ z → ¬ Contains (x ∷ y ∷ []) z
not_in_two x y z n m (zero, lt, e) = n e
not_in_two x y z n m (suc zero, lt, e) = m e
not_in_two x y z n m (suc (suc k), lt, e) = absurd (omega arith)

pub returns : goal.returns
returns c = record {
  is = record {
    gains = IsPermutation-append_comm (9 ∷ []) (1 ∷ []);
    distinct = one (λ a b. a ≢ b) 1 9 (omega arith);
    answers = both (All Right) _ _
        (both Right _ _ (0, omega arith, refl) (not_in_one 9 1 (omega arith), first 1 9))
        (both Right _ _ (not_in_one 9 1 (omega arith), first 1 9) (not_in_two 1 9 5 (omega arith) (omega arith), refl));
    in_order = both (AllPairs MayBeMetBefore) _ _ (one MayBeMetBefore _ _ (λ e. (omega arith, λ same. cc))) (one MayBeMetBefore _ _ (λ e. absurd cc));
  };
}
