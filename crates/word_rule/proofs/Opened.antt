-- New words and their first seat, and the seats that are dealt.
use Rattle.std.proofs.Common.{◌≡◌, ◌≢◌, ℕ, ◌+◌, List, [], ◌∷◌, ◌++◌, length, replicate, take, refl, sym, ap, ◌∙◌, subst, arith}
use Rattle.store_spec.proofs.Common.{All-cons, All-nil, length-append, length-replicate, sum_by-cons, take-append_seam}
use Rattle.atomic_table.specs.Table as table
use Rattle.step_core.specs.declared.shape.Shape.{Shape}
use Rattle.word_rule.specs.Seats.{IsSeated, Opens, base_of, knows}
use Rattle.word_rule.specs.declared.seats.Known.{Known}
use Rattle.word_rule.specs.declared.seats.Opening.{Opening}

-- words that are the cells and those behind them, which are 0
module _ {V : Type 0} (holds : Shape → List ℕ → List ℕ → List V → Type 0) (fresh : V) (behind : ℕ) (shape : Shape) (cells words : List ℕ) (opens : Opens holds fresh behind shape cells) (laid : words ≡ cells ++ replicate behind 0) where
  pub laid_size : length words ≡ shape.cells + behind
  laid_size = omega (arith, ap length laid, length-append cells (replicate {A = ℕ} behind 0), length-replicate {A = ℕ} behind 0, opens.size)

  -- the cells at the opening are the first words
  pub base_is : take shape.cells words ≡ cells
  base_is = ap (take shape.cells) laid ∙ ap (λ n. take n (cells ++ replicate behind 0)) (sym opens.size) ∙ take-append_seam cells (replicate behind 0)

  -- the phase's own rule holds
  pub kept_laid : holds shape (take shape.cells words) words (fresh ∷ [])
  kept_laid = subst (λ (b : List ℕ). holds shape b words (fresh ∷ [])) (sym base_is) (subst (λ (l : List ℕ). holds shape cells l (fresh ∷ [])) (sym laid) opens.kept)

module _ {V : Type 0} (fresh : V) (opening : Opening) where
  -- the rule of the seats holds of new words and a first seat, where the phase's own rule does
  pub first_seated : (holds : Shape → List ℕ → List ℕ → List V → Type 0) (words : List ℕ) → holds opening.shape (base_of opening) words (fresh ∷ []) → IsSeated holds fresh opening (table.opening words [] (knows opening opening.seats fresh))
  first_seated holds words kept =
      let first : Known V = knows opening opening.seats fresh in
      record {
        alike = All-cons (λ (k : Known V). k.weight ≢ 0 → k ≡ knows opening k.weight k.view) first [] (λ n. refl) (All-nil (λ (k : Known V). k.weight ≢ 0 → k ≡ knows opening k.weight k.view));
        spent = All-cons (λ (k : Known V). k.weight ≡ 0 → k.view ≡ fresh) first [] (λ n. refl) (All-nil (λ (k : Known V). k.weight ≡ 0 → k.view ≡ fresh));
        weights = omega (arith, sum_by-cons (λ (k : Known V). k.weight) first []);
        kept = kept;
      }
