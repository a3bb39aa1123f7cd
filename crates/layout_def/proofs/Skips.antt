-- Pointers that skip full cells are sound at first, and stay so when a cell is filled.
use Rattle.std.proofs.Common.{◌≡◌, ◌≢◌, ℕ, ◌+◌, ◌<◌, ⊎_elim, List, length, get_or, set, sym, ap, ◌∙◌, subst, arith}
use Rattle.store_spec.proofs.Common.{IsFilled, cases_eq, get_or-set_other, get_or-set_same, length-set}
use Rattle.layout_def.specs.Pointers.{AreSound}

-- a cell that is filled stays so when another is
filled_set : (cells : List ℕ) (p v a b : ℕ) → v ≢ 0 → p < length cells → IsFilled cells a b → IsFilled (set cells p v) a b
filled_set cells p v a b n lt full k from to = ⊎_elim
    (λ (e : k ≡ p). λ z. n (sym (ap (λ m. get_or (set cells p v) m 0) e ∙ get_or-set_same cells p v 0 lt) ∙ z))
    (λ (d : k ≢ p). λ z. full k from to (sym (get_or-set_other cells p k v 0 d) ∙ z))
    (cases_eq k p)

pub sound_filled : (cells onward : List ℕ) (p v : ℕ) → AreSound cells onward → v ≢ 0 → p < length cells → AreSound (set cells p v) (set onward p (p + 1))
sound_filled cells onward p v h n lt =
    let there : p < length onward = omega (arith, h.one_each) in
    let new = λ (k : ℕ) (e : k ≡ p). ap (λ m. get_or (set onward p (p + 1)) m 0) e ∙ get_or-set_same onward p (p + 1) 0 there in
    let old = λ (k : ℕ) (d : k ≢ p). get_or-set_other onward p k (p + 1) 0 d in
    let size = length-set cells p v in
    let now : get_or (set cells p v) p 0 ≡ v = get_or-set_same cells p v 0 lt in
    record {
      one_each = length-set onward p (p + 1) ∙ h.one_each ∙ sym size;
      never_back = λ k in_range. ⊎_elim (λ (e : k ≡ p). omega (arith, new k e)) (λ (d : k ≢ p). omega (arith, old k d, h.never_back k (omega arith))) (cases_eq k p);
      skips_full = λ k in_range. ⊎_elim
          (λ (e : k ≡ p). subst (λ (m : ℕ). IsFilled (set cells p v) k m) (sym (new k e))
          (λ j from to. let same : j ≡ p = omega arith in λ z. n (sym now ∙ ap (λ m. get_or (set cells p v) m 0) (sym same) ∙ z)))
          (λ (d : k ≢ p). subst (λ (m : ℕ). IsFilled (set cells p v) k m) (sym (old k d)) (filled_set cells p v k _ n lt (h.skips_full k (omega arith))))
          (cases_eq k p);
      leads_on = λ k in_range some. ⊎_elim
          (λ (e : k ≡ p). omega (arith, new k e))
          (λ (d : k ≢ p). omega (arith, old k d, h.leads_on k (omega arith) (λ z. some (get_or-set_other cells p k v 0 d ∙ z))))
          (cases_eq k p);
    }

-- pointers from empty cells to themselves
pub sound_empty : (cells onward : List ℕ) → length onward ≡ length cells → ((k : ℕ) → k < length cells → get_or cells k 0 ≡ 0) → ((k : ℕ) → k < length cells → get_or onward k 0 ≡ k) → AreSound cells onward
sound_empty cells onward size empty itself = record {
  one_each = size;
  never_back = λ k lt. omega (arith, itself k lt);
  skips_full = λ k lt j from to. absurd (omega (arith, itself k lt));
  leads_on = λ k lt some. absurd (some (empty k lt));
}
