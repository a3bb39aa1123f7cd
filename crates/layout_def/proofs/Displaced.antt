-- Putting a number in the place of a lower one: the cells stay ordered, and the lower one may stand further on.
use Rattle.std.proofs.Common.{◌≡◌, ◌≢◌, ℕ, ◌+◌, ◌<◌, ◌≤◌, ⊎_elim, List, length, get_or, set, sym, ap, ◌∙◌, subst, arith}
use Rattle.store_spec.proofs.Common.{IsOrdered, MayStand, cases_eq, cases_lt, get_or-set_other, get_or-set_same}

pub stands_at_home : (home : ℕ → ℕ) (cells : List ℕ) (v : ℕ) → MayStand home cells v (home v)
stands_at_home home cells v = record { from_home = omega arith; greater_before = λ k from before. absurd (omega arith) }

pub passes_greater : (home : ℕ → ℕ) (cells : List ℕ) (v place : ℕ) → MayStand home cells v place → v < get_or cells place 0 → MayStand home cells v (place + 1)
passes_greater home cells v place h more = record {
  from_home = let from = h.from_home in omega arith;
  greater_before = λ k from before. ⊎_elim
      (λ (earlier : k < place). h.greater_before k from earlier)
      (λ (here : place ≤ k). let same : place ≡ k = omega arith in subst (λ (j : ℕ). v < get_or cells j 0) same more)
      (cases_lt k place);
}

-- no cell holds less than before
raised : (cells : List ℕ) (place v k : ℕ) → place < length cells → get_or cells place 0 < v → get_or cells k 0 ≤ get_or (set cells place v) k 0
raised cells place v k lt less = ⊎_elim
    (λ (e : k ≡ place).
    let new : get_or (set cells place v) k 0 ≡ v = ap (λ j. get_or (set cells place v) j 0) e ∙ get_or-set_same cells place v 0 lt in
    let was : get_or cells k 0 ≡ get_or cells place 0 = ap (λ j. get_or cells j 0) e in
    omega arith)
    (λ (d : k ≢ place). let old = get_or-set_other cells place k v 0 d in omega arith)
    (cases_eq k place)

pub displaced_ordered : (home : ℕ → ℕ) (cells : List ℕ) (v place : ℕ) → IsOrdered home cells → MayStand home cells v place → place < length cells → get_or cells place 0 < v → IsOrdered home (set cells place v)
displaced_ordered home cells v place h may lt less =
    let after = set cells place v in
    let new = λ (q : ℕ) (e : q ≡ place). ap (λ j. get_or after j 0) e ∙ get_or-set_same cells place v 0 lt in
    let old = λ (q : ℕ) (d : q ≢ place). get_or-set_other cells place q v 0 d in
    record {
      from_home = λ q n. ⊎_elim
          (λ (e : q ≡ place). subst (λ (w : ℕ). home w ≤ q) (sym (new q e)) (let from = may.from_home in omega arith))
          (λ (d : q ≢ place). subst (λ (w : ℕ). home w ≤ q) (sym (old q d)) (h.from_home q (λ z. n (old q d ∙ z))))
          (cases_eq q place);
      greater_before = λ q k n from before.
          let up = raised cells place v k lt less in
          ⊎_elim
          (λ (e : q ≡ place).
          let from_v : home v ≤ k = subst (λ (w : ℕ). home w ≤ k) (new q e) from in
          let more = may.greater_before k from_v (omega arith) in
          let is = new q e in
          omega arith)
          (λ (d : q ≢ place).
          let is = old q d in
          let more : get_or cells q 0 < get_or cells k 0 =
          h.greater_before q k (λ z. n (is ∙ z)) (subst (λ (w : ℕ). home w ≤ k) is from) before in
          omega arith)
          (cases_eq q place);
    }

pub displaced_stands_on : (home : ℕ → ℕ) (cells : List ℕ) (v place : ℕ) → IsOrdered home cells → place < length cells → get_or cells place 0 ≢ 0 → get_or cells place 0 < v → MayStand home (set cells place v) (get_or cells place 0) (place + 1)
displaced_stands_on home cells v place h lt n less =
    let w = get_or cells place 0 in
    record {
      from_home = let from = h.from_home place n in omega arith;
      greater_before = λ k from before. ⊎_elim
          (λ (earlier : k < place).
          let more : w < get_or cells k 0 = h.greater_before place k n from earlier in
          let up = raised cells place v k lt less in
          omega arith)
          (λ (here : place ≤ k).
          let new : get_or (set cells place v) k 0 ≡ v =
          ap (λ j. get_or (set cells place v) j 0) (let same : k ≡ place = omega arith in same) ∙ get_or-set_same cells place v 0 lt in
          omega arith)
          (cases_lt k place);
    }
