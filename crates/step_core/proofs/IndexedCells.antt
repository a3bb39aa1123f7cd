-- The cells of numbers, found by going over the cells.
use Rattle.std.proofs.Common.{◌≡◌, ◌≢◌, ℕ, ◌+◌, ◌<◌, ◌≤◌, ⊎_elim, List, length, get_or, set, sym, ◌∙◌, ap, arith}
use Rattle.store_spec.proofs.Common.{All, AllPairs, Contains, IsNonDecreasing, cases_eq, cases_lt, cases_order, get_or-set_other, get_or-set_same, get_or_default, length-set}
use Rattle.step_core.specs.CellIndex.{IsCellIndex, StandOnce}

-- the numbers that stand in the first cells have their places
pub record FoundBelow (cells numbers places : List ℕ) (first : ℕ) : Type 0 where
  pub as_many : length places ≡ length numbers
  pub found : (place rank : ℕ) → place < first → rank < length numbers → get_or cells place 0 ≡ get_or numbers rank 0 → get_or places rank 0 ≡ place

module _ (cells numbers places : List ℕ) (first : ℕ) (apart : AllPairs (λ a b. a ≢ b) numbers) (some : All (λ x. x ≢ 0) numbers) (once : StandOnce cells) (h : FoundBelow cells numbers places first) where
  one_rank : (i j : ℕ) → i < length numbers → j < length numbers → get_or numbers i 0 ≡ get_or numbers j 0 → i ≡ j
  one_rank i j lt_i lt_j e = ⊎_elim (λ same. same)
      (λ s. ⊎_elim (λ (lt : i < j). absurd (apart i j 0 lt lt_j e)) (λ (lt : j < i). absurd (apart j i 0 lt lt_i (sym e))) s)
      (cases_order i j)

  pub found_rank : (rank : ℕ) → rank < length numbers → get_or numbers rank 0 ≡ get_or cells first 0 → FoundBelow cells numbers (set places rank first) (first + 1)
  found_rank rank within is =
      let many = h.as_many in
      record {
        as_many = length-set places rank first ∙ h.as_many;
        found = λ place other before lt e. ⊎_elim
            (λ (same : other ≡ rank).
            let here : place ≡ first = ⊎_elim
            (λ (earlier : place < first).
            let stands : get_or cells place 0 ≡ get_or cells first 0 = e ∙ ap (λ k. get_or numbers k 0) same ∙ is in
            once place first (λ z. some other 0 lt (sym e ∙ z)) stands)
            (λ (later : first ≤ place). omega arith)
            (cases_lt place first) in
            ap (λ k. get_or (set places rank first) k 0) same ∙ get_or-set_same places rank first 0 (omega arith) ∙ sym here)
            (λ (n : other ≢ rank).
            let earlier : place < first = ⊎_elim (λ lt. lt)
            (λ (late : first ≤ place).
            let here : place ≡ first = omega arith in
            absurd (n (one_rank other rank lt within (sym e ∙ ap (λ k. get_or cells k 0) here ∙ sym is))))
            (cases_lt place first) in
            get_or-set_other places rank other first 0 n ∙ h.found place other earlier lt e)
            (cases_eq other rank);
      }

  pub no_rank : ((rank : ℕ) → rank < length numbers → get_or numbers rank 0 ≢ get_or cells first 0) → FoundBelow cells numbers places (first + 1)
  no_rank none = record {
    as_many = h.as_many;
    found = λ place rank before lt e. ⊎_elim
        (λ (earlier : place < first). h.found place rank earlier lt e)
        (λ (late : first ≤ place).
        let here : place ≡ first = omega arith in
        absurd (none rank lt (sym e ∙ ap (λ k. get_or cells k 0) here)))
        (cases_lt place first);
  }

pub all_found : (cells numbers places : List ℕ) (first : ℕ) → length cells ≤ first → IsNonDecreasing numbers → All (Contains cells) numbers → FoundBelow cells numbers places first → IsCellIndex cells numbers places
all_found cells numbers places first over in_order each h = record {
  in_order = in_order;
  as_many = h.as_many;
  stands = λ rank lt.
      let c = each rank 0 lt in
      let there : get_or cells c.0 0 ≡ get_or numbers rank 0 = get_or_default cells c.0 0 (get_or numbers rank 0) c.1 ∙ c.2 in
      ap (λ k. get_or cells k 0) (h.found c.0 rank (omega (arith, c.1)) lt there) ∙ there;
}
