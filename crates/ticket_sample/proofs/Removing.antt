-- A set without a ballot that is not in its sample.
use Rattle.std.proofs.Common.{◌≡◌, ℕ, ◌+◌, ◌≤◌, inl, inr, List, ◌∷◌, ◌++◌, Bool, true, false, cond, refl, sym, ap, ◌∙◌, arith}
use Rattle.store_spec.proofs.Common.{Ballot, Contains, Contains-append_right, cond-false, cond-true, filter, filter-append, map-append, nat_lt, nat_tests, numbers_of, sum_by-append, sum_by-cons, sum_by-le-sum_by, true≢false}
use Rattle.std.proofs.lemmas.List.Elements.{filter_agree}
use Rattle.ticket_sample.proofs.Bounding.{lots_order}
use Rattle.ticket_sample.proofs.Samples.{among_passing}
use Rattle.ticket_sample.proofs.Splitting.{bool_cases, irreflexive}
use Rattle.ticket_sample.specs.Sample.{count_before, is_drawn, sample_of}
use Rattle.ticket_sample.specs.Ticket.{is_before, lot_of}

module _ (dice : List ℕ) where
  -- whether a number is drawn before another, as a count
  abbrev one : ℕ → ℕ → ℕ
  one x other = cond (is_before dice other x) 1 0

  count_whole : (xs ys : List ℕ) (n x : ℕ) → count_before dice (xs ++ n ∷ ys) x ≡ count_before dice (xs ++ ys) x + one x n
  count_whole xs ys n x = omega (arith, sum_by-append (one x) xs (n ∷ ys), sum_by-cons (one x) n ys, sum_by-append (one x) xs ys)

  -- what is drawn before one is drawn before the next
  before_too : (n x other : ℕ) → is_before dice n x ≡ true → one n other ≤ one x other
  before_too n x other less = elim (bool_cases (is_before dice other n)) [
    | inl first ↦
        let then : is_before dice other x ≡ true = elim (bool_cases (is_before dice other x)) [
          | inl is ↦ is
          | inr isnt ↦ absurd (true≢false (sym first ∙ lots_order.chain (lot_of dice other) (lot_of dice x) (lot_of dice n) isnt (lots_order.one_way (lot_of dice n) (lot_of dice x) less)))
        ] in
        omega (arith, cond-true {A = ℕ} (is_before dice other n) 1 0 first, cond-true {A = ℕ} (is_before dice other x) 1 0 then)
    | inr later ↦ omega (arith, cond-false {A = ℕ} (is_before dice other n) 1 0 later)
  ]

  counts_rise : (xs : List ℕ) (n x : ℕ) → is_before dice n x ≡ true → count_before dice xs n ≤ count_before dice xs x
  counts_rise xs n x less = sum_by-le-sum_by (one n) (one x) xs (λ other. before_too n x other less)

  -- a number that is not drawn can be taken out
  same_drawn : (xs ys : List ℕ) (n k x : ℕ) → is_drawn dice k (xs ++ n ∷ ys) n ≡ false → is_drawn dice k (xs ++ ys) x ≡ is_drawn dice k (xs ++ n ∷ ys) x
  same_drawn xs ys n k x isnt =
      let rest = count_before dice (xs ++ ys) in
      let whole = count_before dice (xs ++ n ∷ ys) in
      let alone = cond-false {A = ℕ} (is_before dice n n) 1 0 (irreflexive _ lots_order (lot_of dice n)) in
      let many : k ≤ rest n = let at : k ≤ whole n = grind (arith, nat_tests, isnt) in omega (arith, at, count_whole xs ys n n, alone) in
      elim (bool_cases (is_before dice n x)) [
        | inl less ↦
            let more = counts_rise (xs ++ ys) n x less in
            let added = count_whole xs ys n x in
            let first : k ≤ rest x = omega (arith, many, more) in
            let second : k ≤ whole x = omega (arith, first, added) in
            grind (arith, nat_tests, first, second)
        | inr not_less ↦
            let same : rest x ≡ whole x = omega (arith, count_whole xs ys n x, cond-false {A = ℕ} (is_before dice n x) 1 0 not_less) in
            ap (λ count. nat_lt count k) same
      ]

  pub sample_without : (before behind : List Ballot) (b : Ballot) (k : ℕ) → ¬ Contains (sample_of (before ++ b ∷ behind) dice k) b → sample_of (before ++ behind) dice k ≡ sample_of (before ++ b ∷ behind) dice k
  unfolding sample_of
  sample_without before behind b k none =
      let whole = before ++ b ∷ behind in
      let test : Ballot → Bool = λ x. is_drawn dice k (numbers_of whole) x.number in
      let parts : numbers_of whole ≡ numbers_of before ++ b.number ∷ numbers_of behind = map-append (λ (b : Ballot). b.number) before (b ∷ behind) in
      let rest : numbers_of (before ++ behind) ≡ numbers_of before ++ numbers_of behind = map-append (λ (b : Ballot). b.number) before behind in
      let fails : test b ≡ false = elim (bool_cases (test b)) [
        | inl passes ↦ absurd (none (among_passing test whole b (Contains-append_right before (b ∷ behind) b (0, omega arith, refl)) passes))
        | inr isnt ↦ isnt
      ] in
      let undrawn : is_drawn dice k (numbers_of before ++ b.number ∷ numbers_of behind) b.number ≡ false = ap (λ numbers. is_drawn dice k numbers b.number) (sym parts) ∙ fails in
      filter_agree (λ (x : Ballot). is_drawn dice k (numbers_of (before ++ behind)) x.number) test
      (λ x. ap (λ numbers. is_drawn dice k numbers x.number) rest ∙ same_drawn (numbers_of before) (numbers_of behind) b.number k x.number undrawn ∙ ap (λ numbers. is_drawn dice k numbers x.number) (sym parts))
      (before ++ behind)
      ∙ filter-append test before behind
      ∙ ap (λ more. filter test before ++ more) (sym (cond-false (test b) (b ∷ filter test behind) (filter test behind) fails))
      ∙ sym (filter-append test before (b ∷ behind))
