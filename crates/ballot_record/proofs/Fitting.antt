-- The mark sets of a record, judged one after another.
use Rattle.std.proofs.Common.{◌≡◌, ◌==◌, ℕ, ◌+◌, ◌-◌, ◌^◌, ◌<◌, ◌≤◌, ◌↔◌, List, Bool, false, bit_or, inl, inr, length, pow_pos, if◌then◌else◌, ap, subst, sym, ◌∙◌, arith}
use Rattle.store_spec.proofs.Common.{Election, bit_at, cases_lt, choices_of, choices_on, is_on_style, ne_eqb, slice_index}
use Rattle.std.proofs.lemmas.Nat.{le_or_l, le_or_r}
use Rattle.std.specs.Int.Bits.{or_zero_l}
use Rattle.ballot_record.specs.OnStyle.{AreOnStyle, AreTheirs}

-- the set of a contest has only choices that a style offers
abbrev pub Fits : Election → ℕ → List ℕ → ℕ → Type 0
Fits e style marks k = slice_index marks (k - 1) < 2 ^ choices_on e style k

-- so do the first sets
abbrev pub FitUpTo : Election → ℕ → List ℕ → ℕ → Type 0
FitUpTo e style marks last = (k : ℕ) → 1 ≤ k → k ≤ last → Fits e style marks k

-- one more was judged
pub one_more : (e : Election) (style : ℕ) (marks : List ℕ) (place marked one : ℕ) → (marked ≡ 0 ↔ FitUpTo e style marks place)
    → (one ≡ 0 ↔ slice_index marks place < 2 ^ choices_on e style (place + 1))
    → (bit_or marked one ≡ 0 ↔ FitUpTo e style marks (place + 1))
one_more e style marks place marked one before this =
    let at : place + 1 - 1 ≡ place = omega arith in (
      λ none k some last.
          elim (cases_lt k (place + 1)) [
            | inl earlier ↦ before.0 (omega (arith, le_or_l marked one, none)) k some (omega arith)
            | inr here ↦
                let same : place + 1 ≡ k = omega arith in
                subst (Fits e style marks) same
                (subst (λ j. slice_index marks j < 2 ^ choices_on e style (place + 1)) (omega arith) (this.0 (omega (arith, le_or_r marked one, none))))
          ],
      λ fit.
          let none : marked ≡ 0 = before.1 (λ k some last. fit k some (omega arith)) in
          ap (λ x. bit_or x one) none ∙ or_zero_l one
          ∙ this.1 (subst (λ j. slice_index marks j < 2 ^ choices_on e style (place + 1)) at (fit (place + 1) (omega arith) (omega arith))),
    )

-- at the place of no contest nothing is offered
pub none_there : (e : Election) (style contests place set : ℕ) → AreOnStyle e style contests → AreTheirs e contests
    → length e.contests ≤ place → (set ≡ 0 ↔ set < 2 ^ choices_on e style (place + 1))
none_there e style contests place set these known past =
    let off : is_on_style e style (place + 1) ≡ false =
    these (place + 1) (omega arith) ∙ ap (λ (k : ℕ). bit_at contests k == 1) (omega arith)
    ∙ ne_eqb (bit_at contests place) 1 (λ one. omega (arith, known place one, past)) in
    let none : choices_on e style (place + 1) ≡ 0 = ap (λ (on : Bool). if on then choices_of e (place + 1) else 0) off in
    subst (λ (n : ℕ). set ≡ 0 ↔ set < 2 ^ n) (sym none) (λ is. omega (arith, is), λ less. omega (arith, less))

-- a set without marks fits
pub no_marks : (e : Election) (style : ℕ) (marks : List ℕ) (k : ℕ) → slice_index marks (k - 1) ≡ 0 → Fits e style marks k
no_marks e style marks k none = omega (arith, none, pow_pos (choices_on e style k))
