-- Where a contest is on no style.
use Rattle.std.proofs.Common.{◌≡◌, ◌≢◌, ℕ, ◌-◌, ◌<◌, ◌≤◌, Bool, true, false, cond, eqb, get_or, inl, inr, length, refl, sym, ap, ◌∙◌, arith}
use Rattle.store_spec.proofs.Common.{Election, IsElection, bit_at, cases_lt, get_or_past, is_on_style, ne_eqb, slice_index}
use Rattle.std.proofs.lemmas.Nat.Bits.{bit_at-zero, bit_at_above}
use Rattle.ballot_record.specs.OnStyle.{AreTheirs}

never : (b c : Bool) → cond b false (cond c false false) ≡ false
never true c = refl
never false true = refl
never false false = refl

no_bit : (e : Election) (s k : ℕ) → bit_at (slice_index e.styles (s - 1)) (k - 1) ≡ 0 → is_on_style e s k ≡ false
no_bit e s k none = ap (λ bit. cond (eqb s 0) false (cond (eqb k 0) false (eqb bit 1))) none ∙ never (eqb s 0) (eqb k 0)

pub off_style_0 : (e : Election) (s k : ℕ) → s ≡ 0 → is_on_style e s k ≡ false
off_style_0 e s k is = ap (λ s. is_on_style e s k) is

pub off_contest_0 : (e : Election) (s k : ℕ) → k ≡ 0 → is_on_style e s k ≡ false
off_contest_0 e s k is =
    let off : (b : Bool) → cond b false false ≡ false = elim [ true ↦ refl | false ↦ refl ] in
    ap (λ k. is_on_style e s k) is ∙ off (eqb s 0)

pub past_styles : (e : Election) (s k : ℕ) → length e.styles < s → is_on_style e s k ≡ false
past_styles e s k past =
    no_bit e s k (ap (λ style. bit_at style (k - 1)) (get_or_past e.styles (s - 1) 0 (omega arith)) ∙ bit_at-zero (k - 1))

pub past_contests : (e : Election) (s k : ℕ) → IsElection e → s ≢ 0 → s ≤ length e.styles → length e.contests < k → is_on_style e s k ≡ false
past_contests e s k valid some known past =
    no_bit e s k (bit_at_above (slice_index e.styles (s - 1)) (length e.contests) (k - 1) ((valid.each_style (s - 1) 0 (omega arith)).of_these) (omega arith))

-- else the word that stands for the style tells
pub told_by_word : (e : Election) (s k word : ℕ) → s ≢ 0 → k ≢ 0 → word ≡ slice_index e.styles (s - 1)
    → is_on_style e s k ≡ eqb (bit_at word (k - 1)) 1
told_by_word e s k word some first is =
    let told : ℕ → Bool = λ word. eqb (bit_at word (k - 1)) 1 in
    let style = slice_index e.styles (s - 1) in
    ap (λ none. cond none false (cond (eqb k 0) false (told style))) (ne_eqb s 0 some)
    ∙ ap (λ none. cond none false (told style)) (ne_eqb k 0 first)
    ∙ ap told (sym is)

-- each bit of a style's word stands for a contest of the election
pub contest_of_bit : (e : Election) (place word : ℕ) → IsElection e → place < length e.styles → word ≡ get_or e.styles place 0 → AreTheirs e word
contest_of_bit e place word valid within is k marked = elim (cases_lt k (length e.contests)) [
  | inl there ↦ there
  | inr past ↦
      let none : bit_at word k ≡ 0 = ap (λ word. bit_at word k) is
      ∙ bit_at_above (get_or e.styles place 0) (length e.contests) k ((valid.each_style place 0 within).of_these) past in
      absurd (omega (arith, none, marked))
]

pub no_contest_of_0 : (e : Election) → AreTheirs e 0
no_contest_of_0 e k marked = let none = bit_at-zero k in absurd (omega (arith, none, marked))
