-- The rule of seats is kept where a seat is cut off, where one takes in another, and at a step of the phase. A seat that
-- stands for all knows the views of all.
use Rattle.std.proofs.Common.{◌≡◌, ◌≢◌, ℕ, zero, suc, ◌+◌, ◌<◌, ◌≤◌, Some, List, [], ◌∷◌, ◌++◌, length, map, get_or, set, refl, sym, ap, ◌∙◌, subst, arith}
use Rattle.store_spec.proofs.Common.{All, All-append, All-cons, All-nil, All-set, get_or-le-sum_by, get_or_from_slice_get, map-append, map-set, slice_get, sum_by, sum_by-append, sum_by-cons, sum_by-set}
use mathlib.Core.Option.{some, some-injective, some-ne-none}
use lib.ListN.{get_elem?}
use Rattle.atomic_table.proofs.Lists.{set_else}
use Rattle.atomic_table.specs.Table.{State, Splits, Joins}
use Rattle.step_core.proofs.Sets.{at_place, stands-map, stands_within}
use Rattle.step_core.specs.declared.shape.Shape.{Shape}
use Rattle.word_rule.specs.Seats.{IsSeated, KeepsSeats, base_of, cut, cut_off, knows, spent, taken_in}
use Rattle.word_rule.specs.declared.seats.Known.{Known}
use Rattle.word_rule.specs.declared.seats.Opening.{Opening}

-- ---- elements of lists

-- the same element, as std reads it
pub at_slice : {A : Type 0} (l : List A) (i : ℕ) (a : A) → get_elem? l i ≡ some a → slice_get l i ≡ Some a
at_slice [] i a e = absurd (some-ne-none a (sym e))
at_slice (x ∷ xs) zero a e = ap (λ y. Some y) (some-injective x a e)
at_slice (x ∷ xs) (suc i) a e = at_slice xs i a e

-- an element is replaced by one of which f gives the same
map-set_like : {A B : Type 0} (f : A → B) (l : List A) (i : ℕ) (a b : A) → get_elem? l i ≡ some a → f b ≡ f a → map f (set l i b) ≡ map f l
map-set_like f [] i a b e same = refl
map-set_like f (x ∷ xs) zero a b e same = ap (λ y. y ∷ map f xs) (same ∙ sym (ap f (some-injective x a e)))
map-set_like f (x ∷ xs) (suc i) a b e same = ap (λ ys. f x ∷ ys) (map-set_like f xs i a b e same)

-- the sum after one element is replaced
sum-set : {A : Type 0} (f : A → ℕ) (l : List A) (i : ℕ) (a b : A) → slice_get l i ≡ Some a → sum_by f (set l i b) + f a ≡ sum_by f l + f b
sum-set f l i a b stands =
    let change = sum_by-set f l i b a (stands_within l i a stands) in
    let was = ap f (get_or_from_slice_get l i a a stands) in
    omega arith

-- where one element is all of a sum, each other is 0
rest_zero : {A : Type 0} (f : A → ℕ) (l : List A) (i k : ℕ) (a d : A) → slice_get l i ≡ Some a → sum_by f l ≡ f a → k < length l → k ≢ i → f (get_or l k d) ≡ 0
rest_zero f [] i k a d stands all within other = absurd (omega arith)
rest_zero f (x ∷ xs) zero zero a d stands all within other = absurd (other refl)
rest_zero f (x ∷ xs) zero (suc k) a d stands all within other =
    let same = ap f (get_or_from_slice_get (x ∷ xs) zero a a stands) in
    let parts = sum_by-cons f x xs in
    let part = get_or-le-sum_by f xs k d (omega arith) in
    omega arith
rest_zero f (x ∷ xs) (suc i) zero a d stands all within other =
    let same = ap f (get_or_from_slice_get xs i a a stands) in
    let parts = sum_by-cons f x xs in
    let part = get_or-le-sum_by f xs i a (stands_within xs i a stands) in
    omega arith
rest_zero f (x ∷ xs) (suc i) (suc k) a d stands all within other =
    let same = ap f (get_or_from_slice_get xs i a a stands) in
    let parts = sum_by-cons f x xs in
    let part = get_or-le-sum_by f xs i a (stands_within xs i a stands) in
    rest_zero f xs i k a d stands (omega arith) (omega arith) (λ e. other (ap suc e))

module _ {V : Type 0} (holds : Shape → List ℕ → List ℕ → List V → Type 0) (fresh : V) (opening : Opening) where
  abbrev Words : Type 0
  Words = State (Unit {0}) (Known V)

  abbrev weight_of : Known V → ℕ
  weight_of known = known.weight

  abbrev view_in : Known V → V
  view_in known = known.view

  abbrev KnowsOpening : Known V → Type 0
  KnowsOpening known = known.weight ≢ 0 → known ≡ knows opening known.weight known.view

  abbrev IsSpent : Known V → Type 0
  IsSpent known = known.weight ≡ 0 → known.view ≡ fresh

  -- what a seat that is not spent knows
  pub knows_opening : (s : Words) (id : ℕ) (known : Known V) → IsSeated holds fresh opening s → get_elem? s.views id ≡ some known → known.weight ≢ 0 → known ≡ knows opening known.weight known.view
  knows_opening s id known h seen heavy = at_place KnowsOpening s.views id known (at_slice s.views id known seen) h.alike heavy

  -- ---- a seat is cut off

  pub cuts : (id : ℕ) (known : Known V) → 2 ≤ known.weight → ((shape : Shape) (base words : List ℕ) (views : List V) → holds shape base words views → holds shape base words (views ++ fresh ∷ [])) → Splits (IsSeated holds fresh opening) id known (cut known) (cut_off fresh known)
  cuts id known heavy made s h seen =
      let stands = at_slice s.views id known seen in
      let is = knows_opening s id known h seen (λ e. omega arith) in
      let first = set s.views id (cut known) in
      let change = sum-set weight_of s.views id known (cut known) stands in
      let all = sum_by-append weight_of first (cut_off fresh known ∷ []) in
      let last = sum_by-cons weight_of (cut_off fresh known) [] in
      let whole = h.weights in
      record {
        alike = All-append KnowsOpening first (cut_off fresh known ∷ [])
            (All-set KnowsOpening s.views id (cut known) (λ some_left. ap cut is) h.alike)
            (All-cons KnowsOpening (cut_off fresh known) [] (λ some_left. ap (cut_off fresh) is) (All-nil KnowsOpening));
        spent = All-append IsSpent first (cut_off fresh known ∷ [])
            (All-set IsSpent s.views id (cut known) (λ none. absurd (omega arith)) h.spent)
            (All-cons IsSpent (cut_off fresh known) [] (λ none. absurd (omega arith)) (All-nil IsSpent));
        weights = omega arith;
        kept = subst (holds opening.shape (base_of opening) s.words)
            (sym (map-append view_in first (cut_off fresh known ∷ []) ∙ ap (λ vs. vs ++ fresh ∷ []) (map-set_like view_in s.views id known (cut known) seen refl)))
            (made opening.shape (base_of opening) s.words (map view_in s.views) h.kept);
      }

  -- ---- a seat takes in another

  pub takes_in : (both : V → V → V) (rests : V → Type 0) (id other : ℕ) (known gone : Known V) → KeepsSeats holds fresh both rests → known.weight ≢ 0 → rests known.view → rests gone.view → Joins (IsSeated holds fresh opening) id known other gone (taken_in both known gone) (spent fresh)
  takes_in both rests id other known gone laws heavy still still_gone s h seen apart seen_gone =
      let now = taken_in both known gone in
      let first = set s.views id now in
      let stands = at_slice s.views id known seen in
      let stands_gone = at_slice first other gone seen_gone in
      let is = knows_opening s id known h seen heavy in
      let change = sum-set weight_of s.views id known now stands in
      let change_gone = sum-set weight_of first other gone (spent fresh) stands_gone in
      let whole = h.weights in
      let gone_before : slice_get (map view_in s.views) other ≡ Some gone.view = stands-map view_in s.views other gone (at_slice s.views other gone (sym (set_else s.views id other now apart) ∙ seen_gone)) in
      record {
        alike = All-set KnowsOpening first other (spent fresh) (λ some_left. absurd (some_left refl))
            (All-set KnowsOpening s.views id now (λ some_left. ap (λ (k : Known V). taken_in both k gone) is) h.alike);
        spent = All-set IsSpent first other (spent fresh) (λ none. refl)
            (All-set IsSpent s.views id now (λ none. absurd (heavy (omega arith))) h.spent);
        weights = omega arith;
        kept = subst (holds opening.shape (base_of opening) s.words)
            (sym (map-set view_in first other (spent fresh) ∙ ap (λ vs. set vs other fresh) (map-set view_in s.views id now)))
            (laws.taken opening.shape (base_of opening) s.words (map view_in s.views) id other known.view gone.view h.kept (λ e. apart (sym e))
            (stands-map view_in s.views id known stands) gone_before still still_gone);
      }

  -- ---- a step

  pub steps : (s : Words) (id : ℕ) (known : Known V) (words : List ℕ) (view : V) (now : Words) → IsSeated holds fresh opening s → get_elem? s.views id ≡ some known → known.weight ≢ 0 → holds opening.shape (base_of opening) words (set (map view_in s.views) id view) → now.words ≡ words → now.views ≡ set s.views id (record known { view = view }) → IsSeated holds fresh opening now
  steps s id known words view now h seen heavy kept words_are views_are =
      let known_now = record known { view = view } in
      let stands = at_slice s.views id known seen in
      let is = knows_opening s id known h seen heavy in
      let change = sum-set weight_of s.views id known known_now stands in
      let whole = h.weights in
      record {
        alike = subst (All KnowsOpening) (sym views_are) (All-set KnowsOpening s.views id known_now (λ some_left. ap (λ (k : Known V). record k { view = view }) is) h.alike);
        spent = subst (All IsSpent) (sym views_are) (All-set IsSpent s.views id known_now (λ none. absurd (heavy none)) h.spent);
        weights = ap (sum_by weight_of) views_are ∙ (let same : sum_by weight_of (set s.views id known_now) ≡ sum_by weight_of s.views = omega arith in same ∙ whole);
        kept = subst (λ (ws : List ℕ). holds opening.shape (base_of opening) ws (map view_in now.views)) (sym words_are)
            (subst (holds opening.shape (base_of opening) words) (sym (ap (map view_in) views_are ∙ map-set view_in s.views id known_now)) kept);
      }

  -- ---- the end

  -- beside a seat that stands for all, each view is as new
  pub others_fresh : (s : Words) (id : ℕ) (known : Known V) (k : ℕ) (d : Known V) → IsSeated holds fresh opening s → get_elem? s.views id ≡ some known → known.weight ≡ opening.seats → k < length s.views → k ≢ id → (get_or s.views k d).view ≡ fresh
  others_fresh s id known k d h seen all within other =
      h.spent k d within (rest_zero weight_of s.views id k known d (at_slice s.views id known seen) (h.weights ∙ sym all) within other)
