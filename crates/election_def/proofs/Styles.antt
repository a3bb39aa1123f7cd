-- The set of a style's contests, number by number.
use Rattle.std.proofs.Common.{◌≡◌, ℕ, zero, suc, ◌+◌, ◌-◌, ◌*◌, ◌%◌, ◌^◌, ◌<◌, ◌≤◌, inl, inr, Bool, true, false, cond, leb, List, [], ◌∷◌, length, get_or, map, drop, Option, Some, None, refl, sym, ap, ◌∙◌, arith, bit_or, mod-eq_of_lt, pow_mono, pow-suc}
use Rattle.store_spec.proofs.Common.{AllZip, IsStrictlyIncreasing, drop_all, le-leb, leb-true, lt-leb, none-some, option_and_then_some, option_map, same_Some, sum_by-cons}
use Rattle.std.specs.Prelude.{option_and_then, All}
use Rattle.std.proofs.lemmas.Bool.{leb-false}
use Rattle.std.proofs.lemmas.Nat.{or_comm, or_shifted, pow_below}
use Rattle.ballot_record.proofs.LineNumbers.{chosen}
use Rattle.ballot_record.proofs.LineGroups.{option_map_some}
use Rattle.std.proofs.Math.ListN.{length-map}
use Rattle.serde_json.specs.Data.{Data}
use Rattle.serde_json.specs.Find.{as_array}
use Rattle.serde_json.specs.View.{view, items_view}
use Rattle.serde_json.specs.declared.value.Value.{Value}
use Rattle.election_def.specs.Text.{number_in, contest_set, IsStyleIn}
use Rattle.election_def.proofs.Arrays.{next_items, in_array, from_array}

-- each number is above the one before it, and they are within so many contests
abbrev pub RisesFrom : ℕ → ℕ → List ℕ → Type 0
RisesFrom contests last [] = Unit {0}
RisesFrom contests last (k ∷ ks) = (last < k) × (k ≤ contests) × RisesFrom contests k ks

abbrev pub IsNumber : Data → ℕ → Type 0
IsNumber d k = number_in d ≡ Some k

-- the set of the numbers that follow
unfoldable pub set_from : ℕ → ℕ → List Data → Option ℕ
set_from contests last [] = Some 0
set_from contests last (d ∷ ds) =
    option_and_then (λ k. cond (leb k last) None (cond (leb k contests) (option_map (λ rest. 2 ^ (k - 1) + rest) (set_from contests k ds)) None)) (number_in d)

abbrev pub AreNumbers : ℕ → ℕ → List Data → List ℕ → Type 0
AreNumbers contests last ds ks = AllZip IsNumber ds ks × RisesFrom contests last ks

pub numbers_of_set : (contests last : ℕ) (ds : List Data) (s : ℕ) → set_from contests last ds ≡ Some s → (ks : List ℕ) × AreNumbers contests last ds ks × (s ≡ contest_set ks)
unfolding set_from
numbers_of_set contests last [] s e = ([], (tt, tt), sym (same_Some 0 s e))
numbers_of_set contests last (d ∷ ds) s e =
    option_and_then_some _ (number_in d) s e (λ k found goes_on.
    elim (chosen (leb k last) _ _ (Some s) goes_on) [
      | inl falls ↦ absurd (none-some s falls.1)
      | inr rises ↦ elim (chosen (leb k contests) _ _ (Some s) rises.1) [
        | inr past ↦ absurd (none-some s past.1)
        | inl within ↦
            let rest = option_map_some (λ rest. 2 ^ (k - 1) + rest) (set_from contests k ds) s within.1 in
            let others = numbers_of_set contests k ds rest.0 rest.1 in (
              k ∷ others.0,
              ((found, others.1.0), (leb-false k last rises.0, leb-true k contests within.0, others.1.1)),
              sym rest.2 ∙ ap (λ n. 2 ^ (k - 1) + n) others.2 ∙ sym (sum_by-cons (λ (n : ℕ). 2 ^ (n - 1)) k others.0),
            )
      ]
    ])

pub set_of_numbers : (contests last : ℕ) (ds : List Data) (ks : List ℕ) → AllZip IsNumber ds ks → RisesFrom contests last ks → set_from contests last ds ≡ Some (contest_set ks)
unfolding set_from
set_of_numbers contests last [] [] all rises = refl
set_of_numbers contests last [] (k ∷ ks) all rises = absurd all
set_of_numbers contests last (d ∷ ds) [] all rises = absurd all
set_of_numbers contests last (d ∷ ds) (k ∷ ks) all rises =
    rw (all.0, lt-leb k last rises.0, le-leb k contests rises.1)
    (ap (option_map (λ rest. 2 ^ (k - 1) + rest)) (set_of_numbers contests k ds ks all.1 rises.2) ∙ ap (λ n. Some n) (sym (sum_by-cons (λ (n : ℕ). 2 ^ (n - 1)) k ks)))

-- ---- the rules on the numbers

rises_within : (contests last : ℕ) (ks : List ℕ) → RisesFrom contests last ks → All (λ k. (1 ≤ k) × (k ≤ contests)) ks
rises_within contests last [] rises i d below = absurd (omega arith)
rises_within contests last (k ∷ ks) rises zero d below = (omega (arith, rises.0), rises.1)
rises_within contests last (k ∷ ks) rises (suc i) d below = rises_within contests k ks rises.2 i d (omega arith)

rises_ascending : (contests last : ℕ) (ks : List ℕ) → RisesFrom contests last ks → IsStrictlyIncreasing ks
rises_ascending contests last [] rises i below = absurd (omega arith)
rises_ascending contests last (k ∷ []) rises i below = absurd (omega arith)
rises_ascending contests last (k ∷ next ∷ ks) rises zero below = rises.2.0
rises_ascending contests last (k ∷ next ∷ ks) rises (suc i) below =
    let same : suc i + 1 ≡ suc (i + 1) = omega arith in rw same (rises_ascending contests k (next ∷ ks) rises.2 i (omega arith))

rises_from : (contests last : ℕ) (ks : List ℕ) → (1 ≤ length ks → last < get_or ks 0 0) → All (λ k. (1 ≤ k) × (k ≤ contests)) ks → IsStrictlyIncreasing ks → RisesFrom contests last ks
rises_from contests last [] above within ascending = tt
rises_from contests last (k ∷ ks) above within ascending = (
  above (omega arith),
  (within 0 0 (omega arith)).1,
  rises_from contests k ks (λ some. ascending 0 (omega arith)) (λ i d below. within (suc i) d (omega arith)) (λ i below. let same : suc i + 1 ≡ suc (i + 1) = omega arith in rw same at (ascending (suc i) (omega arith))),
)

as_many : (ds : List Data) (ks : List ℕ) → AllZip IsNumber ds ks → length ks ≡ length ds
as_many [] [] all = refl
as_many [] (k ∷ ks) all = absurd all
as_many (d ∷ ds) [] all = absurd all
as_many (d ∷ ds) (k ∷ ks) all = ap suc (as_many ds ks all.1)

-- ---- the items of a style

pub style_read : (contests : ℕ) (d : Data) (vs items : List Value) (style : ℕ) → Some (items_view vs) ≡ as_array d → items ≡ vs → set_from contests 0 (map view items) ≡ Some style → 0 < length items → IsStyleIn contests d style
style_read contests d vs items style is same set some =
    let found = numbers_of_set contests 0 (map view items) style set in
    record {
      numbers = found.0;
      are = in_array IsNumber found.0 d vs items is same found.1.0;
      some = omega (arith, as_many (map view items) found.0 found.1.0, length-map items view);
      within = rises_within contests 0 found.0 found.1.1;
      ascending = rises_ascending contests 0 found.0 found.1.1;
      set = found.2;
    }

-- what each style in the value says of the items
pub record IsSetRead (contests : ℕ) (items : List Value) (style : ℕ) : Type 0 where
  pub set : set_from contests 0 (map view items) ≡ Some style
  pub some : 0 < length items

pub set_read : (contests : ℕ) (d : Data) (vs items : List Value) (style : ℕ) → Some (items_view vs) ≡ as_array d → items ≡ vs → IsStyleIn contests d style → IsSetRead contests items style
set_read contests d vs items style is same read =
    let all = from_array IsNumber read.numbers d vs items is same read.are in
    record {
      set = set_of_numbers contests 0 (map view items) read.numbers all (rises_from contests 0 read.numbers (λ some. (read.within 0 0 (omega (arith, read.some))).0) read.within read.ascending) ∙ ap (λ n. Some n) (sym read.set);
      some = omega (arith, as_many (map view items) read.numbers all, read.some, length-map items view);
    }

-- ---- one number more

abbrev next : ℕ → ℕ → List Data → ℕ → Option ℕ
next contests last ds k = cond (leb k last) None (cond (leb k contests) (option_map (λ rest. 2 ^ (k - 1) + rest) (set_from contests k ds)) None)

none_either_way : (b : Bool) (o : Option ℕ) → o ≡ None → cond b None o ≡ None
none_either_way true o e = refl
none_either_way false o e = e

past_none : (contests last : ℕ) (ds : List Data) (o : Option ℕ) → ((k : ℕ) → o ≡ Some k → contests < k) → option_and_then (next contests last ds) o ≡ None
past_none contests last ds None past = refl
past_none contests last ds (Some k) past =
    none_either_way (leb k last) _ (rw (lt-leb k contests (past k refl)) refl)

pub no_number : (contests last : ℕ) (d : Data) (ds : List Data) → ((k : ℕ) → number_in d ≡ Some k → contests < k) → set_from contests last (d ∷ ds) ≡ None
unfolding set_from
no_number contests last d ds past = past_none contests last ds (number_in d) past

pub falls_to_none : (contests last : ℕ) (d : Data) (ds : List Data) (k : ℕ) → number_in d ≡ Some k → k ≤ last → set_from contests last (d ∷ ds) ≡ None
unfolding set_from
falls_to_none contests last d ds k found low = rw (found, le-leb k last low) refl

pub goes_on : (contests last : ℕ) (d : Data) (ds : List Data) (k : ℕ) → number_in d ≡ Some k → last < k → k ≤ contests
    → set_from contests last (d ∷ ds) ≡ option_map (λ rest. 2 ^ (k - 1) + rest) (set_from contests k ds)
unfolding set_from
goes_on contests last d ds k found above within = rw (found, lt-leb k last above, le-leb k contests within) refl

-- a set and those that follow, as one
pub joined : (set bit : ℕ) (o : Option ℕ) → option_map (λ rest. set + bit + rest) o ≡ option_map (λ rest. set + rest) (option_map (λ rest. bit + rest) o)
joined set bit None = refl
joined set bit (Some rest) = ap (λ n. Some n) (omega arith)

doubled : (k : ℕ) → 1 ≤ k → 2 ^ k ≡ 2 * 2 ^ (k - 1)
doubled k some = let same : k ≡ suc (k - 1) = omega arith in ap (λ n. 2 ^ n) same ∙ pow-suc 2 (k - 1) ∙ omega arith

pub set_grows : (set last k : ℕ) → set < 2 ^ last → last < k → k ≤ 24 → (bit_or set (1 * 2 ^ (k - 1) % 2 ^ 32) ≡ set + 2 ^ (k - 1)) × (set + 2 ^ (k - 1) < 2 ^ k)
set_grows set last k small above few =
    let le : last ≤ k - 1 = omega arith in
    let below : set < 2 ^ (k - 1) = omega (arith, pow_mono {i = last} {j = k - 1} le) in
    let fits : 2 ^ (k - 1) < 2 ^ 32 = pow_below (k - 1) 32 (omega arith) in
    let bit : 1 * 2 ^ (k - 1) % 2 ^ 32 ≡ 1 * 2 ^ (k - 1) = mod-eq_of_lt (omega arith) in
    let twice : 2 ^ k ≡ 2 * 2 ^ (k - 1) = doubled k (omega arith) in
    (ap (bit_or set) bit ∙ or_comm set (1 * 2 ^ (k - 1)) ∙ or_shifted 1 (k - 1) set below ∙ omega arith, omega arith)

-- the sets of what was read and of what is left are that of the whole
abbrev pub GoesOn : ℕ → List Value → ℕ → ℕ → ℕ → Type 0
GoesOn contests items i last style = option_map (λ rest. style + rest) (set_from contests last (drop i (map view items))) ≡ set_from contests 0 (map view items)

pub no_style : (contests : ℕ) (d : Data) (vs items : List Value) (style last i : ℕ) (x : Value) → Some (items_view vs) ≡ as_array d → items ≡ vs → i < length items → get_or items i x ≡ x
    → GoesOn contests items i last style → ((rest : List Data) → set_from contests last (view x ∷ rest) ≡ None) → (s : ℕ) → IsStyleIn contests d s → ⊥
no_style contests d vs items style last i x is same within found more none s read =
    let nothing : set_from contests 0 (map view items) ≡ None = sym more ∙ ap (λ ds. option_map (λ rest. style + rest) (set_from contests last ds)) (next_items items i x within found)
    ∙ ap (option_map (λ rest. style + rest)) (none (drop (i + 1) (map view items))) in
    let all = (set_read contests d vs items s is same read).set in
    cc

pub one_contest_more : (contests : ℕ) (items : List Value) (style last i k : ℕ) (x : Value) → i < length items → get_or items i x ≡ x → number_in (view x) ≡ Some k → last < k → k ≤ contests
    → GoesOn contests items i last style → GoesOn contests items (i + 1) k (style + 2 ^ (k - 1))
one_contest_more contests items style last i k x within found is above few more =
    joined style (2 ^ (k - 1)) (set_from contests k (drop (i + 1) (map view items)))
    ∙ sym (ap (option_map (λ rest. style + rest)) (ap (set_from contests last) (next_items items i x within found) ∙ goes_on contests last (view x) (drop (i + 1) (map view items)) k is above few))
    ∙ more

pub whole_style : (contests : ℕ) (d : Data) (vs items : List Value) (style last i : ℕ) → Some (items_view vs) ≡ as_array d → items ≡ vs → length items ≤ i → 0 < length items → GoesOn contests items i last style → IsStyleIn contests d style
unfolding set_from
whole_style contests d vs items style last i is same end some more =
    let none : drop i (map view items) ≡ [] = drop_all i (map view items) (omega (arith, length-map items view)) in
    let alone : option_map (λ rest. style + rest) (set_from contests last (drop i (map view items))) ≡ Some style = rw none (ap (λ n. Some n) (omega arith)) in
    style_read contests d vs items style is same (sym more ∙ alone) some
