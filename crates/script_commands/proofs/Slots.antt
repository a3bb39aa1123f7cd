-- An index after one number more.
use Rattle.std.proofs.Common.{◌≡◌, ◌≢◌, ℕ, zero, suc, ◌+◌, ◌^◌, ◌<◌, ◌≤◌, cond, List, [], ◌∷◌, ◌++◌, length, set, Option, Some, refl, ap, sym, subst, ◌∙◌, ◌⊎◌, inl, inr, arith, length-append}
use Rattle.store_spec.proofs.Common.{AllByRecursion, cases_eq, cases_lt, get_or-set_other, get_or-set_same, is_eq, nat_cmp, same_Some, slice_get, slice_get-get_or, slice_index}
use Rattle.std.specs.Prelude.{Contains, None}
use Rattle.script_commands.specs.Index.{AreTaken, IsAbsent, StandsAmong, StandsIn, slot_of}
use Rattle.script_commands.proofs.Index.{same_number, other_number, stands}

-- ---- a list with one number more

pushed : (numbers : List ℕ) (last k number : ℕ) → slice_get (numbers ++ last ∷ []) k ≡ Some number
    → (slice_get numbers k ≡ Some number) ⊎ ((k ≡ length numbers) × (last ≡ number))
pushed [] last zero number is = inr (refl, cc)
pushed [] last (suc k) number is = absurd cc
pushed (x ∷ numbers) last zero number is = inl is
pushed (x ∷ numbers) last (suc k) number is = elim (pushed numbers last k number is) [ inl before ↦ inl before | inr behind ↦ inr (omega (arith, behind.0), behind.1) ]

there_still : (numbers : List ℕ) (last k number : ℕ) → slice_get numbers k ≡ Some number → slice_get (numbers ++ last ∷ []) k ≡ Some number
there_still [] last k number is = absurd cc
there_still (x ∷ numbers) last zero number is = is
there_still (x ∷ numbers) last (suc k) number is = there_still numbers last k number is

there_last : (numbers : List ℕ) (last : ℕ) → slice_get (numbers ++ last ∷ []) (length numbers) ≡ Some last
there_last [] last = refl
there_last (x ∷ numbers) last = there_last numbers last

-- ---- what a search has passed

pub slot_below : (number : ℕ) → slot_of number < 2 ^ 17
unfolding slot_of
slot_below number = omega arith

-- in the slots before this one stand other numbers
abbrev pub HasPassed : List ℕ → List ℕ → ℕ → ℕ → Type 0
HasPassed slots numbers number end = (at : ℕ) → slot_of number ≤ at → at < end
    → (slice_index slots at ≢ 0) × ((k : ℕ) → slice_index slots at ≡ k + 1 → slice_get numbers k ≢ Some number)

pub passed_taken : (slots numbers : List ℕ) (number end : ℕ) → HasPassed slots numbers number end → AreTaken slots (slot_of number) end
passed_taken slots numbers number end passed at from below = (passed at from below).0

-- the search passes one slot more
pub passed_more : (slots numbers : List ℕ) (number here k : ℕ) → HasPassed slots numbers number here
    → slice_index slots here ≡ k + 1 → slice_get numbers k ≢ Some number → HasPassed slots numbers number (here + 1)
passed_more slots numbers number here k passed taken other at from below = elim (cases_eq here at) [
  | inl same ↦
      let is : slice_index slots at ≡ k + 1 = ap (slice_index slots) (sym same) ∙ taken in (
        λ free. omega (arith, is, free),
        λ j named stands.
            let place : k ≡ j = omega (arith, is, named) in
            other (ap (slice_get numbers) place ∙ stands),
      )
  | inr differs ↦ passed at from (omega (arith, differs, below))
]

module _ (slots : List ℕ) (others : ℕ → Option ℕ) (numbers : List ℕ) (number : ℕ)
    (noted : (k number : ℕ) → slice_get numbers k ≡ Some number → StandsIn slots k number ⊎ StandsAmong slots others k number) where
  -- the number stands in no slot that its search has passed
  ahead : (end k : ℕ) → HasPassed slots numbers number end → slice_get numbers k ≡ Some number → (s : StandsIn slots k number) → end ≤ s.at
  ahead end k passed there s = elim (cases_lt s.at end) [
    | inl below ↦ absurd ((passed s.at s.from below).1 k s.is there)
    | inr behind ↦ omega (arith, behind)
  ]

  -- the number is absent where its search has come to a free slot
  pub absent_at : (at : ℕ) → slot_of number ≤ at → at < slot_of number + 8 → slice_index slots at ≡ 0 → HasPassed slots numbers number at → IsAbsent numbers number
  absent_at at from within free passed held =
      let k = held.0 in
      let there : slice_get numbers k ≡ Some number = slice_get-get_or numbers k number held.1 ∙ ap Some held.2 in
      let far : StandsIn slots k number ⊎ StandsAmong slots others k number → ⊥ = elim [
        | inl s ↦
            let other : at ≢ s.at = λ here. let taken = sym free ∙ ap (slice_index slots) here ∙ s.is in omega (arith, taken) in
            s.before at from (omega (arith, ahead at k passed there s, other)) free
        | inr a ↦ a.taken at from within free
      ] in
      far (noted k number there)

  -- and where it has come to the others, and is not among them
  pub absent_among : others number ≡ None → HasPassed slots numbers number (slot_of number + 8) → IsAbsent numbers number
  absent_among none passed held =
      let k = held.0 in
      let there : slice_get numbers k ≡ Some number = slice_get-get_or numbers k number held.1 ∙ ap Some held.2 in
      let far : StandsIn slots k number ⊎ StandsAmong slots others k number → ⊥ = elim [
        | inl s ↦ omega (arith, ahead (slot_of number + 8) k passed there s, s.within)
        | inr a ↦ let named : Some k ≡ None = sym a.is ∙ none in absurd cc
      ] in
      far (noted k number there)

-- ---- no number

pub all_free : (slots : List ℕ) → AllByRecursion (λ place. (place ≡ 0) ⊎ (place ≡ 0)) slots → (at : ℕ) → slice_index slots at ≡ 0
all_free [] each at = refl
all_free (place ∷ slots) each zero = elim each.0 [ inl is ↦ is | inr is ↦ is ]
all_free (place ∷ slots) each (suc at) = all_free slots each.1 at

-- ---- one number more

-- its place comes into a free slot, and the other slots stay
module _ (slots numbers : List ℕ) (last free : ℕ) (is_free : slice_index slots free ≡ 0) (within : free < length slots) where
  kept : (at : ℕ) → slice_index slots at ≢ 0 → slice_index (set slots free (length numbers + 1)) at ≡ slice_index slots at
  kept at taken = get_or-set_other slots free at (length numbers + 1) 0 (λ same. taken (ap (slice_index slots) same ∙ is_free))

  still_taken : (home end : ℕ) → AreTaken slots home end → AreTaken (set slots free (length numbers + 1)) home end
  still_taken home end taken at from below = λ none. taken at from below (sym (kept at (taken at from below)) ∙ none)

  pub places_grown : ((at : ℕ) → slice_index slots at ≤ length numbers)
      → (at : ℕ) → slice_index (set slots free (length numbers + 1)) at ≤ length (numbers ++ last ∷ [])
  places_grown places at =
      let counted = length-append numbers (last ∷ []) in
      elim (cases_eq free at) [
        | inl same ↦
            let newest = ap (slice_index (set slots free (length numbers + 1))) (sym same) ∙ get_or-set_same slots free (length numbers + 1) 0 within in
            omega (arith, newest, counted)
        | inr other ↦
            let before = get_or-set_other slots free at (length numbers + 1) 0 (λ e. other (sym e)) in
            omega (arith, before, counted, places at)
      ]

  pub noted_in : (others : ℕ → Option ℕ) → slot_of last ≤ free → free < slot_of last + 8 → AreTaken slots (slot_of last) free
      → ((k number : ℕ) → slice_get numbers k ≡ Some number → StandsIn slots k number ⊎ StandsAmong slots others k number)
      → (k number : ℕ) → slice_get (numbers ++ last ∷ []) k ≡ Some number
      → StandsIn (set slots free (length numbers + 1)) k number ⊎ StandsAmong (set slots free (length numbers + 1)) others k number
  noted_in others from near before noted k number is =
      let new_slots = set slots free (length numbers + 1) in
      let still : StandsIn slots k number ⊎ StandsAmong slots others k number → StandsIn new_slots k number ⊎ StandsAmong new_slots others k number = elim [
        | inl s ↦ inl (record {
          at = s.at;
          from = s.from;
          within = s.within;
          is = kept s.at (λ none. omega (arith, s.is, none)) ∙ s.is;
          before = still_taken (slot_of number) s.at s.before;
        })
        | inr a ↦ inr (record { taken = still_taken (slot_of number) (slot_of number + 8) a.taken; is = a.is })
      ] in
      elim (pushed numbers last k number is) [
        | inl older ↦ still (noted k number older)
        | inr newest ↦ inl (subst (λ number. StandsIn new_slots k number) newest.1 (record {
          at = free;
          from = from;
          within = near;
          is = get_or-set_same slots free (length numbers + 1) 0 within ∙ ap (λ n. n + 1) (sym newest.0);
          before = still_taken (slot_of last) free before;
        }))
      ]

pub others_stay : (others : ℕ → Option ℕ) (numbers : List ℕ) (last : ℕ) → ((number k : ℕ) → others number ≡ Some k → slice_get numbers k ≡ Some number)
    → (number k : ℕ) → others number ≡ Some k → slice_get (numbers ++ last ∷ []) k ≡ Some number
others_stay others numbers last kept number k is = there_still numbers last k number (kept number k is)

-- it comes to the others, since none of its slots is free
module _ (others new_others : ℕ → Option ℕ) (numbers : List ℕ) (last : ℕ) (absent : IsAbsent numbers last)
    (updated : (number : ℕ) → new_others number ≡ cond (is_eq (nat_cmp last number)) (Some (length numbers)) (others number)) where
  there : new_others last ≡ Some (length numbers)
  there = updated last ∙ ap (λ test. cond test (Some (length numbers)) (others last)) (same_number last last refl)

  elsewhere : (number : ℕ) → last ≢ number → new_others number ≡ others number
  elsewhere number differs = updated number ∙ ap (λ test. cond test (Some (length numbers)) (others number)) (other_number last number differs)

  pub noted_among : (slots : List ℕ) → AreTaken slots (slot_of last) (slot_of last + 8)
      → ((k number : ℕ) → slice_get numbers k ≡ Some number → StandsIn slots k number ⊎ StandsAmong slots others k number)
      → (k number : ℕ) → slice_get (numbers ++ last ∷ []) k ≡ Some number → StandsIn slots k number ⊎ StandsAmong slots new_others k number
  noted_among slots taken noted k number is = elim (pushed numbers last k number is) [
    | inl older ↦
        let differs : last ≢ number = λ same. absent (subst (λ n. Contains numbers n) (sym same) (stands numbers k number older)) in
        elim (noted k number older) [ inl s ↦ inl s | inr a ↦ inr (record { taken = a.taken; is = elsewhere number differs ∙ a.is }) ]
    | inr newest ↦ inr (subst (λ number. StandsAmong slots new_others k number) newest.1 (record { taken = taken; is = there ∙ ap Some (sym newest.0) }))
  ]

  pub others_grown : ((number k : ℕ) → others number ≡ Some k → slice_get numbers k ≡ Some number)
      → (number k : ℕ) → new_others number ≡ Some k → slice_get (numbers ++ last ∷ []) k ≡ Some number
  others_grown kept number k is = elim (cases_eq last number) [
    | inl same ↦
        let place : length numbers ≡ k = same_Some (length numbers) k (sym there ∙ ap new_others same ∙ is) in
        subst (λ k. slice_get (numbers ++ last ∷ []) k ≡ Some number) place (there_last numbers last ∙ ap Some same)
    | inr differs ↦ others_stay others numbers last kept number k (sym (elsewhere number differs) ∙ is)
  ]
