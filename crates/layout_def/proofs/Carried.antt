-- What stands in cells after a number was put in the place of another, which is carried on.
use Rattle.std.proofs.Common.{◌≡◌, ◌≢◌, ℕ, ◌↔◌, ◌⊎◌, ◌+◌, ◌<◌, ◌≤◌, inl, inr, ⊎_elim, List, length, get_or, set, replicate, sym, ap, ◌∙◌, subst, length-set, arith}
use Rattle.store_spec.proofs.Common.{All, Contains, Contains-get_or, HoldsExactly, cases_eq, cases_lt, get_or-set_other, get_or-set_same}
use Rattle.layout_def.proofs.LaidOut.{empty_cell}
use Rattle.layout_def.proofs.OrderedCells.{place_from_contains, contains_from_place, place_within}
use Rattle.layout_def.specs.Walk.{HoldsAlso}

-- what stands in cells, or is carried
abbrev pub IsAbout : List ℕ → ℕ → ℕ → Type 0
IsAbout cells carried v = Contains cells v ⊎ (v ≡ carried)

-- a number stays in the cells where another place is written
stays : (cells : List ℕ) (w place v : ℕ) → v ≢ 0 → v ≢ get_or cells place 0 → Contains cells v → Contains (set cells place w) v
stays cells w place v some other held =
    let s = place_from_contains cells v held in
    let after = set cells place w in
    let apart : s.0 ≢ place = λ same. other (sym s.2 ∙ ap (λ k. get_or cells k 0) same) in
    let stands : get_or after s.0 0 ≡ v = get_or-set_other cells place s.0 w 0 apart ∙ s.2 in
    contains_from_place after v s.0 (place_within after s.0 (λ z. some (sym stands ∙ z))) stands

-- what was put stands there
pub stands_put : (cells : List ℕ) (w place : ℕ) → place < length cells → Contains (set cells place w) w
stands_put cells w place lt =
    contains_from_place (set cells place w) w place (subst (λ (n : ℕ). place < n) (sym (length-set cells place w)) lt) (get_or-set_same cells place w 0 lt)

pub displaced_about : (cells : List ℕ) (w place v : ℕ) → place < length cells → v ≢ 0
    → IsAbout (set cells place w) (get_or cells place 0) v ↔ IsAbout cells w v
displaced_about cells w place v lt some =
    let after = set cells place w in
    let found = get_or cells place 0 in (
      ⊎_elim
          (λ (held : Contains after v).
          let s = place_from_contains after v held in
          ⊎_elim
          (λ (here : s.0 ≡ place). inr (sym s.2 ∙ ap (λ k. get_or after k 0) here ∙ get_or-set_same cells place w 0 lt))
          (λ (apart : s.0 ≢ place).
          let stood : get_or cells s.0 0 ≡ v = sym (get_or-set_other cells place s.0 w 0 apart) ∙ s.2 in
          inl (contains_from_place cells v s.0 (place_within cells s.0 (λ z. some (sym stood ∙ z))) stood))
          (cases_eq s.0 place))
          (λ (gone : v ≡ found). inl (contains_from_place cells v place lt (sym gone))),
      ⊎_elim
          (λ (held : Contains cells v). ⊎_elim
          (λ (gone : v ≡ found). inr gone)
          (λ (other : v ≢ found). inl (stays cells w place v some other held))
          (cases_eq v found))
          (λ (put : v ≡ w). inl (subst (λ (x : ℕ). Contains after x) (sym put) (stands_put cells w place lt))),
    )

-- nothing is carried any more, where what was found is nothing or the same number
pub nothing_left : (cells before : List ℕ) (w place number : ℕ) → place < length cells
    → (get_or cells place 0 ≡ 0) ⊎ (get_or cells place 0 ≡ w)
    → ((v : ℕ) → v ≢ 0 → IsAbout cells w v ↔ IsAbout before number v) → HoldsAlso number before (set cells place w)
nothing_left cells before w place number lt end about v some =
    let after = set cells place w in
    let found = get_or cells place 0 in
    let moved = displaced_about cells w place v lt some in
    let stands : IsAbout after found v → Contains after v =
    ⊎_elim
    (λ (held : Contains after v). held)
    (λ (is : v ≡ found). ⊎_elim
    (λ (none : found ≡ 0). absurd (some (is ∙ none)))
    (λ (same : found ≡ w). subst (λ (x : ℕ). Contains after x) (sym (is ∙ same)) (stands_put cells w place lt))
    end) in
    (λ held. (about v some).0 (moved.0 (inl held)), λ was. stands (moved.1 ((about v some).1 was)))

-- the first so many of some numbers, and no others, stand in cells
pub record HoldsFirst (count : ℕ) (numbers cells : List ℕ) : Type 0 where
  pub each : (k : ℕ) → k < count → Contains cells (get_or numbers k 0)
  pub only : (v : ℕ) → v ≢ 0 → Contains cells v → Contains numbers v

pub holds_none : (size : ℕ) (numbers : List ℕ) → HoldsFirst 0 numbers (replicate size 0)
holds_none size numbers = record {
  each = λ k before. absurd (omega arith);
  only = λ v some held.
      let s = place_from_contains (replicate size 0) v held in
      absurd (some (sym s.2 ∙ empty_cell size s.0));
}

pub first_also : (count : ℕ) (numbers cells after : List ℕ) → count < length numbers → All (λ v. v ≢ 0) numbers
    → HoldsAlso (get_or numbers count 0) cells after → HoldsFirst count numbers cells → HoldsFirst (count + 1) numbers after
first_also count numbers cells after within some also first =
    let v = get_or numbers count 0 in
    record {
      each = λ k before. ⊎_elim
          (λ (earlier : k < count). (also _ (some k 0 (omega arith))).1 (inl (first.each k earlier)))
          (λ (here : count ≤ k).
          let same : k ≡ count = omega arith in
          (also _ (some k 0 (omega arith))).1 (inr (ap (λ j. get_or numbers j 0) same)))
          (cases_lt k count);
      only = λ w w_some held. ⊎_elim
          (λ (was : Contains cells w). first.only w w_some was)
          (λ (is : w ≡ v). subst (λ (x : ℕ). Contains numbers x) (sym is) (Contains-get_or numbers count 0 within))
          ((also w w_some).0 held);
    }

pub first_are_all : (count : ℕ) (numbers cells : List ℕ) → length numbers ≤ count → All (λ v. v ≢ 0) numbers → HoldsFirst count numbers cells → HoldsExactly cells numbers
first_are_all count numbers cells all some first = record {
  each = λ v held.
      let s = place_from_contains numbers v held in
      subst (λ (x : ℕ). Contains cells x) s.2 (first.each s.0 (omega (arith, s.1)));
  only = first.only;
}
