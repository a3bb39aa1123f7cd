-- Lines as they are taken, and the lines themselves.
use Rattle.std.proofs.Common.{◌≡◌, ℕ, ◌<◌, ◌≤◌, cond, List, [], ◌∷◌, ◌++◌, length, map, Option, Some, None, refl, ap, sym, ◌∙◌, inl, inr, le-leb}
use Rattle.store_spec.proofs.Common.{cases_lt, line_limit, lt-leb, taken_line, taken_lines}

pub taken_line-narrow : (line : List ℕ) → length line ≤ line_limit → taken_line line ≡ Some line
taken_line-narrow line narrow = ap (λ test. cond test (Some line) None) (le-leb (length line) line_limit narrow)

pub taken_line-wide : (line : List ℕ) → line_limit < length line → taken_line line ≡ None
taken_line-wide line wide = ap (λ test. cond test (Some line) None) (lt-leb (length line) line_limit wide)

-- a line that is taken whole is that line
pub whole_line : (bytes line : List ℕ) → taken_line bytes ≡ Some line → bytes ≡ line
whole_line bytes line is = elim (cases_lt line_limit (length bytes)) [
  | inl wide ↦ absurd (let none : None ≡ Some line = sym (taken_line-wide bytes wide) ∙ is in cc)
  | inr few ↦ let same : Some bytes ≡ Some line = sym (taken_line-narrow bytes few) ∙ is in cc
]

-- a line that is not taken is too wide
pub wide_line : (bytes : List ℕ) → taken_line bytes ≡ None → line_limit < length bytes
wide_line bytes is = elim (cases_lt line_limit (length bytes)) [
  | inl wide ↦ wide
  | inr few ↦ absurd (let some : Some bytes ≡ None = sym (taken_line-narrow bytes few) ∙ is in cc)
]

-- lines that are all taken whole are those lines
pub whole_lines : (lines whole : List (List ℕ)) → taken_lines lines ≡ map Some whole → lines ≡ whole
whole_lines [] [] is = refl
whole_lines [] (w ∷ whole) is = absurd cc
whole_lines (l ∷ lines) [] is = absurd cc
whole_lines (l ∷ lines) (w ∷ whole) is =
    let first : taken_line l ≡ Some w = cc in
    let rest : taken_lines lines ≡ map Some whole = cc in
    let is : l ≡ w = whole_line l w first in
    let others : lines ≡ whole = whole_lines lines whole rest in
    cc

-- the line behind those that were taken whole, and what stands behind it
pub record IsBehind (lines whole : List (List ℕ)) (line : Option (List ℕ)) : Type 0 where
  pub bytes : List ℕ
  pub others : List (List ℕ)
  pub stands : lines ≡ whole ++ bytes ∷ others
  pub taken : taken_line bytes ≡ line

pub line_behind : (lines whole : List (List ℕ)) (line : Option (List ℕ)) (others : List (Option (List ℕ))) → taken_lines lines ≡ (map Some whole ++ line ∷ []) ++ others → IsBehind lines whole line
line_behind [] [] line others is = absurd cc
line_behind [] (w ∷ whole) line others is = absurd cc
line_behind (l ∷ lines) [] line others is = let first : taken_line l ≡ line = cc in record { bytes = l; others = lines; stands = refl; taken = first }
line_behind (l ∷ lines) (w ∷ whole) line others is =
    let first : taken_line l ≡ Some w = cc in
    let rest : taken_lines lines ≡ (map Some whole ++ line ∷ []) ++ others = cc in
    let more = line_behind lines whole line others rest in
    record {
      bytes = more.bytes;
      others = more.others;
      stands = let is : l ≡ w = whole_line l w first in let behind : lines ≡ whole ++ more.bytes ∷ more.others = more.stands in cc;
      taken = more.taken;
    }
