-- Lists beside as many others, and what of them goes to a place.
use Rattle.std.proofs.Common.{◌≡◌, ◌∙◌, ℕ, Bool, true, false, List, [], ◌∷◌, ap, ap₂, arith, cond, length, map, refl, zip}
use Rattle.store_spec.proofs.Common.{filter}
use Rattle.std.specs.Prelude.{◌==◌}
use Rattle.part_play.specs.Plays.{beside}
use Rattle.part_play.specs.Several.{part_replies}
use Rattle.phase_kind.proofs.Trays.{firsts_of-zip, seconds_of-zip}
use Rattle.phase_kind.specs.Team.{replies_to, those_of}

-- one of two lists of lists side by side
pub firsts_beside : {X Y : Type 0} (xss : List (List X)) (yss : List (List Y)) → map length yss ≡ map length xss → map (map (λ p. p.0)) (beside xss yss) ≡ xss
firsts_beside [] yss same = refl
firsts_beside (xs ∷ xss) [] same = absurd cc
firsts_beside {X} {Y} (xs ∷ xss) (ys ∷ yss) same =
    let first : length ys ≡ length xs = cc in
    let rest : map length yss ≡ map length xss = cc in
    ap (λ l. l ∷ map (map (λ (p : X × Y). p.0)) (beside xss yss)) (firsts_of-zip xs ys first)
    ∙ ap (λ l. xs ∷ l) (firsts_beside xss yss rest)

pub seconds_beside : {X Y : Type 0} (xss : List (List X)) (yss : List (List Y)) → map length yss ≡ map length xss → map (map (λ p. p.1)) (beside xss yss) ≡ yss
seconds_beside [] [] same = refl
seconds_beside [] (ys ∷ yss) same = absurd cc
seconds_beside (xs ∷ xss) [] same = absurd cc
seconds_beside {X} {Y} (xs ∷ xss) (ys ∷ yss) same =
    let first : length ys ≡ length xs = cc in
    let rest : map length yss ≡ map length xss = cc in
    ap (λ l. l ∷ map (map (λ (p : X × Y). p.1)) (beside xss yss)) (seconds_of-zip xs ys first)
    ∙ ap (λ l. ys ∷ l) (seconds_beside xss yss rest)

-- where the first ones are made of others
zip_mapped : {X Y Z : Type 0} (f : X → Z) (xs : List X) (ys : List Y) → zip (map f xs) ys ≡ map (λ p. (f p.0, p.1)) (zip xs ys)
zip_mapped f [] ys = refl
zip_mapped f (x ∷ xs) [] = refl
zip_mapped f (x ∷ xs) (y ∷ ys) = ap (λ l. (f x, y) ∷ l) (zip_mapped f xs ys)

pub beside_mapped : {X Y Z : Type 0} (f : X → Z) (xss : List (List X)) (yss : List (List Y)) → beside (map (map f) xss) yss ≡ map (map (λ p. (f p.0, p.1))) (beside xss yss)
beside_mapped f [] yss = refl
beside_mapped f (xs ∷ xss) [] = refl
beside_mapped f (xs ∷ xss) (ys ∷ yss) = ap₂ (λ l ls. l ∷ ls) (zip_mapped f xs ys) (beside_mapped f xss yss)

-- where both are made of one
zip_parts : {X Y Z : Type 0} (f : X → Y) (g : X → Z) (xs : List X) → zip (map f xs) (map g xs) ≡ map (λ x. (f x, g x)) xs
zip_parts f g [] = refl
zip_parts f g (x ∷ xs) = ap (λ l. (f x, g x) ∷ l) (zip_parts f g xs)

pub beside_parts : {X Y Z : Type 0} (f : X → Y) (g : X → Z) (xss : List (List X)) → beside (map (map f) xss) (map (map g) xss) ≡ map (map (λ x. (f x, g x))) xss
beside_parts f g [] = refl
beside_parts f g (xs ∷ xss) = ap₂ (λ l ls. l ∷ ls) (zip_parts f g xs) (beside_parts f g xss)

-- ---- what goes to a place

one_there : {I F : Type 0} (x : I) (r : F) (items : List I) (rows : List (I × F)) (b : Bool) → zip items (map (λ row. row.1) rows) ≡ rows → zip (cond b (x ∷ items) items) (map (λ row. row.1) (cond b ((x, r) ∷ rows) rows)) ≡ cond b ((x, r) ∷ rows) rows
one_there x r items rows true rest = ap (λ l. (x, r) ∷ l) rest
one_there x r items rows false rest = rest

module _ {I F : Type 0} (goes_to : I → ℕ) (place : ℕ) where
  -- the items that go there, beside the replies to them
  rows_there : (list : List I) (replies : List F) → length replies ≡ length list → zip (those_of goes_to place list) (replies_to goes_to place list replies) ≡ filter (λ row. goes_to row.0 == place) (zip list replies)
  rows_there [] replies same = refl
  rows_there (x ∷ list) [] same = absurd (omega arith)
  rows_there (x ∷ list) (r ∷ replies) same =
      one_there x r (those_of goes_to place list) (filter (λ row. goes_to row.0 == place) (zip list replies)) (goes_to x == place) (rows_there list replies (omega arith))

  pub beside_there : (work : List (List I)) (replies : List (List F)) → map length replies ≡ map length work → beside (map (those_of goes_to place) work) (part_replies goes_to place work replies) ≡ map (filter (λ row. goes_to row.0 == place)) (beside work replies)
  beside_there [] replies same = refl
  beside_there (list ∷ work) [] same = absurd cc
  beside_there (list ∷ work) (told ∷ replies) same =
      let first : length told ≡ length list = cc in
      let rest : map length replies ≡ map length work = cc in
      ap₂ (λ l ls. l ∷ ls) (rows_there list told first) (beside_there work replies rest)

-- what of a list that is mapped passes a test
one_mapped : {X Y : Type 0} (f : X → Y) (x : X) (others : List Y) (those : List X) (b : Bool) → others ≡ map f those → cond b (f x ∷ others) others ≡ map f (cond b (x ∷ those) those)
one_mapped f x others those true rest = ap (λ l. f x ∷ l) rest
one_mapped f x others those false rest = rest

pub filter_mapped : {X Y : Type 0} (test : Y → Bool) (f : X → Y) (xs : List X) → filter test (map f xs) ≡ map f (filter (λ x. test (f x)) xs)
filter_mapped test f [] = refl
filter_mapped test f (x ∷ xs) = one_mapped f x (filter test (map f xs)) (filter (λ x. test (f x)) xs) (test (f x)) (filter_mapped test f xs)

pub filters_mapped : {X Y : Type 0} (test : Y → Bool) (f : X → Y) (xss : List (List X)) → map (filter test) (map (map f) xss) ≡ map (map f) (map (filter (λ x. test (f x))) xss)
filters_mapped test f [] = refl
filters_mapped test f (xs ∷ xss) = ap₂ (λ l ls. l ∷ ls) (filter_mapped test f xs) (filters_mapped test f xss)
