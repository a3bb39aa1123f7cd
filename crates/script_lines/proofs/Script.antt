-- The generated script is that of its parts.
use Rattle.std.proofs.Common.{◌≡◌, ℕ, ◌/◌, List, [], ◌∷◌, ◌++◌, map, Some, None, append_assoc, refl, sym, ap, ◌∙◌}
use Rattle.store_spec.proofs.Common.{Casting, Election, Withdrawing, codes, map-append, open_text, option_map, range_with_len, slice_get-map}
use Rattle.std.specs.List.{slice_get}
use Rattle.script_lines.specs.Generated.{ballot_count, cast_line, generated, withdraw_line}
use Rattle.script_lines.specs.Parts.{casting_parts, closing_parts, part_text, withdrawing_parts}
use Rattle.script_lines.specs.declared.part.Part.{Part}
use Rattle.script_lines.specs.declared.part.Part.TheVariants.{Cast, Withdraw}

mapped : {A B C : Type 0} (g : B → C) (f : A → B) (xs : List A) → map g (map f xs) ≡ map (λ x. g (f x)) xs
mapped g f [] = refl
mapped g f (x ∷ xs) = ap (λ rest. g (f x) ∷ rest) (mapped g f xs)

-- the lines of a range of parts, and of those behind them
in_front : (e : Election) (seed tabs n : ℕ) (part : ℕ → Part) (rest : List Part)
    → map (part_text e seed tabs) (map part (range_with_len 1 n) ++ rest) ≡ map (λ i. part_text e seed tabs (part i)) (range_with_len 1 n) ++ map (part_text e seed tabs) rest
in_front e seed tabs n part rest =
    map-append (part_text e seed tabs) (map part (range_with_len 1 n)) rest ∙ ap (λ lines. lines ++ map (part_text e seed tabs) rest) (mapped (part_text e seed tabs) part (range_with_len 1 n))

pub generated_by_parts : (e : Election) (seed count tabs : ℕ) → map (part_text e seed tabs) (casting_parts (ballot_count e count)) ≡ generated e seed count tabs
generated_by_parts e seed count tabs =
    let n = ballot_count e count in
    let casts = map (cast_line e seed tabs) (range_with_len 1 n) in
    let withdraws = map (withdraw_line seed tabs) (range_with_len 1 (n / 10)) in
    let front = codes "close" ∷ open_text Withdrawing tabs ∷ [] in
    ap (λ rest. open_text Casting tabs ∷ rest)
    (in_front e seed tabs n Cast (withdrawing_parts (n / 10))
    ∙ ap (λ rest. casts ++ (front ++ rest)) (in_front e seed tabs (n / 10) Withdraw closing_parts)
    ∙ sym (append_assoc casts (front ++ withdraws) (map (part_text e seed tabs) closing_parts)))

-- the line at a place
line_at_place : (e : Election) (seed count tabs n place : ℕ) → n ≡ ballot_count e count
    → slice_get (generated e seed count tabs) place ≡ option_map (part_text e seed tabs) (slice_get (casting_parts n) place)
line_at_place e seed count tabs n place is =
    ap (λ lines. slice_get lines place) (sym (generated_by_parts e seed count tabs))
    ∙ slice_get-map (part_text e seed tabs) (casting_parts (ballot_count e count)) place
    ∙ ap (λ n. option_map (part_text e seed tabs) (slice_get (casting_parts n) place)) (sym is)

pub line_there : (e : Election) (seed count tabs n place : ℕ) (part : Part) → n ≡ ballot_count e count → Some part ≡ slice_get (casting_parts n) place
    → slice_get (generated e seed count tabs) place ≡ Some (part_text e seed tabs part)
line_there e seed count tabs n place part is found = line_at_place e seed count tabs n place is ∙ ap (option_map (part_text e seed tabs)) (sym found)

pub no_line : (e : Election) (seed count tabs n place : ℕ) → n ≡ ballot_count e count → None ≡ slice_get (casting_parts n) place → slice_get (generated e seed count tabs) place ≡ None
no_line e seed count tabs n place is none = line_at_place e seed count tabs n place is ∙ ap (option_map (part_text e seed tabs)) (sym none)
