-- How the readings of one text agree.
use Rattle.std.proofs.Common.{◌≡◌, ◌≢◌, ℕ, ◌≤◌, List, [], ◌++◌, length, take, drop, Option, refl, ap, sym, ◌∙◌, arith}
use Rattle.store_spec.proofs.Common.{append-nil, ended_lines, lines_of, lines_within, map-append, script_limit, take-append-drop, take_at, taken_line, taken_lines, taken_within}
use Rattle.std.proofs.lemmas.List.{append_cancel_right}
use Rattle.outside_io.proofs.EndedLines.{front_of_within}
use Rattle.outside_io.proofs.FirstLine.{all_within}
use Rattle.outside_io.specs.Reading.{Ending, ReadLines, ReadFirst}
use Rattle.outside_io.specs.Reading.Ending.{ReadOut, TooMuch, Faulted}

-- all lines are those within the limit
all_taken : (text : List ℕ) → length text ≤ script_limit → taken_lines (lines_of text) ≡ taken_within script_limit text
all_taken text within = ap taken_lines (sym (all_within script_limit text within))

pub reading_all : (ending : Ending) (text left : List ℕ) (lines : List (Option (List ℕ))) → ending ≢ Faulted → ReadLines ending text left lines → lines ≡ taken_within script_limit text
reading_all ReadOut text left lines other read = read.2 ∙ all_taken text read.0
reading_all TooMuch text left lines other read = read.2
reading_all Faulted text left lines other read = absurd (other refl)

-- lines that end in a front are the first
front_first : (given left : List ℕ) → length given ≤ script_limit → ReadFirst (given ++ left) left (taken_lines (ended_lines given))
front_first given left within =
    let n = length given in
    let text = given ++ left in
    let lines = lines_within script_limit text in
    let front : take n text ≡ given = take_at given left n refl in
    let k = length (ended_lines given) in
    let first : ended_lines given ≡ take k lines =
    sym (ap ended_lines front) ∙ front_of_within n script_limit text within ∙ ap (λ bytes. take (length (ended_lines bytes)) lines) front in (
      taken_lines (drop k lines),
      ap taken_lines (sym (take-append-drop k lines)) ∙ map-append taken_line (take k lines) (drop k lines) ∙ ap (λ ls. taken_lines ls ++ taken_lines (drop k lines)) (sym first),
    )

pub reading_first : (ending : Ending) (text left : List ℕ) (lines : List (Option (List ℕ))) → ReadLines ending text left lines → ReadFirst text left lines
reading_first ReadOut text left lines read = ([], sym (read.2 ∙ all_taken text read.0) ∙ sym (append-nil lines))
reading_first TooMuch text left lines read = ([], sym read.2 ∙ sym (append-nil lines))
reading_first Faulted text left lines read =
    let first = front_first read.0 left read.2 in
    (first.0, ap (taken_within script_limit) read.1 ∙ first.1 ∙ ap (λ ls. ls ++ first.0) (sym read.3))

pub same_lines : (ending : Ending) (text left : List ℕ) (a b : List (Option (List ℕ))) → ReadLines ending text left a → ReadLines ending text left b → a ≡ b
same_lines ReadOut text left a b one two = one.2 ∙ sym two.2
same_lines TooMuch text left a b one two = one.2 ∙ sym two.2
same_lines Faulted text left a b one two =
    let same : one.0 ≡ two.0 = append_cancel_right one.0 two.0 left (sym one.1 ∙ two.1) in
    one.3 ∙ ap (λ given. taken_lines (ended_lines given)) same ∙ sym two.3

pub same_ending : (x y : Ending) (text left rest : List ℕ) (a b : List (Option (List ℕ))) → x ≢ Faulted → y ≢ Faulted → ReadLines x text left a → ReadLines y text rest b → (x ≡ y) × (left ≡ rest) × (a ≡ b)
same_ending ReadOut ReadOut text left rest a b no_x no_y one two = (refl, one.1 ∙ sym two.1, one.2 ∙ sym two.2)
same_ending TooMuch TooMuch text left rest a b no_x no_y one two = (refl, one.1 ∙ sym two.1, one.2 ∙ sym two.2)
same_ending ReadOut TooMuch text left rest a b no_x no_y one two = absurd (omega (arith, one.0, two.0))
same_ending TooMuch ReadOut text left rest a b no_x no_y one two = absurd (omega (arith, one.0, two.0))
same_ending Faulted y text left rest a b no_x no_y one two = absurd (no_x refl)
same_ending ReadOut Faulted text left rest a b no_x no_y one two = absurd (no_y refl)
same_ending TooMuch Faulted text left rest a b no_x no_y one two = absurd (no_y refl)
