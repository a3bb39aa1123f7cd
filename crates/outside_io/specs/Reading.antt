-- How the lines of a source are read, one after another. `text` is what the source had left before, `left` what it has
-- left now, and `lines` are those that were taken, in order; none stands for a line that is too wide.
use Rattle.std.specs.Prelude.{◌≡◌, ℕ, ◌+◌, ◌<◌, ◌≤◌, List, [], ◌++◌, length, drop, Option}
use Rattle.outside_io.specs.Told.{IfTold}
use Rattle.store_spec.specs.Input.{script_limit, lines_of, ended_lines, taken_lines, taken_within}

-- how a reading ended: the source was read to its end, it gave more than the limit, or it failed
pub data Ending : Type 0 where
  ReadOut : Ending
  TooMuch : Ending
  Faulted : Ending

-- Read out: all lines of the text, which has no more bytes than the limit. Too much: the lines that end within the
-- limit, one byte more was taken. A fault: the lines that end in what the source had given, no more than the limit. A
-- source that has given its end is not asked again.
abbrev pub ReadLines : Ending → List ℕ → List ℕ → List (Option (List ℕ)) → Type 0
ReadLines ReadOut text left lines = (length text ≤ script_limit) × (left ≡ []) × (lines ≡ taken_lines (lines_of text))
ReadLines TooMuch text left lines =
    (script_limit < length text) × (left ≡ drop (script_limit + 1) text) × (lines ≡ taken_within script_limit text)
ReadLines Faulted text left lines =
    (given : List ℕ) × (text ≡ given ++ left) × (length given ≤ script_limit) × (lines ≡ taken_lines (ended_lines given))

-- the reading stopped of itself: these are the first of the lines of a text that are taken within the limit
abbrev pub ReadFirst : List ℕ → List ℕ → List (Option (List ℕ)) → Type 0
ReadFirst text left lines = (others : List (Option (List ℕ))) × (taken_within script_limit text ≡ lines ++ others)

-- A reading ended so, and of the lines that were taken P holds. Which lines of the source these are is told where the
-- source tells its bytes.
pub record ReadsTo (Ends : List ℕ → List ℕ → List (Option (List ℕ)) → Type 0) (P : List (Option (List ℕ)) → Type 0) (before left : Option (List ℕ)) : Type 0 where
  pub lines : List (Option (List ℕ))
  pub told : IfTold before left (λ text left. Ends text left lines)
  pub good : P lines
