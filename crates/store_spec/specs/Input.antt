-- How input is cut into lines, and how much of it is taken.
use Rattle.std.specs.Prelude.{ℕ, ◌<◌, ◌≤◌, nat_le, ◌==◌, if◌then◌else◌, List, [], ◌∷◌, length, map, take, Option, Some, None}
use Rattle.std.specs.List.{position_or_len}

-- the byte at the end of a line
abbrev pub line_end : ℕ
line_end = 10

-- the most bytes of a line, without its end
abbrev pub line_limit : ℕ
line_limit = 8192

-- the most bytes of a script
abbrev pub script_limit : ℕ
script_limit = 67108864

-- lines with one more byte at the front of the first
abbrev pub begun_with : ℕ → List (List ℕ) → List (List ℕ)
begun_with byte [] = (byte ∷ []) ∷ []
begun_with byte (line ∷ lines) = (byte ∷ line) ∷ lines

-- ended lines with one more byte at the front of the first, where there is one
abbrev pub continued : ℕ → List (List ℕ) → List (List ℕ)
continued byte [] = []
continued byte (line ∷ lines) = (byte ∷ line) ∷ lines

-- The lines of a text. Each line end ends one; what stands after the last is a line where it is not empty.
abbrev pub lines_of : List ℕ → List (List ℕ)
lines_of [] = []
lines_of (byte ∷ bytes) = if byte == line_end then [] ∷ lines_of bytes else begun_with byte (lines_of bytes)

-- the lines of a text that have an end
abbrev pub ended_lines : List ℕ → List (List ℕ)
ended_lines [] = []
ended_lines (byte ∷ bytes) = if byte == line_end then [] ∷ ended_lines bytes else continued byte (ended_lines bytes)

-- The lines that are taken of a text of which only so many bytes are cut: all of a text that has no more, else those
-- that end within so many.
abbrev pub lines_within : ℕ → List ℕ → List (List ℕ)
lines_within room bytes = if nat_le (length bytes) room then lines_of bytes else ended_lines (take room bytes)

-- how many bytes stand before the first line end, or in all where there is none
abbrev pub first_width : List ℕ → ℕ
first_width bytes = position_or_len (λ byte. byte == line_end) bytes

-- a line as it is taken: its bytes, or none where it is too wide
abbrev pub taken_line : List ℕ → Option (List ℕ)
taken_line line = if nat_le (length line) line_limit then Some line else None

abbrev pub taken_lines : List (List ℕ) → List (Option (List ℕ))
taken_lines lines = map taken_line lines

abbrev pub taken_within : ℕ → List ℕ → List (Option (List ℕ))
taken_within room bytes = taken_lines (lines_within room bytes)

-- there are more bytes than so many, and the first so many hold no line end
pub record IsTooLong (bytes : List ℕ) (room : ℕ) : Type 0 where
  pub more : room < length bytes
  pub no_end : room ≤ first_width bytes
