-- How a record line is read from left to right: a value and the bytes after it, or nothing.
use Rattle.std.specs.Prelude.{ℕ, zero, suc, ◌+◌, ◌-◌, ◌*◌, ◌^◌, ◌==◌, nat_lt, nat_le, if◌then◌else◌, List, [], ◌∷◌, length, Option, Some, None, option_map, option_and_then}
use Rattle.std.specs.Char.{is_ascii_digit}
use Rattle.store_spec.specs.BallotLine.{RecordLine, comma, dash, slash, space}
use Rattle.store_spec.specs.Election.{Election, most_choices, most_contests, most_styles}

-- The number that goes on with these bytes after digits of this value; 0 is no digit yet. It is at most the limit.
unfoldable pub digits_at : ℕ → ℕ → List ℕ → Option (ℕ × List ℕ)
digits_at limit value [] = if value == 0 then None else Some (value, [])
digits_at limit value (byte ∷ bytes) =
    if is_ascii_digit byte
    then (
    if value * 10 + (byte - 48) == 0 then None
    else if nat_lt limit (value * 10 + (byte - 48)) then None
    else digits_at limit (value * 10 + (byte - 48)) bytes
    )
    else if value == 0 then None else Some (value, byte ∷ bytes)

-- the number of the four digits that stand first, and the bytes after them
unfoldable pub four_at : List ℕ → Option (ℕ × List ℕ)
four_at [] = None
four_at (a ∷ []) = None
four_at (a ∷ b ∷ []) = None
four_at (a ∷ b ∷ c ∷ []) = None
four_at (a ∷ b ∷ c ∷ d ∷ bytes) =
    if is_ascii_digit a
    then (
    if is_ascii_digit b
    then (
    if is_ascii_digit c
    then (
    if is_ascii_digit d
    then Some (((a - 48) * 10 + (b - 48)) * 100 + ((c - 48) * 10 + (d - 48)), bytes) else None
    )
    else None
    )
    else None
    )
    else None

-- the number of the eight digits that stand first, and the bytes after them
unfoldable pub eight_at : List ℕ → Option (ℕ × List ℕ)
eight_at bytes =
    option_and_then (λ (high : ℕ × List ℕ).
    option_map (λ (low : ℕ × List ℕ). (high.0 * 10000 + low.0, low.1)) (four_at high.1))
    (four_at bytes)

-- what comes of the bytes after this one where it stands first, and otherwise the last argument
abbrev pub past_byte : {A : Type 0} → ℕ → List ℕ → (List ℕ → A) → A → A
past_byte wanted [] goes_on otherwise = otherwise
past_byte wanted (byte ∷ bytes) goes_on otherwise =
    if byte == wanted then goes_on bytes else otherwise

abbrev pub with_first : {A B : Type 0} → A → List A × B → List A × B
with_first first others = (first ∷ others.0, others.1)

-- of the choices from 1 to the last that there may be so many at most, with commas between them, each above the last one
unfoldable pub choices_at : ℕ → ℕ → ℕ → List ℕ → Option (List ℕ × List ℕ)
choices_at most zero last bytes = None
choices_at most (suc more) last bytes =
    option_and_then (λ (first : ℕ × List ℕ).
    if nat_le first.0 last then None
    else past_byte comma first.1
    (λ rest. option_map (with_first first.0) (choices_at most more first.0 rest))
    (Some (first.0 ∷ [], first.1)))
    (digits_at most 0 bytes)

-- a dash, or choices
unfoldable pub group_at : ℕ → List ℕ → Option (List ℕ × List ℕ)
group_at most bytes = past_byte dash bytes (λ rest. Some ([], rest)) (choices_at most most 0 bytes)

-- of such groups so many at most, with slashes between them, up to the end
unfoldable pub groups_of : ℕ → ℕ → List ℕ → Option (List (List ℕ))
groups_of most zero bytes = None
groups_of most (suc more) bytes =
    option_and_then (λ (first : List ℕ × List ℕ).
    if length first.1 == 0 then Some (first.0 ∷ [])
    else past_byte slash first.1
    (λ rest. option_map (λ others. first.0 ∷ others) (groups_of most more rest)) None)
    (group_at most bytes)

-- all of a line of an election's version
unfoldable pub parsed_line : Election → List ℕ → Option RecordLine
parsed_line e bytes =
    option_and_then (λ (number : ℕ × List ℕ).
    past_byte space number.1 (λ bytes.
    option_and_then (λ (style : ℕ × List ℕ).
    past_byte space style.1 (λ bytes.
    option_map (λ groups. record { number = number.0; style = style.0; groups = groups })
    (groups_of (most_choices e) (most_contests e) bytes))
    None)
    (digits_at most_styles 0 bytes))
    None)
    (digits_at (2 ^ 64 - 1) 0 bytes)
