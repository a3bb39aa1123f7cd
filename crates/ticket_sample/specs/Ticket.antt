-- The tickets of ballot numbers under some dice, and the order in which they are drawn.
use Rattle.std.specs.Prelude.{ℕ, Bool, List, ◌++◌}
use Rattle.std.specs.Cmp.Lexicographic.{slice_cmp}
use Rattle.std.specs.Int.{to_be_bytes, w64}
use Rattle.std.specs.Ordering.{is_lt, nat_cmp, ordering_then}
use Rattle.std.specs.declared.cmp.Ordering.{Ordering}
use Rattle.sha2.specs.Sha256.{sha256}

-- the SHA-256 digest of the dice and then of the number's eight bytes
unfoldable pub ticket_of : List ℕ → ℕ → List ℕ
ticket_of dice number = sha256 (dice ++ to_be_bytes w64 number)

-- a number with its ticket
abbrev pub Lot : Type 0
Lot = List ℕ × ℕ

abbrev pub lot_of : List ℕ → ℕ → Lot
lot_of dice number = (ticket_of dice number, number)

-- tickets are compared by their bytes from the first on, and where they are the same their numbers are
abbrev pub lot_cmp : Lot → Lot → Ordering
lot_cmp a b = ordering_then (slice_cmp nat_cmp a.0 b.0) (nat_cmp a.1 b.1)

-- a number is drawn before another
abbrev pub is_before : List ℕ → ℕ → ℕ → Bool
is_before dice a b = is_lt (lot_cmp (lot_of dice a) (lot_of dice b))
