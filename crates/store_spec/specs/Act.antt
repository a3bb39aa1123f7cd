-- What one atomic step does to a shared word.
use Rattle.std.specs.Prelude.{ℕ, ◌==◌, if◌then◌else◌}

-- nothing, a load, a swap, or a compare-and-swap that puts a value where it finds the wanted one
pub data Act : Type 0 where
  Nothing : Act
  Load : (word : ℕ) → Act
  Swap : (word put : ℕ) → Act
  Trade : (word want put : ℕ) → Act

-- the word on which it acts
abbrev pub word_of : Act → ℕ
word_of Nothing = 0
word_of (Load word) = word
word_of (Swap word put) = word
word_of (Trade word want put) = word

-- what it leaves in the word where it finds this value
abbrev pub left_by : Act → ℕ → ℕ
left_by Nothing found = found
left_by (Load word) found = found
left_by (Swap word put) found = put
left_by (Trade word want put) found = if found == want then put else found
