-- The summary of what a session replies: of its lines those that count what a closed phase, a checkpoint or a tally left.
use Rattle.std.specs.Prelude.{ℕ, Bool, List, [], ◌∷◌, filter, eqb, codes}
use Rattle.std.specs.List.{list_any, starts_with}
use Rattle.store_spec.specs.Input.{lines_of}
use Rattle.store_spec.specs.Report.{lines_text}

-- how the lines of a summary begin
abbrev pub summary_words : List (List ℕ)
summary_words = codes "closed " ∷ codes "checkpoint " ∷ codes "tally " ∷ codes "contest " ∷ codes "choice " ∷ []

abbrev pub is_in_summary : List ℕ → Bool
is_in_summary line = list_any (starts_with eqb line) summary_words

abbrev pub summary_of : List ℕ → List ℕ
summary_of replies = lines_text (filter is_in_summary (lines_of replies))
