-- A sample that lines are compared with, as it is kept and as contracts see it.
use Rattle.std.specs.Prelude.{◌≡◌, ◌≤◌, ◌<◌, ℕ, Bool, true, false, List, [], ◌∷◌, AllPairs, Contains, length, vec_len}
use Rattle.body_store.specs.Contents.{ballots_of, ballots_without}
use Rattle.store_spec.specs.Ballot.{Ballot, numbers_of}
use Rattle.store_spec.specs.BallotLine.{Spells}
use Rattle.store_spec.specs.Election.{Election, most_ballots}
use Rattle.ticket_sample.specs.declared.compare.CompareReply.{CompareReply}
use Rattle.ticket_sample.specs.declared.compare.CompareReply.TheVariants.{Outside, Repeated, Match, Differs}
use Rattle.ticket_sample.specs.declared.compare.Compare.TheInside.{Inside}

-- the ballots of the sample, and those that no line was compared with
pub record Comparison : Type 0 where
  pub sample : List Ballot
  pub rest : List Ballot

-- those whose flag is not set
abbrev pub unset : List Ballot → List Bool → List Ballot
unset [] flags = []
unset (b ∷ ballots) [] = []
unset (b ∷ ballots) (true ∷ flags) = unset ballots flags
unset (b ∷ ballots) (false ∷ flags) = b ∷ unset ballots flags

abbrev pub comparison_of : Inside → Comparison
comparison_of a = record {
  sample = ballots_of a.sample.items;
  rest = unset (ballots_of a.sample.items) a.compared.items;
}

pub record IsComparing (a : Inside) : Type 0 where
  pub ascending : AllPairs (λ x y. x.number < y.number) (ballots_of a.sample.items)
  pub few : vec_len a.sample ≤ most_ballots
  pub flags : length a.compared.items ≡ length a.sample.items

-- what is said of a ballot whose line was read
abbrev pub IsLook : List Ballot → (ℕ → Type 0) → Ballot → CompareReply → Type 0
IsLook sample Done b Outside = ¬ Contains (numbers_of sample) b.number
IsLook sample Done b Repeated = Contains (numbers_of sample) b.number × Done b.number
IsLook sample Done b Match = Contains sample b × ¬ Done b.number
IsLook sample Done b Differs = Contains (numbers_of sample) b.number × ¬ Contains sample b × ¬ Done b.number
IsLook sample Done b other = ⊥

-- a comparison takes that ballot's number away from the rest
abbrev pub TakesOut : Ballot → CompareReply → List Ballot → List Ballot → Type 0
TakesOut b Match old new = new ≡ ballots_without old (b.number ∷ [])
TakesOut b Differs old new = new ≡ ballots_without old (b.number ∷ [])
TakesOut b other old new = new ≡ old

-- a comparison takes the ballot with the line's number away from the rest
abbrev pub Takes : Election → List ℕ → CompareReply → List Ballot → List Ballot → Type 0
Takes e bytes Match old new = (b : Ballot) × Spells e bytes b × (new ≡ ballots_without old (b.number ∷ []))
Takes e bytes Differs old new = (b : Ballot) × Spells e bytes b × (new ≡ ballots_without old (b.number ∷ []))
Takes e bytes other old new = new ≡ old

-- a line with this number was compared with a ballot of the sample: it is none of the rest
abbrev pub IsNoneOfRest : List Ballot → ℕ → Type 0
IsNoneOfRest rest number = ¬ Contains (numbers_of rest) number
