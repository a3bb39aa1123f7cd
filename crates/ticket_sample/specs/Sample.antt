-- The sample of a set of ballots.
use Rattle.std.specs.Prelude.{ℕ, Bool, List, count_by, filter, nat_lt}
use Rattle.store_spec.specs.Ballot.{Ballot, numbers_of}
use Rattle.ticket_sample.specs.Ticket.{is_before}

-- how many of some numbers are drawn before this one
abbrev pub count_before : List ℕ → List ℕ → ℕ → ℕ
count_before dice numbers number = count_by (λ other. is_before dice other number) numbers

-- fewer than k of the numbers are drawn before this one
abbrev pub is_drawn : List ℕ → ℕ → List ℕ → ℕ → Bool
is_drawn dice k numbers number = nat_lt (count_before dice numbers number) k

-- those ballots of a set before which fewer than k of its ballots are drawn
unfoldable pub sample_of : List Ballot → List ℕ → ℕ → List Ballot
sample_of ballots dice k = filter (λ b. is_drawn dice k (numbers_of ballots) b.number) ballots
