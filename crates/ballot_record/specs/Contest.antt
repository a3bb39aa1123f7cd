-- A contest of the program, as the definitions see it.
use Rattle.std.specs.Prelude.{List, map}
use Rattle.ballot_record.specs.declared.contest.Contest.{Contest}
use Rattle.store_spec.specs.Election as definition

abbrev pub contest_of : Contest → definition.Contest
contest_of contest = record { choices = contest.choices; allowed = contest.allowed }

abbrev pub contests_of : List Contest → List definition.Contest
contests_of contests = map contest_of contests

-- the contest of the program that is seen so
abbrev pub contest_like : definition.Contest → Contest
contest_like contest = record { choices = contest.choices; allowed = contest.allowed }

-- what stands in an unused place
abbrev pub no_contest : Contest
no_contest = record { choices = 0; allowed = 0 }
