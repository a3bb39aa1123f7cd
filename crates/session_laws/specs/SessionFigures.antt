-- Worked figures of the session machine, under the example election.
use Rattle.std.specs.Prelude.{◌≡◌, ◌⊎◌, ℕ, List, [], ◌∷◌, ◌++◌, map, flat_map, codes, Some}
use Rattle.store_spec.specs.Ballot.{Ballot}
use Rattle.store_spec.specs.Election.{example}
use Rattle.store_spec.specs.Figures.{example_ballot}
use Rattle.store_spec.specs.ReportFigures.{example_set}
use Rattle.store_spec.specs.Session.{Effect, Plays, State, acknowledged_in, begun, last_reply, line_of, written}

-- A script plays from one set to another: what is replied to it, line by line, and the sets that it acknowledges.
pub record PlaysOut (before : List Ballot) (script replies : List (List ℕ)) (sets : List (List Ballot)) (after : List Ballot) : Type 0 where
  pub effects : List Effect
  pub plays : Plays example 1 (begun before) (map (λ line. Some line) script) effects (begun after)
  pub replied : written effects ≡ flat_map line_of replies
  pub acknowledged : acknowledged_in effects ≡ sets

-- and in no other way
pub record PlaysOnlySo (before : List Ballot) (script replies : List (List ℕ)) (sets : List (List Ballot)) (after : List Ballot) : Type 0 where
  pub way : PlaysOut before script replies sets after
  pub no_other : (effects : List Effect) (end : State)
      → Plays example 1 (begun before) (map (λ line. Some line) script) effects end
      → (effects ≡ way.effects) × (end ≡ begun after)

-- ballots 1, 9 and 14
abbrev pub three : List Ballot
three = example_ballot 1 2 5 ∷ example_ballot 9 1 0 ∷ example_ballot 14 0 2 ∷ []

-- and ballot 22 with them
abbrev pub four : List Ballot
four = example_ballot 1 2 5 ∷ example_ballot 9 1 0 ∷ example_ballot 14 0 2 ∷ example_ballot 22 0 0 ∷ []

-- two tabulators cast three ballots, which are acknowledged
pub record ThreeBallots : Type 0 where
  pub is : PlaysOnlySo []
      (codes "open cast 2" ∷ codes "cast 1 9 1 1/-" ∷ codes "cast 2 14 1 -/2" ∷ codes "cast 1 1 1 2/1,3"
      ∷ codes "close" ∷ codes "checkpoint" ∷ [])
      (codes "casting 2" ∷ codes "1 1 accepted" ∷ codes "1 2 accepted" ∷ codes "2 1 accepted"
      ∷ codes "closed 3" ∷ codes "checkpoint 3" ∷ [])
      (three ∷ []) three

-- a ballot that is cast and withdrawn leaves the set as it was
pub record CastAndWithdrawn : Type 0 where
  pub is : PlaysOnlySo three
      (codes "open cast 1" ∷ codes "cast 1 22 1 -/-" ∷ codes "close"
      ∷ codes "open withdraw 1" ∷ codes "withdraw 1 22" ∷ codes "close" ∷ codes "checkpoint" ∷ [])
      (codes "casting 1" ∷ codes "1 1 accepted" ∷ codes "closed 4"
      ∷ codes "withdrawing 1" ∷ codes "1 1 withdrawn" ∷ codes "closed 3" ∷ codes "checkpoint 3" ∷ [])
      (three ∷ []) three

-- lines that are refused, each for its reason
pub record RefusedLines : Type 0 where
  pub is : PlaysOnlySo []
      (codes "open cast 1" ∷ codes "checkpoint" ∷ codes "withdraw 1 9" ∷ codes "cast 2 9 1 1/-"
      ∷ codes "open cast 65" ∷ codes "close" ∷ codes "close" ∷ [])
      (codes "casting 1" ∷ codes "line 2 wrong-phase casting" ∷ codes "line 3 wrong-phase casting"
      ∷ codes "line 4 invalid" ∷ codes "line 5 malformed" ∷ codes "closed 0"
      ∷ codes "line 7 wrong-phase closed" ∷ [])
      [] []

-- two ballots of one number
abbrev pub one_way : Ballot
one_way = example_ballot 6 1 0

abbrev pub other_way : Ballot
other_way = example_ballot 6 2 0

-- what is written where the one or the other is accepted
abbrev pub first_wins : List (List ℕ)
first_wins = codes "casting 2" ∷ codes "1 1 accepted" ∷ codes "2 1 conflict" ∷ codes "closed 1" ∷ []

abbrev pub second_wins : List (List ℕ)
second_wins = codes "casting 2" ∷ codes "1 1 conflict" ∷ codes "2 1 accepted" ∷ codes "closed 1" ∷ []

-- two tabulators cast one number with other marks, and the phase is closed
abbrev pub twice : List (List ℕ)
twice = codes "open cast 2" ∷ codes "cast 1 6 1 1/-" ∷ codes "cast 2 6 1 2/-" ∷ codes "close" ∷ []

-- what is written for it, and the set after it
pub record EndsSo (replies : List (List ℕ)) (after : List Ballot) (effects : List Effect) (end : State) : Type 0 where
  pub replied : written effects ≡ flat_map line_of replies
  pub ends : end ≡ begun after

-- either of the two ballots may be accepted, and the other is in conflict with it; the script plays in no other way
pub record OneNumberTwice : Type 0 where
  pub first : PlaysOut [] twice first_wins [] (one_way ∷ [])
  pub second : PlaysOut [] twice second_wins [] (other_way ∷ [])
  pub no_other : (effects : List Effect) (end : State)
      → Plays example 1 (begun []) (map (λ line. Some line) twice) effects end
      → EndsSo first_wins (one_way ∷ []) effects end ⊎ EndsSo second_wins (other_way ∷ []) effects end

-- Two scripts with other lists, in another order and with other tabulators, of which one withdraws a ballot and casts
-- it again, lead to one set.
pub record TwoScripts : Type 0 where
  pub in_steps : PlaysOnlySo []
      (codes "open cast 2" ∷ codes "cast 1 9 1 1/-" ∷ codes "cast 2 14 1 -/2" ∷ codes "cast 1 1 1 2/1,3"
      ∷ codes "close" ∷ codes "checkpoint"
      ∷ codes "open withdraw 1" ∷ codes "withdraw 1 9" ∷ codes "close" ∷ codes "checkpoint"
      ∷ codes "open cast 1" ∷ codes "cast 1 9 1 1/-" ∷ codes "cast 1 22 1 -/-" ∷ codes "close"
      ∷ codes "checkpoint" ∷ [])
      (codes "casting 2" ∷ codes "1 1 accepted" ∷ codes "1 2 accepted" ∷ codes "2 1 accepted"
      ∷ codes "closed 3" ∷ codes "checkpoint 3"
      ∷ codes "withdrawing 1" ∷ codes "1 1 withdrawn" ∷ codes "closed 2" ∷ codes "checkpoint 2"
      ∷ codes "casting 1" ∷ codes "1 1 accepted" ∷ codes "1 2 accepted" ∷ codes "closed 4"
      ∷ codes "checkpoint 4" ∷ [])
      (three ∷ (example_ballot 1 2 5 ∷ example_ballot 14 0 2 ∷ []) ∷ four ∷ []) four
  pub at_once : PlaysOnlySo []
      (codes "open cast 3" ∷ codes "cast 3 22 1 -/-" ∷ codes "cast 1 14 1 -/2" ∷ codes "cast 2 9 1 1/-"
      ∷ codes "cast 1 1 1 2/1,3" ∷ codes "close" ∷ codes "checkpoint" ∷ [])
      (codes "casting 3" ∷ codes "1 1 accepted" ∷ codes "1 2 accepted" ∷ codes "2 1 accepted"
      ∷ codes "3 1 accepted" ∷ codes "closed 4" ∷ codes "checkpoint 4" ∷ [])
      (four ∷ []) four

-- of two withdrawers one withdraws 22, and 5, which is not held, and the other 9 and 9 once more
pub record GoneAndAbsent : Type 0 where
  pub is : PlaysOut four
      (codes "open withdraw 2" ∷ codes "withdraw 1 22" ∷ codes "withdraw 2 9" ∷ codes "withdraw 2 9"
      ∷ codes "withdraw 1 5" ∷ codes "close" ∷ [])
      (codes "withdrawing 2" ∷ codes "1 1 withdrawn" ∷ codes "1 2 absent" ∷ codes "2 1 withdrawn" ∷ codes "2 2 gone"
      ∷ codes "closed 2" ∷ [])
      [] (example_ballot 1 2 5 ∷ example_ballot 14 0 2 ∷ [])

-- One tabulator casts a ballot, the same once more and another with its number, and then withdraws that number, once
-- more, and one that is not held. Each is answered in its turn.
pub record OneAfterAnother : Type 0 where
  pub is : PlaysOnlySo []
      (codes "open cast 1" ∷ codes "cast 1 6 1 1/-" ∷ codes "cast 1 6 1 1/-" ∷ codes "cast 1 6 1 2/-" ∷ codes "close"
      ∷ codes "open withdraw 1" ∷ codes "withdraw 1 6" ∷ codes "withdraw 1 6" ∷ codes "withdraw 1 9"
      ∷ codes "close" ∷ [])
      (codes "casting 1" ∷ codes "1 1 accepted" ∷ codes "1 2 duplicate" ∷ codes "1 3 conflict" ∷ codes "closed 1"
      ∷ codes "withdrawing 1" ∷ codes "1 1 withdrawn" ∷ codes "1 2 gone" ∷ codes "1 3 absent" ∷ codes "closed 0" ∷ [])
      [] []

-- as many ballots as the store may hold, each with no mark
abbrev pub full : List Ballot
full = map (λ number. example_ballot number 0 0) (1 ∷ 2 ∷ 6 ∷ 9 ∷ 14 ∷ 17 ∷ 22 ∷ 18446744073709551615 ∷ [])

-- a full store takes no other ballot, knows those that it holds, and stays
pub record FullStore : Type 0 where
  pub is : PlaysOnlySo full
      (codes "open cast 1" ∷ codes "cast 1 5 1 -/-" ∷ codes "cast 1 9 1 -/-" ∷ codes "close"
      ∷ codes "open find 1" ∷ codes "find 1 5" ∷ codes "find 1 9" ∷ codes "close" ∷ [])
      (codes "casting 1" ∷ codes "1 1 full" ∷ codes "1 2 duplicate" ∷ codes "closed 8"
      ∷ codes "finding 1" ∷ codes "1 1 absent" ∷ codes "1 2 present" ∷ codes "closed 8" ∷ [])
      [] full

-- a script that ends while a phase is open: what waits is dropped, and the set stays
pub record DroppedPhase : Type 0 where
  pub effects : List Effect
  pub end : State
  pub plays : Plays example 1 (begun three)
      (Some (codes "open cast 1") ∷ Some (codes "cast 1 22 1 -/-") ∷ []) effects end
  pub replied : written effects ++ last_reply end.phase
      ≡ flat_map line_of (codes "casting 1" ∷ codes "dropped casting" ∷ [])
  pub set : end.set ≡ three

-- ballots 1 and 2, of which the second marks more choices of contest 2 than it allows, are counted, and written
pub record TalliedAndExported : Type 0 where
  pub is : PlaysOnlySo example_set
      (codes "tally" ∷ codes "export" ∷ [])
      (codes "tally 2"
      ∷ codes "contest 1 under 1 over 0"
      ∷ codes "choice 1 1 0" ∷ codes "choice 1 2 1" ∷ codes "choice 1 3 0" ∷ codes "choice 1 4 0"
      ∷ codes "contest 2 under 0 over 1"
      ∷ codes "choice 2 1 1" ∷ codes "choice 2 2 0" ∷ codes "choice 2 3 1"
      ∷ codes "export 2" ∷ codes "1 1 2/1,3" ∷ codes "2 1 -/1,2,3" ∷ [])
      [] example_set
