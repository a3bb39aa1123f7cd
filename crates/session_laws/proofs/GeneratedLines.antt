-- A run of the generated script.
use Rattle.std.proofs.Common.{ℕ, ◌+◌, ◌*◌, ◌^◌, ◌<◌, List, refl, subst, arith, mod-lt}
use Rattle.store_spec.proofs.Common.{Ballot, Effect, Election, IsBallotSet, IsElection, IsTab, Plays, State, begun, lines_of, record_line, taken_lines}
use Rattle.ballot_record.proofs.LineLaws.{spells_its_ballot}
use Rattle.script_lines.proofs.GeneratedBallots.{all_apart, all_valid, valid_ballot}
use Rattle.script_lines.proofs.Numbers.{some}
use Rattle.script_lines.proofs.Saying.{read_again}
use Rattle.script_lines.specs.Generated.{generated, generated_ballot, generated_text, spread}
use Rattle.session_laws.specs.LargeRun.{IsLargeRun}
use Rattle.session_laws.proofs.LargePlays.{IsScript, large_run}

-- the lines of the script of a seed
pub is_script : (e : Election) (seed count tabs : ℕ) → IsElection e → seed < 2 ^ 32 → IsTab tabs → IsScript e seed count tabs
is_script e seed count tabs election small tab =
    let few = election.few_ballots in
    record {
      tab = tab;
      casts = λ i from to.
          ((omega arith, omega (arith, mod-lt i tab.0)), record_line e (generated_ballot e seed i), refl, spells_its_ballot e (generated_ballot e seed i) election (valid_ballot e seed i election small from (omega arith)));
      withdraws = λ j from to.
          ((omega arith, omega (arith, mod-lt j tab.0)), (some seed (10 * j) (omega arith) (omega arith), mod-lt ((seed + 10 * j) * spread) (omega arith)), refl);
      listing = record { valid = all_valid e seed count election small; distinct = all_apart e seed count election small };
    }

-- so a run of the script is a large run
pub script_run : (e : Election) (seed count tabs : ℕ) (before : List Ballot) (effects : List Effect) (end : State) → IsElection e → seed < 2 ^ 32 → IsTab tabs → IsBallotSet e before
    → Plays e 1 (begun before) (taken_lines (generated e seed count tabs)) effects end → IsLargeRun e seed count before effects end
script_run e seed count tabs before effects end election small tab legal plays = large_run e seed count tabs (is_script e seed count tabs election small tab) before legal effects end plays

-- so is one of the lines of its text
pub text_run : (e : Election) (seed count tabs : ℕ) (before : List Ballot) (effects : List Effect) (end : State) → IsElection e → seed < 2 ^ 32 → IsTab tabs → IsBallotSet e before
    → Plays e 1 (begun before) (taken_lines (lines_of (generated_text e seed count tabs))) effects end → IsLargeRun e seed count before effects end
text_run e seed count tabs before effects end election small tab legal plays =
    script_run e seed count tabs before effects end election small tab legal
    (subst (λ (lines : List (List ℕ)). Plays e 1 (begun before) (taken_lines lines) effects end) (read_again e seed count tabs election small tab) plays)
