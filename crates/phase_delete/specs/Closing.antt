-- What the close of a withdrawing phase tells.
use Rattle.std.specs.Prelude.{◌≡◌, ℕ, List, map, flat_map}
use Rattle.body_store.specs.Contents.{Contents, ballots_without}
use Rattle.phase_delete.specs.Tray.{tray_line}
use Rattle.phase_delete.specs.Tray.{TrayWithdrawal}
use Rattle.step_core.specs.declared.withdrawer.WithdrawReply.{WithdrawReply}
use Rattle.store_spec.specs.Ballot.{Ballot, numbers_of}
use Rattle.store_spec.specs.WithdrawPhase as outcome
use Rattle.store_spec.specs.WithdrawPhase.{WithdrawOutcome}

-- the numbers of trays
abbrev pub all_numbers : List (List TrayWithdrawal) → List ℕ
all_numbers trays = flat_map (map (λ w. w.item)) trays

-- trays as lists of lines
abbrev pub tray_lines : List (List TrayWithdrawal) → List (List outcome.Withdrawal)
tray_lines trays = map (map tray_line) trays

-- The replies are those of the trays, with which their numbers have the outcome of a withdrawing phase. The set loses the
-- ballots of these numbers.
pub record ClosesAs (base : Contents) (trays : List (List TrayWithdrawal)) (replies : List (List WithdrawReply)) (after : List Ballot) : Type 0 where
  pub of_trays : replies ≡ map (map (λ w. w.reply)) trays
  pub rest : after ≡ ballots_without base.ballots (all_numbers trays)
  pub outcome : WithdrawOutcome (numbers_of base.ballots) (tray_lines trays) (numbers_of after)
