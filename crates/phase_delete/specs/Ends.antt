-- What the parts of a close hand on.
use Rattle.std.specs.Prelude.{ℕ, List, flat_map}
use Rattle.phase_delete.specs.Tray.{IsTrayOf, TrayWithdrawal, withdrawn_of}
use Rattle.phase_kind.specs.Worker.{WorkerView}
use Rattle.step_core.specs.declared.withdrawer.WithdrawReply.{WithdrawReply}
use Rattle.store_spec.specs.WithdrawStep.{WithdrawView}

-- a withdrawer, as callers see it
abbrev pub WithdrawerView : Type 0
WithdrawerView = WorkerView WithdrawView ℕ WithdrawReply

-- its tray tells the lists of its seat
abbrev pub TellsOf : WithdrawerView → Type 0
TellsOf tab = IsTrayOf tab.phase tab.seat tab.tray

-- the numbers of trays that were withdrawn
abbrev pub all_withdrawn : List (List TrayWithdrawal) → List ℕ
all_withdrawn trays = flat_map withdrawn_of trays
