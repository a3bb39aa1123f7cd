use Rattle.std.proofs.Common.{ℕ, List}
use Rattle.layout_def.proofs.Changing.{IsExchanged}
use Rattle.layout_def.specs.Changes.{AreChanges}
use Rattle.layout_def.proofs.changes.exchange.Given as goal

-- so many first changes are exchanged
abbrev pub invariant-loop-at : goal.invariant-loop-at
invariant-loop-at l = (after : List ℕ) → AreChanges l.initial.cells after l.initial.changes
    → IsExchanged l.initial.cells after l.initial.changes l.at l.cells l.changes
