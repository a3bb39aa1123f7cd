-- An act on a shared word as one step of a table.
use Rattle.std.specs.Prelude.{ℕ}
use Rattle.atomic_table.specs.Table.{Step, step}
use Rattle.store_spec.specs.Act.{Act}
use Rattle.store_spec.specs.Act.Act.{Nothing, Load, Swap, Trade}
use mathlib.Core.Option.{none}

-- the word and the operands of an act's step
abbrev pub step_of : ℕ → Act → Step (Unit {0})
step_of slots Nothing = step slots 0 0 0 none
step_of slots (Load word) = step slots word 0 0 none
step_of slots (Swap word put) = step slots word put 0 none
step_of slots (Trade word want put) = step slots word want put none

-- there is a step to make
abbrev pub IsStep : Act → Type 0
IsStep Nothing = ⊥
IsStep (Load word) = Unit {0}
IsStep (Swap word put) = Unit {0}
IsStep (Trade word want put) = Unit {0}
