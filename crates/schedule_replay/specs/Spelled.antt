-- What a script that is read out gives.
use Rattle.std.specs.Prelude.{ℕ, List, Option}
use Rattle.outside_io.specs.Told.{IfTold}
use Rattle.schedule_replay.specs.Ends.{SpellsInput}
use Rattle.schedule_replay.specs.Input.{ReplayInput}
use Rattle.schedule_replay.specs.Script.{Keeps, MayBeOpened}
use Rattle.schedule_replay.specs.declared.script.Script.{Script}
use Rattle.store_spec.specs.Election.{Election}

-- the lines are those of an input, all of which is kept
pub record SpellsScript (e : Election) (before left : Option (List ℕ)) (script : Script) : Type 0 where
  pub input : ReplayInput
  pub keeps : Keeps e script input
  pub ready : MayBeOpened e script
  pub spelled : IfTold before left (SpellsInput input)
