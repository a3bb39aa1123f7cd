-- What the command `large` makes of a medium: a session on the script that its options generate, of whose replies the
-- summary is written. `old` and `new` are the sink before and after, and `before` and `after` the disk.
use Rattle.std.specs.Prelude.{◌≡◌, ◌⊎◌, List, [], ◌∷◌, length, IfSome, Some, Result, codes, true, false}
use Rattle.run_outcome.specs.Row.{EndsWell, HoldsAny, Row}
use Rattle.run_outcome.specs.Status.{ended_as}
use Rattle.run_outcome.specs.World.{IsAlone, Reported, World, nothing_reported}
use Rattle.session_commands.specs.Session.{run_status, with_report}
use Rattle.run_outcome.specs.declared.status.Status.{Status}
use Rattle.run_outcome.specs.declared.status.Status.TheVariants.{Ok, Memory}
use Rattle.large_options.specs.Options.{IsOptions}
use Rattle.large_options.specs.declared.options.Options.{Options}
use Rattle.outside_io.specs.Outside.{Input, Output}
use Rattle.outside_io.specs.Stream.{TakesAll}
use Rattle.any_store.specs.Checkpointed.{IsMediumNow}
use Rattle.script_lines.specs.Generated.{generated_text}
use Rattle.script_lines.specs.declared.generated_script.GeneratedScript.{GeneratedScript}
use Rattle.session_laws.specs.LargeRun.{IsLargeSet, large_summary}
use Rattle.session_run.specs.Ends.{SessionEnds}
use Rattle.session_run.specs.History.{AreMarks}
use Rattle.session_run.specs.declared.fault.RunFault.{RunFault}
use Rattle.store_spec.specs.Ballot.{Ballot}
use Rattle.store_spec.specs.Disk.{DiskModel}
use Rattle.store_spec.specs.Election.{Election}
use Rattle.store_spec.specs.Medium.{HoldsSet}
use Rattle.store_spec.specs.Summary.{summary_of}

-- The run came to its end. The set that was held gained the ballots that were cast and lost the numbers that were
-- withdrawn; the disk is the medium of the result, which is acknowledged, and the summary tells it.
pub record HasResult {K D : Type 0} (model : DiskModel D) (e : Election) (o : Options) (report : Reported) (old new : Output K) (before after : D) : Type 0 where
  pub set : List Ballot
  pub held : IfSome (model.seen before) (λ bytes. HoldsSet e bytes set)
  pub result : List Ballot
  pub is : IsLargeSet e o.seed o.count set result
  pub summary : TakesAll old.taken (large_summary e o.seed o.count set result) new.taken
  pub medium : IsMediumNow model e result after
  pub marks : AreMarks (model.calls before) report.marks (result ∷ []) (model.calls after)
  pub reported : report.held ≡ length result

-- The generated script was handled as a session handles one. Its source, which tells all of it, never fails.
pub record PlaysGenerated {K D : Type 0} (model : DiskModel D) (e : Election) (o : Options) (status : Status) (report : Reported) (old new : Output K) (before after : D) : Type 0 where
  pub answer : Result (Unit {0}) RunFault
  pub told : status ≡ ended_as run_status answer
  pub source : Input GeneratedScript
  pub rest : Input GeneratedScript
  pub script : source.left ≡ Some (generated_text e o.seed o.count o.tabs)
  pub sure : (source.faults ≡ 0) × (rest.faults ≡ 0)
  pub ends : SessionEnds model summary_of e answer source rest (with_report old before nothing_reported) (with_report new after report)
  pub alone : IsAlone report
  pub result : status ≡ Ok → HasResult model e o report old new before after

-- All that a run of `large` promises under an election. Where there was no memory for the generated script, all is left
-- alone.
abbrev pub LargeEnds : {K D : Type 0} → DiskModel D → Election → Options → Status → Reported → Output K → Output K → D → D → Type 0
LargeEnds model e o status report old new before after =
    ((status ≡ Memory) × (new ≡ old) × (after ≡ before) × (report ≡ nothing_reported))
    ⊎ PlaysGenerated model e o status report old new before after

-- ---- the row

abbrev large_ends : {S K D : Type 0} → Options → DiskModel D → Election → Status → Reported → World S K D → World S K D → Type 0
large_ends o model e status report before after = LargeEnds model e o status report before.streams.sink after.streams.sink before.disk after.disk

abbrev pub large_row : Options → Row
large_row o = record {
  word = codes "large";
  further = λ words. IsOptions words o.seed o.count o.tabs;
  touches = record { script = false; disk = true; more = false; report = true };
  served = HoldsAny;
  done = EndsWell;
  ends = large_ends o;
}
