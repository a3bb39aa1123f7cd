-- A generated script that was handled as a session, and its result.
use Rattle.std.proofs.Common.{◌≡◌, ◌<◌, ◌^◌, ℕ, List, [], ◌++◌, append-nil, length, map, None, Some, Result, Ok, Err, inr, refl, ap, sym, subst, ◌∙◌}
use Rattle.store_spec.proofs.Common.{Ballot, DiskModel, Election, IsElection, IsTab, Plays, State, begun, last_reply, lines_of, summary_of, taken_lines}
use Rattle.session_commands.specs.Large.{HasResult, LargeEnds}
use Rattle.session_commands.specs.Session.{reported, run_status, with_report}
use Rattle.run_outcome.specs.Status.{ended_as}
use Rattle.run_outcome.specs.World.{IsAlone, Reported, nothing_reported}
use Rattle.run_outcome.specs.declared.status.Status.TheVariants as status
use Rattle.large_options.specs.declared.options.Options.{Options}
use Rattle.outside_io.proofs.Told.{told_at}
use Rattle.outside_io.specs.Outside.{Input, Output}
use Rattle.outside_io.specs.Stream.{TakesAll}
use Rattle.any_store.specs.Beside.{calls_beside}
use Rattle.phase_gate.specs.Beside.{AreBeside}
use Rattle.any_store.specs.Disks.{one_store}
use Rattle.phase_gate.specs.declared.report.Report.{Report}
use Rattle.script_lines.specs.Generated.{generated_text}
use Rattle.script_lines.specs.declared.generated_script.GeneratedScript.{GeneratedScript}
use Rattle.session_laws.proofs.GeneratedLines.{text_run}
use Rattle.session_laws.proofs.WholeReplies.{summary_each}
use Rattle.session_laws.specs.LargeRun.{large_summary}
use Rattle.session_run.specs.Ends.{Begun, SessionEnds}
use Rattle.session_run.specs.History.{Acknowledged, written_by}
use Rattle.session_run.specs.declared.fault.RunFault.{RunFault}
use Rattle.session_run.specs.declared.fault.RunFault.TheVariants as run

-- no fault ends well
fault_told : (fault : RunFault) → run_status fault ≡ status.Ok → ⊥
fault_told run.Memory is = cc
fault_told other is = cc

-- a generated script that was handled to its end has its result
has_result : {K D : Type 0} (model : DiskModel D) (e : Election) (o : Options) (source rest : Input GeneratedScript) (report : Reported) (old new : Output K) (before after : D) → IsElection e → o.seed < 2 ^ 32 → IsTab o.tabs
    → source.left ≡ Some (generated_text e o.seed o.count o.tabs) → Begun (one_store model) summary_of e (Ok tt) source rest (with_report old before nothing_reported) (with_report new after report) → HasResult model e o report old new before after
has_result model e o source rest report old new before after election small tab told one =
    let text = generated_text e o.seed o.count o.tabs in
    let lines_are : one.lines ≡ taken_lines (lines_of text) = (told_at text told one.ends.0).1.2 in
    let plays = subst (λ lines. Plays e 1 (begun one.set) lines one.effects one.state) lines_are one.plays in
    let large = text_run e o.seed o.count o.tabs one.set one.effects one.state election small tab one.legal plays in
    let told_is : written_by summary_of one.effects ++ summary_of (last_reply one.state.phase) ≡ large_summary e o.seed o.count one.set large.after =
    ap (λ (s : State). written_by summary_of one.effects ++ summary_of (last_reply s.phase)) large.ends
    ∙ append-nil (written_by summary_of one.effects)
    ∙ sym (summary_each e 1 (begun one.set) one.state one.lines one.effects one.plays) ∙ large.summary in
    let acknowledged = subst (λ (sets : List (List Ballot)). Acknowledged model e one.set sets before after report.marks) (ap (λ (sets : List (List Ballot)). sets ++ []) large.acknowledged) one.ends.1.acknowledged in
    record {
      set = one.set;
      held = one.held;
      result = large.after;
      is = large.is;
      summary = subst (λ (bytes : List ℕ). TakesAll old.taken bytes new.taken) told_is one.ends.1.taken;
      medium = acknowledged.medium;
      marks = acknowledged.marked;
      reported = one.ends.2 ∙ ap (λ (s : State). length s.set) large.ends;
    }

ended_result : {K D : Type 0} (model : DiskModel D) (e : Election) (o : Options) (source rest : Input GeneratedScript) (answer : Result (Unit {0}) RunFault) (report : Reported) (old new : Output K) (before after : D) → IsElection e → o.seed < 2 ^ 32 → IsTab o.tabs
    → source.left ≡ Some (generated_text e o.seed o.count o.tabs) → SessionEnds model summary_of e answer source rest (with_report old before nothing_reported) (with_report new after report) → ended_as run_status answer ≡ status.Ok → HasResult model e o report old new before after
ended_result model e o source rest (Ok done) report old new before after election small tab told ends is = has_result model e o source rest report old new before after election small tab told ends
ended_result model e o source rest (Err fault) report old new before after election small tab told ends is = absurd (fault_told fault is)

pub large_played : {K D : Type 0} (model : DiskModel D) (e : Election) (o : Options) (source rest : Input GeneratedScript) (answer : Result (Unit {0}) RunFault) (was report : Reported) (old new : Output K) (before after : D) → IsElection e → o.seed < 2 ^ 32 → IsTab o.tabs
    → source.left ≡ Some (generated_text e o.seed o.count o.tabs) → source.faults ≡ 0 → rest.faults ≡ 0 → was ≡ nothing_reported → IsAlone report
    → SessionEnds model summary_of e answer source rest (with_report old before was) (with_report new after report) → LargeEnds model e o (ended_as run_status answer) report old new before after
large_played model e o source rest answer was report old new before after election small tab told first last nothing alone handled =
    let ends = subst (λ (r : Reported). SessionEnds model summary_of e answer source rest (with_report old before r) (with_report new after report)) nothing handled in
    inr (record {
      answer = answer;
      told = refl;
      source = source;
      rest = rest;
      script = told;
      sure = (first, last);
      ends = ends;
      alone = alone;
      result = ended_result model e o source rest answer report old new before after election small tab told ends;
    })

-- a session that began with no second disk reports none
pub reports_alone : (old new : Report) → reported old ≡ nothing_reported → AreBeside new.begun new.marks.items new.others.items → new.begun ≡ old.begun → IsAlone (reported new)
reports_alone old new nothing beside same =
    let none : new.begun ≡ None = same ∙ ap (λ (r : Reported). r.begun) nothing in
    record {
      others = subst (λ begun. map (λ list. list.items) new.others.items ≡ map (calls_beside begun) new.marks.items) none beside;
      begun = none;
    }
