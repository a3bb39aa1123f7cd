-- The laws of `replay`: its script decides how it ends, but for faults and want of memory.
use Rattle.std.proofs.Common.{◌≡◌, ◌⊎◌, Result, Ok, Err, inl, inr, refl, sym, ◌∙◌, ap, subst}
use Rattle.store_spec.proofs.Common.{Election, script_limit, taken_lines}
use Rattle.outside_io.proofs.FirstLine.{all_within}
use Rattle.outside_io.specs.Outside.{Outside}
use Rattle.run_outcome.proofs.Laws.{Laws, not_risen}
use Rattle.run_outcome.specs.Row.{Content}
use Rattle.run_outcome.specs.Status.{IsDecided, ended_as}
use Rattle.run_outcome.specs.World.{IsSteady}
use Rattle.run_outcome.specs.declared.status.Status.{Status}
use Rattle.run_outcome.specs.declared.status.Status.TheVariants as status
use Rattle.schedule_replay.proofs.OneAnswer as replays
use Rattle.schedule_replay.specs.Ends as replay
use Rattle.schedule_replay.specs.Refusal.{AreLinesOf}
use Rattle.schedule_replay.specs.declared.fault.ReplayFault.{ReplayFault}
use Rattle.schedule_replay.specs.declared.fault.ReplayFault.TheVariants as faults
use Rattle.script_commands.specs.Replay.{HasInput, replay_row, replay_status}

-- what a replay answered is told by its status
abbrev pub ReplayDecides : Election → Content → Status → Type 0
ReplayDecides e content status = (answer : Result (Unit {0}) ReplayFault) × (status ≡ ended_as replay_status answer) × replays.Decides e content.script answer

decided_too : (answer : Result (Unit {0}) ReplayFault) → IsDecided (ended_as replay_status answer) → replay.IsDecided answer
decided_too (Err faults.ReadFault) decided = decided
decided_too (Err faults.WriteFault) decided = decided
decided_too (Err faults.Memory) decided = decided
decided_too other decided = tt

one_replay : (e : Election) (content : Content) (a b : Status) → ReplayDecides e content a → ReplayDecides e content b → a ≡ b
one_replay e content a b x y = x.1 ∙ ap (λ answer. ended_as replay_status answer) (replays.decides_one e content.script x.0 y.0 x.2 y.2) ∙ sym y.1

has_input : (e : Election) (content : Content) → HasInput e content → ReplayDecides e content status.Ok
has_input e content has =
    (Ok tt, refl, (has.0, (has.1, subst (AreLinesOf has.1) (sym (ap taken_lines (all_within script_limit content.script has.0))) has.3, has.2)))

replay_settled : {S K : Type 0} (e : Election) (answer : Result (Unit {0}) ReplayFault) (before after : Outside S K) → IsSteady before.script.faults after.script.faults → IsSteady before.sink.faults after.sink.faults
    → replay.ReplayEnds e answer before after → IsDecided (ended_as replay_status answer) ⊎ (ended_as replay_status answer ≡ status.Memory)
replay_settled e (Err faults.ReadFault) before after script sink ends = absurd (not_risen before.script.faults after.script.faults script ends.1)
replay_settled e (Err faults.WriteFault) before after script sink ends = absurd (not_risen before.sink.faults after.sink.faults sink ends.1)
replay_settled e (Err faults.Memory) before after script sink ends = inr refl
replay_settled e other before after script sink ends = inl tt

never_usage : (answer : Result (Unit {0}) ReplayFault) → status.Usage ≡ ended_as replay_status answer → ⊥
never_usage (Err faults.Memory) is = cc
never_usage other is = cc

pub replay_laws : Laws replay_row
replay_laws = record {
  Cause = ReplayDecides;
  caused = λ model e a report before after content tells decided ends.
      (ends.answer, ends.told, replays.replay_decides e ends.answer before.streams after.streams content.script tells.script (decided_too ends.answer (subst IsDecided ends.told decided)) ends.replays);
  one = λ e content a b valid x y. one_replay e content a b x y;
  settled = λ model e a report before after none ends.
      subst (λ (s : Status). IsDecided s ⊎ (s ≡ status.Memory)) (sym ends.told) (replay_settled e ends.answer before.streams after.streams none.script none.sink ends.replays);
  served = λ e content a words valid none has decides. one_replay e content a status.Ok decides (has_input e content has);
  no_usage = λ model e report before after ends. never_usage ends.answer ends.told;
}
