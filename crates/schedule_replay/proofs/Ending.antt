-- How a replay ends: its script was refused, or its text was made and the sink took of it.
use Rattle.std.proofs.Common.{◌≡◌, ◌≢◌, ℕ, List, Result, Ok, Err, ap, arith, refl, sym, subst}
use Rattle.store_spec.proofs.Common.{CountsFaultIf, Election, IsErrAnd}
use Rattle.outside_io.proofs.Told.{told_as}
use Rattle.schedule_replay.specs.Ends.{NoInput, ReplayEnds, WritesReplay}
use Rattle.outside_io.specs.Outside.{OfScript}
use Rattle.schedule_replay.specs.Input.{ReplayInput, lists_in, schedule_in}
use Rattle.outside_io.specs.Outside.{NoFault, Outside, Output}
use Rattle.schedule_replay.specs.Replayed.{Replayed, ReplaysAs}
use Rattle.schedule_replay.specs.Script.{Keeps, lists_of}
use Rattle.schedule_replay.specs.Spelled.{SpellsScript}
use Rattle.schedule_replay.specs.declared.fault.ReplayFault.{ReplayFault}
use Rattle.schedule_replay.specs.declared.fault.ReplayFault.TheVariants as faults
use Rattle.schedule_replay.specs.declared.line.Kind.{Kind}
use Rattle.schedule_replay.specs.declared.script.Script.{Script}

-- what holds of the fault that was made holds of the one that is told
pub ends_with : {S K : Type 0} (e : Election) (r : Result (Unit {0}) ReplayFault) (x : ReplayFault) (before after : Outside S K) → IsErrAnd r (λ fault. fault ≡ x) → ReplayEnds e (Err x) before after → ReplayEnds e r before after
ends_with e (Ok done) x before after is ends = absurd is
ends_with e (Err y) x before after is ends = subst (λ fault. ReplayEnds e (Err fault) before after) (sym is) ends

-- where the sink was left alone, and the script did not fail, nothing failed
quiet : {S K : Type 0} (before after : Outside S K) → after.sink ≡ before.sink → after.script.faults ≡ before.script.faults → NoFault before after
quiet {S} {K} before after still steady = record { script = steady; sink = ap (λ (sink : Output K). sink.faults) still }

pub script_refused : {S K : Type 0} (e : Election) (fault : ReplayFault) (before after : Outside S K) → fault ≢ faults.WriteFault → OfScript before after (NoInput e fault) → after.sink ≡ before.sink → CountsFaultIf (fault ≡ faults.ReadFault) before.script.faults after.script.faults → ReplayEnds e (Err fault) before after
script_refused e (faults.BadLine line why) before after other read still count = (record { why = read; untouched = still }, quiet before after still (count.steady (λ is. cc)))
script_refused e faults.TooLong before after other read still count = (record { why = read; untouched = still }, quiet before after still (count.steady (λ is. cc)))
script_refused e faults.ReadFault before after other read still count = (record { why = read; untouched = still }, count.rose refl)
script_refused e faults.WriteFault before after other read still count = absurd (other refl)
script_refused e faults.Memory before after other read still count = (record { why = read; untouched = still }, quiet before after still (count.steady (λ is. cc)))

-- the script was read out, and there was no memory then
pub no_memory : {S K : Type 0} (e : Election) (script : Script) (before after : Outside S K) → SpellsScript e before.script.left after.script.left script → after.sink ≡ before.sink → after.script.faults ≡ before.script.faults → ReplayEnds e (Err faults.Memory) before after
no_memory e script before after read still steady = (
  record { why = told_as read.spelled (λ x y spelled. omega (arith, spelled.0.0)); untouched = still },
  quiet before after still steady,
)

-- what replays what is kept of a script replays its input
replays_input : (e : Election) (script : Script) (input : ReplayInput) (text : List ℕ) → Keeps e script input → ReplaysAs script.kind e script.base.items (lists_of script) script.schedule.items text → Replayed e input text
replays_input e script input text keeps replays =
    subst (λ (kind : Kind). ReplaysAs kind e input.base (lists_in input) (schedule_in input) text) keeps.kind
    (subst (λ turns. ReplaysAs script.kind e input.base (lists_in input) turns text) keeps.schedule
    (subst (λ lists. ReplaysAs script.kind e input.base lists script.schedule.items text) keeps.lists
    (subst (λ base. ReplaysAs script.kind e base (lists_of script) script.schedule.items text) keeps.base replays)))

-- the text of its replay was made, and the sink took of it
pub writes_replay : {S K : Type 0} (e : Election) (script : Script) (text : List ℕ) (before after : Outside S K) (Takes : List ℕ → Type 0) → SpellsScript e before.script.left after.script.left script → ReplaysAs script.kind e script.base.items (lists_of script) script.schedule.items text → Takes text → WritesReplay e before after Takes
writes_replay e script text before after Takes read replays takes = record {
  input = read.input;
  valid = read.keeps.valid;
  spelled = read.spelled;
  text = text;
  replayed = replays_input e script read.input text read.keeps replays;
  taken = takes;
}
