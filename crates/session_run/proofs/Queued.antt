-- A line whose item waits: nothing is told of it.
use Rattle.std.proofs.Common.{◌≡◌, ℕ, ◌+◌, List, [], length, Option, None, Some, refl, ap, sym, subst, ◌∙◌}
use Rattle.store_spec.proofs.Common.{AnswersBy, Effect, Election, State, replies}
use Rattle.outside_io.specs.Stream.{TakesAll}
use Rattle.phase_gate.specs.Around.{Around}
use Rattle.any_store.specs.Disks.{StoreModel}
use Rattle.phase_gate.specs.InnerSession.{IsQueued}
use Rattle.phase_gate.specs.LineEnds.{IsHandled}
use Rattle.phase_gate.specs.Writing.{written_of}
use Rattle.phase_gate.specs.declared.writing.Writing.{Writing}
use Rattle.phase_gate.specs.declared.writing.Writing.TheVariants.{All, Summary}
use Rattle.script_lines.specs.declared.line.Said.{Said}
use Rattle.session_run.proofs.Beginning.{takes_none}

-- what a line did that was queued
pub was_queued : (left : Option Said) (Did : Effect → Type 0) (Is : Said → Type 0) (old new : State) → left ≡ None
    → IsQueued left Did Is old new → Did (replies [] new)
was_queued left Did Is old new is did = subst (λ left. IsQueued left Did Is old new) is did

-- a line that was not says this, and has done nothing
pub not_queued : (left : Option Said) (said : Said) (Did : Effect → Type 0) (Is : Said → Type 0) (old new : State) → left ≡ Some said
    → IsQueued left Did Is old new → Is said × (new ≡ old)
not_queued left said Did Is old new is did = subst (λ left. IsQueued left Did Is old new) is did

-- nothing is told of no reply
pub told_nothing : (writing : Writing) → written_of writing [] ≡ []
told_nothing All = refl
told_nothing Summary = refl

-- such a line was handled
pub queued_is : {K D : Type 0} (model : StoreModel D) (write : List ℕ → List ℕ) (e : Election) (state next : State)
    (index : ℕ) (now : Around K D) (bytes : List ℕ) → write [] ≡ []
    → AnswersBy (model.closes e) e (index + 1) state (Some bytes) (replies [] next) → next.set ≡ state.set
    → now.held ≡ length state.set → IsHandled model write e (index + 1) state bytes next now now
queued_is model write e state next index now bytes none_told answers same held = record {
  effect = replies [] next;
  answers = answers;
  next_state = refl;
  done = record { acknowledged = (refl, refl); held = held ∙ ap length (sym same) };
  taken = subst (λ text. TakesAll now.sink.taken text now.sink.taken) (sym none_told) (takes_none now.sink.taken);
  no_fault = refl;
}
