-- What a run of a machine tells.
use Rattle.std.specs.Prelude.{◌≡◌, ℕ, ◌<◌, ◌≤◌, List, length, All}
use Rattle.schedule_replay.specs.Machine.{InTurn}
use Rattle.step_core.specs.Schedule.{Follows}
use Rattle.schedule_replay.specs.Replayed.{places_of, replay_text}

-- each is one of so many, counted from 1
abbrev pub IsScheduled : ℕ → List ℕ → Type 0
IsScheduled tabs schedule = All (λ tab. (1 ≤ tab) × (tab ≤ tabs)) schedule

-- the text is that of a replay from `begin`
pub record TellsReplay {C : Type 0} (Steps : C → ℕ → C → Type 0) (IsDone : C → ℕ → Type 0) (IsSound : C → Type 0) (tabs : C → ℕ) (cells : C → List ℕ) (words : C → List (List (List ℕ))) (begin : C) (schedule text : List ℕ) : Type 0 where
  pub after : C
  pub end : C
  pub scheduled : Follows Steps IsDone begin (places_of schedule) after
  pub in_turn : InTurn Steps IsDone after end
  pub counted : tabs end ≡ tabs begin
  pub done : (id : ℕ) → id < tabs begin → IsDone end id
  pub sound : IsSound end
  pub is : text ≡ replay_text (length schedule) (cells after) (cells end) (words end)
