-- What a machine that plays a phase tells is the text of a replay.
use Rattle.std.proofs.Common.{◌≡◌, ℕ, ◌<◌, Option, List, length, subst, arith}
use Rattle.store_spec.proofs.Common.{All, Election, IsSomeAnd, slice_get, slice_get-get_or}
use Rattle.schedule_replay.specs.Machine.{IsShortCasting, IsShortWithdrawing}
use Rattle.schedule_replay.specs.Replayed.{ReplaysCast, ReplaysWithdraw, cast_words, places_of, withdraw_words}
use Rattle.schedule_replay.specs.Runs.{TellsReplay}
use Rattle.step_core.proofs.CastingEnds as casting_ends
use Rattle.step_core.proofs.WithdrawingEnds as withdrawing_ends
use Rattle.step_core.specs.Casting as casting
use Rattle.step_core.specs.Casting.{Casting}
use Rattle.step_core.specs.Withdrawing as withdrawing
use Rattle.step_core.specs.Withdrawing.{Withdrawing}

-- each one of so many is done, so all are
pub all_done : {X : Type 0} (IsDone : X → Type 0) (tabs : List X) (many : ℕ) → length tabs ≡ many → ((id : ℕ) → id < many → IsSomeAnd (slice_get tabs id) IsDone) → All IsDone tabs
all_done {X} IsDone tabs many counted each k d within =
    subst (λ (o : Option X). IsSomeAnd o IsDone) (slice_get-get_or tabs k d within) (each k (omega arith))

abbrev pub TellsCasting : Casting → List ℕ → List ℕ → Type 0
TellsCasting = TellsReplay casting.Steps casting.IsDoneAt IsShortCasting (λ c. length c.tabs) casting.cells_in cast_words

abbrev pub TellsWithdrawing : Withdrawing → List ℕ → List ℕ → Type 0
TellsWithdrawing = TellsReplay withdrawing.Steps withdrawing.IsDoneAt IsShortWithdrawing (λ w. length w.tabs) withdrawing.cells_in withdraw_words

pub cast_told : (e : Election) (base : List ℕ) (lists : List (List ℕ)) (begin : Casting) (turns text : List ℕ) → begin ≡ casting.opened e.bits e.salt e.limit base lists → TellsCasting begin turns text → ReplaysCast e base lists turns text
cast_told e base lists begin turns text is told =
    let done = all_done casting.IsDone told.end.tabs (length begin.tabs) told.counted told.done in
    record {
      after = told.after;
      end = told.end;
      plays = record {
        scheduled = subst (λ (c : Casting). casting.Runs c (places_of turns) told.after) is told.scheduled;
        rounds = told.in_turn.rounds;
        ascending = told.in_turn.ascending;
        rested = told.in_turn.follows;
        done = done;
        ended = casting_ends.ends told.end told.sound.holds done;
      };
      is = told.is;
    }

pub withdraw_told : (e : Election) (base : List ℕ) (lists : List (List ℕ)) (begin : Withdrawing) (turns text : List ℕ) → begin ≡ withdrawing.opened e.bits e.salt e.limit base lists → TellsWithdrawing begin turns text → ReplaysWithdraw e base lists turns text
withdraw_told e base lists begin turns text is told =
    let done = all_done withdrawing.IsDone told.end.tabs (length begin.tabs) told.counted told.done in
    record {
      after = told.after;
      end = told.end;
      plays = record {
        scheduled = subst (λ (w : Withdrawing). withdrawing.Runs w (places_of turns) told.after) is told.scheduled;
        rounds = told.in_turn.rounds;
        ascending = told.in_turn.ascending;
        rested = told.in_turn.follows;
        done = done;
        ended = withdrawing_ends.ends told.end told.sound.holds done;
      };
      is = told.is;
    }
