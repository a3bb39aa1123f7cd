-- What a line does by the phase, where it does nothing but to reply.
use Rattle.phase_gate.specs.Replies.{ClosesBy}
use Rattle.std.proofs.Common.{◌≡◌, ℕ, Option, None, Some, codes, refl, subst}
use Rattle.store_spec.proofs.Common.{CastInvalid, Casts, Checkpoint, Close, Closed, Closes, DoesBy, Effect, Election, Export, Finds, Open, Phase, State, Tally, Withdraws, Work, refusal, stays, wrong_phase}
use Rattle.phase_gate.specs.InnerSession.{IsPhaseName}
use Rattle.phase_gate.specs.Waiting.{phase_or_closed}
use Rattle.phase_gate.specs.declared.phase.Phase.TheVariants as names
use Rattle.phase_gate.specs.declared.phase.Phase as named
use Rattle.phase_gate.specs.declared.waiting.Waiting.{Waiting}
use Rattle.phase_gate.specs.declared.waiting.Waiting.TheVariants as waits

-- the phase of this name is closed
pub named_closed : (name : named.Phase) (phase : Phase) → IsPhaseName name phase → name ≡ names.Closed → phase ≡ Closed
named_closed name Closed is closed = refl
named_closed name phase is closed = absurd (cc)

-- the phase of another name is not
pub named_open : (name : named.Phase) (phase : Phase) → IsPhaseName name phase → ¬ (name ≡ names.Closed)
    → ¬ (phase ≡ Closed)
named_open name phase is other closed = other (subst (IsPhaseName name) closed is)

-- a phase in which something can wait is not
pub open_phase : (waiting : Option Waiting) (lists : Waiting) → waiting ≡ Some lists → ¬ (phase_or_closed waiting ≡ Closed)
open_phase None lists is = absurd (cc)
open_phase (Some (waits.Casting lists)) l is = λ closed. cc
open_phase (Some (waits.Withdrawing lists)) l is = λ closed. cc
open_phase (Some (waits.Finding lists)) l is = λ closed. cc

module _ (closes : Closes) (e : Election) (n : ℕ) (s : State) where
  -- lines that belong to the phase closed, in another one
  pub elsewhere : (phase : Phase) → ¬ (phase ≡ Closed) → let refused = stays s (wrong_phase n phase) in
      ((work : Work) (tabs : ℕ) → DoesBy closes e n s (Open work tabs) phase refused)
      × DoesBy closes e n s Checkpoint phase refused × DoesBy closes e n s Tally phase refused
      × DoesBy closes e n s Export phase refused
  elsewhere Closed other = absurd (other refl)
  elsewhere phase other = (λ work tabs. refl, refl, refl, refl)

  -- no phase is closed twice
  pub close_closed : (phase : Phase) → phase ≡ Closed → DoesBy closes e n s Close phase (stays s (wrong_phase n phase))
  close_closed Closed is = refl
  close_closed phase is = absurd (cc)

  -- the close of another phase
  pub closes_open : (phase : Phase) (effect : Effect) → ClosesBy closes s.set phase effect
      → DoesBy closes e n s Close phase effect
  closes_open Closed effect does = absurd does
  closes_open (Casts lists) effect does = does
  closes_open (Withdraws lists) effect does = does
  closes_open (Finds lists) effect does = does

  -- a ballot that is not valid, in a casting phase
  pub invalid_there : (tab : ℕ) (name : named.Phase) (phase : Phase) → IsPhaseName name phase → name ≡ names.Casting
      → DoesBy closes e n s (CastInvalid tab) phase (stays s (refusal n (codes "invalid")))
  invalid_there tab name (Casts lists) is casting = refl
  invalid_there tab name phase is casting = absurd (cc)

  -- and in another one
  pub invalid_elsewhere : (tab : ℕ) (name : named.Phase) (phase : Phase) → IsPhaseName name phase
      → ¬ (name ≡ names.Casting) → DoesBy closes e n s (CastInvalid tab) phase (stays s (wrong_phase n phase))
  invalid_elsewhere tab name (Casts lists) is other = absurd (other is)
  invalid_elsewhere tab name phase is other = refl
