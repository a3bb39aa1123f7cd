-- What waits for the close of a phase.
use Rattle.std.specs.Prelude.{◌≡◌, ℕ, ◌<◌, ◌≤◌, List, All, Option, None, Some, length, map, ⊤}
use Rattle.std.specs.Global.{Vec}
use Rattle.ballot_record.specs.BallotList.{ListedBallots}
use Rattle.ballot_record.specs.Record.{ballot}
use Rattle.ballot_record.specs.declared.record.Record.{Record}
use Rattle.phase_gate.specs.declared.waiting.Queued.{Queued}
use Rattle.phase_gate.specs.declared.waiting.Queued.TheVariants.{Waits, NoList, OtherPhase}
use Rattle.phase_gate.specs.declared.waiting.Waiting.{Waiting}
use Rattle.phase_gate.specs.declared.waiting.Waiting.TheVariants as waits
use Rattle.script_lines.specs.declared.line.Entry.{Entry}
use Rattle.script_lines.specs.declared.line.Entry.TheVariants as entries
use Rattle.store_spec.specs.Ballot.{IsValid}
use Rattle.store_spec.specs.Election.{Election}
use Rattle.store_spec.specs.Session.{Phase, queued}
use Rattle.store_spec.specs.Session.Phase.{Closed, Casts, Withdraws, Finds}

-- the phase in which this waits
abbrev pub phase_of : Waiting → Phase
phase_of (waits.Casting lists) = Casts (map (λ list. list.ballots) lists.items)
phase_of (waits.Withdrawing lists) = Withdraws (map (λ list. list.items) lists.items)
phase_of (waits.Finding lists) = Finds (map (λ list. list.items) lists.items)

-- the phase closed, where nothing can wait
abbrev pub phase_or_closed : Option Waiting → Phase
phase_or_closed None = Closed
phase_or_closed (Some waiting) = phase_of waiting

-- the lists of a casting phase are of this election
pub record AreListsOf (e : Election) (waiting : Waiting) : Type 0 where
  pub casts : (lists : Vec ListedBallots) → waiting ≡ waits.Casting lists → All (λ list. list.election ≡ e) lists.items

-- the same where anything can wait
abbrev pub AreAllOf : Election → Option Waiting → Type 0
AreAllOf e waiting = (lists : Waiting) → waiting ≡ Some lists → AreListsOf e lists

-- a ballot that is to be cast is valid
abbrev pub CanWait : Election → Entry → Record → Type 0
CanWait e entries.Cast r = IsValid e (ballot r)
CanWait e entry r = ⊤

-- an item for list number `tab`: it waits there, or there is no such list
abbrev pub QueuesIn : {X L : Type 0} → (List (List X) → L) → List (List X) → ℕ → X → Queued → L → Type 0
QueuesIn of lists tab x Waits now = (tab ≤ length lists) × (now ≡ of (queued lists tab x))
QueuesIn of lists tab x NoList now = (length lists < tab) × (now ≡ of lists)
QueuesIn of lists tab x OtherPhase now = ⊥

-- the same of an entry, which in any other phase than its own leaves that as it is
abbrev pub GoesInto : Entry → ℕ → Record → Phase → Queued → Phase → Type 0
GoesInto entries.Cast tab r (Casts lists) place now = QueuesIn Casts lists tab (ballot r) place now
GoesInto (entries.Withdraw number) tab r (Withdraws lists) place now = QueuesIn Withdraws lists tab number place now
GoesInto (entries.Find number) tab r (Finds lists) place now = QueuesIn Finds lists tab number place now
GoesInto entry tab r phase place now = (place ≡ OtherPhase) × (now ≡ phase)
