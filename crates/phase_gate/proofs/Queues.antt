-- Items at the end of lists.
use Rattle.std.proofs.Common.{◌≡◌, ℕ, ◌-◌, ◌<◌, List, [], ◌∷◌, ◌++◌, length, map, cond, codes, get_or, slice_set, Result, Ok, Err, OnErr, ap, subst, sym, ◌∙◌}
use Rattle.store_spec.proofs.Common.{Ballot, Casts, Closes, DoesBy, Effect, Election, Finds, Phase, Withdraws, get_or-map, in_phase, le-leb, lt-leb, map-set, queued, queues, refusal, replies, stays, wrong_phase}
use Rattle.ballot_record.specs.Record.{ballot}
use Rattle.ballot_record.specs.declared.record.Record.{Record}
use Rattle.phase_gate.specs.InnerSession.{queued_effect}
use Rattle.phase_gate.specs.Waiting.{GoesInto, QueuesIn}
use Rattle.phase_gate.specs.declared.waiting.Queued.{Queued}
use Rattle.phase_gate.specs.declared.waiting.Queued.TheVariants.{Waits, NoList, OtherPhase}
use Rattle.script_lines.specs.Line.{entry_line}
use Rattle.script_lines.specs.declared.line.Entry.{Entry}
use Rattle.script_lines.specs.declared.line.Entry.TheVariants as entries

-- an item is put at the end of the list at a place
pub queued_there : {V X : Type 0} (f : V → List X) (lists : List V) (tab : ℕ) (none new : V) (item : X)
    → tab - 1 < length lists → f new ≡ f (get_or lists (tab - 1) none) ++ item ∷ []
    → map f (slice_set lists (tab - 1) new) ≡ queued (map f lists) tab item
queued_there f lists tab none new item within items =
    map-set f lists (tab - 1) new
    ∙ ap (λ l. slice_set (map f lists) (tab - 1) l) (items ∙ ap (λ l. l ++ item ∷ [])
    (sym (get_or-map f lists (tab - 1) none [] within)))

-- the lists in which an item waits are those of a phase
waits_in : {X L : Type 0} (of : List (List X) → L) (old new : List (List X)) (tab : ℕ) (item : X) (place : Queued)
    → QueuesIn (λ now. now) old tab item place new → QueuesIn of old tab item place (of new)
waits_in of old new tab item Waits (within, is) = (within, ap of is)
waits_in of old new tab item NoList (none, is) = (none, ap of is)
waits_in of old new tab item OtherPhase absent = absent

-- the same of a casting phase
pub casts_into : (phase : Phase) (old new : List (List Ballot)) (tab : ℕ) (r : Record) (place : Queued)
    → phase ≡ Casts old → QueuesIn (λ now. now) old tab (ballot r) place new → GoesInto entries.Cast tab r phase place (Casts new)
casts_into phase old new tab r place is waits =
    subst (λ p. GoesInto entries.Cast tab r p place (Casts new)) (sym is) (waits_in Casts old new tab (ballot r) place waits)

-- what is done with an item in the phase that it belongs to
waits_does : {X : Type 0} (n : ℕ) (set : List Ballot) (of : List (List X) → Phase) (lists : List (List X)) (tab : ℕ)
    (x : X) (place : Queued) (now : Phase) (effect : Effect) → QueuesIn of lists tab x place now
    → effect ≡ queued_effect n (in_phase now set) place → effect ≡ queues n (in_phase (of lists) set) of lists tab x
waits_does n set of lists tab x Waits now effect (within, to) is =
    is ∙ ap (λ p. replies [] (in_phase p set)) to ∙ sym
    (ap (λ test. cond test (replies [] (in_phase (of (queued lists tab x)) set))
    (stays (in_phase (of lists) set) (refusal n (codes "invalid")))) (le-leb tab (length lists) within))
waits_does n set of lists tab x NoList now effect (none, to) is =
    is ∙ ap (λ p. stays (in_phase p set) (refusal n (codes "invalid"))) to ∙ sym
    (ap (λ test. cond test (replies [] (in_phase (of (queued lists tab x)) set))
    (stays (in_phase (of lists) set) (refusal n (codes "invalid")))) (lt-leb tab (length lists) none))
waits_does n set of lists tab x OtherPhase now effect absent is = absurd absent

-- what is done with it in another
other_does : (n : ℕ) (set : List Ballot) (phase : Phase) (place : Queued) (now : Phase) (effect : Effect)
    → (place ≡ OtherPhase) × (now ≡ phase) → effect ≡ queued_effect n (in_phase now set) place
    → effect ≡ stays (in_phase phase set) (wrong_phase n phase)
other_does n set phase place now effect (other, to) is =
    is ∙ ap (λ p. queued_effect n (in_phase p set) place) to ∙ ap (queued_effect n (in_phase phase set)) other

-- what a line does that brings an entry, from where the entry went
pub entry_does : (closes : Closes) (e : Election) (n : ℕ) (set : List Ballot) (entry : Entry) (tab : ℕ) (r : Record) (phase : Phase)
    (place : Queued) (now : Phase) (effect : Effect) → GoesInto entry tab r phase place now
    → effect ≡ queued_effect n (in_phase now set) place
    → DoesBy closes e n (in_phase phase set) (entry_line tab entry r) phase effect
entry_does closes e n set entries.Cast tab r (Casts lists) place now effect into is =
    waits_does n set Casts lists tab (ballot r) place now effect into is
entry_does closes e n set (entries.Withdraw k) tab r (Withdraws lists) place now effect into is =
    waits_does n set Withdraws lists tab k place now effect into is
entry_does closes e n set (entries.Find k) tab r (Finds lists) place now effect into is =
    waits_does n set Finds lists tab k place now effect into is
entry_does closes e n set entry tab r phase place now effect into is = other_does n set phase place now effect into is

-- what holds in any case does so on a failure
pub on_any_err : {T E P : Type 0} (r : Result T E) → P → OnErr r P
on_any_err (Ok x) holds = tt
on_any_err (Err e) holds = holds
