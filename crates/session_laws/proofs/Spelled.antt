-- What lines of each form do, whatever numbers and ballots stand in them.
use Rattle.std.proofs.Common.{◌≡◌, ℕ, List, [], ◌∷◌, Some, codes, refl, inl, inr, subst}
use Rattle.store_spec.proofs.Common.{Answers, Ballot, Cast, Casting, Casts, Checkpoint, Close, Closed, ClosesCasting, ClosesWithdrawing, Does, Effect, Election, Export, Find, Finding, Finds, IsMalformed, IsNumber, IsTab, Open, Says, ScriptLine, Spells, State, Tally, Withdraw, Withdrawing, Withdraws, Work, begun, counted, decimal, example, export_text, in_phase, item_text, length, numbers_of, open_text, opened, phase_text, queues, refusal, replies, stays, tally_text, wrong_phase}
use Rattle.script_lines.proofs.Meanings.{one_meaning}
use Rattle.session_laws.proofs.Steps.{MayDo, Step}
use Rattle.session_laws.proofs.Findings.{finding_closes, finding_effect, finding_only, findings}

-- a line does what the form does that it is of
pub does_as_said : (e : Election) (n : ℕ) (s : State) (bytes : List ℕ) (line : ScriptLine) → Says e bytes line → (effect : Effect) → Answers e n s (Some bytes) effect → Does e n s line s.phase effect
does_as_said e n s bytes line says effect (inl malformed) = absurd (malformed.0 line says)
does_as_said e n s bytes line says effect (inr other) = subst (λ (line : ScriptLine). Does e n s line s.phase effect) (one_meaning e bytes other.0 line other.1 says) other.2

-- so it is a step where the form does one thing
said : {n : ℕ} {s : State} {bytes : List ℕ} {effect : Effect} (line : ScriptLine) → Says example bytes line → Does example n s line s.phase effect → ((other : Effect) → Does example n s line s.phase other → other ≡ effect) → Step n s bytes effect
said {n = n} {s = s} {bytes = bytes} line says does only = record {
  may = record { answers = inr (line, says, does) };
  only = λ other answers. only other (does_as_said example n s bytes line says other answers);
}

-- a phase is opened
pub opens : {n : ℕ} {set : List Ballot} {bytes : List ℕ} (work : Work) (tabs : ℕ) → IsTab tabs → bytes ≡ open_text work tabs
    → Step n (begun set) bytes (replies (counted (phase_text (opened work tabs)) tabs) (in_phase (opened work tabs) set))
opens work tabs is text = said (Open work tabs) (is, text) refl (λ other does. does)

-- a ballot waits, or is for a list that is not there
pub casts : {n : ℕ} {set : List Ballot} {lists : List (List Ballot)} {bytes rest : List ℕ} {b : Ballot} (tab : ℕ) → IsTab tab → bytes ≡ item_text Casting tab rest → Spells example rest b
    → Step n (in_phase (Casts lists) set) bytes (queues n (in_phase (Casts lists) set) Casts lists tab b)
casts {rest = rest} {b = b} tab is text spelled = said (Cast tab b) (is, rest, text, spelled) refl (λ other does. does)

-- a number waits to be withdrawn, or is for a list that is not there
pub withdraws : {n : ℕ} {set : List Ballot} {lists : List (List ℕ)} {bytes : List ℕ} (tab number : ℕ) → IsTab tab → IsNumber number → bytes ≡ item_text Withdrawing tab (decimal number)
    → Step n (in_phase (Withdraws lists) set) bytes (queues n (in_phase (Withdraws lists) set) Withdraws lists tab number)
withdraws tab number is some text = said (Withdraw tab number) (is, some, text) refl (λ other does. does)

-- a number waits to be looked for, or is for a list that is not there
pub finds : {n : ℕ} {set : List Ballot} {lists : List (List ℕ)} {bytes : List ℕ} (tab number : ℕ) → IsTab tab → IsNumber number → bytes ≡ item_text Finding tab (decimal number)
    → Step n (in_phase (Finds lists) set) bytes (queues n (in_phase (Finds lists) set) Finds lists tab number)
finds tab number is some text = said (Find tab number) (is, some, text) refl (λ other does. does)

-- a phase may be closed so
pub may_close : {n : ℕ} {set : List Ballot} {lists : List (List Ballot)} {effect : Effect} → ClosesCasting example set lists effect → MayDo n (in_phase (Casts lists) set) (codes "close") effect
may_close closes = record { answers = inr (Close, refl, closes) }

-- so may a phase of withdrawing
pub may_close_withdrawing : {n : ℕ} {set : List Ballot} {lists : List (List ℕ)} {effect : Effect} → ClosesWithdrawing set lists effect → MayDo n (in_phase (Withdraws lists) set) (codes "close") effect
may_close_withdrawing closes = record { answers = inr (Close, refl, closes) }

-- a phase of finding is closed in one way
pub closes_finding : {n : ℕ} {set : List Ballot} {lists : List (List ℕ)} → Step n (in_phase (Finds lists) set) (codes "close") (finding_effect set (findings (numbers_of set) lists))
closes_finding {set = set} {lists = lists} = said Close refl (finding_closes set lists) (finding_only set lists)

-- it is closed so, and in no other way
pub record ClosesCastingOnlySo (set : List Ballot) (lists : List (List Ballot)) (effect : Effect) : Type 0 where
  pub closes : ClosesCasting example set lists effect
  pub only : (other : Effect) → ClosesCasting example set lists other → other ≡ effect

-- then the close is a step
pub closes_casting : {n : ℕ} {set : List Ballot} {lists : List (List Ballot)} {effect : Effect} → ClosesCastingOnlySo set lists effect
    → Step n (in_phase (Casts lists) set) (codes "close") effect
closes_casting so = said Close refl so.closes so.only

-- the same of a phase of withdrawing
pub record ClosesWithdrawingOnlySo (set : List Ballot) (lists : List (List ℕ)) (effect : Effect) : Type 0 where
  pub closes : ClosesWithdrawing set lists effect
  pub only : (other : Effect) → ClosesWithdrawing set lists other → other ≡ effect

-- then the close is a step
pub closes_withdrawing : {n : ℕ} {set : List Ballot} {lists : List (List ℕ)} {effect : Effect} → ClosesWithdrawingOnlySo set lists effect
    → Step n (in_phase (Withdraws lists) set) (codes "close") effect
closes_withdrawing so = said Close refl so.closes so.only

-- the set is acknowledged
pub acknowledges : {n : ℕ} {set : List Ballot} → Step n (begun set) (codes "checkpoint") (record { reply = counted (codes "checkpoint") (length set); acknowledged = set ∷ []; next = begun set })
acknowledges = said Checkpoint refl refl (λ other does. does)

-- the set is counted
pub tallies : {n : ℕ} {set : List Ballot} → Step n (begun set) (codes "tally") (stays (begun set) (tally_text example set))
tallies = said Tally refl refl (λ other does. does)

-- its ballots are written
pub exports : {n : ℕ} {set : List Ballot} → Step n (begun set) (codes "export") (stays (begun set) (export_text example set))
exports = said Export refl refl (λ other does. does)

-- ---- refused lines

-- a malformed line does nothing
pub malformed : {n : ℕ} {s : State} {bytes : List ℕ} → IsMalformed example bytes → Step n s bytes (stays s (refusal n (codes "malformed")))
malformed {n = n} {s = s} {bytes = bytes} not = record { may = record { answers = inl (not, refl) }; only = only }
  where
    only : (other : Effect) → Answers example n s (Some bytes) other → other ≡ stays s (refusal n (codes "malformed"))
    only other (inl is) = is.1
    only other (inr says) = absurd (not says.0 says.1)

-- nothing is acknowledged while ballots are cast
pub checkpoint_while_casting : {n : ℕ} {set : List Ballot} {lists : List (List Ballot)} → Step n (in_phase (Casts lists) set) (codes "checkpoint") (stays (in_phase (Casts lists) set) (wrong_phase n (Casts lists)))
checkpoint_while_casting = said Checkpoint refl refl (λ other does. does)

-- nothing is withdrawn while ballots are cast
pub withdraw_while_casting : {n : ℕ} {set : List Ballot} {lists : List (List Ballot)} {bytes : List ℕ} (tab number : ℕ) → IsTab tab → IsNumber number → bytes ≡ item_text Withdrawing tab (decimal number)
    → Step n (in_phase (Casts lists) set) bytes (stays (in_phase (Casts lists) set) (wrong_phase n (Casts lists)))
withdraw_while_casting tab number is some text = said (Withdraw tab number) (is, some, text) refl (λ other does. does)

-- there is nothing to close
pub close_while_closed : {n : ℕ} {set : List Ballot} → Step n (begun set) (codes "close") (stays (begun set) (wrong_phase n Closed))
close_while_closed = said Close refl refl (λ other does. does)
