-- Scripts of a session over a store in parts: the phases that their lines close, and what of the lines belongs to one part.
use Rattle.std.specs.Prelude.{◌≡◌, ℕ, ◌==◌, if◌then◌else◌, Bool, true, false, List, [], ◌∷◌, filter, map, Option, Some, None}
use Rattle.std.specs.List.{AllZip}
use Rattle.part_session.specs.Runs.{AnsweredPhase, IsClosed, answered_at, asked, reply_words, waiting_at}
use Rattle.store_spec.specs.Ballot.{Ballot}
use Rattle.store_spec.specs.Election.{Election}
use Rattle.store_spec.specs.Parts.{of_parts, part_of, share}
use Rattle.store_spec.specs.ScriptLine.{IsMalformed, Says, ScriptLine}
use Rattle.store_spec.specs.ScriptLine.ScriptLine.{Open, Cast, Withdraw, Find, Close}
use Rattle.store_spec.specs.Session.{Closes, Effect, Phase, PlaysBy, State, closing}
use Rattle.store_spec.specs.Session.Phase.{Closed}

-- ---- from lines to phases

-- a phase was open, and is closed behind it
abbrev pub has_closed : Phase → Phase → Bool
has_closed Closed next = false
has_closed phase Closed = true
has_closed phase next = false

-- Of what lines do one after another: each that closes a phase, with what waited there.
abbrev pub closes_in : Phase → List Effect → List (Phase × Effect)
closes_in phase [] = []
closes_in phase (effect ∷ effects) =
    if has_closed phase effect.next.phase then (phase, effect) ∷ closes_in effect.next.phase effects
    else closes_in effect.next.phase effects

-- Phases were closed so, from one set to another: each item that waited has a reply, and these and the set after it are
-- what was written.
abbrev pub AreClosedBy : Closes → List Ballot → List AnsweredPhase → List (Phase × Effect) → List Ballot → Type 0
AreClosedBy closes set [] [] end = end ≡ set
AreClosedBy closes set (one ∷ run) (at ∷ others) end =
    (asked one ≡ at.0) × (at.1 ≡ closing (reply_words one) at.1.next.set) × IsClosed closes set one at.1.next.set
    × AreClosedBy closes at.1.next.set run others end
AreClosedBy closes set run others end = ⊥

-- ---- the lines of one part

-- what a line says: nothing where it is too wide or not in the grammar
abbrev pub Means : Election → Option (List ℕ) → Option ScriptLine → Type 0
Means e (Some bytes) (Some said) = Says e bytes said
Means e (Some bytes) None = IsMalformed e bytes
Means e None (Some said) = ⊥
Means e None None = Unit {0}

-- it opens or closes a phase, or has a number of the part
abbrev pub concerns : ℕ → ℕ → Option ScriptLine → Bool
concerns bits part (Some (Open work tabs)) = true
concerns bits part (Some Close) = true
concerns bits part (Some (Cast tab b)) = part_of bits b.number == part
concerns bits part (Some (Withdraw tab number)) = part_of bits number == part
concerns bits part (Some (Find tab number)) = part_of bits number == part
concerns bits part said = false

-- Scripts are alike in a part: their lines that open or close phases, and those with its numbers, are the same in the
-- same order.
pub record AreAlikeScripts (e : Election) (bits part : ℕ) (lines others : List (Option (List ℕ))) : Type 0 where
  pub said : List (Option ScriptLine)
  pub means : AllZip (Means e) lines said
  pub others_said : List (Option ScriptLine)
  pub others_mean : AllZip (Means e) others others_said
  pub alike : filter (concerns bits part) others_said ≡ filter (concerns bits part) said

-- Lines may do this from another set: the phases that they close have the same words for the items of a part as those of
-- this run, and its share of the set at the end is the same, and so is what waits there then.
pub record PlaysAlikeAt (e : Election) (bits part : ℕ) (start : State) (lines : List (Option (List ℕ))) (run : List AnsweredPhase) (end : State) : Type 0 where
  pub effects : List Effect
  pub left : State
  pub plays : PlaysBy (of_parts bits e) e 1 start lines effects left
  pub too : List AnsweredPhase
  pub closed : AreClosedBy (of_parts bits e) start.set too (closes_in start.phase effects) left.set
  pub same : map (answered_at bits part) too ≡ map (answered_at bits part) run
  pub alike : share bits part left.set ≡ share bits part end.set
  pub waiting : waiting_at bits part left.phase ≡ waiting_at bits part end.phase
