-- What a line of a script does to the phase, whatever the set: one thing, or it closes the phase.
use Rattle.std.proofs.Common.{◌≡◌, ◌⊎◌, ◌∙◌, ℕ, Bool, true, false, List, Option, Some, None, ⊎_elim, inl, inr, ap, length, refl, subst, sym}
use Rattle.store_spec.proofs.Common.{AnswersBy, Ballot, Cast, Casts, Close, Closed, DoesBy, Effect, Election, Find, Finds, Open, Phase, ScriptLine, State, Withdraw, Withdraws, codes, nat_le, of_parts, opened, queued, queues, refusal, stays}
use Rattle.std.specs.Prelude.{if◌then◌else◌}
use Rattle.part_session.proofs.OneRun.{some_answers}
use Rattle.part_session.specs.Scripts.{Means, has_closed}
use Rattle.phase_gate.specs.Replies.{ClosesBy}
use Rattle.script_lines.proofs.Meanings.{one_meaning}

-- ---- the phase behind a line

-- an item came to a list, or there is no such list
abbrev pub with_item : {X : Type 0} → (List (List X) → Phase) → List (List X) → ℕ → X → Phase
with_item of lists tab x = if nat_le tab (length lists) then of (queued lists tab x) else of lists

abbrev pub phase_after : Phase → Option ScriptLine → Phase
phase_after Closed (Some (Open work tabs)) = opened work tabs
phase_after (Casts lists) (Some (Cast tab b)) = with_item Casts lists tab b
phase_after (Withdraws lists) (Some (Withdraw tab number)) = with_item Withdraws lists tab number
phase_after (Finds lists) (Some (Find tab number)) = with_item Finds lists tab number
phase_after phase (Some Close) = Closed
phase_after phase said = phase

-- ---- what a line does

-- it closes no phase, and does one thing
pub record Fixed (Does : Effect → Type 0) (s : State) (phase next : Phase) : Type 0 where
  pub fixed : Effect
  pub only : (effect : Effect) → Does effect → effect ≡ fixed
  pub does : Does fixed
  pub next_is : fixed.next.phase ≡ next
  pub same_set : fixed.next.set ≡ s.set
  pub stays_open : has_closed phase next ≡ false

-- it closes the phase
pub record Closing (bits : ℕ) (e : Election) (Does : Effect → Type 0) (set : List Ballot) (phase next : Phase) : Type 0 where
  pub next_is : next ≡ Closed
  pub closed : has_closed phase Closed ≡ true
  pub closes : (effect : Effect) → Does effect → ClosesBy (of_parts bits e) set phase effect
  pub does : (effect : Effect) → ClosesBy (of_parts bits e) set phase effect → Does effect

fixed_as : (x : Effect) (s : State) (phase next : Phase) → x.next.phase ≡ next → x.next.set ≡ s.set → has_closed phase next ≡ false → Fixed (λ effect. effect ≡ x) s phase next
fixed_as x s phase next is same still = record {
  fixed = x;
  only = λ effect so. so;
  does = refl;
  next_is = is;
  same_set = same;
  stays_open = still;
}

-- ---- of two

phase_of_two : (test : Bool) (a b : Effect) (p q : Phase) → a.next.phase ≡ p → b.next.phase ≡ q → (if test then a else b).next.phase ≡ (if test then p else q)
phase_of_two true a b p q first second = first
phase_of_two false a b p q first second = second

set_of_two : (test : Bool) (a b : Effect) (set : List Ballot) → a.next.set ≡ set → b.next.set ≡ set → (if test then a else b).next.set ≡ set
set_of_two true a b set first second = first
set_of_two false a b set first second = second

open_of_two : (test : Bool) (phase p q : Phase) → has_closed phase p ≡ false → has_closed phase q ≡ false → has_closed phase (if test then p else q) ≡ false
open_of_two true phase p q first second = first
open_of_two false phase p q first second = second

-- ---- the lines

pub item_open : {X : Type 0} (of : List (List X) → Phase) (lists : List (List X)) (tab : ℕ) (x : X) → ((a b : List (List X)) → has_closed (of a) (of b) ≡ false) → has_closed (of lists) (with_item of lists tab x) ≡ false
item_open of lists tab x still = open_of_two (nat_le tab (length lists)) (of lists) (of (queued lists tab x)) (of lists) (still lists (queued lists tab x)) (still lists lists)

module _ (bits : ℕ) (e : Election) where
  item_fixed : {X : Type 0} (n : ℕ) (s : State) (of : List (List X) → Phase) (lists : List (List X)) (tab : ℕ) (x : X) → s.phase ≡ of lists → ((a b : List (List X)) → has_closed (of a) (of b) ≡ false)
      → Fixed (λ effect. effect ≡ queues n s of lists tab x) s (of lists) (with_item of lists tab x)
  item_fixed n s of lists tab x at still =
      fixed_as (queues n s of lists tab x) s (of lists) (with_item of lists tab x)
      (phase_of_two (nat_le tab (length lists)) _ _ (of (queued lists tab x)) (of lists) refl at)
      (set_of_two (nat_le tab (length lists)) _ _ s.set refl refl)
      (item_open of lists tab x still)

  abbrev Kind : (Effect → Type 0) → State → Phase → Phase → Type 0
  Kind Does s phase next = Fixed Does s phase next ⊎ Closing bits e Does s.set phase next

  line_kind : (n : ℕ) (s : State) (phase : Phase) (said : ScriptLine) → s.phase ≡ phase → Kind (DoesBy (of_parts bits e) e n s said phase) s phase (phase_after phase (Some said))
  line_kind n s Closed (Open work tabs) at = inl (fixed_as _ s Closed (opened work tabs) refl refl refl)
  line_kind n s (Casts lists) (Cast tab b) at = inl (item_fixed n s Casts lists tab b at (λ a b. refl))
  line_kind n s (Withdraws lists) (Withdraw tab number) at = inl (item_fixed n s Withdraws lists tab number at (λ a b. refl))
  line_kind n s (Finds lists) (Find tab number) at = inl (item_fixed n s Finds lists tab number at (λ a b. refl))
  line_kind n s Closed Close at = inl (fixed_as _ s Closed Closed at refl refl)
  line_kind n s phase Close at = inr (record { next_is = refl; closed = refl; closes = λ effect does. does; does = λ effect closes. closes })
  line_kind n s phase said at = inl (fixed_as _ s phase phase at refl refl)

  -- a line that says nothing leaves the phase
  no_words : (phase : Phase) → phase_after phase None ≡ phase
  no_words Closed = refl
  no_words (Casts lists) = refl
  no_words (Withdraws lists) = refl
  no_words (Finds lists) = refl

  still_open : (phase : Phase) → has_closed phase phase ≡ false
  still_open Closed = refl
  still_open (Casts lists) = refl
  still_open (Withdraws lists) = refl
  still_open (Finds lists) = refl

  open_behind : (phase : Phase) → has_closed phase (phase_after phase None) ≡ false
  open_behind phase = ap (has_closed phase) (no_words phase) ∙ still_open phase

  pub answer_kind : (n : ℕ) (s : State) (line : Option (List ℕ)) (said : Option ScriptLine) → Means e line said → Kind (AnswersBy (of_parts bits e) e n s line) s s.phase (phase_after s.phase said)
  answer_kind n s None None means = inl (fixed_as _ s s.phase (phase_after s.phase None) (sym (no_words s.phase)) refl (open_behind s.phase))
  answer_kind n s None (Some said) means = absurd means
  answer_kind n s (Some bytes) None means = inl (record {
    fixed = stays s (refusal n (codes "malformed"));
    only = λ effect does. ⊎_elim (λ malformed. malformed.1) (λ one. absurd (means one.0 one.1)) does;
    does = inl (means, refl);
    next_is = sym (no_words s.phase);
    same_set = refl;
    stays_open = open_behind s.phase;
  })
  answer_kind n s (Some bytes) (Some said) means = ⊎_elim
      (λ (one : Fixed (DoesBy (of_parts bits e) e n s said s.phase) s s.phase (phase_after s.phase (Some said))). inl (record {
        fixed = one.fixed;
        only = λ effect does. one.only effect (meant effect does);
        does = inr (said, means, one.does);
        next_is = one.next_is;
        same_set = one.same_set;
        stays_open = one.stays_open;
      }))
      (λ (one : Closing bits e (DoesBy (of_parts bits e) e n s said s.phase) s.set s.phase (phase_after s.phase (Some said))). inr (record {
        next_is = one.next_is;
        closed = one.closed;
        closes = λ effect does. one.closes effect (meant effect does);
        does = λ effect closes. inr (said, means, one.does effect closes);
      }))
      (line_kind n s s.phase said refl)
    where
      meant : (effect : Effect) → AnswersBy (of_parts bits e) e n s (Some bytes) effect → DoesBy (of_parts bits e) e n s said s.phase effect
      meant effect does = ⊎_elim
          (λ malformed. absurd (malformed.0 said means))
          (λ one. subst (λ (said : ScriptLine). DoesBy (of_parts bits e) e n s said s.phase effect) (one_meaning e bytes one.0 said one.1 means) one.2)
          does

  -- each line that was handled says something, or nothing
  pub says_so : (n : ℕ) (s : State) (line : Option (List ℕ)) (effect : Effect) → AnswersBy (of_parts bits e) e n s line effect → (said : Option ScriptLine) × Means e line said
  says_so n s None effect does = (None, tt)
  says_so n s (Some bytes) effect does = ⊎_elim (λ malformed. (None, malformed.0)) (λ one. (Some one.0, one.1)) does

  -- the phase behind it
  pub phase_is : (n : ℕ) (s : State) (line : Option (List ℕ)) (said : Option ScriptLine) (effect : Effect) → Means e line said → AnswersBy (of_parts bits e) e n s line effect → effect.next.phase ≡ phase_after s.phase said
  phase_is n s line said effect means does = ⊎_elim
      (λ (one : Fixed (AnswersBy (of_parts bits e) e n s line) s s.phase (phase_after s.phase said)). ap (λ (x : Effect). x.next.phase) (one.only effect does) ∙ one.next_is)
      (λ (one : Closing bits e (AnswersBy (of_parts bits e) e n s line) s.set s.phase (phase_after s.phase said)).
      ap (λ (x : Effect). x.next.phase) (some_answers e bits s.set s.phase effect (one.closes effect does)).3 ∙ sym one.next_is)
      (answer_kind n s line said means)
