-- The rule of withdrawing allows the first step for a number, and the later steps.
use Rattle.std.proofs.Common.{◌≡◌, ◌≢◌, ℕ, ◌+◌, ◌-◌, List, length, map, get_or, set, Some, slice_get, refl, sym, ◌∙◌, ap, subst, arith}
use Rattle.store_spec.proofs.Common.{Act, WithdrawInvariant, WithdrawView, fresh_withdraw_view, left_by, some, withdraw_act, word_of}
use lib.ListN.{get_elem?}
use Rattle.atomic_table.specs.Table.{Allows, Me, State, Step}
use Rattle.atomic_table.specs.Table.Act.{keeps}
use Rattle.step_core.proofs.Sets.{stands-map}
use Rattle.step_core.specs.Shape.{homes_of}
use Rattle.store_spec.specs.WithdrawStep as numbers
use Rattle.store_spec.specs.WithdrawStep.WithdrawState.{Rest}
use Rattle.word_rule.proofs.Weights.{at_slice, knows_opening, steps}
use Rattle.word_rule.proofs.WithdrawStepKeeps.{first_view, next_view}
use Rattle.word_rule.specs.Seats.{IsSeated, knows}
use Rattle.word_rule.specs.WithdrawSeats.{Began, Begins, IsWithdrawn, TakesNextRow, TookNextRow, flagged_by}
use Rattle.word_rule.specs.declared.seats.Known.{Known}
use Rattle.word_rule.specs.declared.seats.Opening.{Opening}

module _ (opening : Opening) (slots id : ℕ) (me : Me (Unit {0}) (Known WithdrawView)) (some_weight : me.0.weight ≢ 0) (size : length me.0.base ≡ me.0.shape.cells) where
  abbrev Rule : State (Unit {0}) (Known WithdrawView) → Type 0
  Rule = IsSeated IsWithdrawn fresh_withdraw_view opening

  module _ (s : State (Unit {0}) (Known WithdrawView)) (rule : Rule s) (at : get_elem? s.views id ≡ some me.0) where
    abbrev views : List WithdrawView
    views = map (λ known. known.view) s.views

    has : slice_get views id ≡ Some me.0.view
    has = stands-map (λ (known : Known WithdrawView). known.view) s.views id me.0 (at_slice s.views id me.0 at)

    like : me.0 ≡ knows opening me.0.weight me.0.view
    like = knows_opening IsWithdrawn fresh_withdraw_view opening s id me.0 rule at some_weight

    invariant : WithdrawInvariant (homes_of me.0.shape) me.0.base s.words views
    invariant = subst (λ (k : Known WithdrawView). WithdrawInvariant (homes_of k.shape) k.base s.words views) (sym like) rule.kept

    -- the seat's own view is put in place of the old one
    put : (now : List ℕ) (view : WithdrawView) → WithdrawInvariant (homes_of me.0.shape) me.0.base now (set views id view) → Rule (record { words = now; homes = s.homes; views = set s.views id (record me.0 { view = view }) })
    put now view kept = steps IsWithdrawn fresh_withdraw_view opening s id me.0 now view _ rule at some_weight
        (subst (λ (k : Known WithdrawView). WithdrawInvariant (homes_of k.shape) k.base now (set views id view)) like kept) refl refl

  own_act_allowed : (step : Step (Unit {0})) → me.0.view.state ≢ Rest → let act = withdraw_act me.0.view.state in Allows (IsSeated IsWithdrawn fresh_withdraw_view opening) slots id me (word_of act) (left_by act) (TookNextRow step me)
  own_act_allowed step moves = λ s rule none at small.
      let act = withdraw_act me.0.view.state in
      let found = get_or s.words (word_of act) 0 in
      let next = next_view (homes_of me.0.shape) me.0.base s.words _ id me.0.view (invariant s rule at) (has s rule at) moves in (
        record me.0 { view = next.after },
        keeps,
        tt,
        put s rule at (set s.words (word_of act) (left_by act found)) next.after next.keeps,
        record {
          view = next.after;
          is = refl;
          told = subst (λ (n : ℕ). TakesNextRow (homes_of me.0.shape) n found me.0.view next.after) size next.tells;
        },
      )

  -- a later step, by the act of the seat's state
  pub later_allowed : (act : Act) (step : Step (Unit {0})) → me.0.view.state ≢ Rest → act ≡ withdraw_act me.0.view.state → Allows (IsSeated IsWithdrawn fresh_withdraw_view opening) slots id me (word_of act) (left_by act) (TookNextRow step me)
  later_allowed act step moves is = subst (λ (a : Act). Allows (IsSeated IsWithdrawn fresh_withdraw_view opening) slots id me (word_of a) (left_by a) (TookNextRow step me)) (sym is) (own_act_allowed step moves)

  flag_swap_allowed : (x cell : ℕ) (step : Step (Unit {0})) → me.0.view.state ≡ Rest → numbers.StandsInBase me.0.base x cell → step.word ≡ me.0.shape.cells + cell → Allows (IsSeated IsWithdrawn fresh_withdraw_view opening) slots id me (me.0.shape.cells + cell) (λ found. 1) (Began step me)
  flag_swap_allowed x cell step rests seated word_is = λ s rule none at small.
      let word = length me.0.base + cell in
      let first = first_view (homes_of me.0.shape) me.0.base s.words _ id me.0.view (invariant s rule at) (has s rule at) x cell rests seated in
      let same : word ≡ me.0.shape.cells + cell = ap (λ (n : ℕ). n + cell) size in
      let flagged : x ≡ flagged_by me.0 step.word = sym seated.stands ∙ ap (λ (k : ℕ). get_or me.0.base k 0) (let k : cell ≡ step.word - me.0.shape.cells = omega arith in k) in (
        record me.0 { view = first.after },
        keeps,
        tt,
        put s rule at (set s.words (me.0.shape.cells + cell) 1) first.after
            (subst (λ (w : ℕ). WithdrawInvariant (homes_of me.0.shape) me.0.base (set s.words w 1) (set (views s rule at) id first.after)) same first.keeps),
        record {
          view = first.after;
          is = refl;
          told = subst (λ (n : ℕ). Begins (homes_of me.0.shape) n (flagged_by me.0 step.word) (get_or s.words (me.0.shape.cells + cell) 0) me.0.view first.after) size
              (subst (λ (n : ℕ). Begins (homes_of me.0.shape) (length me.0.base) n (get_or s.words (me.0.shape.cells + cell) 0) me.0.view first.after) flagged
              (subst (λ (w : ℕ). Begins (homes_of me.0.shape) (length me.0.base) x (get_or s.words w 0) me.0.view first.after) same first.tells));
        },
      )

  -- the first step for a number, a swap of its flag
  pub first_allowed : (x cell word : ℕ) (step : Step (Unit {0})) → me.0.view.state ≡ Rest → numbers.StandsInBase me.0.base x cell → step.word ≡ word → word ≡ me.0.shape.cells + cell → Allows (IsSeated IsWithdrawn fresh_withdraw_view opening) slots id me word (λ found. 1) (Began step me)
  first_allowed x cell word step rests seated word_is flag_is = subst (λ (w : ℕ). Allows (IsSeated IsWithdrawn fresh_withdraw_view opening) slots id me w (λ found. 1) (Began step me)) (sym flag_is) (flag_swap_allowed x cell step rests seated (word_is ∙ flag_is))
