use Rattle.std.proofs.Common.{◌≢◌, ℕ, refl, subst, sym, ◌∙◌}
use Rattle.store_spec.proofs.Common.{Chosen, FirstRow, WithdrawNote, WithdrawView, chose, found_gone, withdraw_view_after}
use Rattle.step_core.specs.Shape.{homes_of}
use Rattle.step_core.specs.WithdrawTables.{note_of, state_of}
use Rattle.step_core.specs.declared.withdraw.WithdrawState.{WithdrawState}
use Rattle.step_core.specs.declared.withdraw.WithdrawState.TheVariants as states
use Rattle.store_spec.specs.WithdrawStep as definition
use Rattle.word_rule.proofs.Chains.{begun, led_on}
use Rattle.word_rule.proofs.withdraw.WithdrawWords.withdraw.Goals as goal
use Rattle.word_rule.specs.Places.{Place}
use Rattle.word_rule.specs.WithdrawRemoval.{Removes}
use Rattle.word_rule.specs.WithdrawWords.{MakesFirstRow, MakesRow, WithdrawsByRows}

-- the first step
first_chain : (home : ℕ → ℕ) (x : ℕ) (before now : WithdrawView) (note : WithdrawNote) → MakesFirstRow home x before note now → WithdrawsByRows home x before now
first_chain home x before now note row = begun (MakesRow home) (MakesFirstRow home x) before now note row

pub returns-in_default-clause-chain : goal.returns-in_default-clause-chain
returns-in_default-clause-chain c =
    let home = homes_of c.args.self.now.shape in
    let now = c.begin-state.new.seat.me.0.view in
    subst (λ (p : Place WithdrawView). WithdrawsByRows home c.args.number p.view now) c.seat.view_is
    (first_chain home c.args.number c.seat.inside.seat.me.0.view now (note_of c.begin-state.result.1) c.begin-state.ensures.row)

pub returns-clause-chain : goal.returns-clause-chain
returns-clause-chain c =
    let home = homes_of c.args.self.now.shape in
    let first = c.begin-state.new.seat.me.0.view in
    let now = c.remove.new.seat.me.0.view in
    let before = c.seat.inside.seat.me.0.view in
    subst (λ (p : Place WithdrawView). WithdrawsByRows home c.args.number p.view now) c.seat.view_is
    (led_on (MakesRow home) (MakesFirstRow home c.args.number) before first now (first_chain home c.args.number before first (note_of c.begin-state.result.1) c.begin-state.ensures.row) c.remove.ensures.rows)

not_chosen : (state : WithdrawState) → ((y p : ℕ) → state ≢ states.Chosen y p) → (y p : ℕ) → state_of state ≢ Chosen y p
not_chosen states.Rest other y p same = absurd cc
not_chosen (states.Chosen x q) other y p same = absurd (other x q refl)
not_chosen (states.Owing x bound) other y p same = absurd cc
not_chosen (states.Up x bound q) other y p same = absurd cc
not_chosen (states.Down x bound q c source) other y p same = absurd cc

-- a first step that chooses nothing finds the number gone
gone_by : (home : ℕ → ℕ) (x : ℕ) (before : WithdrawView) (found : ℕ) (new : definition.WithdrawState) (note : WithdrawNote) → FirstRow home x found new note → ((y p : ℕ) → new ≢ Chosen y p) → Removes x before note (withdraw_view_after before x new note)
gone_by home x before _ _ _ found_gone other = record { at_rest = refl; begun = refl; gone = refl }
gone_by home x before _ _ _ chose other = absurd (other x (home x) refl)

pub returns-in_default-clause-removes : goal.returns-in_default-clause-removes
returns-in_default-clause-removes c =
    let row = c.begin-state.ensures.row in
    let note = note_of c.begin-state.result.1 in
    let now = c.begin-state.new.seat.me.0.view in
    let before = c.seat.inside.seat.me.0.view in
    subst (λ (p : Place WithdrawView). Removes c.args.number p.view note now) c.seat.view_is
    (subst (Removes c.args.number before note) (sym row.is)
    (gone_by (homes_of c.args.self.now.shape) c.args.number before row.found now.state note row.leads
    (λ y p same. not_chosen c.begin-state.result.0 c.in_default.not-Chosen y p (sym c.begin-state.ensures.about.state_is ∙ same))))
