use Rattle.std.proofs.Common.{◌≡◌, ℕ, List, None, Some, slice_index, refl, subst, sym}
use Rattle.store_spec.proofs.Common.{Contains, numbers_of}
use Rattle.phase_delete.proofs.Held.{cell_at, room}
use Rattle.phase_delete.proofs.Trays.{absent_exactly, right_of_held}
use Rattle.phase_delete.proofs.removing.withdraw.Goals as goal
use Rattle.phase_delete.specs.Stands.{StoodAt}
use Rattle.step_core.specs.declared.shape.Shape.{Shape}
use Rattle.step_core.specs.declared.withdrawer.WithdrawReply.TheVariants.{Absent}
use Rattle.word_rule.proofs.Stores.{ordered_by, some_number}
use Rattle.word_rule.specs.Stores.{IsShapeOf}

pub returns-then-number-eq0-clause-reply : goal.returns-then-number-eq0-clause-reply
returns-then-number-eq0-clause-reply c =
    let store = c.args.closed.now in
    let held = numbers_of store.ballots in
    let none : ¬ Contains held c.args.number = λ there. some_number store.election store.ballots (room store c.requires.phase.stored) c.args.number there c.if-number-eq0.true in
    record { right = none; absent = absent_exactly held c.args.number Absent none; zero = λ zero. refl; gains = refl; steps = refl; new = λ other. absurd cc }

pub place_of-requires-clause-ordered : goal.place_of-requires-clause-ordered
place_of-requires-clause-ordered c =
    let phase = c.requires.phase in
    let e = c.args.closed.now.election in
    ordered_by e c.args.shape.now (subst (λ (s : Shape). IsShapeOf e s) (sym phase.shape_is) phase.own.of_store.shape) c.cells.result.now c.cells.ensures.layout.ordered

pub remove-requires-clause-seated : goal.remove-requires-clause-seated
remove-requires-clause-seated c =
    let phase = c.requires.phase in
    let store = c.args.closed.now in
    let number = c.args.number in
    let found = subst (λ (cells : List ℕ). slice_index cells c.in-Some.cell ≡ number) c.cells.ensures.cells c.in-Some.ensures in
    let at : StoodAt (record { base = store; words = c.args.words.now }) number c.in-Some.cell = cell_at store c.args.words.now phase.stored phase.own.of_store number (Some c.in-Some.cell) c.if-number-eq0.false found in
    at.seated

pub returns-in-Some-clause-reply : goal.returns-in-Some-clause-reply
returns-in-Some-clause-reply c =
    let phase = c.requires.phase in
    let store = c.args.closed.now in
    let number = c.args.number in
    let held = numbers_of store.ballots in
    let found = subst (λ (cells : List ℕ). slice_index cells c.in-Some.cell ≡ number) c.cells.ensures.cells c.in-Some.ensures in
    let at : StoodAt (record { base = store; words = c.args.words.now }) number c.in-Some.cell = cell_at store c.args.words.now phase.stored phase.own.of_store number (Some c.in-Some.cell) c.if-number-eq0.false found in
    let told = c.remove.ensures in
    let right = right_of_held held number c.remove.result told.removal at.held in
    record { right = right; absent = absent_exactly held number c.remove.result right; zero = λ zero. absurd (c.if-number-eq0.false zero); gains = told.gains; steps = told.steps; new = told.new }

pub returns-in-None-clause-reply : goal.returns-in-None-clause-reply
returns-in-None-clause-reply c =
    let phase = c.requires.phase in
    let store = c.args.closed.now in
    let number = c.args.number in
    let held = numbers_of store.ballots in
    let found = subst (λ (cells : List ℕ). ¬ Contains cells number) c.cells.ensures.cells c.in-None.ensures in
    let none : ¬ Contains held number = cell_at store c.args.words.now phase.stored phase.own.of_store number None c.if-number-eq0.false found in
    record { right = none; absent = absent_exactly held number Absent none; zero = λ zero. refl; gains = refl; steps = refl; new = λ other. absurd cc }
