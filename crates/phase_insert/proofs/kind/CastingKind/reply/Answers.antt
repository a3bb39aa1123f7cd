use Rattle.std.proofs.Common.{ℕ, sym, ap, subst, ◌∙◌, arith}
use Rattle.body_store.specs.Contents.{Contents}
use Rattle.phase_insert.proofs.Compared.{IsHeldCell, holds_other, holds_same, number_there, other_held, same_held, valid_there}
use Rattle.phase_insert.proofs.HeldNumbers.{not_in_words}
use Rattle.phase_insert.proofs.Replied.{as_asked, as_conflict, as_duplicate}
use Rattle.phase_insert.proofs.kind.CastingKind.reply.Goals as goal
use Rattle.phase_kind.specs.Phase.{OpenPhase}
use Rattle.phase_insert.specs.Gains.{Gains, IsNewTo}
use Rattle.word_rule.specs.Seats.{SharedWords}
use Rattle.step_core.specs.declared.shape.Shape.{Shape}

-- the phase of a store and its words
abbrev phase_of : Contents → SharedWords → OpenPhase
phase_of base words = record { base = base; words = words }

pub claim-requires-clause-some : goal.claim-requires-clause-some
claim-requires-clause-some c zero =
    let b = c.cell-cell.ensures.cell in
    let phase = phase_of c.args.closed.now c.args.words.now in
    let list = c.args.list.now in
    let valid = valid_there phase.base list.election c.requires.is_of list.ballots c.args.place c.number-number.result c.cell-cell.result.now b b.0 b.1 in
    let named = number_there phase.base list.election c.requires.is_of list.ballots c.args.place c.number-number.result c.cell-cell.result.now b b.0 b.1 c.number-number.ensures in
    omega (arith, valid.some_number, named, zero)

pub claim-requires-clause-not_held : goal.claim-requires-clause-not_held
claim-requires-clause-not_held c = let phase = c.requires.phase in not_in_words c.args.closed.now c.args.words.now phase.stored phase.own c.number-number.result c.in-None.ensures

pub returns-in-Some-clause-answers : goal.returns-in-Some-clause-answers
returns-in-Some-clause-answers c b there =
    let phase = phase_of c.args.closed.now c.args.words.now in
    let list = c.args.list.now in
    let number = c.number-number.result in
    let cell = c.cell-cell.result.now in
    let own = c.requires.is_of in
    let is = c.cell-cell.ensures.cell in
    let has : IsHeldCell phase.base number c.in-Some.held.now = c.in-Some.ensures in
    as_duplicate phase c.args.seat.now.view b c.requires.phase.stored (valid_there phase.base list.election own list.ballots c.args.place number cell is b there)
    (holds_same phase.base.ballots b (same_held phase.base list.election own list.ballots c.args.place number cell is b there c.number-number.ensures c.in-Some.held.now has c.cell-cell.ensures.election (sym c.eq.ensures ∙ c.if-eq.true)))

pub returns-in-Some-2-clause-answers : goal.returns-in-Some-2-clause-answers
returns-in-Some-2-clause-answers c b there =
    let phase = phase_of c.args.closed.now c.args.words.now in
    let list = c.args.list.now in
    let number = c.number-number.result in
    let cell = c.cell-cell.result.now in
    let own = c.requires.is_of in
    let is = c.cell-cell.ensures.cell in
    let has : IsHeldCell phase.base number c.in-Some.held.now = c.in-Some.ensures in
    let other = other_held phase.base list.election own list.ballots c.args.place number cell is b there c.number-number.ensures c.in-Some.held.now has (sym c.eq.ensures ∙ c.if-eq.false) in
    as_conflict phase c.args.seat.now.view b c.requires.phase.stored (valid_there phase.base list.election own list.ballots c.args.place number cell is b there)
    (holds_other phase.base.ballots other.0 b other.1 other.2)

pub returns-in-None-clause-answers : goal.returns-in-None-clause-answers
returns-in-None-clause-answers c b there =
    let phase = phase_of c.args.closed.now c.args.words.now in
    let list = c.args.list.now in
    let number = c.number-number.result in
    let own = c.requires.is_of in
    let is = c.cell-cell.ensures.cell in
    let reply = c.claim.result in
    let old = c.args.seat.now.view in
    let now = c.claim.new.seat.view in
    let shape = ap (λ (s : Shape). s.claims) c.requires.phase.shape_is in
    as_asked phase old now b number reply
    (number_there phase.base list.election own list.ballots c.args.place number c.cell-cell.result.now is b there c.number-number.ensures)
    c.requires.phase.stored
    (valid_there phase.base list.election own list.ballots c.args.place number c.cell-cell.result.now is b there)
    c.claim.ensures.met c.in-None.ensures
    (subst (λ (claims : ℕ). Gains claims old number reply now) shape c.claim.ensures.gains)
    c.claim.ensures.steps
    (λ accepted. subst (λ (claims : ℕ). IsNewTo claims old number) shape (c.claim.ensures.new accepted))
