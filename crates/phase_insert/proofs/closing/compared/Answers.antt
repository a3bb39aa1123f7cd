use Rattle.std.proofs.Common.{◌≡◌, None, Some, sym, ap, subst, ◌∙◌}
use Rattle.store_spec.proofs.Common.{MatchOption, ballot_of}
use Rattle.phase_insert.proofs.Compared.{IsHeldCell, number_there, other_held, same_held}
use Rattle.phase_insert.proofs.closing.compared.Goals as goal

pub returns-in-Some : goal.returns-in-Some
returns-in-Some c b there =
    let list = c.args.list.now in
    same_held c.args.after.now list.election c.requires.election list.ballots c.args.place c.number.result c.cell-cell.result.now c.cell-cell.ensures.cell b there c.number.ensures c.in-Some.held.now c.in-Some.ensures c.cell-cell.ensures.election (sym c.eq.ensures ∙ c.if-eq.true)

pub returns-in_default : goal.returns-in_default
returns-in_default c b there held =
    let list = c.args.list.now in
    let other = other_held c.args.after.now list.election c.requires.election list.ballots c.args.place c.number.result c.cell-cell.result.now c.cell-cell.ensures.cell b there c.number.ensures c.in-Some.held.now c.in-Some.ensures (sym c.eq.ensures ∙ c.if-eq.false) in
    other.2 (let both : Some other.0 ≡ Some b = sym other.1 ∙ held in cc)

pub returns-in_default-2 : goal.returns-in_default-2
returns-in_default-2 c b there held =
    let list = c.args.list.now in
    let after = c.args.after.now in
    let none = subst (λ r. MatchOption r (ballot_of after.ballots c.number.result ≡ None) (λ bytes. IsHeldCell after c.number.result bytes.now)) c.in_default.is c.cell_of.ensures in
    let named = number_there after list.election c.requires.election list.ballots c.args.place c.number.result c.cell-cell.result.now c.cell-cell.ensures.cell b there c.number.ensures in
    let both : Some b ≡ None = sym held ∙ ap (ballot_of after.ballots) (sym named) ∙ none in
    absurd cc
