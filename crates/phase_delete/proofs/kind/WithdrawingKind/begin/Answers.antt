use Rattle.std.proofs.Common.{refl, subst, sym, ◌∙◌}
use Rattle.store_spec.proofs.Common.{fresh_withdraw_view, map-id}
use Rattle.phase_delete.proofs.Opened.{may_empty}
use Rattle.phase_delete.proofs.kind.WithdrawingKind.begin.Goals as goal
use Rattle.word_rule.specs.Places.{AreAll}

pub new-requires-clause-may_open : goal.new-requires-clause-may_open
new-requires-clause-may_open c =
    may_empty c.args.closed.now.election c.args.closed.now c.args.shape c.cells.result.now refl c.cells.ensures.stored c.requires.shape c.requires.few_cells c.requires.claims c.cells.ensures.layout

pub returns-clause-words : goal.returns-clause-words
returns-clause-words c =
    let told = c.in_ok-words.ensures.words in
    record { shape_is = told.shape_is; base_is = told.base_is ∙ c.cells.ensures.cells; seats_are = told.seats_are }

pub returns-clause-seats : goal.returns-clause-seats
returns-clause-seats c = subst (AreAll fresh_withdraw_view c.in_ok-words.words) (sym (map-id c.in_ok-words.seats.items)) c.in_ok-words.ensures.seats
