use Rattle.std.proofs.Common.{refl, get_or}
use Rattle.store_spec.proofs.Common.{cell_words, withdraw_act, word_of}
use Rattle.step_core.proofs.WithdrawReady.{may_find, row_falls, sound_of, within_cells}
use Rattle.step_core.proofs.laws.withdraw.a_step_may_be_made.Goals as goal

pub returns-clause-fits : goal.returns-clause-fits
returns-clause-fits c = λ home base words views id view inv has.
    within_cells home base (cell_words base words) views view.state (sound_of home base words views id view inv has view.state refl)

pub returns-clause-may_find : goal.returns-clause-may_find
returns-clause-may_find c = λ home base words views id view inv has moves.
    may_find home base words views id view inv has view.state (get_or words (word_of (withdraw_act view.state)) 0) moves refl refl

pub returns-clause-falls : goal.returns-clause-falls
returns-clause-falls c = λ home base words views id view word found left new note inv has row.
    row_falls home base (cell_words base words) views view.state word found left new note row (sound_of home base words views id view inv has view.state refl)
