use Rattle.std.proofs.Common.{arith}
use Rattle.store_spec.proofs.Common.{IsTrue}
use Rattle.layout_def.proofs.Fronts.{holds_own}
use Rattle.step_tests.proofs.cast_words.is_new.Goals as goal

pub returns-then-number-ne0-clause-new : goal.returns-then-number-ne0-clause-new
returns-then-number-ne0-clause-new c = λ yes held.
    let found : IsTrue c.is_among.result = c.is_among.ensures ((holds_own c.args.cells.now).each c.args.number held) in
    grind arith
