use Rattle.std.proofs.Common.{sym, arith, lit<}
use Rattle.ballot_record.proofs.LineNumbers.{number_takes}
use Rattle.script_lines.proofs.Decimals.{lacks_number, lacks_space, tab_read}
use Rattle.script_lines.proofs.words.take_tab.Goals as goal

pub returns-in_err-tab : goal.returns-in_err-tab
returns-in_err-tab c = rw c.from_residual.ensures (lacks_number c.args.bytes.now c.in_err-tab.ensures)

pub returns-in_err-rest : goal.returns-in_err-rest
returns-in_err-rest c =
    rw c.from_residual-in_err-rest.ensures
    (lacks_space c.args.bytes.now c.in_ok-tab.tab c.in_ok-tab.rest.now c.in_ok-tab.ensures c.in_err-rest.ensures)

pub overflow_cast-result : goal.overflow_cast-result
overflow_cast-result c =
    let tab = number_takes 64 (lit< tt) c.args.bytes.now c.in_ok-tab.tab c.in_ok-tab.rest.now (sym c.in_ok-tab.ensures) in
    omega (arith, tab.within)

pub returns : goal.returns
returns c =
    tab_read c.args.bytes.now c.in_ok-tab.tab c.in_ok-tab.rest.now c.in_ok-rest.rest.now c.in_ok-tab.ensures c.in_ok-rest.ensures
