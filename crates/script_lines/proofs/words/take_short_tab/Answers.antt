use Rattle.std.proofs.Common.{◌≡◌, ◌≤◌, slice_index_or, arith}
use Rattle.store_spec.proofs.Common.{nat_tests}
use Rattle.script_lines.proofs.Decimals.{short_tab}
use Rattle.script_lines.proofs.words.take_short_tab.Goals as goal

pub returns-in-len2-up : goal.returns-in-len2-up
returns-in-len2-up c =
    let bytes = c.args.bytes.now in
    let tests = c.if-digit-behind.true in
    let some : 49 ≤ slice_index_or bytes 0 0 = grind (arith, nat_tests, tests) in
    let few : slice_index_or bytes 0 0 ≤ 57 = grind (arith, nat_tests, tests) in
    let space : slice_index_or bytes 1 0 ≡ 32 = grind (arith, nat_tests, tests) in
    short_tab bytes c.in-len2-up.len_at_least some few space
