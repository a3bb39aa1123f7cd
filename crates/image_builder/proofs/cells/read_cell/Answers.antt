use Rattle.std.proofs.Common.{◌≡◌, ℕ, ◌+◌, ◌-◌, List, ◌∷◌, [], ◌++◌, length, replicate, take, drop, sym, ap, subst, ◌∙◌, arith}
use Rattle.store_spec.proofs.Common.{cell_size, false≢true, length_push}
use Rattle.body_store.proofs.Keeping.{few_cells}
use Rattle.image_builder.proofs.FirstCells.{empty_next}
use Rattle.image_builder.proofs.Judged.{first_next, one_is}
use Rattle.image_builder.proofs.cells.read_cell.Goals as goal
use Rattle.image_builder.specs.Cells.{AreFirst, numbers_read, spelled_ballots}

pub push_reserved-requires : goal.push_reserved-requires
push_reserved-requires c =
    let is = one_is c.args.election.now (numbers_read c.args.cells.now) c.args.cells.now.reaches.items c.args.bank.now c.args.at c.args.size c.requires.read c.requires.at c.requires.whole c.requires.within c.requires.size in
    omega (arith, is.room, c.requires.wide.numbers)

pub returns-then-is_empty-clause-read : goal.returns-then-is_empty-clause-read
returns-then-is_empty-clause-read c =
    let e = c.args.election.now in
    let bank = c.args.bank.now in
    let numbers = numbers_read c.args.cells.now in
    let reaches = c.args.cells.now.reaches.items in
    let ballots = spelled_ballots e numbers bank in
    let bytes = take (c.args.at + c.args.size - c.args.at) (drop c.args.at bank) in
    let is = one_is e numbers reaches bank c.args.at c.args.size c.requires.read c.requires.at c.requires.whole c.requires.within c.requires.size in
    let long : length bytes ≡ cell_size e = omega (arith, is.long) in
    let next = empty_next e numbers reaches ballots bytes c.requires.election c.requires.read.cells long (c.is_empty.ensures.0 c.if-is_empty.true ∙ ap (λ n. replicate n 0) long) in
    subst (λ (ns : List ℕ). AreFirst e ns reaches bank) (sym c.push_reserved.ensures.items)
    (first_next e numbers reaches bank bytes (numbers ++ 0 ∷ []) reaches ballots 1 c.requires.election c.requires.read is (omega (arith, c.requires.whole, c.requires.at)) (length_push numbers 0) next)

pub overflow_cast-result : goal.overflow_cast-result
overflow_cast-result c =
    let e = c.args.election.now in
    let is = one_is e (numbers_read c.args.cells.now) c.args.cells.now.reaches.items c.args.bank.now c.args.at c.args.size c.requires.read c.requires.at c.requires.whole c.requires.within c.requires.size in
    omega (arith, is.room, few_cells e c.requires.election, c.len-place.ensures)

pub read_right_cell-requires-clause-some : goal.read_right_cell-requires-clause-some
read_right_cell-requires-clause-some c zeros =
    let e = c.args.election.now in
    let bank = c.args.bank.now in
    let at = c.args.at in
    let bytes = take (at + c.args.size - at) (drop at bank) in
    let is = one_is e (numbers_read c.args.cells.now) c.args.cells.now.reaches.items bank at c.args.size c.requires.read c.requires.at c.requires.whole c.requires.within c.requires.size in
    let size : at + c.args.size - at ≡ cell_size e = omega (arith, c.requires.size) in
    let long : length bytes ≡ cell_size e = omega (arith, is.long) in
    false≢true (sym c.if-is_empty.false ∙ c.is_empty.ensures.1 (ap (λ n. take n (drop at bank)) size ∙ zeros ∙ sym (ap (λ n. replicate n 0) long)))
