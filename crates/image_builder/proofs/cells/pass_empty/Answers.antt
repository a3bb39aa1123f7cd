use Rattle.std.proofs.Common.{◌≡◌, ℕ, ◌+◌, ◌-◌, ◌*◌, ◌≤◌, Bool, List, ◌++◌, length, replicate, take, drop, if◌then◌else◌, sym, ap, subst, ◌∙◌, arith}
use Rattle.store_spec.proofs.Common.{Election, bank_size, cell_size, false≢true, length-append}
use Rattle.image_builder.proofs.FirstCells.{empties_next}
use Rattle.image_builder.proofs.Judged.{IsNext, first_next, next_is}
use Rattle.image_builder.proofs.cells.pass_empty.Goals as goal
use Rattle.image_builder.specs.Cells.{AreFirst, end_of, numbers_read, spelled_ballots}

-- a block of cells stands behind those so far
block_is : (e : Election) (numbers reaches bank : List ℕ) (at width : ℕ) → AreFirst e numbers reaches bank → at ≡ end_of e numbers → 16 * width ≤ length bank - at → length bank ≤ bank_size e → width ≡ cell_size e
    → IsNext e numbers bank (take (at + 16 * width - at) (drop at bank)) 16
block_is e numbers reaches bank at width first begins whole within wide =
    let sixteen : 16 * width ≡ 16 * cell_size e = ap (λ n. 16 * n) wide in
    next_is e numbers reaches bank (take (at + 16 * width - at) (drop at bank)) 16 at first begins (omega (arith, whole, sixteen, first.within, begins)) within
    (ap (λ n. take n (drop at bank)) (let same : at + 16 * width - at ≡ 16 * cell_size e = omega (arith, sixteen) in same))

pub prove-unreachable-requires : goal.prove-unreachable-requires
prove-unreachable-requires c =
    let e = c.args.election.now in
    let l = c.loop-at in
    let is = block_is e (numbers_read l.cells) l.cells.reaches.items c.args.bank.now l.at c.cell_bytes-cell.result l.invariant.read l.invariant.end c.loop-at-test.true c.requires.within c.cell_bytes-cell.ensures.size in
    false≢true (sym c.if-prove.true ∙ c.is_ok-fits.ensures.value ∙ c.extend_from_slice.ensures.succeeds (omega (arith, is.room, l.invariant.wide.numbers)))

pub loop-at-preserved : goal.loop-at-preserved
loop-at-preserved c =
    let e = c.args.election.now in
    let l = c.loop-at in
    let bank = c.args.bank.now in
    let numbers = numbers_read l.cells in
    let reaches = l.cells.reaches.items in
    let ballots = spelled_ballots e numbers bank in
    let width = c.cell_bytes-cell.result in
    let bytes = take (l.at + 16 * width - l.at) (drop l.at bank) in
    let is = block_is e numbers reaches bank l.at width l.invariant.read l.invariant.end c.loop-at-test.true c.requires.within c.cell_bytes-cell.ensures.size in
    let zeros : bytes ≡ replicate (16 * cell_size e) 0 = c.is_empty.ensures.0 c.if-is_empty.true ∙ ap (λ n. replicate n 0) is.long in
    let ok = sym c.is_ok-fits.ensures.value ∙ c.if-prove.false in
    let put : c.extend_from_slice.new.self.items ≡ numbers ++ replicate 16 0 = subst (λ (b : Bool). c.extend_from_slice.new.self.items ≡ (if b then numbers ++ replicate 16 0 else numbers)) ok c.extend_from_slice.ensures.items in
    let long : length (numbers ++ replicate 16 0) ≡ length numbers + 16 = length-append numbers (replicate 16 0) in
    let some : 16 * width ≡ 16 * cell_size e = ap (λ n. 16 * n) c.cell_bytes-cell.ensures.size in
    let whole : end_of e numbers + 16 * cell_size e ≤ length bank = omega (arith, c.loop-at-test.true, some, l.invariant.end, l.invariant.read.within) in
    let next = first_next e numbers reaches bank bytes (numbers ++ replicate 16 0) reaches ballots 16 c.requires.election l.invariant.read is whole long (empties_next e numbers reaches ballots bytes 16 c.requires.election l.invariant.read.cells zeros) in
    let wide = l.invariant.wide in
    let sum : (length numbers + 16) * cell_size e ≡ length numbers * cell_size e + 16 * cell_size e = grind arith in
    let now : length c.extend_from_slice.new.self.items ≡ length numbers + 16 = ap length put ∙ long in
    record {
      read = subst (λ (ns : List ℕ). AreFirst e ns reaches bank) (sym put) next;
      wide = record { numbers = omega (arith, wide.numbers, c.extend_from_slice.ensures.capacity); reaches = wide.reaches; barred = wide.barred };
      end = omega (arith, l.invariant.end, some, sum, ap (λ n. n * cell_size e) now);
      onward = omega (arith, l.invariant.onward);
    }
