use Rattle.std.proofs.Common.{◌≡◌, ℕ, ◌+◌, ◌++◌, ◌≤◌, List, length, take, Option, ap, sym, ◌∙◌, arith, refl, subst}
use Rattle.store_spec.proofs.Common.{Rose, length-append, slice_range, take_at}
use Rattle.run_command.specs.ElectionText.{election_limit, RefusesElection}
use Rattle.outside_io.specs.Outside.{input}
use Rattle.run_outcome.specs.declared.status.Status.TheVariants as status
use Rattle.outside_io.specs.Stream.{GivesAtMost}
use Rattle.outside_io.specs.Told.{IfTold}
use Rattle.run_command.proofs.Texts.{if_err, front_length, front_piece, told_start, told_piece, told_end, told_few, told_few_more, told_long, told_none_given}
use Rattle.run_command.proofs.election.read_text.Goals as goal

pub pieces-init : goal.pieces-init
pieces-init g c = record {
  text = told_start c.new-text.result.items c.new-text.ensures.items;
  few = omega (arith, ap length c.new-text.ensures.items);
  size = c.in_ok-piece.ensures;
  faults = refl;
}

pub returns-in_err-piece-clause-refused : goal.returns-in_err-piece-clause-refused
returns-in_err-piece-clause-refused g c = if_err c.from_residual.result status.Memory (λ a. RefusesElection a (input g.E.Source.left g.E.Source.faults c.args.source.now) (input g.E.Source.left g.E.Source.faults c.args.source.now)) c.from_residual.ensures.1
    (told_none_given, refl)

pub pieces-preserved : goal.pieces-preserved
pieces-preserved g c =
    let count = c.in-Ok.count in
    let buffer = c.read_piece.new.buffer in
    let size : length buffer ≡ c.pieces.piece.len = omega (arith, c.read_piece.auto.buffer, c.deref_mut.ensures.len) in
    let given = ap (λ bytes. take count bytes) (c.deref.ensures.value ∙ take_at buffer _ c.pieces.piece.len size) ∙ sym (front_piece buffer count) in
    let room : length c.pieces.text.items + count ≤ election_limit + 1 =
    omega (arith, c.in-Ok.ensures.within, c.min-asked.ensures, c.len-in-pieces.ensures, c.pieces.invariant.few) in
    let more = c.in_ok-append.ensures ∙ ap (λ piece. c.pieces.text.items ++ piece) given in
    record {
      text = told_piece c.pieces.text.items (slice_range buffer 0 (0 + count)) c.append.new.text.items c.pieces.invariant.text c.in-Ok.ensures.gives more;
      few = omega (arith, ap length more, length-append c.pieces.text.items (slice_range buffer 0 (0 + count)), front_length buffer count, room);
      size = c.pieces.invariant.size;
      faults = c.in-Ok.ensures.fault.steady ∙ c.pieces.invariant.faults;
    }

pub returns-in-Err-clause-refused : goal.returns-in-Err-clause-refused
returns-in-Err-clause-refused g c = (
  subst (λ (left : Option (List ℕ)). IfTold (g.E.Source.left c.args.source.now) left (GivesAtMost election_limit)) (sym c.in-Err.ensures.unmoved)
      (told_few c.pieces.text.items election_limit (omega (arith, c.pieces-test.true, c.len.ensures)) c.pieces.invariant.text),
  subst (λ n. Rose n (g.E.Source.faults c.read_piece.new.source)) c.pieces.invariant.faults c.in-Err.ensures.fault.rose,
)

pub returns-then-count-eq0-clause-text : goal.returns-then-count-eq0-clause-text
returns-then-count-eq0-clause-text g c =
    let none : c.in-Ok.count ≡ 0 = c.if-count-eq0.true in
    let buffer = c.read_piece.new.buffer in
    told_end c.pieces.text.items (slice_range buffer 0 (0 + c.in-Ok.count)) (omega (arith, c.pieces-test.true, c.len.ensures)) c.pieces.invariant.text c.in-Ok.ensures.gives
    (front_piece buffer c.in-Ok.count ∙ ap (λ n. take n buffer) none)
    (c.in-Ok.ensures.end none (omega (arith, c.min-asked.ensures, c.len-in-pieces.ensures, c.pieces-test.true, c.len.ensures)))

pub returns-then-count-eq0-clause-no_fault : goal.returns-then-count-eq0-clause-no_fault
returns-then-count-eq0-clause-no_fault g c = c.in-Ok.ensures.fault.steady ∙ c.pieces.invariant.faults

pub returns-in_err-append-clause-refused : goal.returns-in_err-append-clause-refused
returns-in_err-append-clause-refused g c = if_err c.from_residual-in_err-append.result status.Memory (λ a. RefusesElection a (input g.E.Source.left g.E.Source.faults c.args.source.now) (input g.E.Source.left g.E.Source.faults c.read_piece.new.source)) c.from_residual-in_err-append.ensures.1 (
  told_few_more c.pieces.text.items c.read_piece.new.buffer c.in-Ok.count (election_limit + 1)
      (omega (arith, c.in-Ok.ensures.within, c.min-asked.ensures, c.len-in-pieces.ensures, c.pieces.invariant.few)) c.pieces.invariant.text c.in-Ok.ensures.gives,
  c.in-Ok.ensures.fault.steady ∙ c.pieces.invariant.faults,
)

pub returns-clause-refused : goal.returns-clause-refused
returns-clause-refused g c = (
  told_long c.pieces.text.items (omega (arith, c.pieces-test.false, c.len.ensures)) c.pieces.invariant.few c.pieces.invariant.text,
  c.pieces.invariant.faults,
)
