use Rattle.std.proofs.Common.{◌≡◌, All, refl, ap, subst, sym, ◌∙◌, arith}
use Rattle.store_spec.proofs.Common.{IsCellOf, IsValid, cell_size, false≢true}
use Rattle.ballot_record.specs.Record.{ballot}
use Rattle.ballot_record.specs.declared.record.Record.{Record}
use Rattle.ballot_record.specs.declared.format.CellRead.TheVariants.{Held}
use Rattle.ballot_record.proofs.CellFormat.{cell_fits, largest_cell_width}
use Rattle.ballot_record.proofs.FormatReading.{all_from_zeros}
use Rattle.ballot_record.proofs.FormatAnswers.{no_ballot, one_record, valid_cell, valid_there, zeros_of}
use Rattle.ballot_record.proofs.format.take_cell.Goals as goal

same_held : (r other : Record) → Held r ≡ Held other → r ≡ other
same_held r other same = cc

pub are_zero-requires : goal.are_zero-requires
are_zero-requires c =
    omega (arith, c.requires, cell_fits c.args.election.now c.contests.ensures.valid, largest_cell_width)

pub returns-then-valid-clause-empty : goal.returns-then-valid-clause-empty
returns-then-valid-clause-empty c =
    let e = c.args.election.now in
    let bytes = c.args.bytes.now in
    let r = c.of_cell-record.result in
    let is = valid_cell e bytes (ballot r) (λ i. omega (arith, c.type_inv.bytes i)) c.requires c.of_cell-record.ensures (c.valid.ensures.0 c.if-valid.true) in (
      λ wrong. absurd cc,
      λ zeros. absurd (no_ballot e bytes c.contests.ensures.valid zeros (ballot r) is.0 is.1),
    )

pub returns-then-valid-clause-held : goal.returns-then-valid-clause-held
returns-then-valid-clause-held c other =
    let e = c.args.election.now in
    let bytes = c.args.bytes.now in
    let r = c.of_cell-record.result in
    let is = valid_cell e bytes (ballot r) (λ i. omega (arith, c.type_inv.bytes i)) c.requires c.of_cell-record.ensures (c.valid.ensures.0 c.if-valid.true) in (
      λ same. subst (λ (r : Record). IsCellOf e bytes (ballot r)) (same_held r other same) is,
      λ here. ap Held (one_record e bytes r other c.contests.ensures.valid c.of_cell-record.ensures here),
    )

pub returns-then-valid-clause-bad : goal.returns-then-valid-clause-bad
returns-then-valid-clause-bad c =
    let e = c.args.election.now in
    let bytes = c.args.bytes.now in
    let r = c.of_cell-record.result in
    let is = valid_cell e bytes (ballot r) (λ i. omega (arith, c.type_inv.bytes i)) c.requires c.of_cell-record.ensures (c.valid.ensures.0 c.if-valid.true) in
    (λ wrong. absurd cc, λ none. absurd (none.1 (ballot r) is))

pub returns-then-are_zero-clause-empty : goal.returns-then-are_zero-clause-empty
returns-then-are_zero-clause-empty c =
    (λ _. zeros_of c.args.election.now c.args.bytes.now c.requires (c.are_zero.ensures.0 c.if-are_zero.true), λ _. refl)

pub returns-then-are_zero-clause-held : goal.returns-then-are_zero-clause-held
returns-then-are_zero-clause-held c other =
    let e = c.args.election.now in
    let bytes = c.args.bytes.now in
    let zeros = zeros_of e bytes c.requires (c.are_zero.ensures.0 c.if-are_zero.true) in
    (λ wrong. absurd cc, λ is. absurd (no_ballot e bytes c.contests.ensures.valid zeros (ballot other) is.0 is.1))

pub returns-then-are_zero-clause-bad : goal.returns-then-are_zero-clause-bad
returns-then-are_zero-clause-bad c =
    (λ wrong. absurd cc, λ none. absurd (none.0 (zeros_of c.args.election.now c.args.bytes.now c.requires (c.are_zero.ensures.0 c.if-are_zero.true))))

pub returns-else-are_zero-clause-held : goal.returns-else-are_zero-clause-held
returns-else-are_zero-clause-held c other =
    let e = c.args.election.now in
    let valid = valid_there e c.args.bytes.now (ballot other) c.contests.ensures.valid in (
      λ wrong. absurd cc,
      λ is. absurd (false≢true (sym c.if-valid.false ∙ c.valid.ensures.1 (subst (IsValid e) (sym c.of_cell-record.ensures) (valid is)))),
    )

pub returns-else-are_zero-clause-bad : goal.returns-else-are_zero-clause-bad
returns-else-are_zero-clause-bad c =
    let e = c.args.election.now in
    let valid = valid_there e c.args.bytes.now in (
      λ _. (
        λ empty. false≢true (sym c.if-are_zero.false ∙ c.are_zero.ensures.1 (subst (λ bytes. All (λ byte. byte ≡ 0) bytes) (sym empty) (all_from_zeros (cell_size e)))),
        λ b is. false≢true (sym c.if-valid.false ∙ c.valid.ensures.1 (subst (IsValid e) (sym c.of_cell-record.ensures) (valid b c.contests.ensures.valid is))),
      ),
      λ _. refl,
    )
