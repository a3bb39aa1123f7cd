use Rattle.std.proofs.Common.{◌-◌, ℕ, List, ap, get_or-take, length, sym, subst, ◌∙◌, arith}
use Rattle.store_spec.proofs.Common.{slice_index}
use Rattle.store_spec.specs.Election.{cell_size}
use Rattle.ballot_record.proofs.Barring.{judged, row_there}
use Rattle.ballot_record.proofs.CellFormat.{cell_fits}
use Rattle.ballot_record.proofs.FormatAnswers.{held, have_from, valid_there}
use Rattle.ballot_record.specs.Barred.{HaveNone, IsBarredOn}
use Rattle.ballot_record.specs.Format.{ballot_at}
use Rattle.ballot_record.proofs.format.holds_ballot.Goals as goal
use Rattle.ballot_record.proofs.format.holds_ballot.Goals.{then-from-styles-via-then-from-styles, then-from-styles-via-else-from-styles+then-style-eq0, then-from-styles-via-else-from-styles+else-style-eq0+then-number_of-eq0}

pub split_at-requires : goal.split_at-requires
split_at-requires c =
    let e = c.args.election.now in
    let row = row_there e c.args.barred.now (c.from-2.result - 1) c.index-row.result.now c.requires.barred (omega (arith, c.styles.ensures.count)) c.index-row.ensures in
    omega (arith, row.0, c.requires.long, cell_fits e c.styles.ensures.valid)

pub has_none-requires-clause-front : goal.has_none-requires-clause-front
unfolding cell_size
has_none-requires-clause-front c k early =
    let row = c.index-row.result.now in
    let cell = c.args.bytes.now in
    let there = row_there c.args.election.now c.args.barred.now (c.from-2.result - 1) row c.requires.barred (omega (arith, c.styles.ensures.count)) c.index-row.ensures in
    ap (λ (barred : List ℕ). slice_index barred k) c.split_at.ensures.front
    ∙ get_or-take (length cell) row k 0 (omega (arith, early, c.requires.long)) ∙ there.1.front k early

pub returns-clause-held : goal.returns-clause-held
returns-clause-held c =
    let e = c.args.election.now in
    let cell = c.args.bytes.now in
    let style = (ballot_at e cell).style in
    let row = c.index-row.result.now in
    let there = row_there e c.args.barred.now (c.from-2.result - 1) row c.requires.barred (omega (arith, c.styles.ensures.count)) c.index-row.ensures in
    let barred : IsBarredOn e style row = subst (λ s. IsBarredOn e s row) (omega arith) there.1 in
    let told = judged e style row cell barred (λ i. omega (arith, c.type_inv.bytes i)) c.requires.long in
    let front = c.split_at.ensures.front in (
      λ yes. (
        ballot_at e cell,
        held e cell c.styles.ensures.valid (λ i. omega (arith, c.type_inv.bytes i)) c.requires.long (omega arith) (omega arith) (omega arith) (omega arith)
            (told.0 (subst (HaveNone cell) front (c.has_none.ensures.0 yes))),
      ),
      λ some. c.has_none.ensures.1 (subst (HaveNone cell) (sym front)
          (told.1 (have_from e style cell c.styles.ensures.valid (valid_there e cell some.0 c.styles.ensures.valid some.1).marked))),
    )

pub returns-then-from-styles-clause-held : goal.returns-then-from-styles-clause-held
returns-then-from-styles-clause-held c = (
  λ wrong. absurd cc,
  λ some.
      let valid = valid_there c.args.election.now c.args.bytes.now some.0 c.styles.ensures.valid some.1 in
      absurd (elim c.then-from-styles.branch [
        | then-from-styles-via-then-from-styles w ↦ omega (arith, valid.known_style)
        | then-from-styles-via-else-from-styles+then-style-eq0 w ↦ omega (arith, valid.some_style)
        | then-from-styles-via-else-from-styles+else-style-eq0+then-number_of-eq0 w ↦ omega (arith, valid.some_number)
      ]),
)
