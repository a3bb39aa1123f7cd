use Rattle.std.proofs.Common.{◌≡◌, ◌≢◌, ◌⊎◌, ℕ, ◌+◌, ◌<◌, inl, inr, List, get_or, length, map, take, sym, ap, subst, ◌∙◌, arith}
use Rattle.store_spec.proofs.Common.{Contains, cases_eq, header_size, take_all, take_more}
use Rattle.ballot_record.proofs.BallotLists.{cell_within}
use Rattle.layout_def.proofs.Keyed.{among_cases}
use Rattle.layout_def.specs.declared.changes.CellChange.{CellChange}
use Rattle.body_store.specs.Moves.{IsLeft, cell_in}
use Rattle.body_store.proofs.relay.clear_left.Goals as goal
use Rattle.body_store.proofs.relay.clear_left.Goals.{then-cells-change-eq0, else-cells-change-eq0}

abbrev nowhere : CellChange
nowhere = record { cell = 0; number = 0 }

pub clear_cell_at-requires : goal.clear_cell_at-requires
clear_cell_at-requires g c =
    let are = c.requires.1.0 in
    let one = get_or c.args.changes.now c.loop-change.change-index nowhere in
    let within : one.cell < length c.args.cells.now = omega (arith, are.as_many, (are.up_to.each c.loop-change.change-index nowhere c.loop-change-test.true).0) in
    omega (arith, cell_within one.cell (length c.args.cells.now) c.args.size within, c.requires.1.1.0, c.loop-change.auto.image)

pub loop-change-preserved : goal.loop-change-preserved
loop-change-preserved g c =
    let cells = c.args.cells.now in
    let changes = c.args.changes.now in
    let size = c.args.size in
    let n = c.loop-change.change-index in
    let here = (get_or changes n nowhere).cell in
    let before = c.loop-change.invariant in
    let image = c.if-cells-change-eq0.image in
    let narrow : (cell : ℕ) → (¬ IsLeft g.was.numbers cells cell) ⊎ Contains (map (λ change. change.cell) (take (n + 1) changes)) cell
    → cell ≢ here → (¬ IsLeft g.was.numbers cells cell) ⊎ Contains (map (λ change. change.cell) (take n changes)) cell =
    λ cell known other. elim known [
      | inl stays ↦ inl stays
      | inr seen ↦ elim (among_cases (λ (change : CellChange). change.cell) (take n changes) (get_or changes n nowhere) cell
          (subst (λ (changes : List CellChange). Contains (map (λ change. change.cell) changes) cell) (take_more changes n nowhere c.loop-change-test.true) seen)) [
            | inl early ↦ inr early
            | inr last ↦ absurd (other (sym last))
          ]
    ] in
    elim c.if-cells-change-eq0.branch [
      | then-cells-change-eq0 w ↦
          let put = w.clear_cell_at.ensures in
          record {
            after = λ cell lt known. subst (λ image. cell_in size cell image ≡ g.was.bytes_of (get_or cells cell 0)) (sym w.image-is) (
                elim (cases_eq cell here) [
                  | inl same ↦ subst (λ k. cell_in size k w.clear_cell_at.new.image ≡ g.was.bytes_of (get_or cells k 0)) (sym same)
                      (put.here ∙ sym c.requires.0 ∙ ap g.was.bytes_of (sym w.if-cells-change-eq0.true))
                  | inr other ↦ put.others cell other ∙ before.after cell lt (narrow cell known other)
                ]);
            header = ap (take header_size) w.image-is ∙ put.header ∙ before.header;
          }
      | else-cells-change-eq0 w ↦
          record {
            after = λ cell lt known. subst (λ image. cell_in size cell image ≡ g.was.bytes_of (get_or cells cell 0)) (sym w.image-is) (
                elim (cases_eq cell here) [
                  | inl same ↦ before.after cell lt (inl (λ left. w.if-cells-change-eq0.false (ap (λ k. get_or cells k 0) (sym same) ∙ left.empty)))
                  | inr other ↦ before.after cell lt (narrow cell known other)
                ]);
            header = ap (take header_size) w.image-is ∙ before.header;
          }
    ]

pub returns-clause-after : goal.returns-clause-after
returns-clause-after g c cell lt =
    let old = g.was.numbers in
    let cells = c.args.cells.now in
    let changes = c.args.changes.now in
    let are = c.requires.1.0 in
    let after = c.loop-change.invariant.after cell lt in
    let whole : take c.loop-change.change-index changes ≡ changes = take_all c.loop-change.change-index changes (omega arith) in
    elim (cases_eq (get_or cells cell 0) (get_or old cell 0)) [
      | inl same ↦ after (inl (λ left. left.some (sym same ∙ left.empty)))
      | inr other ↦ after (inr (subst (λ (changes : List CellChange). Contains (map (λ change. change.cell) changes) cell) (sym whole)
          (are.up_to.every cell (omega (arith, lt, are.as_many)) other)))
    ]
