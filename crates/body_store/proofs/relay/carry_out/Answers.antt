use Rattle.std.proofs.Common.{◌≡◌, ◌≢◌, ◌⊎◌, ◌<◌, inl, inr, List, get_or, length, take, subst, subst₂, sym, ap, ◌∙◌, arith}
use Rattle.store_spec.proofs.Common.{ballot_bytes, cases_eq, flat_map, take_all, take_more}
use Rattle.layout_def.proofs.Keyed.{among_cases}
use Rattle.body_store.specs.Contents.{all_listed}
use Rattle.body_store.specs.Moves.{IsMoved, WaitsIn, cell_in}
use Rattle.body_store.specs.declared.moves.Move.{Move}
use Rattle.body_store.proofs.relay.carry_out.Goals as goal

abbrev none : Move
none = record { from = 0; cell = 0 }

-- where one more cell was written, all that are known to be right are
pub loop-one-preserved : goal.loop-one-preserved
loop-one-preserved g c =
    let old = g.was.numbers in
    let cells = c.args.cells.now in
    let size = c.args.size in
    let moves = c.args.plan.now.moves.items in
    let listed : c.deref-one-items.result.now ≡ moves = c.deref-one-items.ensures.value in
    let at = c.loop-one.one-index in
    let within : at < length moves = omega (arith, c.loop-one-test.true, ap length listed) in
    let move = get_or moves at none in
    let same : get_or c.deref-one-items.result.now at none ≡ move = ap (λ (moves : List Move). get_or moves at none) listed in
    let right = c.requires.1.1.1.1.1.1.0.each_move at none within in
    let number = get_or cells move.cell 0 in
    let front = flat_map (ballot_bytes c.args.election.now) (all_listed c.args.lists.now) in
    let wide = c.requires.0 number ∙ c.requires.1.0 in
    let image = c.put_cell_at.new.image in
    let waits = subst₂ (λ bytes (one : Move). WaitsIn g.was.bytes_of front bytes one.from number) (sym c.deref.ensures.value) (sym same) right.waits in
    let written : cell_in size move.cell image ≡ g.was.bytes_of number =
    ap (λ (move : Move). cell_in size move.cell image) (sym same)
    ∙ c.put_cell_at.ensures.here
    ∙ c.waiting-bytes.ensures number wide waits in
    record {
      after = λ cell lt known.
          elim (cases_eq cell move.cell) [
            | inl here ↦ subst (λ k. cell_in size k image ≡ g.was.bytes_of (get_or cells k 0)) (sym here) written
            | inr other ↦
                let apart : cell ≢ (get_or c.deref-one-items.result.now at none).cell = λ e.
                other (e ∙ ap (λ (move : Move). move.cell) same) in
                let before : (get_or old cell 0 ≡ get_or cells cell 0) ⊎ IsMoved (take at moves) cell = elim known [
                  | inl stays ↦ inl stays
                  | inr moved ↦ elim (among_cases (λ (move : Move). move.cell) (take at moves) move cell
                      (subst (λ (moves : List Move). IsMoved moves cell) (take_more moves at none within) moved)) [
                        | inl early ↦ inr early
                        | inr last ↦ absurd (other (sym last))
                      ]
                ] in
                c.put_cell_at.ensures.others cell apart ∙ c.loop-one.invariant.after cell lt before
          ];
      header = c.put_cell_at.ensures.header ∙ c.loop-one.invariant.header;
      front = c.list_with-front.ensures.front;
    }

pub returns-clause-after : goal.returns-clause-after
returns-clause-after g c cell lt others =
    let old = g.was.numbers in
    let cells = c.args.cells.now in
    let moves = c.args.plan.now.moves.items in
    let at = c.loop-one.one-index in
    let whole : take at moves ≡ moves = take_all at moves (omega (arith, ap length c.deref-one-items.ensures.value)) in
    let v = get_or cells cell 0 in
    elim (cases_eq (get_or old cell 0) v) [
      | inl same ↦ c.loop-one.invariant.after cell lt (inl same)
      | inr other ↦
          let some : v ≢ 0 = λ none. others (record { empty = none; some = λ none_before. other (none_before ∙ sym none) }) in
          let moved = c.requires.1.1.1.1.1.1.1 cell (record { within = lt; some = some; other = other }) in
          c.loop-one.invariant.after cell lt (inr (subst (λ (moves : List Move). IsMoved moves cell) (sym whole) moved))
    ]

pub waiting-bytes-requires : goal.waiting-bytes-requires
waiting-bytes-requires g c =
    let cells = c.args.cells.now in
    let moves = c.args.plan.now.moves.items in
    let listed : c.deref-one-items.result.now ≡ moves = c.deref-one-items.ensures.value in
    let at = c.loop-one.one-index in
    let within : at < length moves = omega (arith, c.loop-one-test.true, ap length listed) in
    let same : get_or c.deref-one-items.result.now at none ≡ get_or moves at none = ap (λ (moves : List Move). get_or moves at none) listed in
    let number = get_or cells (get_or moves at none).cell 0 in
    let front = flat_map (ballot_bytes c.args.election.now) (all_listed c.args.lists.now) in
    let waits = subst₂ (λ bytes (one : Move). WaitsIn g.was.bytes_of front bytes one.from number) (sym c.deref.ensures.value) (sym same)
    (c.requires.1.1.1.1.1.1.0.each_move at none within).waits in (
      c.requires.1.1.0,
      (c.requires.1.1.1.0, (c.list_with-front.ensures.front, (c.list_with-front.ensures.past, (c.list_with-front.ensures.before, (number, c.requires.0 number ∙ c.requires.1.0, waits))))),
    )
