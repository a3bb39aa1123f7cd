use Rattle.std.proofs.Common.{List, get_or, ⊎_elim, sym, subst, rules, arith}
use Rattle.store_spec.proofs.Common.{All, All-permutation, IsNonDecreasingBy}
use Rattle.std.proofs.lemmas.List.Sorted.{IsNonDecreasingBy-from_sort_by_key}
use Rattle.body_store.specs.Moves.{AwaitsCell, IsMoved, WaitsIn}
use Rattle.body_store.specs.declared.moves.Waiting.{Waiting}
use Rattle.layout_def.proofs.Keyed.{among_at, among_moved}
use Rattle.layout_def.specs.declared.changes.CellChange.{CellChange}
use Rattle.body_store.proofs.moves.Plan.find_far.Goals as goal

pub move_far-requires : goal.move_far-requires
move_far-requires g c = record {
  within = λ k d lt. omega (arith, (c.requires.0.up_to.each k d lt).0, c.requires.0.as_many);
  few_cells = c.requires.1.0;
  rising =
      subst (λ (ones : List Waiting). IsNonDecreasingBy (λ one. one.number) ones) (sym c.deref.ensures.value)
      (IsNonDecreasingBy-from_sort_by_key (λ one. one.number) c.sort_unstable_by_key.new.self.items
      c.sort_unstable_by_key.ensures.sorted (λ a r q k. search rules));
}

pub returns-in_ok-move_far-clause-right : goal.returns-in_ok-move_far-clause-right
returns-in_ok-move_far-clause-right g c f front right =
    let was = c.args.self.now in
    let bytes = was.bytes.items in
    let sorted = c.sort_unstable_by_key.new.self.items in
    let each = All-permutation (λ one. WaitsIn f front bytes one.from one.number) was.far.items sorted
    c.sort_unstable_by_key.ensures.permutation right.each_far in
    record {
      each_move = c.in_ok-move_far.ensures.right f front bytes
          (subst (λ (ones : List Waiting). All (λ one. WaitsIn f front bytes one.from one.number) ones)
          (sym c.deref.ensures.value) each) right.each_move;
      each_far = each;
    }

pub returns-in_ok-move_far-clause-noted : goal.returns-in_ok-move_far-clause-noted
returns-in_ok-move_far-clause-noted g c cell new =
    let was = c.args.self.now in
    let v = get_or c.args.cells.now cell 0 in
    let none : CellChange = record { cell = 0; number = 0 } in
    let are = c.requires.0 in
    let changes = c.args.changes.now in
    let moves = c.move_far.new.moves.items in
    ⊎_elim
    (λ (there : IsMoved was.moves.items cell). c.in_ok-move_far.ensures.still cell there)
    (λ (waits : AwaitsCell was.far.items v).
    let at = among_at (λ (change : CellChange). change.cell) changes cell none (are.up_to.every cell (omega (arith, new.within, are.as_many)) (λ e. new.other (sym e))) in
    let far = subst (λ (ones : List Waiting). AwaitsCell ones v) (sym c.deref.ensures.value)
    (among_moved (λ (one : Waiting). one.number) was.far.items c.sort_unstable_by_key.new.self.items v
    c.sort_unstable_by_key.ensures.permutation waits) in
    subst (λ cell. IsMoved moves cell) at.2
    (c.in_ok-move_far.ensures.moved at.0 none at.1 (subst (λ cell. AwaitsCell c.deref.result.now (get_or c.args.cells.now cell 0)) (sym at.2) far)))
    (c.requires.1.1 cell new)
