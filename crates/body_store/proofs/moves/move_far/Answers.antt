use Rattle.std.proofs.Common.{◌+◌, List, Vec, Global, get_or, sym, ap, ◌∙◌, subst}
use Rattle.store_spec.proofs.Common.{get_or_default}
use Rattle.body_store.proofs.Planning.{FarUpTo, far_found, far_on}
use Rattle.body_store.specs.Moves.{AwaitsCell}
use Rattle.body_store.specs.declared.moves.Move.{Move}
use Rattle.layout_def.specs.declared.changes.CellChange.{CellChange}
use Rattle.body_store.proofs.moves.move_far.Goals as goal
use Rattle.body_store.proofs.moves.move_far.Goals.{in-Some+in_ok-push, in_default}

pub loop-change-preserved : goal.loop-change-preserved
loop-change-preserved c =
    let cells = c.args.cells.now in
    let far = c.args.far.now in
    let changes = c.args.changes.now in
    let was = c.args.moves.now.items in
    let moves = c.loop-change.moves.items in
    let n = c.loop-change.change-index in
    let none : CellChange = record { cell = 0; number = 0 } in
    let before = c.loop-change.invariant in
    elim c.match-waits_from.branch [
      | in-Some+in_ok-push w ↦
          subst (λ (moves : List Move). FarUpTo cells far changes was moves (n + 1))
          (sym (ap (λ (v : Vec Move Global). v.items) w.moves-is ∙ w.in_ok-push.ensures.items))
          (far_found cells far changes was moves n (get_or changes n none).cell w.in-Some.from before (c.requires.within n none c.loop-change-test.true)
          (λ d lt. ap (λ (change : CellChange). change.cell) (get_or_default changes n d none lt)) w.in-Some.ensures)
      | in_default w ↦
          subst (λ (moves : List Move). FarUpTo cells far changes was moves (n + 1))
          (sym (ap (λ (v : Vec Move Global). v.items) w.moves-is))
          (far_on cells far changes was moves n before
          (λ d lt waits. w.in_default.ensures (subst (λ (change : CellChange). AwaitsCell far (get_or cells change.cell 0)) (get_or_default changes n d none lt) waits)))
    ]
