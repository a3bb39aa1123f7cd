use Rattle.std.proofs.Common.{◌∷◌, ◌++◌, [], sym, subst, ◌∙◌}
use Rattle.partition_store.proofs.Seeking.{catches}
use Rattle.partition_store.proofs.looking.least_with_cell.Goals as goal
use Rattle.partition_store.specs.Foreign.{IsAmong, IsLeast}

pub returns : goal.returns
returns c cells least =
    subst (IsLeast c.args.bits c.args.part (IsAmong (cells ++ c.args.number ∷ []))) (sym c.lesser.ensures)
    (catches c.args.bits c.args.part cells c.args.number c.args.least c.if-number-eq0.false
    (λ is. c.if-part_of-part.false (c.part_of.ensures ∙ is)) least)
