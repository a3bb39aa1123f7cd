use Rattle.std.proofs.Common.{◌++◌, ℕ, List, replicate, ap, ◌∙◌, arith}
use Rattle.store_spec.proofs.Common.{take-replicate}
use Rattle.ballot_record.proofs.CellFormat.{largest_cell_width}
use Rattle.migrate_medium.proofs.carrying.push_empty.Goals as goal

pub returns : goal.returns
returns c =
    c.in_ok-extend_from_slice.ensures.items
    ∙ ap (λ (bytes : List ℕ). c.args.image.now.items ++ bytes)
    (take-replicate c.cell_bytes.result 201 0 (omega (arith, c.cell_bytes.ensures.at_most, largest_cell_width)) ∙ ap (λ n. replicate n 0) c.cell_bytes.ensures.size)
