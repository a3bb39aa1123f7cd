use Rattle.std.proofs.Common.{◌+◌, ◌*◌, length, ap, ◌∙◌, arith}
use Rattle.store_spec.proofs.Common.{header_size}
use Rattle.std.proofs.lemmas.Slice.{take-put_mid_below}
use Rattle.ballot_record.proofs.CellFormat.{header_width}
use Rattle.ballot_record.specs.declared.format.TheConstants.{HEADER_BYTES}
use Rattle.body_store.proofs.Pieces.{cell_start, others_same, this_put}
use Rattle.body_store.proofs.relay.put_cell_at.Goals as goal

pub returns-clause-here : goal.returns-clause-here
returns-clause-here c =
    this_put c.args.size c.args.cell _ _ c.args.image.now c.copy_from_slice.new.self (cell_start c.args.cell c.args.size)
    (ap length c.copy_from_slice.ensures.after ∙ c.requires.size) c.requires.within
    ∙ c.copy_from_slice.ensures.after

pub returns-clause-others : goal.returns-clause-others
returns-clause-others c other apart =
    others_same c.args.size c.args.cell other _ _ c.args.image.now c.copy_from_slice.new.self (cell_start c.args.cell c.args.size)
    (omega arith) (omega arith) c.requires.within apart

pub returns-clause-header : goal.returns-clause-header
returns-clause-header c =
    take-put_mid_below (HEADER_BYTES + c.args.cell * c.args.size) _ c.args.image.now c.copy_from_slice.new.self header_size
    (omega (arith, header_width)) (omega (arith, header_width, c.requires.within))
