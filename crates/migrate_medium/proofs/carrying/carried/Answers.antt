use Rattle.std.proofs.Common.{◌∙◌}
use Rattle.migrate_medium.proofs.Versions.{same_cells, same_stored, shown_too, spelled_same}
use Rattle.migrate_medium.proofs.carrying.carried.Goals as goal

pub from_image-requires : goal.from_image-requires
from_image-requires c =
    let e = c.args.election.now in
    let old = c.args.old.now in
    shown_too e old c.requires.form c.cells.ensures.stored c.in_ok-image.ensures.election c.in_ok-image.image.items c.in_ok-cells.cells.items c.in_ok-image.ensures.image
    (c.in_ok-cells.ensures.items_if_clones_equal (λ x y same. same) ∙ same_cells old e c.requires.form c.cells.result.now c.cells.ensures.cells)

pub returns-clause-same : goal.returns-clause-same
returns-clause-same c =
    let e = c.args.election.now in
    let old = c.args.old.now in
    same_stored e old c.requires.form c.cells.ensures.stored c.from_image.result
    _ (spelled_same e old c.requires.form c.cells.ensures.stored c.in_ok-image.ensures.election c.in_ok-image.image.items c.in_ok-cells.cells.items c.in_ok-image.ensures.image
    (c.in_ok-cells.ensures.items_if_clones_equal (λ x y same. same) ∙ same_cells old e c.requires.form c.cells.result.now c.cells.ensures.cells)) c.from_image.ensures.same c.from_image.ensures.stored
