use Rattle.std.proofs.Common.{◌*◌, ◌≤◌, replicate, take, ap, sym, ◌∙◌, arith}
use Rattle.store_spec.proofs.Common.{cell_bytes, take-replicate}
use Rattle.std.proofs.Math.Nat.{mul-le-mul}
use Rattle.body_store.proofs.Images.{cell_of_zero}
use Rattle.script_commands.proofs.Gathered.{empty_cells}
use Rattle.script_commands.specs.Ballots.{ballots_so_far, election_of}
use Rattle.script_commands.specs.declared.build.image.TheConstants.{PIECE}
use Rattle.script_commands.proofs.build.image.next_cells.Goals as goal

pub cell_with-requires-clause-empty : goal.cell_with-requires-clause-empty
cell_with-requires-clause-empty c =
    ap (take c.args.size) c.requires.zeros
    ∙ take-replicate c.args.size PIECE 0 (omega arith)
    ∙ ap (λ n. replicate n 0) c.requires.size

pub returns-in-0-clause-bytes : goal.returns-in-0-clause-bytes
returns-in-0-clause-bytes c =
    let e = election_of c.args.ballots.now in
    let ballots = ballots_so_far c.args.ballots.now in
    let run = c.empty_run-run.result in
    let size = c.args.size in
    let fits : run * size ≤ PIECE = mul-le-mul c.empty_run-run.ensures.few c.requires.narrow in
    ap (take (run * size)) c.requires.zeros
    ∙ take-replicate (run * size) PIECE 0 fits
    ∙ sym (empty_cells (cell_bytes e ballots) size c.args.cells.now c.args.at run
    (cell_of_zero e e ballots c.requires.sound.listing.valid ∙ ap (λ n. replicate n 0) (sym c.requires.size))
    c.empty_run-run.ensures.within c.empty_run-run.ensures.empty)
