use Rattle.std.proofs.Common.{◌≡◌, ◌+◌, ◌*◌, ◌<◌, get_or, length, sym, ap, subst, ◌∙◌, arith}
use Rattle.store_spec.proofs.Common.{IsCellOf, ballot_of, cell_count, cell_size, cells_of, header_size}
use Rattle.body_store.proofs.Closed.cell.Goals as goal
use Rattle.body_store.proofs.Keeping.{cell_held, cell_length, cell_within, shown_size}
use Rattle.body_store.specs.Contents.{Contents}
use Rattle.body_store.specs.Kept.{contents_of}
use Rattle.body_store.specs.Moves.{cell_in}

pub bytes_in-requires : goal.bytes_in-requires
bytes_in-requires c =
    let a = c.self.inside in
    let e = a.election.value in
    let shown = c.self.invariant.shown in
    let within : c.args.cell < cell_count e = subst (λ (store : Contents). c.args.cell < cell_count store.election) (sym c.self.view_is) c.requires in
    let size = c.cell_bytes.ensures.size ∙ ap cell_size c.deref-2.ensures in
    let same : header_size + c.args.cell * c.cell_bytes.result + c.cell_bytes.result ≡ header_size + c.args.cell * cell_size e + cell_size e =
    ap (λ size. header_size + c.args.cell * size + size) size in
    omega (arith, same, cell_within e c.args.cell within, shown_size e (contents_of a).ballots a.image.items a.cells shown, ap length c.deref.ensures.value)

pub returns-clause-held : goal.returns-clause-held
returns-clause-held c b there =
    let a = c.self.inside in
    let own = contents_of a in
    let e = own.election in
    let within = subst (λ (store : Contents). c.args.cell < cell_count store.election) (sym c.self.view_is) c.requires in
    let is = ap (λ (store : Contents). ballot_of store.ballots (get_or (cells_of store.election store.ballots) c.args.cell 0)) c.self.view_is ∙ there in
    let held = cell_held e own.ballots a.image.items a.cells c.args.cell b c.self.invariant.shown within is in
    let bytes = c.bytes_in.ensures ∙ ap (λ image. cell_in c.cell_bytes.result c.args.cell image) c.deref.ensures.value
    ∙ ap (λ size. cell_in size c.args.cell a.image.items) (c.cell_bytes.ensures.size ∙ ap cell_size c.deref-2.ensures) in
    subst (λ (store : Contents). IsCellOf store.election c.bytes_in.result.now b) c.self.view_is (held.0, bytes ∙ held.1)

pub returns-clause-long : goal.returns-clause-long
returns-clause-long c =
    let a = c.self.inside in
    let own = contents_of a in
    let e = own.election in
    let within = subst (λ (store : Contents). c.args.cell < cell_count store.election) (sym c.self.view_is) c.requires in
    let bytes = c.bytes_in.ensures ∙ ap (λ image. cell_in c.cell_bytes.result c.args.cell image) c.deref.ensures.value
    ∙ ap (λ size. cell_in size c.args.cell a.image.items) (c.cell_bytes.ensures.size ∙ ap cell_size c.deref-2.ensures) in
    ap length bytes ∙ cell_length e own.ballots a.image.items a.cells c.args.cell c.self.invariant.shown within
    ∙ ap (λ (store : Contents). cell_size store.election) c.self.view_is
