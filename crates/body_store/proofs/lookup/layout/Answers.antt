use Rattle.std.proofs.Common.{◌≡◌, ◌≢◌, ℕ, List, All, AllPairs, subst, sym, ap, ◌∙◌, rules}
use Rattle.store_spec.proofs.Common.{cell_count, home_of, layout_of, numbers_of}
use Rattle.body_store.proofs.BallotSets.{has_room}
use Rattle.body_store.proofs.lookup.layout.Goals as goal

pub build-requires-clause-distinct : goal.build-requires-clause-distinct
build-requires-clause-distinct c =
    let same : c.deref.result.now ≡ numbers_of c.args.ballots.now.ballots = search rules in
    let room = has_room c.args.election.now _ c.order-order.ensures.valid
    (record { listing = c.requires.listing; within_limit = c.requires.within_limit }) in
    subst (λ (ns : List ℕ). AllPairs (λ a b. a ≢ b) ns) (sym same) room.distinct

pub build-requires-clause-some : goal.build-requires-clause-some
build-requires-clause-some c =
    let same : c.deref.result.now ≡ numbers_of c.args.ballots.now.ballots = search rules in
    let room = has_room c.args.election.now _ c.order-order.ensures.valid
    (record { listing = c.requires.listing; within_limit = c.requires.within_limit }) in
    subst (λ (ns : List ℕ). All (λ v. v ≢ 0) ns) (sym same) room.some

pub returns-clause-cells : goal.returns-clause-cells
returns-clause-cells c =
    let e = c.args.election.now in
    let order = c.order-order.result in
    let same : c.deref.result.now ≡ numbers_of c.args.ballots.now.ballots = search rules in
    c.in_ok-build.ensures
    ∙ ap (λ b. layout_of (home_of b order.salt) c.cells.result c.deref.result.now) c.order-order.ensures.bits
    ∙ ap (λ s. layout_of (home_of e.bits s) c.cells.result c.deref.result.now) c.order-order.ensures.salt
    ∙ ap (λ n. layout_of (home_of e.bits e.salt) n c.deref.result.now) c.cells.ensures.count
    ∙ ap (layout_of (home_of e.bits e.salt) (cell_count e)) same
