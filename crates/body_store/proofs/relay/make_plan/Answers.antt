use Rattle.std.proofs.Common.{ℕ, ◌+◌, ◌*◌, List, length, ap, sym, ◌∙◌, arith}
use Rattle.store_spec.proofs.Common.{cell_size, header_size, home_of, numbers_of}
use Rattle.ballot_record.proofs.BallotNumbers.{length-numbers_of}
use Rattle.body_store.proofs.Planning.{all_noted}
use Rattle.body_store.specs.Moves.{AreArrivals, Arrivals, IsRelay, cell_in, arriving_bytes}
use Rattle.body_store.proofs.relay.make_plan.Goals as goal

-- the new ballots of what is to be written
arrivals : (new : Arrivals) (home : ℕ → ℕ) (old cells image : List ℕ) → IsRelay new.election new.bytes_of home new.ballots old cells image → AreArrivals new
arrivals new home old cells image given = record { election = given.election; wide = given.wide; each = given.new_ballots; few = given.few_ballots }

pub count-front-requires : goal.count-front-requires
count-front-requires g c = omega (arith, c.requires.1.1.0.few_ballots, ap length c.requires.1.0)

pub take_in-requires : goal.take_in-requires
take_in-requires g c =
    let given = c.requires.1.1.0 in
    let size = c.cell_bytes-size.ensures.size ∙ ap cell_size (sym c.requires.0) in (
      given.ordered,
      (
        given.few_cells,
        (
          arrivals g.new _ _ _ _ given,
          (
            c.requires.1.0,
            c.in_ok-plan.ensures.right g.new.bytes_of c.args.cells.now (arriving_bytes g.new),
          ),
        ),
      ),
    )

pub take_out-requires : goal.take_out-requires
take_out-requires g c =
    let given = c.requires.1.1.0 in
    let old = g.new.before in
    let image = c.args.image.now in
    let size = c.cell_bytes-size.ensures.size ∙ ap cell_size (sym c.requires.0) in
    let taken = c.in_ok-take_in.ensures in (
      arrivals g.new _ _ _ _ given,
      (
        c.count-front.ensures ∙ ap length (sym c.requires.1.0),
        (
          size,
          (
            given.ordered,
            (
              given.few_cells,
              (
                c.requires.1.1.1,
                (
                  given.before.long ∙ ap (λ size. header_size + length old * size) (sym size) ∙ ap (λ n. header_size + n * c.cell_bytes-size.result) given.as_many,
                  (
                    λ cell lt. ap (λ size. cell_in size cell image) size ∙ given.before.each cell (omega (arith, lt, given.as_many)),
                    (taken.right, taken.bytes ∙ c.in_ok-plan.ensures.none),
                  ),
                ),
              ),
            ),
          ),
        ),
      ),
    )

pub find_far-requires : goal.find_far-requires
find_far-requires g c =
    let given = c.requires.1.1.0 in
    let ballots = g.new.ballots in
    let out = c.in_ok-take_out.ensures in (
      c.requires.1.1.1,
      (
        given.few_cells,
        λ cell new.
            all_noted (home_of c.args.order.now.bits c.args.order.now.salt) (numbers_of ballots) g.new.before
            c.args.cells.now c.take_out.new.plan c.args.changes.now cell given.ordered c.requires.1.1.1
            (λ k within there same. out.still there (c.in_ok-take_in.ensures.sought k (omega (arith, within, length-numbers_of ballots)) there same))
            out.sought (given.known cell new.some) new,
      ),
    )

pub returns-clause-right : goal.returns-clause-right
returns-clause-right g c = c.in_ok-find_far.ensures.right g.new.bytes_of (arriving_bytes g.new) c.in_ok-take_out.ensures.right
