use Rattle.std.proofs.Common.{◌≡◌, ◌∙◌, ◌<◌, ap, arith, subst, sym, List}
use Rattle.store_spec.proofs.Common.{All-filter, cell_count, cells_of, slice_index}
use Rattle.std.specs.Prelude.{filter}
use Rattle.body_store.specs.Held.{held_in}
use Rattle.body_store.specs.declared.lookup.Place.{Place}
use Rattle.ticket_sample.proofs.Holding.{places_apart, sample_held, sample_records, sample_whole, standing}
use Rattle.ticket_sample.specs.Drawing.{AreApart, StandIn, numbers_at}
use Rattle.ticket_sample.specs.Sample.{is_drawn}
use Rattle.ticket_sample.proofs.drawing.sample.Goals as goal

pub returns-then-len-k : goal.returns-then-len-k
returns-then-len-k c =
    let store = c.args.closed.now in
    let known = c.in_ok-places.ensures in
    let places = c.in_ok-places.places.items in
    sample_records store known.stored c.args.dice.now c.args.k c.records_at.result (held_in store.ballots (numbers_at c.deref.result.now))
    (ap (λ (places : List Place). held_in store.ballots (numbers_at places)) c.deref.ensures.value
    ∙ sample_whole store known.stored c.args.dice.now c.args.k places known.numbers (omega (arith, c.len.ensures, c.if-len-k.true)))
    c.records_at.ensures

pub drawn-requires-clause-apart : goal.drawn-requires-clause-apart
drawn-requires-clause-apart c =
    subst (λ (places : List Place). AreApart (numbers_at places)) (sym c.deref-2.ensures.value)
    (places_apart c.args.closed.now c.in_ok-places.places.items c.in_ok-places.ensures.stored c.in_ok-places.ensures.numbers)

pub records_at-requires-2 : goal.records_at-requires-2
records_at-requires-2 c =
    let store = c.args.closed.now in
    let known = c.in_ok-places.ensures in
    let cells = cells_of store.election store.ballots in
    let test = λ (place : Place). is_drawn c.args.dice.now c.args.k (numbers_at c.deref-2.result.now) place.number in
    subst (λ (places : List Place). StandIn store.election cells places) (sym (c.deref-3.ensures.value ∙ c.in_ok-chosen.ensures))
    (All-filter test (λ place. (place.cell < cell_count store.election) × (slice_index cells place.cell ≡ place.number)) c.deref-2.result.now
    (subst (λ (places : List Place). StandIn store.election cells places) (sym c.deref-2.ensures.value) (standing store c.in_ok-places.places.items known.stored known.cells)))

pub returns : goal.returns
returns c =
    let store = c.args.closed.now in
    let known = c.in_ok-places.ensures in
    let dice = c.args.dice.now in
    let k = c.args.k in
    sample_records store known.stored dice k c.records_at-2.result (held_in store.ballots (numbers_at c.deref-3.result.now))
    (ap (λ (places : List Place). held_in store.ballots (numbers_at places)) (c.deref-3.ensures.value ∙ c.in_ok-chosen.ensures)
    ∙ ap (λ (places : List Place). held_in store.ballots (numbers_at (filter (λ place. is_drawn dice k (numbers_at places) place.number) places))) c.deref-2.ensures.value
    ∙ sample_held store known.stored dice k c.in_ok-places.places.items known.numbers)
    c.records_at-2.ensures

pub records_at-requires : goal.records_at-requires
records_at-requires c =
    let store = c.args.closed.now in
    subst (λ (places : List Place). StandIn store.election (cells_of store.election store.ballots) places) (sym c.deref.ensures.value)
    (standing store c.in_ok-places.places.items c.in_ok-places.ensures.stored c.in_ok-places.ensures.cells)
