use Rattle.std.proofs.Common.{◌∙◌, ap, arith, sym}
use Rattle.store_spec.proofs.Common.{cells_of}
use Rattle.body_store.specs.Contents.{ballots_of}
use Rattle.ticket_sample.proofs.Holding.{none_more, nowhere, one_more, some_more}
use Rattle.ticket_sample.proofs.drawing.records_at.Goals as goal
use Rattle.ticket_sample.proofs.drawing.records_at.Goals.{in-Some+in_ok-push, in_default}

pub record_in-requires : goal.record_in-requires
record_in-requires c = (c.requires c.loop-place.place-index nowhere (omega arith)).0

pub loop-place-preserved : goal.loop-place-preserved
loop-place-preserved c =
    let store = c.args.closed.now in
    let next = one_more store.ballots (cells_of store.election store.ballots) c.args.places.now store.election c.loop-place.place-index (omega arith) c.requires in
    elim c.match-record_in.branch [
      | in-Some+in_ok-push w ↦
          ap (λ v. ballots_of v.items) w.records-is
          ∙ some_more store.ballots c.loop-place.records.items w.push.new.self.items _ _ _ c.loop-place.invariant w.in-Some.ensures w.in_ok-push.ensures.items
          ∙ sym next
      | in_default w ↦
          ap (λ v. ballots_of v.items) w.records-is
          ∙ none_more c.loop-place.records.items _ _ c.loop-place.invariant w.in_default.ensures
          ∙ sym next
    ]
