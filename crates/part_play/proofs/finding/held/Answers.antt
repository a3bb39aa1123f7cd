use Rattle.std.proofs.Common.{◌∙◌, [], List, ap, map, sym}
use Rattle.store_spec.proofs.Common.{Ballot, get_or_from_slice_get, part_of}
use Rattle.body_store.specs.Contents.{Contents}
use Rattle.part_play.proofs.Stages.{shown_at}
use Rattle.part_play.proofs.finding.held.Goals as goal
use Rattle.phase_find.specs.Present.{is_present}

pub returns : goal.returns
returns g c =
    let ballots : Contents → List Ballot = λ store. store.ballots in
    let stores = c.args.stores.now in
    let part = part_of c.args.spread.now c.args.number in
    let store = c.store_of-store.result.now in
    c.is_held.ensures
    ∙ ap (λ (set : List Ballot). is_present set c.args.number) (sym (get_or_from_slice_get (map ballots stores) part (ballots store) [] (shown_at ballots stores part store c.store_of-store.ensures)))
