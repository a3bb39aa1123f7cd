use Rattle.std.proofs.Common.{◌∙◌, Global, Vec, map, sym}
use Rattle.store_spec.proofs.Common.{length-map}
use Rattle.part_play.proofs.Stages.{next_begun}
use Rattle.part_play.proofs.several.begin_one.Goals as goal
use Rattle.phase_kind.specs.Worker.{WorkerView}

pub returns : goal.returns
returns g c stores plans so_far =
    let W = WorkerView g.row.K-Sight.Denot g.row.K-Item.Denot g.row.K-Reply.Denot in
    let begun = c.in-Ok.begun in
    let e = c.in-Ok.ensures in
    next_begun g.K.Kind.fresh (λ (row : Vec W Global). row.items) stores c.args.store plans (map g.K.Kind.items c.args.lists.items) c.args.phases.now.items _ c.args.rows.now.items _ begun.0 begun.1
    so_far c.in_ok-push_both.ensures.first c.in_ok-push_both.ensures.second e.base (e.seats ∙ sym (length-map c.args.lists.items g.K.Kind.items)) e.workers
