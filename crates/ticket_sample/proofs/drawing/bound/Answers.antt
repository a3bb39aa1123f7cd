use Rattle.std.proofs.Common.{◌≡◌, ◌++◌, ◌∷◌, List, subst, ◌∙◌}
use Rattle.store_spec.proofs.Common.{IsPermutation}
use Rattle.ticket_sample.proofs.Bounding.{is_bound}
use Rattle.ticket_sample.specs.Ticket.{Lot}
use Rattle.ticket_sample.proofs.drawing.bound.Goals as goal

pub returns : goal.returns
returns c =
    let split = c.select_nth_unstable-bound in
    let front = split.result.0.now in
    let back = split.result.2.now in
    let t = split.result.1.now in
    let same : c.deref_mut.result.now ≡ c.args.lots.now = c.deref_mut.ensures.value ∙ c.in_ok-order.ensures in
    is_bound c.args.lots.now front back t c.args.count c.requires.apart
    (subst (λ (lots : List Lot). IsPermutation lots (front ++ t ∷ back)) same split.ensures.permutation) split.ensures.partitioned split.ensures.front_len
