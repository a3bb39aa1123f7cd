use Rattle.std.proofs.Common.{◌≡◌, replicate, ap, ◌∙◌, arith, rules}
use Rattle.body_store.proofs.Closed.empty.Goals as goal

pub from_image-requires : goal.from_image-requires
from_image-requires c =
    let e = c.args.election.now in
    let zeros : c.in_ok-cells.cells.items ≡ replicate c.cells.result 0 = search rules in
    record {
      election = c.in_ok-image.ensures.election;
      listing = record { valid = λ k d lt. absurd (omega arith); distinct = λ i j d before lt. absurd (omega arith) };
      within_limit = omega arith;
      image = c.in_ok-image.ensures.image;
      cells = zeros ∙ ap (λ n. replicate n 0) c.cells.ensures.count;
    }
