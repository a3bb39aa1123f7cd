-- What goes on from a text.
use Rattle.std.proofs.Common.{◌≡◌, ℕ, List, ◌++◌, ap, ◌∙◌, append_assoc}
use Rattle.ballot_record.specs.Print.{IsFrontOf}

-- what goes on from it with more behind it
pub IsFrontOf-more : (before now put more : List ℕ) → IsFrontOf before now → put ≡ now ++ more → IsFrontOf before put
IsFrontOf-more before now put more front is =
    (front.0 ++ more, is ∙ ap (λ text. text ++ more) front.1 ∙ append_assoc before front.0 more)

-- what goes on from what goes on from it
pub IsFrontOf-after : (before now put : List ℕ) → IsFrontOf before now → IsFrontOf now put → IsFrontOf before put
IsFrontOf-after before now put front after = IsFrontOf-more before now put after.0 front after.1
