-- Shared words over the cells of a store, which is seen as an election and its ballots.
use Rattle.std.specs.Prelude.{◌≡◌, List}
use Rattle.step_core.specs.declared.shape.Shape.{Shape}
use Rattle.store_spec.specs.Ballot.{Ballot}
use Rattle.store_spec.specs.Election.{Election, cell_count}
use Rattle.store_spec.specs.Image.{cells_of}
use Rattle.word_rule.specs.Seats.{SharedWords}

-- a shape with the homes and the cells of an election
pub record IsShapeOf (e : Election) (shape : Shape) : Type 0 where
  pub bits : shape.order.bits ≡ e.bits
  pub salt : shape.order.salt ≡ e.salt
  pub cells : shape.cells ≡ cell_count e

-- the words have such a shape, and their cells held the ballots at the opening
pub record AreWordsOf (e : Election) (ballots : List Ballot) (words : SharedWords) : Type 0 where
  pub shape : IsShapeOf e words.shape
  pub held : words.base ≡ cells_of e ballots
