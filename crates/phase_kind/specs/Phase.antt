-- A phase of either kind, as callers see it, and how it is kept.
use Rattle.std.specs.Prelude.{◌≡◌, ℕ}
use Rattle.body_store.specs.Contents.{Contents, IsStored}
use Rattle.step_core.specs.declared.shape.Shape.{Shape}
use Rattle.word_rule.specs.Seats.{SharedWords}
use Rattle.word_rule.specs.Stores.{AreWordsOf}

-- the store that it began from, and its shared words
pub record OpenPhase : Type 0 where
  pub base : Contents
  pub words : SharedWords

-- the words are those of the store, with as many claim words as a phase of it has
pub record AreWordsOfStore (may_claim : Contents → ℕ → Type 0) (base : Contents) (words : SharedWords) : Type 0 where
  pub of_store : AreWordsOf base.election base.ballots words
  pub claims : may_claim base words.shape.claims

-- the words of a phase with their shape
pub record IsPhase (may_claim : Contents → ℕ → Type 0) (base : Contents) (words : SharedWords) (shape : Shape) : Type 0 where
  pub stored : IsStored base
  pub own : AreWordsOfStore may_claim base words
  pub shape_is : shape ≡ words.shape
