-- Several media: the one whose bytes are `content.disk`, and the further ones.
use Rattle.std.specs.Prelude.{List, ◌∷◌}
use Rattle.std.specs.List.{AllZip}
use Rattle.run_outcome.specs.Row.{Content}
use Rattle.store_spec.specs.Ballot.{Ballot}
use Rattle.store_spec.specs.Election.{Election}
use Rattle.store_spec.specs.Medium.{HoldsSet}

-- all media hold sets, for which this is so; the first one's stands first
pub record MediaHold (e : Election) (content : Content) (So : List (List Ballot) → Type 0) : Type 0 where
  pub set : List Ballot
  pub sets : List (List Ballot)
  pub held : HoldsSet e content.disk set
  pub each : AllZip (HoldsSet e) content.more sets
  pub so : So (set ∷ sets)
