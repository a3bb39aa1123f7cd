-- The tray of a worker, as callers see it.
use Rattle.std.specs.Prelude.{List, map, zip}

-- an item that was answered, and its reply
pub record AnsweredItem (I R : Type 0) : Type 0 where
  pub item : I
  pub reply : R

-- items beside their replies
abbrev pub answered_items : {I R : Type 0} → List I → List R → List (AnsweredItem I R)
answered_items items replies = map (λ row. record { item = row.0; reply = row.1 }) (zip items replies)
