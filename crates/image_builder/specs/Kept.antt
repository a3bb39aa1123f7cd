-- How a reader keeps what it was fed: the bytes, and what was judged of them.
use Rattle.std.specs.Prelude.{◌≤◌, length, vec_capacity}
use Rattle.image_builder.specs.Cells.{AreJudged}
use Rattle.image_builder.specs.Feeding.{Feeding}
use Rattle.image_builder.specs.declared.reader.ImageReader.TheInside.{Inside}
use Rattle.store_spec.specs.Election.{IsElection, bank_size}

abbrev pub feeding_of : Inside → Feeding
feeding_of a = record { election = a.election.value; fed = a.image.items }

pub record IsKept (a : Inside) : Type 0 where
  pub election : IsElection a.election.value
  pub judged : AreJudged a.election.value a.cells a.image.items
  pub within : length a.image.items ≤ bank_size a.election.value
  pub room : bank_size a.election.value ≤ vec_capacity a.image
