-- How a closed store is kept: the election, the bytes of its image, the number in each cell, and how many have one. The
-- bytes spell what it holds.
use Rattle.std.specs.Prelude.{◌≡◌, drop, length}
use Rattle.body_store.specs.ByNumber.{by_number}
use Rattle.body_store.specs.Contents.{Contents, IsStored}
use Rattle.body_store.specs.Held.{Shows, spelled_in}
use Rattle.body_store.specs.declared.Closed.TheInside.{Inside}
use Rattle.store_spec.specs.Election.{header_size}
use Rattle.store_spec.specs.Layout.{numbers_in}

abbrev pub contents_of : Inside → Contents
contents_of a = record {
  election = a.election.value;
  ballots = by_number (spelled_in a.election.value a.cells (drop header_size a.image.items));
}

pub record IsKept (a : Inside) : Type 0 where
  pub stored : IsStored (contents_of a)
  pub shown : Shows a.election.value (contents_of a).ballots a.image.items a.cells
  pub counted : a.held ≡ length (numbers_in a.cells)
