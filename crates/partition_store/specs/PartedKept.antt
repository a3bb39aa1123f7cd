-- How a store in parts is kept: as the stores of its parts.
use Rattle.std.specs.Prelude.{◌≡◌, All, List, [], ◌∷◌, map}
use Rattle.body_store.specs.Contents.{Contents, IsStored}
use Rattle.partition_store.specs.Parted.{AreBits, AreParts, Parted}
use Rattle.partition_store.specs.declared.store.PartStore.TheInside.{Inside}
use Rattle.store_spec.specs.Ballot.{Ballot}
use Rattle.store_spec.specs.Election.{Election, example}

-- the election of stores: that of the first
abbrev pub election_of : List Contents → Election
election_of [] = example
election_of (store ∷ stores) = store.election

abbrev pub sets_of : List Contents → List (List Ballot)
sets_of stores = map (λ store. store.ballots) stores

-- each is a store of this election
abbrev pub AreStores : Election → List Contents → Type 0
AreStores e stores = All (λ store. (store.election ≡ e) × IsStored store) stores

abbrev pub parted_of : Inside → Parted
parted_of a = record { election = election_of a.parts.items; bits = a.bits; sets = sets_of a.parts.items }

pub record IsPartedKept (a : Inside) : Type 0 where
  pub bits : AreBits a.bits
  pub parts : AreParts a.bits (sets_of a.parts.items)
  pub stores : AreStores (election_of a.parts.items) a.parts.items
