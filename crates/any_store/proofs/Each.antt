-- What is so of each of the disks of a store.
use Rattle.std.proofs.Common.{arith}
use Rattle.store_spec.proofs.Common.{DiskModel}
use Rattle.any_store.specs.Disks.{OnEach, Share, StoreDisks, first_of}
use Rattle.any_store.specs.Disks.StoreDisks.{Alone, Parted}

-- what is so of each disk, from what else is
pub each_then : {D : Type 0} (disks : StoreDisks D) (P Q : DiskModel D → Share → Type 0)
    → ((model : DiskModel D) (share : Share) → P model share → Q model share) → OnEach disks P → OnEach disks Q
each_then (Alone model) P Q then p = then model _ p
each_then (Parted more models parts) P Q then p = λ i within. then (models i) _ (p i within)

-- and from two things
pub each_both : {D : Type 0} (disks : StoreDisks D) (P Q R : DiskModel D → Share → Type 0)
    → ((model : DiskModel D) (share : Share) → P model share → Q model share → R model share) → OnEach disks P
    → OnEach disks Q → OnEach disks R
each_both (Alone model) P Q R both p q = both model _ p q
each_both (Parted more models parts) P Q R both p q = λ i within. both (models i) _ (p i within) (q i within)

-- the same of the first one
pub first_then : {D : Type 0} (disks : StoreDisks D) (P : DiskModel D → Share → Type 0) (Q : DiskModel D → Type 0)
    → ((model : DiskModel D) (share : Share) → P model share → Q model) → OnEach disks P → Q (first_of disks)
first_then (Alone model) P Q then p = then model _ p
first_then (Parted more models parts) P Q then p = then (models 0) _ (p 0 (omega arith))
