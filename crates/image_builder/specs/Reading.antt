-- Why the bytes of a bank are read as no set.
use Rattle.std.specs.Prelude.{◌≡◌, ◌≢◌, ℕ, List, take}
use Rattle.image_builder.specs.declared.read.ImageFault.{ImageFault}
use Rattle.image_builder.specs.declared.read.ImageFault.TheVariants.{OtherElection, Damaged, Memory}
use Rattle.store_spec.specs.Damage.{IsFirstWrong}
use Rattle.store_spec.specs.Election.{Election, header_size}
use Rattle.store_spec.specs.Image.{header_of}

-- But for want of memory no bytes allow two of these faults, or one of them and a set whose image they are.
abbrev pub IsRefusedBank : Election → List ℕ → ImageFault → Type 0
IsRefusedBank e bank (OtherElection header) =
    (header ≡ take header_size bank) × (header ≢ header_of e)
IsRefusedBank e bank (Damaged cell) =
    (take header_size bank ≡ header_of e) × IsFirstWrong e bank cell
IsRefusedBank e bank Memory = take header_size bank ≡ header_of e
