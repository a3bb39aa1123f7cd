-- The words of the medium, for a bank as the program names it and for a disk that may not tell its bytes.
use Rattle.std.specs.Prelude.{◌≡◌, ℕ, List, length, Option}
use Rattle.std.specs.Option.{ForSome}
use Rattle.bank_medium.specs.declared.place.Bank.{Bank}
use Rattle.bank_medium.specs.declared.place.Bank.TheVariants.{A, B}
use Rattle.store_spec.specs.Disk.{leaves_now}
use Rattle.store_spec.specs.Election.{Election, medium_size}
use Rattle.store_spec.specs.Medium as medium

-- the bank with this name
abbrev pub bank_named : Bank → medium.Bank
bank_named A = medium.Bank.A
bank_named B = medium.Bank.B

abbrev pub place_of : Election → Bank → ℕ
place_of e bank = medium.bank_place e (bank_named bank)

abbrev pub gate_of : Election → Bank → ℕ
gate_of e bank = medium.gate_place e (bank_named bank)

abbrev pub bytes_of : Election → Bank → List ℕ → List ℕ
bytes_of e bank bytes = medium.bank_of e (bank_named bank) bytes

abbrev pub HasOpen : Election → Bank → List ℕ → Type 0
HasOpen e bank bytes = medium.IsOpen e (bank_named bank) bytes

-- where the bytes are told, they are as many as a medium has
abbrev pub HasMediumSize : Election → Option (List ℕ) → Type 0
HasMediumSize e seen = ForSome seen (λ bytes. length bytes ≡ medium_size e)

-- a crash now leaves only bytes from which this bank is not read
abbrev pub LeavesUnread : {D : Type 0} → (D → ℕ) → (D → ℕ → List ℕ → Type 0) → Election → Bank → D → Type 0
LeavesUnread calls may_leave e bank disk = (c : List ℕ) → leaves_now calls may_leave disk c → medium.IsUnread e (bank_named bank) c
