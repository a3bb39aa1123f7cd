-- Where a ballot number belongs: a multiplicative hash of 64 bits (Knuth, The Art of Computer Programming,
-- volume 3, section 6.4), of which the top bits are taken.
use Rattle.std.specs.Prelude.{ℕ, ◌*◌, ◌-◌, ◌/◌, ◌%◌, ◌^◌, bit_xor}
use Rattle.store_spec.specs.Election.{Election}

-- 2 ^ 64 divided by the golden ratio
abbrev pub multiplier : ℕ
multiplier = 0x9E3779B97F4A7C15

-- the top bits of the product that is left in 64 bits; 0 where there are no bits
abbrev pub home_of : ℕ → ℕ → ℕ → ℕ
home_of bits salt number = bit_xor number salt * multiplier % 2 ^ 64 / 2 ^ (64 - bits)

-- the homes of an election's numbers
abbrev pub home_in : Election → ℕ → ℕ
home_in e = home_of e.bits e.salt
