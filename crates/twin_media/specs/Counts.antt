-- The counts of calls of a disk over two disks.
use Rattle.std.specs.Prelude.{◌≡◌, ℕ, ◌+◌, ◌≤◌, ◌⊎◌, Option, Some, None, IsSome}
use Rattle.store_spec.specs.Fault.{last_count}

-- Where no call failed, the twin's count of calls is the first disk's, and both disks' counts rose alike. After a call
-- that failed the disks are called no more, and each made that call or did not make it.
pub record AreCounted (failed : Option ℕ) (first_calls second_calls first_begun second_begun passed calls : ℕ) : Type 0 where
  pub begun : first_begun ≤ passed
  pub first_passed : passed ≤ first_calls
  pub second_passed : passed + second_begun ≤ second_calls + first_begun
  pub first_counted : first_calls ≤ calls
  pub second_counted : second_calls + first_begun ≤ calls + second_begun
  pub all_passed : failed ≡ None → calls ≡ passed

-- a call that did not fail raised each count by one
pub record IsInStep (first_calls second_calls first_begun second_begun passed calls : ℕ) : Type 0 where
  pub first : first_calls ≡ passed + 1
  pub second : second_calls + first_begun ≡ passed + 1 + second_begun
  pub all : calls ≡ passed + 1

-- a call failed in place of both disks: after one that failed, or where a disk can count no more calls
abbrev pub IsTwinRefused : Option ℕ → Option ℕ → ℕ → ℕ → Type 0
IsTwinRefused old new first_calls second_calls =
    (IsSome old × (new ≡ old))
    ⊎ ((old ≡ None) × (((new ≡ Some 0) × (last_count ≤ first_calls + 2)) ⊎ ((new ≡ Some 1) × (last_count ≤ second_calls + 2))))
