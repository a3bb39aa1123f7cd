-- Counts of the outside. A source, a sink and a disk count their faults, and a disk its calls. A count never falls, and
-- stays at 2 ^ 64 - 1 once it is there.
use Rattle.std.specs.Prelude.{◌≡◌, ℕ, ◌+◌, ◌<◌, ◌≤◌, nat_lt, if◌then◌else◌, Result, OnOk, OnErr}

-- the last value of a count
abbrev pub last_count : ℕ
last_count = 18446744073709551615

-- a count after one more
abbrev pub next_count : ℕ → ℕ
next_count n = if nat_lt n last_count then n + 1 else n

-- a count rose from one value to another, or stands at its last value
abbrev pub Rose : ℕ → ℕ → Type 0
Rose before now = now < last_count → before < now

-- An object's count of faults before and after a call on it: a call fails only where the count rose, and one that
-- succeeds leaves it as it was.
pub record CountsFault {T E : Type 0} (result : Result T E) (before now : ℕ) : Type 0 where
  pub never_falls : before ≤ now
  pub steady : OnOk result (now ≡ before)
  pub rose : OnErr result (Rose before now)

-- The same of a call that makes calls on the object, and whose answer says whether one of them failed.
pub record CountsFaultIf (failed : Type 0) (before now : ℕ) : Type 0 where
  pub never_falls : before ≤ now
  pub steady : ¬ failed → now ≡ before
  pub rose : failed → Rose before now
