-- A disk: the bytes that a read gives now, and what a crash may leave at each moment. What was not synced may be lost,
-- torn or reordered. The words take the members of a disk: `calls`, how many calls were made, and `may_leave`, what
-- a crash at a moment may leave. Each list of bytes that it may leave is a crash image.
use Rattle.std.specs.Prelude.{◌≡◌, ◌↔◌, ◌⊎◌, ℕ, ◌+◌, ◌*◌, ◌<◌, ◌≤◌, max, List, ◌++◌, length, take, drop, Option, Some, None}
use Rattle.store_spec.specs.Fault.{last_count, next_count}

-- the members of a disk, as its trait has them
pub record DiskModel (D : Type 0) : Type 1 where
  pub seen : D → Option (List ℕ)
  pub calls : D → ℕ
  pub may_leave : D → ℕ → List ℕ → Type 0
  pub faults : D → ℕ

abbrev pub disk_model : {D : Type 0} → (D → Option (List ℕ)) → (D → ℕ) → (D → ℕ → List ℕ → Type 0) → (D → ℕ) → DiskModel D
disk_model seen calls may_leave faults = record { seen = seen; calls = calls; may_leave = may_leave; faults = faults }

-- ---- moments

-- The moments in their order: after so many calls, and inside the next one.
abbrev pub after_calls : ℕ → ℕ
after_calls n = 2 * n

abbrev pub inside_next : ℕ → ℕ
inside_next n = 2 * n + 1

-- what a crash now may leave
abbrev pub leaves_now : {D : Type 0} → (D → ℕ) → (D → ℕ → List ℕ → Type 0) → D → List ℕ → Type 0
leaves_now calls may_leave disk image = may_leave disk (after_calls (calls disk)) image

-- ---- a written range

-- the bytes after a write that succeeds
abbrev pub overwritten : ℕ → List ℕ → List ℕ → List ℕ
overwritten at bytes old = take at old ++ bytes ++ drop (at + length bytes) old

-- A range of n bytes may hold anything, and so may what lies past the old end, up to the end of the range. The bytes
-- outside stay, and the size is the old one, the new one, or one between.
pub record IsTorn (at n : ℕ) (old new : List ℕ) : Type 0 where
  pub before : take at new ≡ take at old
  pub behind : drop (at + n) new ≡ drop (at + n) old
  pub no_shorter : length old ≤ length new
  pub no_longer : length new ≤ max (length old) (at + n)

-- the images of before, each with that range torn
abbrev pub torn_from : ℕ → ℕ → (List ℕ → Type 0) → List ℕ → Type 0
torn_from at n images image = (old : List ℕ) × images old × IsTorn at n old image

-- what a read gives after a write that failed, where the disk tells it
abbrev pub SeenTorn : ℕ → ℕ → Option (List ℕ) → Option (List ℕ) → Type 0
SeenTorn at n None None = Unit {0}
SeenTorn at n (Some old) (Some new) = IsTorn at n old new
SeenTorn at n old new = ⊥

-- ---- what one call does

-- The call is counted. No moment up to its start changes, and what a crash inside the call or after it may leave
-- is among these images.
pub record LeavesAtMost {D : Type 0} (calls : D → ℕ) (may_leave : D → ℕ → List ℕ → Type 0) (images : List ℕ → Type 0) (old new : D) : Type 0 where
  pub counted : calls new ≡ next_count (calls old)
  pub past : calls old < last_count → (m : ℕ) → m ≤ after_calls (calls old) → (c : List ℕ) → may_leave new m c ↔ may_leave old m c
  pub inside : calls old < last_count → (c : List ℕ) → may_leave new (inside_next (calls old)) c → images c
  pub after : (c : List ℕ) → leaves_now calls may_leave new c → images c

-- a crash inside the call may leave each of these images
abbrev pub MayLeaveInside : {D : Type 0} → (D → ℕ) → (D → ℕ → List ℕ → Type 0) → (List ℕ → Type 0) → D → D → Type 0
MayLeaveInside calls may_leave images old new =
    calls old < last_count → (c : List ℕ) → images c → may_leave new (inside_next (calls old)) c

-- what a crash inside the call or after it may leave is exactly these images
pub record LeavesExactly {D : Type 0} (calls : D → ℕ) (may_leave : D → ℕ → List ℕ → Type 0) (images : List ℕ → Type 0) (old new : D) : Type 0 where
  pub at_most : LeavesAtMost calls may_leave images old new
  pub inside : MayLeaveInside calls may_leave images old new
  pub after : (c : List ℕ) → images c → leaves_now calls may_leave new c

-- the crash images stay as they are
abbrev pub KeepsCrashImages : {D : Type 0} → (D → ℕ) → (D → ℕ → List ℕ → Type 0) → D → D → Type 0
KeepsCrashImages calls may_leave old new = LeavesExactly calls may_leave (leaves_now calls may_leave old) old new

-- there is no new one
abbrev pub AddsNoCrashImage : {D : Type 0} → (D → ℕ) → (D → ℕ → List ℕ → Type 0) → D → D → Type 0
AddsNoCrashImage calls may_leave old new = LeavesAtMost calls may_leave (leaves_now calls may_leave old) old new

-- inside the call each of them is still one
abbrev pub KeepsThemInside : {D : Type 0} → (D → ℕ) → (D → ℕ → List ℕ → Type 0) → D → D → Type 0
KeepsThemInside calls may_leave old new = MayLeaveInside calls may_leave (leaves_now calls may_leave old) old new

-- each is one of those before, with the range of n bytes from `at` on torn
abbrev pub TearsAtMost : {D : Type 0} → (D → ℕ) → (D → ℕ → List ℕ → Type 0) → ℕ → ℕ → D → D → Type 0
TearsAtMost calls may_leave at n old new = LeavesAtMost calls may_leave (torn_from at n (leaves_now calls may_leave old)) old new

-- and each of these is one
abbrev pub TearsExactly : {D : Type 0} → (D → ℕ) → (D → ℕ → List ℕ → Type 0) → ℕ → ℕ → D → D → Type 0
TearsExactly calls may_leave at n old new = LeavesExactly calls may_leave (torn_from at n (leaves_now calls may_leave old)) old new

-- a crash now leaves exactly what a read gives
abbrev pub IsSettled : {D : Type 0} → (D → Option (List ℕ)) → (D → ℕ) → (D → ℕ → List ℕ → Type 0) → D → Type 0
IsSettled seen calls may_leave disk = (c : List ℕ) → leaves_now calls may_leave disk c ↔ (seen disk ≡ Some c)

-- ---- what a run of calls does

-- each crash image of each moment from one to another has P
abbrev pub EachCrashImage : (ℕ → List ℕ → Type 0) → ℕ → ℕ → (List ℕ → Type 0) → Type 0
EachCrashImage may_leave from to P = (m : ℕ) → from ≤ m → m ≤ to → (c : List ℕ) → may_leave m c → P c

-- From one state of a disk to a later one: no moment up to the first changes, and from there on, with both ends,
-- each crash image of each moment has P. It speaks of moments where the count has not come to its last value, and of
-- what a crash now may leave.
pub record LeavesOnly {D : Type 0} (calls : D → ℕ) (may_leave : D → ℕ → List ℕ → Type 0) (old new : D) (P : List ℕ → Type 0) : Type 0 where
  pub later : calls old ≤ calls new
  pub past : calls new < last_count → (m : ℕ) → m ≤ after_calls (calls old) → (c : List ℕ) → may_leave new m c ↔ may_leave old m c
  pub each : calls new < last_count → EachCrashImage (may_leave new) (after_calls (calls old)) (after_calls (calls new)) P
  pub now : (c : List ℕ) → leaves_now calls may_leave new c → P c

-- The same where the first call is a sync that succeeds: until it has returned a crash leaves what it might have left
-- before, and from then on each crash image of each moment has P.
pub record LeavesOnlyOnceSynced {D : Type 0} (calls : D → ℕ) (may_leave : D → ℕ → List ℕ → Type 0) (old new : D) (P : List ℕ → Type 0) : Type 0 where
  pub later : calls old ≤ calls new
  pub past : calls new < last_count → (m : ℕ) → m ≤ after_calls (calls old) → (c : List ℕ) → may_leave new m c ↔ may_leave old m c
  pub before : calls new < last_count → EachCrashImage (may_leave new) (after_calls (calls old)) (inside_next (calls old)) (leaves_now calls may_leave old)
  pub each : calls new < last_count → EachCrashImage (may_leave new) (after_calls (calls old + 1)) (after_calls (calls new)) P
  pub now : (c : List ℕ) → leaves_now calls may_leave new c → P c

-- Or that sync fails. Then nothing more is called, and a crash leaves what it might have left before.
abbrev pub SyncsFirst : {D : Type 0} → (D → ℕ) → (D → ℕ → List ℕ → Type 0) → D → D → (List ℕ → Type 0) → Type 0
SyncsFirst calls may_leave old new P =
    LeavesOnlyOnceSynced calls may_leave old new P ⊎ KeepsCrashImages calls may_leave old new

-- a crash now leaves these bytes, but for a range of n bytes from `at` on
abbrev pub LeavesTorn : {D : Type 0} → (D → ℕ) → (D → ℕ → List ℕ → Type 0) → ℕ → ℕ → List ℕ → D → Type 0
LeavesTorn calls may_leave at n bytes disk = (c : List ℕ) → leaves_now calls may_leave disk c → IsTorn at n bytes c
