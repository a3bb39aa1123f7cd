-- What a phase of withdrawing and a phase of finding make of the numbers in their lists, in whatever order their steps
-- came.
use Rattle.std.specs.Prelude.{◌≡◌, ◌≢◌, ℕ, ◌==◌, Bool, true, false, not, IsTrue, ◌↔◌, List, map, flat_map, filter, count_by, All, AllPairs, Contains}
use Rattle.std.specs.List.{list_any}

-- ---- withdrawing

-- what a number is answered: it is withdrawn here; it is withdrawn, but here it was found gone; it is not held
pub data WithdrawReply : Type 0 where
  Withdrawn : WithdrawReply
  Gone : WithdrawReply
  Absent : WithdrawReply

-- a number of a list, and its reply
pub record Withdrawal : Type 0 where
  pub number : ℕ
  pub reply : WithdrawReply

-- the numbers of lists
abbrev pub listed : List (List Withdrawal) → List ℕ
listed lists = flat_map (map (λ a. a.number)) lists

abbrev pub is_withdrawn : WithdrawReply → Bool
is_withdrawn Withdrawn = true
is_withdrawn Gone = false
is_withdrawn Absent = false

-- the numbers that are answered with Withdrawn, list by list
abbrev pub withdrawn_in : List (List Withdrawal) → List ℕ
withdrawn_in lists = flat_map (λ answers. map (λ a. a.number) (filter (λ a. is_withdrawn a.reply) answers)) lists

-- the numbers of a set that are none of these
abbrev pub without : List ℕ → List ℕ → List ℕ
without numbers others = filter (λ x. not (list_any (λ other. other == x) others)) numbers

-- what a reply says of its number
abbrev pub IsRightWithdrawal : List ℕ → ℕ → WithdrawReply → Type 0
IsRightWithdrawal held x Withdrawn = Contains held x
IsRightWithdrawal held x Gone = Contains held x
IsRightWithdrawal held x Absent = ¬ Contains held x

-- One answer may stand before another of its list: what was found gone is not withdrawn later.
abbrev pub MayBeWithdrawnBefore : Withdrawal → Withdrawal → Type 0
MayBeWithdrawnBefore earlier later = earlier.number ≡ later.number → earlier.reply ≡ Gone → later.reply ≢ Withdrawn

-- The outcome of a withdrawing phase from the set `held` to the set `after`: the set loses the listed numbers, each of
-- which that it held is answered once with Withdrawn.
pub record WithdrawOutcome (held : List ℕ) (lists : List (List Withdrawal)) (after : List ℕ) : Type 0 where
  pub rest : after ≡ without held (listed lists)
  pub answers : All (All (λ a. IsRightWithdrawal held a.number a.reply)) lists
  pub once : (x : ℕ) → Contains held x → Contains (listed lists) x → count_by (λ n. n == x) (withdrawn_in lists) ≡ 1
  pub in_order : All (AllPairs MayBeWithdrawnBefore) lists

-- ---- finding

-- a number of a list, and whether it is held
pub record Finding : Type 0 where
  pub number : ℕ
  pub present : Bool

-- the outcome of a finding phase: each answer is right, and the set stays
pub record FindOutcome (held : List ℕ) (lists : List (List Finding)) (after : List ℕ) : Type 0 where
  pub answers : All (All (λ a. IsTrue a.present ↔ Contains held a.number)) lists
  pub stays : after ≡ held
