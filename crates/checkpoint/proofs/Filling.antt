-- The runs of calls that renew a bank.
use Rattle.std.proofs.Common.{◌≡◌, ℕ, List, [], ◌∷◌, length}
use Rattle.store_spec.proofs.Common.{AddsNoCrashImage, Bank, Election, IsOpen, IsTorn, LeavesOnly, bank_place, bank_size, closed_gate, gate_place, medium_size, overwritten}
use Rattle.crash_disk.proofs.Moments.{goes_on_same, joined, weaker}
use Rattle.checkpoint.proofs.Renewing.{closing_half, half_on, opening_half, pages_half}
use Rattle.checkpoint.specs.Renewal.{IsHalfRenewed}

module _ {D : Type 0} (calls : D → ℕ) (may_leave : D → ℕ → List ℕ → Type 0) (e : Election) (bank : Bank) (image old : List ℕ) (long : length old ≡ medium_size e) where
  -- pages are written behind a closed gate
  pub run_pages : (first written : D) → length image ≡ bank_size e → ¬ IsOpen e bank old → LeavesOnly calls may_leave first written (IsTorn (bank_place e bank) (bank_size e) old)
      → LeavesOnly calls may_leave first written (IsHalfRenewed e bank image old)
  run_pages first written fits shut run =
      weaker calls may_leave first written (IsTorn (bank_place e bank) (bank_size e) old) (IsHalfRenewed e bank image old) (λ c torn. pages_half e bank image old long fits c shut torn) run

  -- they are settled
  pub run_settling : (first written settled : D) → LeavesOnly calls may_leave first written (IsHalfRenewed e bank image old) → AddsNoCrashImage calls may_leave written settled
      → LeavesOnly calls may_leave first settled (IsHalfRenewed e bank image old)
  run_settling first written settled run sync = goes_on_same calls may_leave first written settled (IsHalfRenewed e bank image old) run sync

  -- the gate is opened
  pub run_opening : (first settled opened : D) → length image ≡ bank_size e → LeavesOnly calls may_leave first settled (IsHalfRenewed e bank image old)
      → LeavesOnly calls may_leave settled opened (IsTorn (gate_place e bank) 1 (overwritten (bank_place e bank) image old))
      → LeavesOnly calls may_leave first opened (IsHalfRenewed e bank image old)
  run_opening first settled opened fits run opening =
      joined calls may_leave first settled opened (IsHalfRenewed e bank image old) run
      (weaker calls may_leave settled opened (IsTorn (gate_place e bank) 1 (overwritten (bank_place e bank) image old)) (IsHalfRenewed e bank image old) (λ c torn. opening_half e bank image old long fits c torn) opening)

  -- an open gate is closed
  pub run_closing : (first shut : D) → IsOpen e bank old → LeavesOnly calls may_leave first shut (IsTorn (gate_place e bank) 1 old) → LeavesOnly calls may_leave first shut (IsHalfRenewed e bank image old)
  run_closing first shut was run =
      weaker calls may_leave first shut (IsTorn (gate_place e bank) 1 old) (IsHalfRenewed e bank image old) (λ c torn. closing_half e bank image old long c was torn) run

  -- and the bank is filled
  pub run_filling : (first shut filled : D) → LeavesOnly calls may_leave first shut (IsHalfRenewed e bank image old)
      → LeavesOnly calls may_leave shut filled (IsHalfRenewed e bank image (overwritten (gate_place e bank) (closed_gate ∷ []) old))
      → LeavesOnly calls may_leave first filled (IsHalfRenewed e bank image old)
  run_filling first shut filled run filling =
      joined calls may_leave first shut filled (IsHalfRenewed e bank image old) run
      (weaker calls may_leave shut filled (IsHalfRenewed e bank image (overwritten (gate_place e bank) (closed_gate ∷ []) old)) (IsHalfRenewed e bank image old) (λ c half. half_on e bank image old long c half) filling)
