use Rattle.std.proofs.Common.{ℕ, refl, inl, inr, arith}
use Rattle.store_spec.proofs.withdraw_figures.example_stale_candidate.Goals as goal
use Rattle.store_spec.specs.WithdrawFigures.{example_home}
use Rattle.store_spec.specs.WithdrawStep.{Fits}
use Rattle.store_spec.specs.WithdrawStep.FirstRow.{chose}
use Rattle.store_spec.specs.WithdrawStep.WithdrawRow.{walked_on, began, found_owed, looked_lower, looked_higher, found_candidate, kept_candidate, emptied, refilled}

-- the home of 14 lies past cell 4, whatever number leaves that cell
fourteen_stays : (x : ℕ) → ¬ Fits example_home x 4 14
fourteen_stays x (inl e) = absurd (omega (arith, e))
fourteen_stays x (inr (near, lower)) = absurd (omega (arith, near))

pub returns : goal.returns
returns c = record {
  cells_before = refl;
  one_chooses = chose;
  one_begins = began (omega arith);
  one_finds_22 = found_owed;
  one_passes_14 = looked_higher (fourteen_stays 22);
  one_sees_9 = found_candidate (inr (omega arith, omega arith));
  one_comes_back = kept_candidate (omega arith) (fourteen_stays 22);
  two_chooses = chose;
  two_passes_22 = walked_on (omega arith);
  two_passes_14 = walked_on (omega arith);
  two_begins = began (omega arith);
  two_finds_9 = found_owed;
  two_sees_1 = found_candidate (inr (omega arith, omega arith));
  two_puts_1 = refilled (omega arith);
  two_finds_1 = found_owed;
  two_sees_none = found_candidate (inl refl);
  two_empties = emptied;
  one_puts_9 = refilled (omega arith);
  one_misses_9 = looked_lower (omega arith);
  one_misses_9_again = looked_lower (omega arith);
  one_finds_9 = found_owed;
  one_passes_14_again = looked_higher (fourteen_stays 9);
  one_sees_1 = found_candidate (inr (omega arith, omega arith));
  one_comes_back_again = kept_candidate (omega arith) (fourteen_stays 9);
  one_puts_1 = refilled (omega arith);
  one_finds_1 = found_owed;
  one_sees_none = found_candidate (inl refl);
  one_empties = emptied;
  cells_after = refl;
}
