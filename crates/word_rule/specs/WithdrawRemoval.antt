-- What a seat of withdrawing does for one number, from its first step on until it is at rest again.
use Rattle.std.specs.Prelude.{◌≡◌, ℕ, ⊤, List, [], ◌∷◌, ◌++◌}
use Rattle.store_spec.specs.WithdrawStep.{WithdrawNote, WithdrawState, WithdrawView}
use Rattle.store_spec.specs.WithdrawStep.WithdrawNote.{Quiet, Gone, Begun, Done}
use Rattle.store_spec.specs.WithdrawStep.WithdrawState.{Rest, Chosen}

-- the number whose removal is begun by now: none while it walks
abbrev pub begun_by_now : ℕ → WithdrawState → List ℕ
begun_by_now x (Chosen y place) = []
begun_by_now x state = x ∷ []

-- while it walks, it walks to the number
abbrev pub WalksTo : ℕ → WithdrawState → Type 0
WalksTo x (Chosen y place) = y ≡ x
WalksTo x state = ⊤

-- It has chosen the number, and nothing else since it was seen so before.
pub record IsRemoving (x : ℕ) (before now : WithdrawView) : Type 0 where
  pub walks : WalksTo x now.state
  pub begun : now.begun ≡ before.begun ++ begun_by_now x now.state
  pub gone : now.gone ≡ before.gone

-- it has removed the number, and is at rest again
pub record HasRemoved (x : ℕ) (before now : WithdrawView) : Type 0 where
  pub at_rest : now.state ≡ Rest
  pub begun : now.begun ≡ before.begun ++ x ∷ []
  pub gone : now.gone ≡ before.gone

-- it has found the number gone, and is at rest
pub record HasFoundGone (x : ℕ) (before now : WithdrawView) : Type 0 where
  pub at_rest : now.state ≡ Rest
  pub begun : now.begun ≡ before.begun
  pub gone : now.gone ≡ before.gone ++ x ∷ []

-- what is done for a number in one call, by its answer: the number is removed, or found gone
abbrev pub Removes : ℕ → WithdrawView → WithdrawNote → WithdrawView → Type 0
Removes x before Quiet now = ⊥
Removes x before Gone now = HasFoundGone x before now
Removes x before Begun now = HasRemoved x before now
Removes x before Done now = ⊥
