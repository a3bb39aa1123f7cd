-- Rows of workers as teams.
use Rattle.std.proofs.Common.{◌≡◌, ℕ, List, [], ◌∷◌, Global, Vec, ap, arith, length, map, refl, zip}
use Rattle.phase_kind.specs.Team.{TeamView, new_team}
use Rattle.phase_kind.specs.Worker.{WorkerView}

module _ {V I R : Type 0} where
  abbrev team_of : Vec (WorkerView V I R) Global × Vec ℕ Global → TeamView V I R
  team_of at = new_team at.0.items at.1.items

  -- their workers are those of the rows
  pub teamed_rows : (rows : List (Vec (WorkerView V I R) Global)) (orders : List (Vec ℕ Global)) → length rows ≡ length orders → map (λ (team : TeamView V I R). team.workers) (map team_of (zip rows orders)) ≡ map (λ (row : Vec (WorkerView V I R) Global). row.items) rows
  teamed_rows [] orders same = refl
  teamed_rows (row ∷ rows) [] same = absurd (omega arith)
  teamed_rows (row ∷ rows) (order ∷ orders) same = ap (λ l. row.items ∷ l) (teamed_rows rows orders (omega arith))
