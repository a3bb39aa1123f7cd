-- Teams of workers that began with the shares of their lists, and what is left of them for each phase.
use Rattle.std.proofs.Common.{◌≡◌, ◌∙◌, ℕ, zero, suc, All, List, [], ◌∷◌, Option, Some, None, ap, ap₂, arith, get_or, length, map, refl, slice_get, subst, sym, zip}
use Rattle.store_spec.proofs.Common.{get_or_from_slice_get, length-map, length-zip, none-some, same_Some, slice_get-get_or, slice_get-map, slice_get_within}
use Rattle.std.specs.Option.{option_map}
use Rattle.phase_kind.specs.Phase.{OpenPhase}
use Rattle.phase_kind.specs.Table.{IsTurned}
use Rattle.phase_kind.specs.Team.{IsTeam}
use Rattle.phase_kind.specs.Worker.{AreAll, WorkerView, worker_with}

-- what f shows at a place it shows of what stands there
module _ {X Y : Type 0} (f : X → Y) where
  shown_from : (o : Option X) (y : Y) → option_map f o ≡ Some y → (x : X) × (o ≡ Some x) × (y ≡ f x)
  shown_from None y is = absurd (none-some y is)
  shown_from (Some x) y is = (x, refl, sym (same_Some (f x) y is))

  pub mapped_at : (xs : List X) (place : ℕ) (y : Y) → slice_get (map f xs) place ≡ Some y → (x : X) × (slice_get xs place ≡ Some x) × (y ≡ f x)
  mapped_at xs place y there = shown_from (slice_get xs place) y (sym (slice_get-map f xs place) ∙ there)

-- an entry of a column stands in its row
pub row_at : {X : Type 0} (places : ℕ) (rows columns : List (List X)) (place row : ℕ) (column : List X) (x : X) → IsTurned places rows columns → slice_get columns place ≡ Some column → slice_get column row ≡ Some x
    → (entries : List X) × (slice_get rows row ≡ Some entries) × (slice_get entries place ≡ Some x)
row_at {X} places rows columns place row column x turned there at =
    let some : slice_get (map (λ (x : X). Some x) column) row ≡ Some (Some x) = slice_get-map (λ (x : X). Some x) column row ∙ ap (option_map (λ (x : X). Some x)) at in
    let found = mapped_at (λ (entries : List X). slice_get entries place) rows row (Some x) (sym (ap (λ l. slice_get l row) (turned.each place column there)) ∙ some) in
    (found.0, found.1, sym found.2)

-- as many stand in each column as there are rows
pub length-column : {X : Type 0} (places : ℕ) (rows columns : List (List X)) (place : ℕ) (column : List X) → IsTurned places rows columns → slice_get columns place ≡ Some column → length column ≡ length rows
length-column {X} places rows columns place column turned there =
    sym (length-map column (λ (x : X). Some x)) ∙ ap length (turned.each place column there) ∙ length-map rows (λ (entries : List X). slice_get entries place)

-- the two sides of a pair of lists
pub zipped_at : {X Y : Type 0} (xs : List X) (ys : List Y) (place : ℕ) (both : X × Y) → slice_get (zip xs ys) place ≡ Some both → (slice_get xs place ≡ Some both.0) × (slice_get ys place ≡ Some both.1)
zipped_at [] ys place both there = absurd (none-some both there)
zipped_at (x ∷ xs) [] place both there = absurd (none-some both there)
zipped_at (x ∷ xs) (y ∷ ys) zero both there =
    let is = same_Some (x, y) both there in
    (ap (λ p. Some p.0) is, ap (λ p. Some p.1) is)
zipped_at (x ∷ xs) (y ∷ ys) (suc place) both there = zipped_at xs ys place both there

-- lists are one where they show the same at each place
pub same_at_each : {X : Type 0} (xs ys : List X) → length xs ≡ length ys → ((place : ℕ) (x y : X) → slice_get xs place ≡ Some x → slice_get ys place ≡ Some y → x ≡ y) → xs ≡ ys
same_at_each [] [] same each = refl
same_at_each [] (y ∷ ys) same each = absurd (omega arith)
same_at_each (x ∷ xs) [] same each = absurd (omega arith)
same_at_each (x ∷ xs) (y ∷ ys) same each =
    ap (λ z. z ∷ xs) (each 0 x y refl refl) ∙ ap (λ l. y ∷ l) (same_at_each xs ys (omega arith) (λ place. each (suc place)))

pub zipped_there : {X Y : Type 0} (xs : List X) (ys : List Y) (place : ℕ) (x : X) (y : Y) → slice_get xs place ≡ Some x → slice_get ys place ≡ Some y → slice_get (zip xs ys) place ≡ Some (x, y)
zipped_there [] ys place x y at_x at_y = absurd (none-some x at_x)
zipped_there (a ∷ xs) [] place x y at_x at_y = absurd (none-some y at_y)
zipped_there {X} {Y} (a ∷ xs) (b ∷ ys) zero x y at_x at_y = ap₂ (λ (x : X) (y : Y). Some (x, y)) (same_Some a x at_x) (same_Some b y at_y)
zipped_there (a ∷ xs) (b ∷ ys) (suc place) x y at_x at_y = zipped_there xs ys place x y at_x at_y

-- what holds of all holds of what stands at a place
pub holds_at : {X : Type 0} (P : X → Type 0) (xs : List X) (place : ℕ) (x : X) → All P xs → slice_get xs place ≡ Some x → P x
holds_at P xs place x all there = subst P (get_or_from_slice_get xs place x x there) (all place x (slice_get_within xs place x there))

-- an entry of a row stands in its column
pub column_at : {X : Type 0} (places : ℕ) (rows columns : List (List X)) (place row : ℕ) (entries column : List X) (x : X) → IsTurned places rows columns → slice_get columns place ≡ Some column → slice_get rows row ≡ Some entries → slice_get entries place ≡ Some x → slice_get column row ≡ Some x
column_at {X} places rows columns place row entries column x turned there at here =
    let some : slice_get (map (λ (x : X). Some x) column) row ≡ Some (Some x) =
    ap (λ l. slice_get l row) (turned.each place column there) ∙ slice_get-map (λ (entries : List X). slice_get entries place) rows row ∙ ap (option_map (λ (entries : List X). slice_get entries place)) at ∙ ap (λ o. Some o) here in
    let found = mapped_at (λ (x : X). Some x) column row (Some x) some in
    found.1 ∙ sym found.2

module _ {V I R : Type 0} (fresh : V) where
  -- new workers of several phases, each with its list
  abbrev pub new_rows : List OpenPhase → List (List (List I)) → List (List (WorkerView V I R))
  new_rows phases lists = map (λ at. map (worker_with {V = V} {I = I} {R = R} fresh at.0) at.1) (zip phases lists)

  new_at : (phases : List OpenPhase) (lists : List (List (List I))) (place at : ℕ) (row : List (WorkerView V I R)) (worker : WorkerView V I R) → slice_get (new_rows phases lists) place ≡ Some row → slice_get row at ≡ Some worker
      → (phase : OpenPhase) × (list : List I) × (given : List (List I)) × (slice_get phases place ≡ Some phase) × (slice_get lists place ≡ Some given) × (slice_get given at ≡ Some list) × (worker ≡ worker_with fresh phase list)
  new_at phases lists place at row worker there here =
      let of_row = mapped_at (λ (at : OpenPhase × List (List I)). map (worker_with {V = V} {I = I} {R = R} fresh at.0) at.1) (zip phases lists) place row there in
      let both = of_row.0 in
      let parts = zipped_at phases lists place both of_row.1 in
      let in_row = mapped_at (worker_with {V = V} {I = I} {R = R} fresh both.0) both.1 at worker (sym (ap (λ (l : List (WorkerView V I R)). slice_get l at) of_row.2) ∙ here) in
      (both.0, in_row.0, both.1, parts.0, parts.1, in_row.1, in_row.2)

  -- turned round they are teams
  pub new_teams : (phases : List OpenPhase) (lists : List (List (List I))) (workers : ℕ) (teams : List (List (WorkerView V I R))) → length lists ≡ length phases → IsTurned workers (new_rows phases lists) teams → All (IsTeam phases) teams
  new_teams phases lists workers teams same turned w d within =
      let team = get_or teams w d in
      let there = slice_get-get_or teams w d within in
      let many = length-column workers (new_rows phases lists) teams w team turned there in
      let rows = length-map (zip phases lists) (λ (at : OpenPhase × List (List I)). map (worker_with {V = V} {I = I} {R = R} fresh at.0) at.1) in
      same_at_each (map (λ (worker : WorkerView V I R). worker.phase) team) phases
      (omega (arith, length-map team (λ (worker : WorkerView V I R). worker.phase), many, rows, length-zip phases lists, same))
      (λ place phase other is other_is.
      let found = mapped_at (λ (worker : WorkerView V I R). worker.phase) team place phase is in
      let row = row_at workers (new_rows phases lists) teams w place team found.0 turned there found.1 in
      let new = new_at phases lists place w row.0 found.0 row.1 row.2 in
      found.2 ∙ ap (λ (worker : WorkerView V I R). worker.phase) new.6 ∙ same_Some new.0 other (sym new.3 ∙ other_is))

  -- Where the lists of the phases are those of the teams, turned round, a worker is new, with the list that its team has at
  -- its place.
  pub new_in_team : (phases : List OpenPhase) (lists shared : List (List (List I))) (workers places : ℕ) (teams : List (List (WorkerView V I R))) (w place : ℕ) (team : List (WorkerView V I R)) (worker : WorkerView V I R)
      → IsTurned workers (new_rows phases lists) teams → IsTurned places shared lists → slice_get teams w ≡ Some team → slice_get team place ≡ Some worker
      → (phase : OpenPhase) × (list : List I) × (given : List (List I)) × (slice_get shared w ≡ Some given) × (slice_get given place ≡ Some list) × (worker ≡ worker_with fresh phase list)
  new_in_team phases lists shared workers places teams w place team worker turned planned there at =
      let row = row_at workers (new_rows phases lists) teams w place team worker turned there at in
      let new = new_at phases lists place w row.0 worker row.1 row.2 in
      let share = row_at places shared lists place w new.2 new.1 planned new.4 new.5 in
      (new.0, new.1, share.0, share.1, share.2, new.6)

module _ {V I R : Type 0} where
  -- the workers of one phase, once teams are turned round
  pub column_belongs : (phases : List OpenPhase) (places : ℕ) (teams columns : List (List (WorkerView V I R))) (place : ℕ) (phase : OpenPhase) (column : List (WorkerView V I R))
      → All (IsTeam phases) teams → All (All (λ worker. worker.waiting ≡ [])) teams → IsTurned places teams columns → slice_get phases place ≡ Some phase → slice_get columns place ≡ Some column → length teams ≡ phase.words.seats → AreAll phase column
  column_belongs phases places teams columns place phase column belong idle turned of there seats = record {
    all = length-column places teams columns place column turned there ∙ seats;
    belong = λ w d within.
        let worker = get_or column w d in
        let row = row_at places teams columns place w column worker turned there (slice_get-get_or column w d within) in
        let team = row.0 in
        let at : slice_get (map (λ (worker : WorkerView V I R). worker.phase) team) place ≡ Some worker.phase =
        slice_get-map (λ (worker : WorkerView V I R). worker.phase) team place ∙ ap (option_map (λ (worker : WorkerView V I R). worker.phase)) row.2 in
        same_Some worker.phase phase (sym at ∙ ap (λ l. slice_get l place) (holds_at (IsTeam phases) teams w team belong row.1) ∙ of);
    idle = λ w d within.
        let worker = get_or column w d in
        let row = row_at places teams columns place w column worker turned there (slice_get-get_or column w d within) in
        holds_at (λ (worker : WorkerView V I R). worker.waiting ≡ []) row.0 place worker (holds_at (All (λ (worker : WorkerView V I R). worker.waiting ≡ [])) teams w row.0 idle row.1) row.2;
  }
