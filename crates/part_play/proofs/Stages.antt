-- The stages of phases that are played at once: how they are planned, begun, handled and closed.
use Rattle.std.proofs.Common.{◌≡◌, ◌<◌, ◌++◌, ◌∙◌, ℕ, suc, All, Bool, true, false, List, [], ◌∷◌, Option, Some, ap, ap₂, arith, cond, get_or, length, length-append, map, refl, slice_get, subst, sym, zip}
use Rattle.store_spec.proofs.Common.{All-map, All-nil, All-push, Ballot, length-map, length-zip, map-map, map_push, slice_get-get_or, slice_get-map, slice_get_within}
use Rattle.std.specs.Option.{option_map}
use Rattle.std.specs.Prelude.{◌==◌}
use Rattle.body_store.specs.Contents.{Contents}
use Rattle.part_play.specs.Several.{AreAllShared, AreReady, HaveBegun, HaveClosed, HaveEnded, HaveWork, IsClosedWith}
use Rattle.phase_kind.proofs.Counts.{something_there}
use Rattle.phase_kind.proofs.Planned.{column_belongs, holds_at, length-column, mapped_at, new_in_team, new_teams, row_at, same_at_each, zipped_at, zipped_there}
use Rattle.phase_kind.proofs.Shared.{goes_within}
use Rattle.phase_kind.proofs.Trays.{zip_more}
use Rattle.phase_kind.specs.Phase.{OpenPhase}
use Rattle.phase_kind.specs.Table.{IsTurned}
use Rattle.phase_kind.specs.Team.{AreSharedOut, GoesWithin, HaveFinished, IsTeam, those_of}
use Rattle.phase_kind.specs.AnsweredItem.{AnsweredItem}
use Rattle.phase_kind.specs.Worker.{AreAll, WorkerView, worker_with}
use Rattle.step_core.proofs.Sets.{All-from_map}

-- ---- lists

-- what a list that is mapped shows at a place
pub shown_at : {X Y : Type 0} (f : X → Y) (xs : List X) (place : ℕ) (x : X) → slice_get xs place ≡ Some x → slice_get (map f xs) place ≡ Some (f x)
shown_at f xs place x there = slice_get-map f xs place ∙ ap (option_map f) there

-- two lists side by side, both mapped
pub zip_maps : {A B C D : Type 0} (f : A → C) (g : B → D) (xs : List A) (ys : List B) → zip (map f xs) (map g ys) ≡ map (λ at. (f at.0, g at.1)) (zip xs ys)
zip_maps f g [] ys = refl
zip_maps f g (x ∷ xs) [] = refl
zip_maps f g (x ∷ xs) (y ∷ ys) = ap (λ l. (f x, g y) ∷ l) (zip_maps f g xs ys)

-- what stands where such a loop is
pub taken_there : {X Y : Type 0} (xs : List X) (ys : List Y) (place : ℕ) (x : X) (y : Y) → place < length (zip xs ys) → (x, y) ≡ get_or (zip xs ys) place (x, y) → slice_get (zip xs ys) place ≡ Some (x, y)
taken_there xs ys place x y within is = slice_get-get_or (zip xs ys) place (x, y) within ∙ ap (λ both. Some both) (sym is)

-- what holds of all entries of rows holds of those of columns
pub turned_all : {X : Type 0} (P : X → Type 0) (places : ℕ) (rows columns : List (List X)) → IsTurned places rows columns → All (All P) rows → All (All P) columns
turned_all P places rows columns turned all k d within i e below =
    let column = get_or columns k d in
    let x = get_or column i e in
    let row = row_at places rows columns k i column x turned (slice_get-get_or columns k d within) (slice_get-get_or column i e below) in
    holds_at P row.0 k x (holds_at (All P) rows i row.0 all row.1) row.2

-- as many entries in each column as there are rows
pub columns_long : {X : Type 0} (places : ℕ) (rows columns : List (List X)) → IsTurned places rows columns → All (λ column. length column ≡ length rows) columns
columns_long places rows columns turned k d within = length-column places rows columns k (get_or columns k d) turned (slice_get-get_or columns k d within)

-- ---- lists that are shared out

module _ {I : Type 0} (goes_to : I → ℕ) (places : ℕ) where
  abbrev Shared : List I × List (List I) → Type 0
  Shared at = AreSharedOut goes_to places at.0 at.1

  pub none_shared : AreAllShared goes_to places [] [] []
  none_shared = record { as_many = refl; each = All-nil Shared; orders_are = refl }

  pub one_shared : (work : List (List I)) (rows : List (List (List I))) (orders : List (List ℕ)) (list : List I) (row : List (List I)) (order : List ℕ)
      → AreAllShared goes_to places work rows orders → AreSharedOut goes_to places list row → order ≡ map goes_to list → AreAllShared goes_to places (work ++ list ∷ []) (rows ++ row ∷ []) (orders ++ order ∷ [])
  one_shared work rows orders list row order shared one is = record {
    as_many = omega (arith, shared.as_many, length-append rows (row ∷ []), length-append work (list ∷ []));
    each = subst (All Shared) (sym (zip_more work rows list row shared.as_many)) (All-push Shared (zip work rows) (list, row) shared.each one);
    orders_are = ap₂ (λ (l : List (List ℕ)) (o : List ℕ). l ++ o ∷ []) shared.orders_are is ∙ sym (map_push (map goes_to) work list);
  }

  -- the same, where they are pushed
  pub next_shared : {Y O : Type 0} (lists_in : Y → List (List I)) (order_in : O → List ℕ) (work : List (List I)) (list : List I) (rows rows_now : List Y) (orders orders_now : List O) (row : Y) (order : O)
      → AreAllShared goes_to places work (map lists_in rows) (map order_in orders) → rows_now ≡ rows ++ row ∷ [] → orders_now ≡ orders ++ order ∷ []
      → AreSharedOut goes_to places list (lists_in row) → order_in order ≡ map goes_to list
      → AreAllShared goes_to places (work ++ list ∷ []) (map lists_in rows_now) (map order_in orders_now)
  next_shared lists_in order_in work list rows rows_now orders orders_now row order shared pushed more one is =
      let rows_are = ap (map lists_in) pushed ∙ map_push lists_in rows row in
      let orders_are = ap (map order_in) more ∙ map_push order_in orders order in
      subst (λ (r : List (List (List I))). AreAllShared goes_to places (work ++ list ∷ []) r (map order_in orders_now)) (sym rows_are)
      (subst (λ (o : List (List ℕ)). AreAllShared goes_to places (work ++ list ∷ []) (map lists_in rows ++ lists_in row ∷ []) o) (sym orders_are)
      (one_shared work (map lists_in rows) (map order_in orders) list (lists_in row) (order_in order) shared one is))

  -- each list is shared out to as many as there are places
  pub rows_shared : (work : List (List I)) (rows : List (List (List I))) (orders : List (List ℕ)) → AreAllShared goes_to places work rows orders → All (λ row. length row ≡ places) rows
  rows_shared work rows orders shared k d within =
      let row = get_or rows k d in
      let list = something_there work k (omega (arith, within, shared.as_many)) in
      (holds_at Shared (zip work rows) k (list.0, row) shared.each (zipped_there work rows k list.0 row list.1 (slice_get-get_or rows k d within))).as_many

-- a table that is turned shows the same of its entries
pub turned_shows : {X Y : Type 0} (f : X → Y) (places : ℕ) (rows columns : List (List X)) → IsTurned places rows columns → IsTurned places (map (map f) rows) (map (map f) columns)
turned_shows {X} {Y} f places rows columns turned = record {
  as_many = length-map columns (map f) ∙ turned.as_many;
  each = λ place column there.
      let of_column = mapped_at (map f) columns place column there in
      let some : X → Option X = λ x. Some x in
      let entry : List X → Option X = λ row. slice_get row place in
      ap (map (λ (y : Y). Some y)) of_column.2
      ∙ map-map (λ (y : Y). Some y) f of_column.0
      ∙ sym (map-map (option_map f) some of_column.0)
      ∙ ap (map (option_map f)) (turned.each place of_column.0 of_column.1)
      ∙ map-map (option_map f) entry rows
      ∙ sym (map-map (λ (row : List Y). slice_get row place) (map f) rows ∙ alike f place rows);
}
  where
    alike : (f : X → Y) (place : ℕ) (rows : List (List X)) → map (λ row. slice_get (map f row) place) rows ≡ map (λ row. option_map f (slice_get row place)) rows
    alike f place [] = refl
    alike f place (row ∷ rows) = ap₂ (λ x l. x ∷ l) (slice_get-map f row place) (alike f place rows)

-- what holds of the entries of each row beside the heads of the columns holds of each column
pub turned_beside : {S X Y Z : Type 0} (P : S → X → Type 0) (row_in : Y → List X) (column_in : Z → List X) (places : ℕ) (heads : List S) (rows : List Y) (columns : List Z)
    → IsTurned places (map row_in rows) (map column_in columns) → All (λ row. All (λ at. P at.0 at.1) (zip heads (row_in row))) rows → All (λ at. All (P at.0) (column_in at.1)) (zip heads columns)
turned_beside {S} {X} {Y} {Z} P row_in column_in places heads rows columns turned all k d within i e below =
    let both = get_or (zip heads columns) k d in
    let parts = zipped_at heads columns k both (slice_get-get_or (zip heads columns) k d within) in
    let column = column_in both.1 in
    let x = get_or column i e in
    let found = row_at places (map row_in rows) (map column_in columns) k i column x turned (shown_at column_in columns k both.1 parts.1) (slice_get-get_or column i e below) in
    let row = mapped_at row_in rows i found.0 found.1 in
    holds_at (λ (at : S × X). P at.0 at.1) (zip heads (row_in row.0)) k (both.0, x) (holds_at (λ (row : Y). All (λ at. P at.0 at.1) (zip heads (row_in row))) rows i row.0 all row.1)
    (zipped_there heads (row_in row.0) k both.0 x parts.0 (ap (λ (l : List X). slice_get l k) (sym row.2) ∙ found.2))

-- ---- phases that have begun

abbrev new_row : {V I R : Type 0} → V → OpenPhase × List (List I) → List (WorkerView V I R)
new_row fresh at = map (worker_with fresh at.0) at.1

abbrev base_of : OpenPhase → Contents
base_of phase = phase.base

abbrev seats_of : OpenPhase → ℕ
seats_of phase = phase.words.seats

abbrev long : {X : Type 0} → List X → ℕ
long list = length list

pub as_many_plans : {V I R : Type 0} (fresh : V) (stores : List Contents) (plans : List (List (List I))) (phases : List OpenPhase) (rows : List (List (WorkerView V I R))) → HaveBegun fresh stores plans phases rows → length plans ≡ length phases
as_many_plans fresh stores plans phases rows begun = sym (length-map plans long) ∙ sym (ap length begun.seats) ∙ length-map phases seats_of

pub none_begun : {V I R : Type 0} (fresh : V) → HaveBegun {V = V} {I = I} {R = R} fresh [] [] [] []
none_begun fresh = record { bases = refl; seats = refl; rows_are = refl }

pub one_begun : {V I R : Type 0} (fresh : V) (stores : List Contents) (plans : List (List (List I))) (phases : List OpenPhase) (rows : List (List (WorkerView V I R))) (store : Contents) (plan : List (List I)) (phase : OpenPhase) (row : List (WorkerView V I R))
    → HaveBegun fresh stores plans phases rows → phase.base ≡ store → phase.words.seats ≡ length plan → row ≡ map (worker_with fresh phase) plan
    → HaveBegun fresh (stores ++ store ∷ []) (plans ++ plan ∷ []) (phases ++ phase ∷ []) (rows ++ row ∷ [])
one_begun {V} {I} {R} fresh stores plans phases rows store plan phase row begun base seats is = record {
  bases = map_push base_of phases phase ∙ ap₂ (λ (l : List Contents) (x : Contents). l ++ x ∷ []) begun.bases base;
  seats = map_push seats_of phases phase ∙ ap₂ (λ (l : List ℕ) (x : ℕ). l ++ x ∷ []) begun.seats seats ∙ sym (map_push long plans plan);
  rows_are =
      ap₂ (λ (l : List (List (WorkerView V I R))) (r : List (WorkerView V I R)). l ++ r ∷ []) begun.rows_are is
      ∙ sym (map_push (new_row fresh) (zip phases plans) (phase, plan))
      ∙ ap (map (new_row fresh)) (sym (zip_more phases plans phase plan (as_many_plans fresh stores plans phases rows begun)));
}

-- the same, where they are pushed
pub next_begun : {V I R T : Type 0} (fresh : V) (workers_of : T → List (WorkerView V I R)) (stores : List Contents) (store : Contents) (plans : List (List (List I))) (plan : List (List I)) (phases phases_now : List OpenPhase) (rows rows_now : List T) (phase : OpenPhase) (row : T)
    → HaveBegun fresh stores plans phases (map workers_of rows) → phases_now ≡ phases ++ phase ∷ [] → rows_now ≡ rows ++ row ∷ []
    → phase.base ≡ store → phase.words.seats ≡ length plan → workers_of row ≡ map (worker_with fresh phase) plan
    → HaveBegun fresh (stores ++ store ∷ []) (plans ++ plan ∷ []) phases_now (map workers_of rows_now)
next_begun {V} {I} {R} fresh workers_of stores store plans plan phases phases_now rows rows_now phase row begun pushed more base seats is =
    let rows_are = ap (map workers_of) more ∙ map_push workers_of rows row in
    subst (λ (p : List OpenPhase). HaveBegun fresh (stores ++ store ∷ []) (plans ++ plan ∷ []) p (map workers_of rows_now)) (sym pushed)
    (subst (λ (r : List (List (WorkerView V I R))). HaveBegun fresh (stores ++ store ∷ []) (plans ++ plan ∷ []) (phases ++ phase ∷ []) r) (sym rows_are)
    (one_begun fresh stores plans phases (map workers_of rows) store plan phase (workers_of row) begun base seats is))

-- as many workers in each row as it has lists
pub rows_long : {V I R : Type 0} (fresh : V) (stores : List Contents) (plans : List (List (List I))) (phases : List OpenPhase) (rows : List (List (WorkerView V I R))) (n : ℕ) → HaveBegun fresh stores plans phases rows → All (λ plan. length plan ≡ n) plans → All (λ row. length row ≡ n) rows
rows_long {V} {I} {R} fresh stores plans phases rows n begun each =
    let IsLong : List (WorkerView V I R) → Type 0 = λ row. length row ≡ n in
    subst (All IsLong) (sym begun.rows_are)
    (All-map IsLong (new_row fresh) (zip phases plans) (λ k d within.
    let both = get_or (zip phases plans) k d in
    let parts = zipped_at phases plans k both (slice_get-get_or (zip phases plans) k d within) in
    length-map both.1 (worker_with {V = V} {I = I} {R = R} fresh both.0) ∙ holds_at (λ (plan : List (List I)). length plan ≡ n) plans k both.1 each parts.1))

-- an order names a place as often as items go there
pub those_named : {I : Type 0} (goes_to : I → ℕ) (place : ℕ) (list : List I) → length (those_of (λ p. p) place (map goes_to list)) ≡ length (those_of goes_to place list)
those_named goes_to place [] = refl
those_named {I} goes_to place (x ∷ list) = by (goes_to x == place) (those_named goes_to place list)
  where
    by : (b : Bool) → length (those_of (λ p. p) place (map goes_to list)) ≡ length (those_of goes_to place list)
        → length (cond b (goes_to x ∷ those_of (λ p. p) place (map goes_to list)) (those_of (λ p. p) place (map goes_to list))) ≡ length (cond b (x ∷ those_of goes_to place list) (those_of goes_to place list))
    by true rest = ap suc rest
    by false rest = rest

module _ {V I R T : Type 0} (workers_of : T → List (WorkerView V I R)) where
  abbrev IsNew : WorkerView V I R → Type 0
  IsNew worker = worker.tray ≡ []

  abbrev IsIdle : WorkerView V I R → Type 0
  IsIdle worker = worker.waiting ≡ []

  abbrev tray_of : WorkerView V I R → List (AnsweredItem I R)
  tray_of worker = worker.tray

  -- a team has as many workers as there are phases
  pub teams_long : (phases : List OpenPhase) (teams : List T) → All (λ team. IsTeam phases (workers_of team)) teams → All (λ team. length (workers_of team) ≡ length phases) teams
  teams_long phases teams belong k d within =
      let team = workers_of (get_or teams k d) in
      sym (length-map team (λ (worker : WorkerView V I R). worker.phase)) ∙ ap length (belong k d within)

  -- the workers of each phase are all there
  pub all_belong : {C : Type 0} (workers_in : C → List (WorkerView V I R)) (phases : List OpenPhase) (after : List T) (columns : List C) → All (λ team. IsTeam phases (workers_of team)) after → All (λ team. All IsIdle (workers_of team)) after
      → IsTurned (length phases) (map workers_of after) (map workers_in columns) → All (λ phase. phase.words.seats ≡ length after) phases
      → All (λ at. AreAll at.0 (workers_in at.1)) (zip phases columns)
  all_belong workers_in phases after columns belong idle turned seats k d within =
      let both = get_or (zip phases columns) k d in
      let parts = zipped_at phases columns k both (slice_get-get_or (zip phases columns) k d within) in
      column_belongs phases (length phases) (map workers_of after) (map workers_in columns) k both.0 (workers_in both.1) (All-map (IsTeam phases) workers_of after belong) (All-map (All IsIdle) workers_of after idle) turned parts.0
      (shown_at workers_in columns k both.1 parts.1)
      (length-map after workers_of ∙ sym (holds_at (λ (p : OpenPhase). p.words.seats ≡ length after) phases k both.0 seats parts.0))

  -- ---- new workers are teams, with whom the shares of their lists wait

  module _ (goes_to : I → ℕ) (fresh : V) (places : ℕ) (stores : List Contents) (shared lists : List (List (List I))) (orders : List (List ℕ)) (phases : List OpenPhase) (rows : List (List (WorkerView V I R))) (teams : List T) (work : List (List I)) (all : AreAllShared goes_to places work shared orders) (planned : IsTurned places shared lists) (begun : HaveBegun fresh stores lists phases rows) (turned : IsTurned (length work) rows (map workers_of teams)) where
    same_rows : IsTurned (length work) (map (λ at. map (worker_with fresh at.0) at.1) (zip phases lists)) (map workers_of teams)
    same_rows = subst (λ (r : List (List (WorkerView V I R))). IsTurned (length work) r (map workers_of teams)) begun.rows_are turned

    waits_at : (w : ℕ) (team : List (WorkerView V I R)) (list : List I) → slice_get (map workers_of teams) w ≡ Some team → slice_get work w ≡ Some list → (place : ℕ) (worker : WorkerView V I R) → slice_get team place ≡ Some worker → worker.waiting ≡ those_of goes_to place list
    waits_at w team list there listed place worker at =
        let new = new_in_team fresh phases lists shared (length work) places (map workers_of teams) w place team worker same_rows planned there at in
        let given = holds_at (λ (at : List I × List (List I)). AreSharedOut goes_to places at.0 at.1) (zip work shared) w (list, new.2) all.each (zipped_there work shared w list new.2 listed new.3) in
        ap (λ (w : WorkerView V I R). w.waiting) new.5 ∙ given.each place new.1 new.4

    pub have_work : HaveWork goes_to work (map workers_of teams)
    have_work = record {
      as_many = turned.as_many;
      waits = λ k d within.
          let both = get_or (zip (map workers_of teams) work) k d in
          let parts = zipped_at (map workers_of teams) work k both (slice_get-get_or (zip (map workers_of teams) work) k d within) in
          waits_at k both.0 both.1 parts.0 parts.1;
    }

    pub are_ready : length stores ≡ places → All (GoesWithin goes_to places) work → AreReady stores phases (map workers_of teams) orders
    are_ready as_many within =
        let many = as_many_plans fresh stores lists phases rows begun in
        let orders_long : length orders ≡ length work = ap length all.orders_are ∙ length-map work (map goes_to) in
        let Fits : ℕ → Type 0 = λ n. n ≡ length orders in
        let belong = new_teams fresh phases lists (length work) (map workers_of teams) many same_rows in
        record {
          bases = begun.bases;
          seats = All-from_map Fits seats_of phases (subst (All Fits) (sym begun.seats) (All-map Fits long lists (λ k d below. columns_long places shared lists planned k d below ∙ all.as_many ∙ sym orders_long)));
          as_many = turned.as_many ∙ sym orders_long;
          belong = belong;
          named = λ k d below.
              let both = get_or (zip (map workers_of teams) orders) k d in
              let parts = zipped_at (map workers_of teams) orders k both (slice_get-get_or (zip (map workers_of teams) orders) k d below) in
              let list = mapped_at (map goes_to) work k both.1 (ap (λ (l : List (List ℕ)). slice_get l k) (sym all.orders_are) ∙ parts.1) in
              let phases_long : length phases ≡ places = omega (arith, as_many, ap length begun.bases, length-map phases base_of) in
              let team_long : length both.0 ≡ places = sym (length-map both.0 (λ (worker : WorkerView V I R). worker.phase)) ∙ ap length (holds_at (IsTeam phases) (map workers_of teams) k both.0 belong parts.0) ∙ phases_long in
              record {
                within = goes_within goes_to (length both.0) list.0 both.1 list.2 (subst (λ (n : ℕ). GoesWithin goes_to n list.0) (sym team_long) (holds_at (GoesWithin goes_to places) work k list.0 within list.1));
                each = λ place worker at.
                    ap length (waits_at k both.0 list.0 parts.0 list.1 place worker at) ∙ sym (those_named goes_to place list.0) ∙ ap (λ (o : List ℕ). length (those_of (λ (p : ℕ). p) place o)) (sym list.2);
              };
          empty = turned_all IsNew (length work) rows (map workers_of teams) turned
              (subst (All (All IsNew)) (sym begun.rows_are) (All-map (All IsNew) (new_row fresh) (zip phases lists) (λ k d within.
              let both = get_or (zip phases lists) k d in
              All-map IsNew (worker_with fresh both.0) both.1 (λ i e below. refl))));
        }

  -- ---- teams that have handled their orders

  -- the trays of one phase
  pub trays_are : (goes_to : I → ℕ) (rests : V → Type 0) (places : ℕ) (before after : List T) (work : List (List I)) (columns : List (List (WorkerView V I R))) (place : ℕ) (column : List (WorkerView V I R))
      → length after ≡ length before → HaveWork goes_to work (map workers_of before) → All (All IsNew) (map workers_of before)
      → All (λ at. HaveFinished rests (workers_of at.0) (workers_of at.1)) (zip before after)
      → IsTurned places (map workers_of after) columns → slice_get columns place ≡ Some column
      → map (map (λ t. t.item)) (map (λ worker. worker.tray) column) ≡ map (those_of goes_to place) work
  trays_are goes_to rests places before after work columns place column same have empty finished turned there =
      let item : AnsweredItem I R → I = λ t. t.item in
      let shown : WorkerView V I R → List I = λ worker. map item worker.tray in
      let asked : List I → List I = λ list. those_of goes_to place list in
      let long = length-column places (map workers_of after) columns place column turned there in
      map-map (map item) tray_of column
      ∙ same_at_each (map shown column) (map asked work)
      (omega (arith, length-map column shown, long, length-map after workers_of, length-map before workers_of, length-map work asked, same, have.as_many))
      (λ k x y at_x at_y.
      let now = mapped_at shown column k x at_x in
      let list = mapped_at asked work k y at_y in
      let row = row_at places (map workers_of after) columns place k column now.0 turned there now.1 in
      let team = mapped_at workers_of after k row.0 row.1 in
      let old = something_there before k (omega (arith, slice_get_within column k now.0 now.1, long, length-map after workers_of, same)) in
      let done = holds_at (λ at. HaveFinished rests (workers_of at.0) (workers_of at.1)) (zip before after) k (old.0, team.0) finished (zipped_there before after k old.0 team.0 old.1 team.1) in
      let here : slice_get (workers_of team.0) place ≡ Some now.0 = ap (λ (l : List (WorkerView V I R)). slice_get l place) (sym team.2) ∙ row.2 in
      let was = something_there (workers_of old.0) place (omega (arith, slice_get_within (workers_of team.0) place now.0 here, done.as_many)) in
      let answered = done.each place was.0 now.0 was.1 here in
      let stood = shown_at workers_of before k old.0 old.1 in
      let new = holds_at IsNew (workers_of old.0) place was.0 (holds_at (All IsNew) (map workers_of before) k (workers_of old.0) empty stood) was.1 in
      let Waits : List (WorkerView V I R) × List I → Type 0 = λ at. (place : ℕ) (worker : WorkerView V I R) → slice_get at.0 place ≡ Some worker → worker.waiting ≡ those_of goes_to place at.1 in
      let waits = holds_at Waits (zip (map workers_of before) work) k (workers_of old.0, list.0) have.waits (zipped_there (map workers_of before) work k (workers_of old.0) list.0 stood list.1) place was.0 was.1 in
      now.2 ∙ ap (map item) (answered.tray ∙ ap (λ (tray : List (AnsweredItem I R)). tray ++ answered.told) new) ∙ answered.items ∙ waits ∙ sym list.2)

-- ---- phases that are closed

module _ {V I R F : Type 0} (closes : Contents → List (List (AnsweredItem I R)) → List (List F) → List Ballot → Type 0) where
  abbrev Ends : (OpenPhase × List (WorkerView V I R)) × (Contents × List (List F)) → Type 0
  Ends at = IsClosedWith closes at.0.0 at.0.1 at.1.0 at.1.1

  pub none_ended : HaveEnded {V = V} closes [] [] [] []
  none_ended = record { stores = refl; as_many = refl; each = All-nil Ends }

  pub one_ended : (phases : List OpenPhase) (columns : List (List (WorkerView V I R))) (stores : List Contents) (told : List (List (List F))) (phase : OpenPhase) (column : List (WorkerView V I R)) (store : Contents) (finals : List (List F))
      → HaveEnded closes phases columns stores told → length columns ≡ length phases → IsClosedWith closes phase column store finals
      → HaveEnded closes (phases ++ phase ∷ []) (columns ++ column ∷ []) (stores ++ store ∷ []) (told ++ finals ∷ [])
  one_ended phases columns stores told phase column store finals ended same one =
      let one_more : zip (zip (phases ++ phase ∷ []) (columns ++ column ∷ [])) (zip (stores ++ store ∷ []) (told ++ finals ∷ [])) ≡ zip (zip phases columns) (zip stores told) ++ ((phase, column), (store, finals)) ∷ [] =
      ap₂ zip (zip_more phases columns phase column same) (zip_more stores told store finals (ended.as_many ∙ sym ended.stores))
      ∙ zip_more (zip phases columns) (zip stores told) (phase, column) (store, finals) (omega (arith, length-zip phases columns, length-zip stores told, same, ended.as_many, ended.stores)) in
      record {
        stores = omega (arith, ended.stores, length-append stores (store ∷ []), length-append phases (phase ∷ []));
        as_many = omega (arith, ended.as_many, length-append told (finals ∷ []), length-append phases (phase ∷ []));
        each = subst (All Ends) (sym one_more) (All-push Ends (zip (zip phases columns) (zip stores told)) ((phase, column), (store, finals)) ended.each one);
      }

  -- the same, where they are pushed
  pub next_ended : {T : Type 0} (finals_in : T → List (List F)) (phases : List OpenPhase) (phase : OpenPhase) (columns : List (List (WorkerView V I R))) (column : List (WorkerView V I R)) (stores stores_now : List Contents) (told told_now : List T) (store : Contents) (finals : T)
      → HaveEnded closes phases columns stores (map finals_in told) → length columns ≡ length phases → stores_now ≡ stores ++ store ∷ [] → told_now ≡ told ++ finals ∷ [] → IsClosedWith closes phase column store (finals_in finals)
      → HaveEnded closes (phases ++ phase ∷ []) (columns ++ column ∷ []) stores_now (map finals_in told_now)
  next_ended finals_in phases phase columns column stores stores_now told told_now store finals ended same pushed more one =
      let told_are = ap (map finals_in) more ∙ map_push finals_in told finals in
      subst (λ (s : List Contents). HaveEnded closes (phases ++ phase ∷ []) (columns ++ column ∷ []) s (map finals_in told_now)) (sym pushed)
      (subst (λ (t : List (List (List F))). HaveEnded closes (phases ++ phase ∷ []) (columns ++ column ∷ []) (stores ++ store ∷ []) t) (sym told_are)
      (one_ended phases columns stores (map finals_in told) phase column store (finals_in finals) ended same one))

  -- each phase is closed over the items that went there
  pub all_closed : {T : Type 0} (goes_to : I → ℕ) (workers_of : T → List (WorkerView V I R)) (rests : V → Type 0) (phases : List OpenPhase) (before after : List T) (orders : List (List ℕ)) (work : List (List I)) (columns : List (List (WorkerView V I R))) (stores : List Contents) (told : List (List (List F)))
      → AreReady (map base_of phases) phases (map workers_of before) orders → HaveWork goes_to work (map workers_of before) → length after ≡ length before
      → All (λ at. HaveFinished rests (workers_of at.0) (workers_of at.1)) (zip before after)
      → IsTurned (length phases) (map workers_of after) columns → HaveEnded closes phases columns stores told
      → HaveClosed closes goes_to (map base_of phases) work stores told
  all_closed goes_to workers_of rests phases before after orders work columns stores told ready have same finished turned ended = record {
    stores = ended.stores ∙ sym (length-map phases base_of);
    as_many = ended.as_many ∙ sym (length-map phases base_of);
    each = λ place old now finals was is at.
        let phase = mapped_at base_of phases place old was in
        let column = something_there columns place (omega (arith, turned.as_many, slice_get_within phases place phase.0 phase.1)) in
        let done = holds_at Ends (zip (zip phases columns) (zip stores told)) place ((phase.0, column.0), (now, finals)) ended.each
        (zipped_there (zip phases columns) (zip stores told) place (phase.0, column.0) (now, finals) (zipped_there phases columns place phase.0 column.0 phase.1 column.1) (zipped_there stores told place now finals is at)) in
        let trays = map (λ (worker : WorkerView V I R). worker.tray) column.0 in
        record {
          trays = trays;
          items = trays_are workers_of goes_to rests (length phases) before after work columns place column.0 same have ready.empty finished turned column.1;
          election = done.election ∙ ap (λ (c : Contents). c.election) (sym phase.2);
          stored = done.stored;
          told = subst (λ (c : Contents). closes c trays finals now.ballots) (sym phase.2) done.told;
        };
  }
