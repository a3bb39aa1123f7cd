-- What waits to be written in an image, and for which cells, as more is added.
use Rattle.std.proofs.Common.{◌≡◌, ◌≢◌, ◌⊎◌, ℕ, ◌+◌, ◌-◌, ◌*◌, ◌<◌, ◌≤◌, inl, inr, ⊎_elim, List, [], ◌∷◌, ◌++◌, length, get_or, take, drop, sym, ap, ◌∙◌, subst, arith, length-append, length-drop}
use Rattle.store_spec.proofs.Common.{All, All-contains, All-push, All-weaker, Contains, IsOrdered, cases_lt, drop-append-le, drop_at, take-append-le, take_all}
use Rattle.body_store.proofs.CellPlaces.{stands_once}
use Rattle.body_store.specs.Moves.{AreRight, AreSought, AwaitsCell, HasNew, IsMoved, IsNoted, IsRight, IsRightMove, IsSought, StayNoted, Waits, WaitsIn}
use Rattle.body_store.specs.declared.moves.Move.{Move}
use Rattle.body_store.specs.declared.moves.Plan.{Plan}
use Rattle.body_store.specs.declared.moves.Waiting.{Waiting}
use Rattle.layout_def.proofs.Keyed.{among_at, among_pushed, among_still}
use Rattle.layout_def.proofs.OrderedCells.{place_from_contains}
use Rattle.layout_def.specs.Changes.{AreChanges}
use Rattle.layout_def.specs.declared.changes.CellChange.{CellChange}

-- ---- bytes that wait

pub waits_still : (f : ℕ → List ℕ) (bytes more : List ℕ) (from number : ℕ) → Waits f bytes from number
    → Waits f (bytes ++ more) from number
waits_still f bytes more from number h =
    let n = length (f number) in
    let within = h.within in
    record {
      within = omega (arith, length-append bytes more);
      same =
          ap (take n) (drop-append-le from bytes more (omega arith))
          ∙ take-append-le n (drop from bytes) more (omega (arith, length-drop from bytes))
          ∙ h.same;
    }

pub waits_last : (f : ℕ → List ℕ) (bytes more : List ℕ) (from number : ℕ) → from ≡ length bytes → more ≡ f number
    → Waits f (bytes ++ more) from number
waits_last f bytes more from number last same =
    let long = ap length same in
    record {
      within = omega (arith, length-append bytes more);
      same =
          ap (take (length (f number))) (drop_at bytes more from (sym last))
          ∙ take_all (length (f number)) more (omega arith)
          ∙ same;
    }

waits_in_still : (f : ℕ → List ℕ) (front bytes more : List ℕ) (from number : ℕ) → WaitsIn f front bytes from number
    → WaitsIn f front (bytes ++ more) from number
waits_in_still f front bytes more from number = elim [
  | inl in_front ↦ inl in_front
  | inr behind ↦ inr (behind.0, waits_still f bytes more (from * length (f number) - length front) number behind.1)
]

right_move_still : (f : ℕ → List ℕ) (cells front bytes more : List ℕ) (move : Move) → IsRightMove f cells front bytes move
    → IsRightMove f cells front (bytes ++ more) move
right_move_still f cells front bytes more move h = record {
  within = h.within;
  waits = waits_in_still f front bytes more move.from (get_or cells move.cell 0) h.waits;
}

-- more bytes change nothing
pub right_still : (f : ℕ → List ℕ) (cells front bytes more : List ℕ) (moves : List Move) (far : List Waiting)
    → AreRight f cells front bytes moves far → AreRight f cells front (bytes ++ more) moves far
right_still f cells front bytes more moves far h = record {
  each_move = All-weaker (IsRightMove f cells front bytes) (IsRightMove f cells front (bytes ++ more))
      (right_move_still f cells front bytes more) moves h.each_move;
  each_far = All-weaker (λ one. WaitsIn f front bytes one.from one.number)
      (λ one. WaitsIn f front (bytes ++ more) one.from one.number)
      (λ one. waits_in_still f front bytes more one.from one.number) far h.each_far;
}

pub same_right : (f : ℕ → List ℕ) (cells front was_bytes bytes : List ℕ) (was_moves moves : List Move)
    (was_far far : List Waiting) → AreRight f cells front was_bytes was_moves was_far
    → bytes ≡ was_bytes → moves ≡ was_moves → far ≡ was_far → AreRight f cells front bytes moves far
same_right f cells front was_bytes bytes was_moves moves was_far far h same_bytes same_moves same_far =
    subst (λ (bytes : List ℕ). AreRight f cells front bytes moves far) (sym same_bytes)
    (subst (λ (moves : List Move). AreRight f cells front was_bytes moves far) (sym same_moves)
    (subst (λ (far : List Waiting). AreRight f cells front was_bytes was_moves far) (sym same_far) h))

-- one move more
pub right_moved : (f : ℕ → List ℕ) (cells front bytes : List ℕ) (moves : List Move) (far : List Waiting) (move : Move)
    → AreRight f cells front bytes moves far → move.cell < length cells
    → WaitsIn f front bytes move.from (get_or cells move.cell 0) → AreRight f cells front bytes (moves ++ move ∷ []) far
right_moved f cells front bytes moves far move h within waits = record {
  each_move = All-push (IsRightMove f cells front bytes) moves move h.each_move (record { within = within; waits = waits });
  each_far = h.each_far;
}

-- one number more that is far from its home
pub right_far : (f : ℕ → List ℕ) (cells front bytes : List ℕ) (moves : List Move) (far : List Waiting) (one : Waiting)
    → AreRight f cells front bytes moves far → WaitsIn f front bytes one.from one.number
    → AreRight f cells front bytes moves (far ++ one ∷ [])
right_far f cells front bytes moves far one h waits = record {
  each_move = h.each_move;
  each_far = All-push (λ one. WaitsIn f front bytes one.from one.number) far one h.each_far waits;
}

-- bytes that were put behind wait there
pub waits_behind : (f : ℕ → List ℕ) (front bytes more : List ℕ) (place number : ℕ)
    → length front + length bytes ≡ place * length more → more ≡ f number → WaitsIn f front (bytes ++ more) place number
waits_behind f front bytes more place number last same =
    let from : place * length (f number) ≡ length front + length bytes =
    ap (λ (more : List ℕ). place * length more) (sym same) ∙ sym last in
    inr (omega arith, waits_last f bytes more (place * length (f number) - length front) number (omega arith) same)

-- ---- cells that are noted

abbrev pub NotedIn : List ℕ → List Move → List Waiting → ℕ → Type 0
NotedIn cells moves far cell = IsMoved moves cell ⊎ AwaitsCell far (get_or cells cell 0)

pub noted_moved : (cells : List ℕ) (was_moves moves : List Move) (was_far far : List Waiting) (move : Move) (cell : ℕ)
    → moves ≡ was_moves ++ move ∷ [] → far ≡ was_far → NotedIn cells was_moves was_far cell
    → NotedIn cells moves far cell
noted_moved cells was_moves moves was_far far move cell pushed same = elim [
  | inl there ↦ inl (subst (λ (moves : List Move). IsMoved moves cell) (sym pushed)
      (among_still (λ (move : Move). move.cell) was_moves move cell there))
  | inr waits ↦ inr (subst (λ (far : List Waiting). AwaitsCell far (get_or cells cell 0)) (sym same) waits)
]

pub noted_far : (cells : List ℕ) (was_moves moves : List Move) (was_far far : List Waiting) (one : Waiting) (cell : ℕ)
    → moves ≡ was_moves → far ≡ was_far ++ one ∷ [] → NotedIn cells was_moves was_far cell
    → NotedIn cells moves far cell
noted_far cells was_moves moves was_far far one cell same pushed = elim [
  | inl there ↦ inl (subst (λ (moves : List Move). IsMoved moves cell) (sym same) there)
  | inr waits ↦ inr (subst (λ (far : List Waiting). AwaitsCell far (get_or cells cell 0)) (sym pushed)
      (among_still (λ (one : Waiting). one.number) was_far one (get_or cells cell 0) waits))
]

-- ---- the cells of numbers that are far from their homes, found among the cells that changed

-- among so many first ones
pub record FarUpTo (cells : List ℕ) (far : List Waiting) (changes : List CellChange) (was moves : List Move) (n : ℕ) : Type 0 where
  pub right : (f : ℕ → List ℕ) (front bytes : List ℕ) → All (λ one. WaitsIn f front bytes one.from one.number) far
      → All (IsRightMove f cells front bytes) was → All (IsRightMove f cells front bytes) moves
  pub still : (cell : ℕ) → IsMoved was cell → IsMoved moves cell
  pub moved : (k : ℕ) (d : CellChange) → k < n → k < length changes → AwaitsCell far (get_or cells (get_or changes k d).cell 0)
      → IsMoved moves (get_or changes k d).cell

pub far_found : (cells : List ℕ) (far : List Waiting) (changes : List CellChange) (was moves : List Move) (n cell from : ℕ)
    → FarUpTo cells far changes was moves n → cell < length cells
    → ((d : CellChange) → n < length changes → (get_or changes n d).cell ≡ cell)
    → Contains far (record { number = get_or cells cell 0; from = from })
    → FarUpTo cells far changes was (moves ++ record { from = from; cell = cell } ∷ []) (n + 1)
far_found cells far changes was moves n cell from h within is found =
    let move : Move = record { from = from; cell = cell } in
    let key : Move → ℕ = λ move. move.cell in
    record {
      right = λ f front bytes each before.
          All-push (IsRightMove f cells front bytes) moves move (h.right f front bytes each before) (record {
            within = within;
            waits = All-contains (λ one. WaitsIn f front bytes one.from one.number) far _ each found;
          });
      still = λ other there. among_still key moves move other (h.still other there);
      moved = λ k d lt inside waits.
          ⊎_elim
          (λ (before : k < n). among_still key moves move (get_or changes k d).cell (h.moved k d before inside waits))
          (λ (after : n ≤ k).
          let last : n ≡ k = omega (arith, after, lt) in
          let here : cell ≡ (get_or changes k d).cell = sym (is d (omega (arith, last, inside))) ∙ ap (λ k. (get_or changes k d).cell) last in
          subst (λ v. IsMoved (moves ++ move ∷ []) v) here (among_pushed key moves move))
          (cases_lt k n);
    }

-- a number that is not among them moves nothing
pub far_on : (cells : List ℕ) (far : List Waiting) (changes : List CellChange) (was moves : List Move) (n : ℕ)
    → FarUpTo cells far changes was moves n
    → ((d : CellChange) → n < length changes → ¬ AwaitsCell far (get_or cells (get_or changes n d).cell 0))
    → FarUpTo cells far changes was moves (n + 1)
far_on cells far changes was moves n h none = record {
  right = h.right;
  still = h.still;
  moved = λ k d lt inside waits.
      ⊎_elim
      (λ (before : k < n). h.moved k d before inside waits)
      (λ (after : n ≤ k).
      let last : k ≡ n = omega (arith, after, lt) in
      absurd (none d (omega (arith, last, inside)) (subst (λ k. AwaitsCell far (get_or cells (get_or changes k d).cell 0)) last waits)))
      (cases_lt k n);
}

-- ---- what stood in the cells that changed, up to one of them

-- the ballot of a cell is added to a plan, if there is one
pub record IsAdded (f : ℕ → List ℕ) (cells front : List ℕ) (was plan : Plan) (number : ℕ) : Type 0 where
  pub right : IsRight f cells front plan
  pub still : StayNoted cells was plan
  pub sought : number ≢ 0 → IsSought cells plan number

-- so many first cells that changed
abbrev pub AreSoughtUpTo : List ℕ → Plan → List CellChange → ℕ → Type 0
AreSoughtUpTo cells plan changes n = (k : ℕ) (d : CellChange) → k < n → k < length changes → (get_or changes k d).number ≢ 0 → IsSought cells plan (get_or changes k d).number

pub sought_more : (cells : List ℕ) (was plan : Plan) (changes : List CellChange) (n : ℕ) (one : CellChange)
    → AreSoughtUpTo cells was changes n → StayNoted cells was plan
    → ((d : CellChange) → n < length changes → get_or changes n d ≡ one)
    → (one.number ≢ 0 → IsSought cells plan one.number)
    → AreSoughtUpTo cells plan changes (n + 1)
sought_more cells was plan changes n one before still is sought k d lt inside some =
    ⊎_elim
    (λ (early : k < n). λ there same. still there (before k d early inside some there same))
    (λ (after : n ≤ k).
    let last : n ≡ k = omega (arith, after, lt) in
    let here : one ≡ get_or changes k d = sym (is d (omega (arith, last, inside))) ∙ ap (λ k. get_or changes k d) last in
    subst (λ (one : CellChange). IsSought cells plan one.number) here (sought (λ z. some (ap (λ (one : CellChange). one.number) (sym here) ∙ z))))
    (cases_lt k n)

-- ---- all cells that get another number

pub all_noted : (home : ℕ → ℕ) (numbers old cells : List ℕ) (plan : Plan) (changes : List CellChange) (cell : ℕ) → IsOrdered home cells
    → AreChanges cells old changes
    → ((k : ℕ) → k < length numbers → IsSought cells plan (get_or numbers k 0))
    → AreSought cells plan changes
    → Contains old (get_or cells cell 0) ⊎ Contains numbers (get_or cells cell 0)
    → HasNew old cells cell → IsNoted cells plan cell
all_noted home numbers old cells plan changes cell ordered are sought left known new =
    let v = get_or cells cell 0 in
    let none : CellChange = record { cell = 0; number = 0 } in
    let key : CellChange → ℕ = λ change. change.cell in
    ⊎_elim
    (λ (stood : Contains old v).
    let was = place_from_contains old v stood in
    let other : get_or cells was.0 0 ≢ get_or old was.0 0 = λ still.
    let here : cell ≡ was.0 = stands_once home cells cell was.0 ordered new.some (sym was.2 ∙ sym still) in
    new.other (ap (λ k. get_or old k 0) here ∙ was.2) in
    let there = among_at key changes was.0 none (are.up_to.every was.0 was.1 other) in
    let number : (get_or changes there.0 none).number ≡ v =
    sym (are.up_to.each there.0 none there.1).1 ∙ ap (λ cell. get_or old cell 0) there.2 ∙ was.2 in
    left there.0 none there.1 (λ z. new.some (sym number ∙ z)) cell (sym number))
    (λ (comes : Contains numbers v).
    let there = place_from_contains numbers v comes in
    sought there.0 there.1 cell (sym there.2))
    known
