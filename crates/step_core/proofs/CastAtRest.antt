-- What the casting invariant says of single numbers, and of the cells once all are at rest.
use Rattle.std.proofs.Common.{◌≡◌, ◌≢◌, ℕ, ◌+◌, ◌<◌, ◌≤◌, Some, List, [], ◌∷◌, ◌++◌, length, get_or, take, drop, refl, sym, ap, ◌∙◌, subst, arith}
use Rattle.store_spec.proofs.Common.{All, All-append, All-contains, All-head, AreInOrder, CastInvariant, CastView, Contains, EachOnce, HasMet, HasRoom, HasRoomFor, HoldSame, HoldsOther, IsClaimed, IsPermutation-sym, IsTried, Probing, Rest, Table, accepted_of, claim_place, claim_word, count_of, get_or-drop, get_or_default, hands_of, layout_of, length-append, numbers_in, slice_get, sum_by-append}
use Rattle.probe_order.proofs.ClaimOrder.{within}
use Rattle.layout_def.proofs.LaidOut.{ordered_is_layout_of}
use Rattle.step_core.proofs.CastClaims.{nowhere}
use Rattle.step_core.proofs.CastHands.{all_count, cells_size, claims_size, counts_few, is_some}
use Rattle.step_core.proofs.CastOpening.{rest_hands}
use Rattle.step_core.proofs.CastRows.{probing_is}
use Rattle.step_core.proofs.SameNumbers.{hold, weigh}
use Rattle.step_core.proofs.Sets.{at_place, contains-flat_map, counted, distinct_once, is_one, is_one-zero, stands_counted}

-- ---- the same numbers

-- what stands in one of two lists with the same numbers stands in the other
pub same-contains : (xs ys : List ℕ) (v : ℕ) → HoldSame xs ys → v ≢ 0 → Contains xs v → Contains ys v
same-contains xs ys v same some c =
    stands_counted v ys (omega (arith, counted v xs c, weigh same (is_one v) (is_one-zero v some)))

pub same-back : (xs ys : List ℕ) → HoldSame xs ys → HoldSame ys xs
same-back xs ys same = record { reordered = IsPermutation-sym (numbers_in xs) (numbers_in ys) same.reordered }

-- cells and hands hold the base and what is accepted
pub cells_and_hands : (t : Table) (base words : List ℕ) (views : List CastView) → CastInvariant t base words views → HoldSame (take t.cells words ++ hands_of views) (base ++ accepted_of views)
cells_and_hands t base words views h = hold (λ weight none.
    let claims = drop t.cells words in
    let claimed = sum_by-append weight base claims in
    let accepted = sum_by-append weight base (accepted_of views) in
    omega (arith, weigh h.owned weight none, weigh h.claimed.accepted weight none))

-- what is of the base or accepted is so once
pub accepted_once : (t : Table) (base words : List ℕ) (views : List CastView) → CastInvariant t base words views → EachOnce (base ++ accepted_of views)
accepted_once t base words views h v some =
    let claims = drop t.cells words in
    let weight = is_one v in
    let claimed = sum_by-append weight base claims in
    let accepted = sum_by-append weight base (accepted_of views) in
    omega (arith, h.claimed.once v some, weigh h.claimed.accepted weight (is_one-zero v some))

pub stands_once : (t : Table) (base words : List ℕ) (views : List CastView) (v : ℕ) → CastInvariant t base words views → v ≢ 0 → count_of v (take t.cells words ++ hands_of views) ≤ 1
stands_once t base words views v h some =
    omega (arith, weigh (cells_and_hands t base words views h) (is_one v) (is_one-zero v some), accepted_once t base words views h v some)

-- ---- what a number has met

-- an accepted number stands in a claim word
pub accepted_claimed : (t : Table) (base words : List ℕ) (views : List CastView) (x : ℕ) → CastInvariant t base words views → Contains (accepted_of views) x → IsClaimed (drop t.cells words) x
accepted_claimed t base words views x h c =
    let some = All-contains (λ v. v ≢ 0) (accepted_of views) x h.claimed.some c in
    (some, same-contains (accepted_of views) (drop t.cells words) x h.claimed.accepted some c)

empty_from_none : {X : Type 0} (P : X → Type 0) (xs : List X) → All P xs → ((x : X) → P x → ⊥) → xs ≡ []
empty_from_none P [] all none = refl
empty_from_none P (x ∷ xs) all none = absurd (none x (All-head P x xs all))

-- a number that wins a claim word was met by no tabulator before, and its tabulator met no full claim words
pub record IsNewIn (view : CastView) (x : ℕ) : Type 0 where
  pub not_accepted : ¬ Contains view.accepted x
  pub not_taken : ¬ Contains view.taken x
  pub not_full : view.full ≡ []

pub claim_is_new : (t : Table) (base words : List ℕ) (views : List CastView) (id : ℕ) (view : CastView) (x k : ℕ) → CastInvariant t base words views → slice_get views id ≡ Some view → view.state ≡ Probing x k → get_or words (claim_word t x k) 0 ≡ 0 → IsNewIn view x
claim_is_new t base words views id view x k h stands from free =
    let claims = drop t.cells words in
    let many : length claims ≡ t.claims = claims_size t base words views h in
    let tried = probing_is t base words views id view (Probing x k) h stands from in
    let word : get_or claims (claim_place x k t.claims) 0 ≡ 0 = get_or-drop t.cells words (claim_place x k t.claims) 0 ∙ free in
    let left = tried.one_left in
    let there : claim_place x k t.claims < length claims = let in_range = within x k t.claims (omega arith) in omega arith in
    let new : ¬ Contains claims x = nowhere claims base x k
    (subst (λ (n : ℕ). IsTried n base claims x k) (sym many) tried)
    (subst (λ (n : ℕ). AreInOrder n claims) (sym many) h.claimed.in_order)
    (ap (λ n. get_or claims (claim_place x k n) 0) many ∙ word) in
    let met = at_place (HasMet claims) views id view stands h.claimed.met in
    record {
      not_accepted = λ c. new (accepted_claimed t base words views x h (contains-flat_map (λ (v : CastView). v.accepted) views id view x stands c)).1;
      not_taken = λ c. new (All-contains (IsClaimed claims) view.taken x met.taken c).1;
      not_full = empty_from_none (λ y. (place : ℕ) → place < length claims → HoldsOther claims y place) view.full met.full
          (λ y others. (others (claim_place x k t.claims) there).some word);
    }

-- where claim words were full for a number, none is free and the number is not accepted
pub full_for : (t : Table) (base words : List ℕ) (views : List CastView) (id : ℕ) (view : CastView) (x : ℕ) → CastInvariant t base words views → slice_get views id ≡ Some view → Contains view.full x → (¬ Contains (accepted_of views) x) × (length (accepted_of views) ≡ t.claims)
full_for t base words views id view x h stands c =
    let claims = drop t.cells words in
    let met = at_place (HasMet claims) views id view stands h.claimed.met in
    let others = All-contains (λ y. (place : ℕ) → place < length claims → HoldsOther claims y place) view.full x met.full c in
    let filled : All (λ v. v ≢ 0) claims = λ k d lt. λ e. (others k lt).some (get_or_default claims k 0 d lt ∙ e) in (
      λ a.
          let claimed = (accepted_claimed t base words views x h a).1 in
          (others claimed.0 claimed.1).other (get_or_default claims claimed.0 0 x claimed.1 ∙ claimed.2),
      omega (arith, all_count claims filled, all_count (accepted_of views) h.claimed.some, weigh h.claimed.accepted is_some refl, claims_size t base words views h),
    )

-- ---- at rest

pub rest_layout : (t : Table) (base words : List ℕ) (views : List CastView) → HasRoomFor t base → CastInvariant t base words views → All (λ view. view.state ≡ Rest) views → take t.cells words ≡ layout_of t.home t.cells (base ++ accepted_of views)
rest_layout t base words views room h rest =
    let cells = take t.cells words in
    let numbers = base ++ accepted_of views in
    let some : All (λ v. v ≢ 0) numbers = All-append (λ v. v ≢ 0) base (accepted_of views) room.some h.claimed.some in
    let same : HoldSame cells numbers = hold (λ weight none.
    omega (arith, weigh (cells_and_hands t base words views h) weight none, sum_by-append weight cells (hands_of views), rest_hands weight none views rest)) in
    let fits : length numbers ≤ length base + t.claims =
    omega (arith, length-append base (accepted_of views), all_count (accepted_of views) h.claimed.some, weigh h.claimed.accepted is_some refl, counts_few (drop t.cells words), claims_size t base words views h) in
    let enough : HasRoom t.home room.homes t.cells numbers = record {
      distinct = distinct_once numbers (accepted_once t base words views h) some;
      some = some;
      homed = λ k d lt. room.homed (get_or numbers k d);
      room = let all = room.room in omega arith;
    } in
    ordered_is_layout_of t.home room.homes t.cells numbers cells enough (cells_size t base words views h) h.placed.ordered (record {
      each = λ v c. same-contains numbers cells v (same-back cells numbers same) (All-contains (λ w. w ≢ 0) numbers v some c) c;
      only = λ v n c. same-contains cells numbers v same n c;
    })
