-- A list that is shared out by an order, item by item.
use Rattle.std.proofs.Common.{⊎_elim, ◌≡◌, ◌≢◌, ◌+◌, ◌≤◌, ◌<◌, ◌++◌, ◌∙◌, ℕ, zero, suc, Bool, true, false, All, List, [], ◌∷◌, Some, ap, append-nil, arith, cond, get_or, length, length-append, map, refl, slice_get, slice_set, subst, sym, take, zip}
use Rattle.store_spec.proofs.Common.{All-map, cases_eq, filter, filter-append, length-map, length-set, length-take-le, map-append, none-some, same_Some, slice_get-get_or, slice_get_within}
use Rattle.std.specs.Prelude.{◌==◌}
use Rattle.phase_kind.proofs.Counts.{fewer_there, other_test, same_test}
use Rattle.phase_kind.proofs.Planned.{holds_at, mapped_at, zipped_at, zipped_there}
use Rattle.phase_kind.proofs.Taken.{seam}
use Rattle.phase_kind.proofs.Teams.{elsewhere, set_there}
use Rattle.phase_kind.proofs.Trays.{take_next, zip_none, zip_onto}
use Rattle.phase_kind.specs.Team.{AreEmptyLists, AreFilled, AreSharedOut, GoesWithin, replies_to, those_of}

module _ {I : Type 0} where
  abbrev sent : ℕ → List ℕ → List I → List I
  sent place order got = replies_to (λ p. p) place order got

  none_sent : (place : ℕ) (order : List ℕ) → sent place order [] ≡ []
  none_sent place order = ap (λ (rows : List (ℕ × I)). map (λ (row : ℕ × I). row.1) (filter (λ (row : ℕ × I). row.0 == place) rows)) (zip_none order)

  one_sent : (place : ℕ) (order : List ℕ) (got : List I) (to : ℕ) (x : I) → slice_get order (length got) ≡ Some to → sent place order (got ++ x ∷ []) ≡ sent place order got ++ map (λ (row : ℕ × I). row.1) (cond (to == place) ((to, x) ∷ []) [])
  one_sent place order got to x there =
      let goes : ℕ × I → Bool = λ row. row.0 == place in
      ap (λ (rows : List (ℕ × I)). map (λ (row : ℕ × I). row.1) (filter goes rows)) (zip_onto order got to x there)
      ∙ ap (map (λ (row : ℕ × I). row.1)) (filter-append goes (zip order got) ((to, x) ∷ []))
      ∙ map-append (λ (row : ℕ × I). row.1) (filter goes (zip order got)) (filter goes ((to, x) ∷ []))

  sent_there : (place : ℕ) (order : List ℕ) (got : List I) (to : ℕ) (x : I) → slice_get order (length got) ≡ Some to → place ≡ to → sent place order (got ++ x ∷ []) ≡ sent place order got ++ x ∷ []
  sent_there place order got to x there same =
      one_sent place order got to x there ∙ ap (λ b. sent place order got ++ map (λ (row : ℕ × I). row.1) (cond b ((to, x) ∷ []) [])) (same_test to place (sym same))

  sent_elsewhere : (place : ℕ) (order : List ℕ) (got : List I) (to : ℕ) (x : I) → slice_get order (length got) ≡ Some to → place ≢ to → sent place order (got ++ x ∷ []) ≡ sent place order got
  sent_elsewhere place order got to x there other =
      one_sent place order got to x there ∙ ap (λ b. sent place order got ++ map (λ (row : ℕ × I). row.1) (cond b ((to, x) ∷ []) [])) (other_test to place (λ e. other (sym e))) ∙ append-nil (sent place order got)

  -- as many were sent to a place as the order names it so far
  as_many_sent : (place : ℕ) (order : List ℕ) (got : List I) → length got ≤ length order → length (sent place order got) ≡ length (those_of (λ p. p) place (take (length got) order))
  as_many_sent place [] [] few = refl
  as_many_sent place [] (x ∷ got) few = absurd (omega arith)
  as_many_sent place (p ∷ order) [] few = refl
  as_many_sent place (p ∷ order) (x ∷ got) few = by (p == place) (as_many_sent place order got (omega arith))
    where
      by : (b : Bool) → length (sent place order got) ≡ length (those_of (λ q. q) place (take (length got) order))
          → length (map (λ (row : ℕ × I). row.1) (cond b ((p, x) ∷ filter (λ (row : ℕ × I). row.0 == place) (zip order got)) (filter (λ (row : ℕ × I). row.0 == place) (zip order got))))
          ≡ length (cond b (p ∷ those_of (λ q. q) place (take (length got) order)) (those_of (λ q. q) place (take (length got) order)))
      by true rest = ap suc rest
      by false rest = rest

  -- a list in its own order goes where its items go
  own_order : (goes_to : I → ℕ) (place : ℕ) (list : List I) → sent place (map goes_to list) list ≡ those_of goes_to place list
  own_order goes_to place [] = refl
  own_order goes_to place (x ∷ list) = by (goes_to x == place) (own_order goes_to place list)
    where
      by : (b : Bool) → sent place (map goes_to list) list ≡ those_of goes_to place list
          → map (λ (row : ℕ × I). row.1) (cond b ((goes_to x, x) ∷ filter (λ (row : ℕ × I). row.0 == place) (zip (map goes_to list) list)) (filter (λ (row : ℕ × I). row.0 == place) (zip (map goes_to list) list)))
          ≡ cond b (x ∷ those_of goes_to place list) (those_of goes_to place list)
      by true rest = ap (λ l. x ∷ l) rest
      by false rest = rest

-- what stands before the last of a list
in_front : {X : Type 0} (xs : List X) (x y : X) (place : ℕ) → place ≢ length xs → slice_get (xs ++ x ∷ []) place ≡ Some y → slice_get xs place ≡ Some y
in_front [] x y zero other there = absurd (other refl)
in_front [] x y (suc place) other there = absurd (none-some y there)
in_front (z ∷ xs) x y zero other there = there
in_front (z ∷ xs) x y (suc place) other there = in_front xs x y place (λ e. other (ap (λ n. suc n) e)) there

-- one new list more
pub one_new : {C I L : Type 0} (is_of : C → L → Type 0) (items : L → List I) (room : L → ℕ) (stores : List C) (shares : List ℕ) (lists : List L) (list : L) (store : C) (share : ℕ) → AreEmptyLists is_of items room stores shares lists → slice_get stores (length lists) ≡ Some store → slice_get shares (length lists) ≡ Some share
    → is_of store list → items list ≡ [] → room list ≡ share → AreEmptyLists is_of items room stores shares (lists ++ list ∷ [])
one_new {C} {I} {L} is_of items room stores shares lists list store share new its_store its_share of empty has_room place s n l at_s at_n at_l =
    ⊎_elim
    (λ (same : place ≡ length lists).
    let the_list : list ≡ l = same_Some list l (sym (seam lists [] list) ∙ ap (slice_get (lists ++ list ∷ [])) (sym same) ∙ at_l) in
    let the_store : store ≡ s = same_Some store s (sym its_store ∙ ap (slice_get stores) (sym same) ∙ at_s) in
    let the_share : share ≡ n = same_Some share n (sym its_share ∙ ap (slice_get shares) (sym same) ∙ at_n) in (
      subst (λ (x : L). is_of s x) the_list (subst (λ (c : C). is_of c list) the_store of),
      ap items (sym the_list) ∙ empty,
      ap room (sym the_list) ∙ has_room ∙ the_share,
    ))
    (λ (other : place ≢ length lists). new place s n l at_s at_n (in_front lists list l place other at_l))
    (cases_eq place (length lists))

-- what holds of all pairs, where one side of one of them changes
pub each_set : {A B : Type 0} (P : A × B → Type 0) (xs : List A) (ys : List B) (at : ℕ) (was now : B) → All P (zip xs ys) → ((a : A) → P (a, was) → P (a, now)) → slice_get ys at ≡ Some was → All P (zip xs (slice_set ys at now))
each_set {A} {B} P xs ys at was now all keeps there k d within =
    let both = get_or (zip xs (slice_set ys at now)) k d in
    let parts = zipped_at xs (slice_set ys at now) k both (slice_get-get_or (zip xs (slice_set ys at now)) k d within) in
    ⊎_elim
    (λ (same : k ≡ at).
    let is = set_there ys at k now both.1 same (slice_get_within ys at was there) parts.1 in
    let before = holds_at P (zip xs ys) k (both.0, was) all (zipped_there xs ys k both.0 was parts.0 (ap (slice_get ys) same ∙ there)) in
    subst (λ (b : B). P (both.0, b)) (sym is) (keeps both.0 before))
    (λ (other : k ≢ at).
    holds_at P (zip xs ys) k (both.0, both.1) all (zipped_there xs ys k both.0 both.1 parts.0 (elsewhere ys at k now both.1 other parts.1)))
    (cases_eq k at)

module _ {I L : Type 0} (items : L → List I) (room : L → ℕ) where
  -- new lists
  pub none_filled : (places : ℕ) (order : List ℕ) (lists : List L) → length lists ≡ places → ((place : ℕ) (list : L) → slice_get lists place ≡ Some list → (items list ≡ []) × (room list ≡ length (those_of (λ p. p) place order)))
      → AreFilled items room places order [] lists
  none_filled places order lists as_many each = record {
    as_many = as_many;
    each = λ place list there.
        let new = each place list there in
        (new.0 ∙ sym (none_sent place order), omega (arith, ap length new.0, new.1));
  }

  module _ (places : ℕ) (order : List ℕ) (list : List I) (index to : ℕ) (lists : List L) (was : L) (h : AreFilled items room places order (take index list) lists) (as_many : length order ≡ length list) (sent_to : slice_get order index ≡ Some to) (there : slice_get lists to ≡ Some was) where
    came : length (take index list) ≡ index
    came = length-take-le index list (omega (arith, as_many, slice_get_within order index to sent_to))

    -- where the next item goes there is room
    pub room_there : 0 < room was
    room_there =
        let at = h.each to was there in
        let went = as_many_sent to order (take index list) (omega (arith, came, slice_get_within order index to sent_to)) in
        omega (arith, at.1, ap length at.0, went, ap (λ n. length (those_of (λ (p : ℕ). p) to (take n order))) came, fewer_there (λ p. p) order index to to sent_to refl)

    -- one item more
    pub one_filled : (x : I) (now : L) → slice_get list index ≡ Some x → items now ≡ items was ++ x ∷ [] → room now + 1 ≡ room was → AreFilled items room places order (take (index + 1) list) (slice_set lists to now)
    one_filled x now at pushed less = record {
      as_many = length-set lists to now ∙ h.as_many;
      each = λ place l here.
          let next = take_next list index x at in
          let where_next : slice_get order (length (take index list)) ≡ Some to = ap (slice_get order) came ∙ sent_to in
          ⊎_elim
          (λ (same : place ≡ to).
          let is : l ≡ now = set_there lists to place now l same (slice_get_within lists to was there) here in
          let before = h.each to was there in (
            ap items is ∙ pushed ∙ ap (λ k. k ++ x ∷ []) (before.0 ∙ ap (λ p. sent p order (take index list)) (sym same))
                ∙ sym (ap (sent place order) next ∙ sent_there place order (take index list) to x where_next same),
            omega (arith, ap room is, ap (λ k. length (items k)) is, ap length pushed, length-append (items was) (x ∷ []), less, before.1, ap (λ p. length (those_of (λ (q : ℕ). q) p order)) same),
          ))
          (λ (other : place ≢ to).
          let before = h.each place l (elsewhere lists to place now l other here) in (
            before.0 ∙ sym (ap (sent place order) next ∙ sent_elsewhere place order (take index list) to x where_next other),
            before.1,
          ))
          (cases_eq place to);
    }

  -- the whole list
  pub all_shared : (goes_to : I → ℕ) (places : ℕ) (list : List I) (order : List ℕ) (lists : List L) → order ≡ map goes_to list → AreFilled items room places order list lists → AreSharedOut goes_to places list (map items lists)
  all_shared goes_to places list order lists order_is filled = record {
    as_many = length-map lists items ∙ filled.as_many;
    each = λ place those there.
        let at = mapped_at items lists place those there in
        at.2 ∙ (filled.each place at.0 at.1).0 ∙ ap (λ o. sent place o list) order_is ∙ own_order goes_to place list;
  }

-- an order stays within the places of its items
pub goes_within : {I : Type 0} (goes_to : I → ℕ) (places : ℕ) (list : List I) (order : List ℕ) → order ≡ map goes_to list → GoesWithin goes_to places list → GoesWithin (λ p. p) places order
goes_within goes_to places list order is within = subst (GoesWithin (λ (p : ℕ). p) places) (sym is) (All-map (λ (p : ℕ). p < places) goes_to list within)
