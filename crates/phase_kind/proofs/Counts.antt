-- The items of a list that go to a place, item by item.
use Rattle.std.proofs.Common.{⊎_elim, ◌≡◌, ◌≢◌, ◌+◌, ◌≤◌, ◌<◌, ◌++◌, ◌∙◌, ℕ, zero, suc, Bool, true, false, List, [], ◌∷◌, Some, ap, append-nil, arith, cond, drop, get_or, length, length-append, map, refl, replicate, slice_get, slice_set, subst, sym, take, zip}
use Rattle.store_spec.proofs.Common.{cases_eq, filter, filter-append, get_or-replicate, get_or-set_other, get_or-set_same, get_or_default, get_or_from_slice_get, length-replicate, length-set, length-take-le, map-append, same_Some, slice_get-get_or, slice_get-map, slice_get_within, take-append-drop, take_all, take_more}
use Rattle.std.proofs.lemmas.Bool.Decides.{eqb_tells}
use Rattle.std.specs.Option.{option_map}
use Rattle.std.specs.Prelude.{◌==◌}
use Rattle.phase_kind.proofs.Trays.{take_next, zip_more}
use Rattle.phase_kind.specs.Team.{AreByPlace, AreInListOrder, AreShares, GoesWithin, replies_to, those_of}

pub same_test : (a b : ℕ) → a ≡ b → (a == b) ≡ true
same_test a b same = ⊎_elim (λ h. h.0) (λ h. absurd (h.1 same)) (eqb_tells a b)

pub other_test : (a b : ℕ) → a ≢ b → (a == b) ≡ false
other_test a b other = ⊎_elim (λ h. absurd (other h.1)) (λ h. h.0) (eqb_tells a b)

-- something stands at each place of a list
pub something_there : {X : Type 0} (xs : List X) (place : ℕ) → place < length xs → (x : X) × (slice_get xs place ≡ Some x)
something_there [] place within = absurd (omega arith)
something_there (x ∷ xs) zero within = (x, refl)
something_there (x ∷ xs) (suc place) within = something_there xs place (omega arith)

-- what a list shows at a place
pub shown_there : {V X : Type 0} (shown : V → X) (vs : List V) (place : ℕ) (v : V) → place < length vs → v ≡ get_or vs place v → slice_get (map shown vs) place ≡ Some (shown v)
shown_there shown vs place v within is =
    slice_get-map shown vs place ∙ ap (option_map shown) (slice_get-get_or vs place v within) ∙ ap (λ w. Some (shown w)) (sym is)

module _ {I : Type 0} (goes_to : I → ℕ) where
  -- where an item goes
  pub goes_below : (places : ℕ) (list : List I) (index : ℕ) (x : I) (to : ℕ) → GoesWithin goes_to places list → slice_get list index ≡ Some x → to ≡ goes_to x → to < places
  goes_below places list index x to within there is =
      let lt = slice_get_within list index x there in
      subst (λ (n : ℕ). n < places) (sym is) (subst (λ (y : I). goes_to y < places) (get_or_from_slice_get list index x x there) (within index x lt))

  -- where an item goes that stands first
  pub goes_first : (x : I) (place : ℕ) (rest : List I) → goes_to x ≡ place → those_of goes_to place (x ∷ rest) ≡ x ∷ those_of goes_to place rest
  goes_first x place rest is = ap (λ b. cond b (x ∷ those_of goes_to place rest) (those_of goes_to place rest)) (same_test (goes_to x) place is)

  pub goes_past : (x : I) (place : ℕ) (rest : List I) → goes_to x ≢ place → those_of goes_to place (x ∷ rest) ≡ those_of goes_to place rest
  goes_past x place rest other = ap (λ b. cond b (x ∷ those_of goes_to place rest) (those_of goes_to place rest)) (other_test (goes_to x) place other)

  next_of : (list : List I) (index : ℕ) (x : I) (place : ℕ) → slice_get list index ≡ Some x → those_of goes_to place (take (index + 1) list) ≡ those_of goes_to place (take index list) ++ cond (goes_to x == place) (x ∷ []) []
  next_of list index x place there = ap (those_of goes_to place) (take_next list index x there) ∙ filter-append (λ y. goes_to y == place) (take index list) (x ∷ [])

  -- one item more that goes there
  pub next_there : (list : List I) (index : ℕ) (x : I) (place : ℕ) → slice_get list index ≡ Some x → goes_to x ≡ place → those_of goes_to place (take (index + 1) list) ≡ those_of goes_to place (take index list) ++ x ∷ []
  next_there list index x place there is = next_of list index x place there ∙ ap (λ b. those_of goes_to place (take index list) ++ cond b (x ∷ []) []) (same_test (goes_to x) place is)

  -- one that goes elsewhere
  pub next_elsewhere : (list : List I) (index : ℕ) (x : I) (place : ℕ) → slice_get list index ≡ Some x → goes_to x ≢ place → those_of goes_to place (take (index + 1) list) ≡ those_of goes_to place (take index list)
  next_elsewhere list index x place there other = next_of list index x place there ∙ ap (λ b. those_of goes_to place (take index list) ++ cond b (x ∷ []) []) (other_test (goes_to x) place other) ∙ append-nil (those_of goes_to place (take index list))

  few_there : (place : ℕ) (front rest : List I) → length (those_of goes_to place front) ≤ length (those_of goes_to place (front ++ rest))
  few_there place front rest = omega (arith, ap length (filter-append (λ y. goes_to y == place) front rest), length-append (those_of goes_to place front) (those_of goes_to place rest))

  -- fewer went there than go there
  pub fewer_there : (list : List I) (index : ℕ) (x : I) (place : ℕ) → slice_get list index ≡ Some x → goes_to x ≡ place → length (those_of goes_to place (take index list)) < length (those_of goes_to place list)
  fewer_there list index x place there is =
      let went = those_of goes_to place (take index list) in
      let all = few_there place (take (index + 1) list) (drop (index + 1) list) in
      omega (arith, all, ap (λ l. length (those_of goes_to place l)) (take-append-drop (index + 1) list), ap length (next_there list index x place there is), length-append went (x ∷ []))

  -- and no more than came
  pub short : (place : ℕ) (list : List I) → length (those_of goes_to place list) ≤ length list
  short place [] = omega arith
  short place (x ∷ list) = by (goes_to x == place) (short place list)
    where
      by : (b : Bool) → length (those_of goes_to place list) ≤ length list → length (cond b (x ∷ those_of goes_to place list) (those_of goes_to place list)) ≤ suc (length list)
      by true rest = omega arith
      by false rest = omega arith

  -- ---- how many went to each place

  pub record AreCounts (places : ℕ) (list : List I) (counts : List ℕ) : Type 0 where
    pub as_many : length counts ≡ places
    pub each : (place : ℕ) → place < places → get_or counts place 0 ≡ length (those_of goes_to place list)

  pub none_counted : (places : ℕ) (counts : List ℕ) → counts ≡ replicate places 0 → AreCounts places [] counts
  none_counted places counts are = record {
    as_many = ap length are ∙ length-replicate places 0;
    each = λ place within. ap (λ (l : List ℕ). get_or l place 0) are ∙ get_or-replicate places place 0 0 within;
  }

  pub one_counted : (places : ℕ) (list : List I) (index : ℕ) (x : I) (to : ℕ) (counts : List ℕ) (now : ℕ) → AreCounts places (take index list) counts → slice_get list index ≡ Some x → to ≡ goes_to x → to < places → now ≡ get_or counts to 0 + 1
      → AreCounts places (take (index + 1) list) (slice_set counts to now)
  one_counted places list index x to counts now counted there is within more = record {
    as_many = length-set counts to now ∙ counted.as_many;
    each = λ place below.
        ⊎_elim
        (λ (same : place ≡ to).
        let went = those_of goes_to to (take index list) in
        ap (λ (p : ℕ). get_or (slice_set counts to now) p 0) same
        ∙ get_or-set_same counts to now 0 (omega (arith, within, counted.as_many))
        ∙ omega (arith, more, counted.each to within, length-append went (x ∷ []), ap length (next_there list index x to there (sym is)))
        ∙ ap (λ (p : ℕ). length (those_of goes_to p (take (index + 1) list))) (sym same))
        (λ (other : place ≢ to).
        get_or-set_other counts to place now 0 other
        ∙ counted.each place below
        ∙ ap length (sym (next_elsewhere list index x place there (λ e. other (sym e ∙ sym is)))))
        (cases_eq place to);
  }

  -- how many went where the next item goes
  pub count_there : (places : ℕ) (list : List I) (index to : ℕ) (counts : List ℕ) (n : ℕ) → AreCounts places (take index list) counts → to < places → n ≡ get_or counts to n → n ≡ length (those_of goes_to to (take index list))
  count_there places list index to counts n counted within is = is ∙ get_or_default counts to n 0 (omega (arith, within, counted.as_many)) ∙ counted.each to within

  pub are_shares : (places : ℕ) (list : List I) (counts : List ℕ) → AreCounts places list counts → AreShares goes_to places list counts
  are_shares places list counts counted = record {
    as_many = counted.as_many;
    each = λ place share there. sym (get_or_from_slice_get counts place share 0 there) ∙ counted.each place (omega (arith, slice_get_within counts place share there, counted.as_many));
  }

  -- ---- replies in the order of the list

  module _ {X : Type 0} where
    next_reply : (list : List I) (index : ℕ) (x : I) (place : ℕ) (told : List X) (reply : X) → slice_get list index ≡ Some x → length told ≡ index
        → replies_to goes_to place (take (index + 1) list) (told ++ reply ∷ []) ≡ replies_to goes_to place (take index list) told ++ map (λ (row : I × X). row.1) (cond (goes_to x == place) ((x, reply) ∷ []) [])
    next_reply list index x place told reply there as_many =
        let goes : I × X → Bool = λ row. goes_to row.0 == place in
        let front = zip (take index list) told in
        let lt = slice_get_within list index x there in
        ap (λ (l : List I). replies_to goes_to place l (told ++ reply ∷ [])) (take_next list index x there)
        ∙ ap (λ (rows : List (I × X)). map (λ (row : I × X). row.1) (filter goes rows)) (zip_more (take index list) told x reply (as_many ∙ sym (length-take-le index list (omega arith))))
        ∙ ap (map (λ (row : I × X). row.1)) (filter-append goes front ((x, reply) ∷ []))
        ∙ map-append (λ (row : I × X). row.1) (filter goes front) (filter goes ((x, reply) ∷ []))

    -- the replies so far, of which as many are taken from each row as items went there
    pub record AreMerged (list : List I) (rows : List (List X)) (index : ℕ) (told : List X) : Type 0 where
      pub as_many : length told ≡ index
      pub each : (place : ℕ) (row : List X) → slice_get rows place ≡ Some row → replies_to goes_to place (take index list) told ≡ take (length (those_of goes_to place (take index list))) row

    pub none_merged : (list : List I) (rows : List (List X)) → AreMerged list rows 0 []
    none_merged list rows = record { as_many = refl; each = λ place row there. refl }

    pub one_merged : (list : List I) (rows : List (List X)) (index : ℕ) (x : I) (to : ℕ) (told : List X) (row : List X) (next : ℕ) (reply : X)
        → AreMerged list rows index told → AreByPlace goes_to list rows → slice_get list index ≡ Some x → to ≡ goes_to x → slice_get rows to ≡ Some row → next ≡ length (those_of goes_to to (take index list)) → reply ≡ get_or row next reply
        → AreMerged list rows (index + 1) (told ++ reply ∷ [])
    one_merged list rows index x to told row next reply merged by_place there is at next_is reply_is = record {
      as_many = length-append told (reply ∷ []) ∙ ap (λ n. n + 1) merged.as_many;
      each = λ place other other_at.
          let start = next_reply list index x place told reply there merged.as_many in
          ⊎_elim
          (λ (same : goes_to x ≡ place).
          let went = those_of goes_to place (take index list) in
          let row_is : other ≡ row = same_Some other row (sym other_at ∙ ap (slice_get rows) (sym same ∙ sym is) ∙ at) in
          let here : next ≡ length went = next_is ∙ ap (λ (p : ℕ). length (those_of goes_to p (take index list))) (is ∙ same) in
          let within : length went < length other = omega (arith, by_place place other other_at, fewer_there list index x place there same) in
          let reply_here : reply ≡ get_or other (length went) reply = reply_is ∙ ap (λ (l : List X). get_or l next reply) (sym row_is) ∙ ap (λ (n : ℕ). get_or other n reply) here in
          start
          ∙ ap (λ (b : Bool). replies_to goes_to place (take index list) told ++ map (λ (r : I × X). r.1) (cond b ((x, reply) ∷ []) [])) (same_test (goes_to x) place same)
          ∙ ap (λ (l : List X). l ++ reply ∷ []) (merged.each place other other_at)
          ∙ ap (λ (r : X). take (length went) other ++ r ∷ []) reply_here
          ∙ sym (take_more other (length went) reply within)
          ∙ ap (λ (n : ℕ). take n other) (sym (ap length (next_there list index x place there same) ∙ length-append went (x ∷ []))))
          (λ (differs : goes_to x ≢ place).
          start
          ∙ ap (λ (b : Bool). replies_to goes_to place (take index list) told ++ map (λ (r : I × X). r.1) (cond b ((x, reply) ∷ []) [])) (other_test (goes_to x) place differs)
          ∙ append-nil (replies_to goes_to place (take index list) told)
          ∙ merged.each place other other_at
          ∙ ap (λ (l : List I). take (length l) other) (sym (next_elsewhere list index x place there differs)))
          (cases_eq (goes_to x) place);
    }

    pub all_merged : (list : List I) (rows : List (List X)) (index : ℕ) (told : List X) → AreMerged list rows index told → AreByPlace goes_to list rows → index ≡ length list → AreInListOrder goes_to list rows told
    all_merged list rows index told merged by_place all =
        let whole : take index list ≡ list = take_all index list (omega (arith, all)) in
        record {
          as_many = merged.as_many ∙ all;
          each = λ place row there.
              ap (λ (l : List I). replies_to goes_to place l told) (sym whole)
              ∙ merged.each place row there
              ∙ ap (λ (l : List I). take (length (those_of goes_to place l)) row) whole
              ∙ take_all (length (those_of goes_to place list)) row (omega (arith, by_place place row there));
        }
