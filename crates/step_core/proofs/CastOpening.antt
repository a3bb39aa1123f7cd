-- The casting invariant at the opening, and where seats are made and taken in.
use Rattle.std.proofs.Common.{◌≡◌, ◌≢◌, ℕ, ◌+◌, ◌<◌, ◌≤◌, ⊎_elim, inl, inr, Some, List, [], ◌∷◌, ◌++◌, length, set, take, drop, replicate, refl, sym, ap, ◌∙◌, subst, arith}
use Rattle.store_spec.proofs.Common.{All, All-append, All-nil, All-push, All-replicate, All-set, All-weaker, AreClaimed, ArePlaced, CastInvariant, CastView, EachOnce, HasMet, HasRoom, HasSeen, HoldSame, HoldsOther, IsClaimed, IsHand, IsOrdered, IsProbing, Rest, Table, ascending, cases_lt, claim_place, drop_at, fresh_cast_view, get_or-set_other, get_or_from_slice_get, hands_of, in_hand, joined_cast_view, laid_out, layout_of, length-append, length-replicate, length-set, map-append, put_in_order, slice_get, slice_get-get_or, sum_by, sum_by-append, sum_by-cons, sum_by-le, sum_by-set, sum_by_push, take_at}
use Rattle.std.proofs.lemmas.List.Folds.{sum_by-replicate}
use Rattle.layout_def.proofs.LaidOut.{AreHomed, empty_cell, homed_ascending, laid_out_is, place_of_next}
use Rattle.layout_def.proofs.Ascending.{IsRising, ascending_distinct, length-ascending, put_first, put_later}
use Rattle.layout_def.proofs.Placing.{placed_at}
use Rattle.step_core.proofs.CastClaims.{accepted-set}
use Rattle.step_core.proofs.CastHands.{hands-set}
use Rattle.step_core.proofs.SameNumbers.{WeighSame, hold, weigh}
use Rattle.step_core.proofs.Sets.{at_place, stands_within, All-flat_map, All-from_flat_map, is_one, is_one-zero, sum_by-flat_map, sum_by-map}

-- ---- a layout weighs what its numbers weigh

weighs_put : (weight : ℕ → ℕ) (v : ℕ) (xs : List ℕ) → sum_by weight (put_in_order v xs) ≡ weight v + sum_by weight xs
weighs_put weight v [] = sum_by-cons weight v []
weighs_put weight v (x ∷ xs) = ⊎_elim
    (λ (below : x < v).
    let later = ap (sum_by weight) (put_later v x xs below) in
    omega (arith, sum_by-cons weight x xs, sum_by-cons weight x (put_in_order v xs), weighs_put weight v xs))
    (λ (above : v ≤ x). ap (sum_by weight) (put_first v x xs above) ∙ sum_by-cons weight v (x ∷ xs))
    (cases_lt x v)

pub weighs_ascending : (weight : ℕ → ℕ) (xs : List ℕ) → sum_by weight (ascending xs) ≡ sum_by weight xs
weighs_ascending weight [] = refl
weighs_ascending weight (x ∷ xs) = omega (arith, weighs_put weight x (ascending xs), weighs_ascending weight xs, sum_by-cons weight x xs)

weighs_laid_out : (weight : ℕ → ℕ) → weight 0 ≡ 0 → (home : ℕ → ℕ) (homes count : ℕ) (numbers : List ℕ) → IsRising numbers → AreHomed home homes numbers → homes + length numbers ≤ count → sum_by weight (laid_out home count numbers) ≡ sum_by weight numbers
weighs_laid_out weight none home homes count [] rising homed room =
    sum_by-replicate weight count 0 ∙ (let nothing = none in grind arith)
weighs_laid_out weight none home homes count (v ∷ greater) rising homed room =
    let cells = laid_out home count greater in
    let more : AreHomed home homes greater = λ y i. homed y (inr i) in
    let before = laid_out_is home homes count greater rising.1 more (omega arith) in
    let s = place_of_next home homes count v greater cells (homed v (inl refl)).1 room before in
    let first = s.1 in
    let goes = ap (sum_by weight) (placed_at v (home v) cells s.0 first.after first.within first.empty first.full) in
    let change = sum_by-set weight cells s.0 v 0 first.within in
    let was = ap weight first.empty in
    omega (arith, weighs_laid_out weight none home homes count greater rising.1 more (omega arith), sum_by-cons weight v greater)

pub layout_weighs : (home : ℕ → ℕ) (homes count : ℕ) (numbers : List ℕ) → HasRoom home homes count numbers → WeighSame (layout_of home count numbers) numbers
layout_weighs home homes count numbers h weight none =
    weighs_laid_out weight none home homes count (ascending numbers)
    (ascending_distinct numbers h.distinct) (homed_ascending home homes count numbers h)
    (let enough = h.room in omega (arith, length-ascending numbers))
    ∙ weighs_ascending weight numbers

-- ---- the opening

-- a tabulator at rest that has accepted nothing, and where anything it met is as it should be
pub record IsIdle (claims : List ℕ) (view : CastView) : Type 0 where
  pub rests : view.state ≡ Rest
  pub no_accepted : view.accepted ≡ []
  pub met : HasMet claims view

-- what is nothing for each element is nothing in all
sum_none : {X : Type 0} (f : X → ℕ) (xs : List X) → All (λ x. f x ≡ 0) xs → sum_by f xs ≡ 0
sum_none f xs none = omega (arith, sum_by-le f 0 xs (λ k d within. let zero_here = none k d within in omega arith))

-- at rest no hand weighs anything
pub rest_hands : (weight : ℕ → ℕ) → weight 0 ≡ 0 → (views : List CastView) → All (λ view. view.state ≡ Rest) views → sum_by weight (hands_of views) ≡ 0
rest_hands weight none views rest =
    sum_by-map weight (λ (view : CastView). in_hand view.state) views
    ∙ sum_none (λ (view : CastView). weight (in_hand view.state)) views
    (λ k d within. ap weight (ap in_hand (rest k d within)) ∙ none)

pub opening_idle : (t : Table) (base cells : List ℕ) (views : List CastView) → IsOrdered t.home cells → length cells ≡ t.cells → HoldSame cells base → EachOnce base → All (IsIdle (replicate t.claims 0)) views → CastInvariant t base (cells ++ replicate t.claims 0) views
opening_idle t base cells views ordered size same once idle =
    let words = cells ++ replicate t.claims 0 in
    let front : take t.cells words ≡ cells = take_at cells (replicate t.claims 0) t.cells size in
    let back : drop t.cells words ≡ replicate t.claims 0 = drop_at cells (replicate t.claims 0) t.cells size in
    let free = λ (weight : ℕ → ℕ) (none : weight 0 ≡ 0). sum_none weight (replicate t.claims 0) (All-replicate (λ x. weight x ≡ 0) t.claims 0 none) in
    let no_accepted = λ (weight : ℕ → ℕ).
    sum_by-flat_map weight (λ (view : CastView). view.accepted) views
    ∙ sum_none (λ (view : CastView). sum_by weight view.accepted) views (λ k d within. ap (sum_by weight) (let own = idle k d within in own.no_accepted)) in
    let claimed : AreClaimed t.claims base (replicate t.claims 0) views = record {
      once = λ v some.
          let all = sum_by-append (is_one v) base (replicate t.claims 0) in
          omega (arith, once v some, free (is_one v) (is_one-zero v some));
      accepted = hold (λ weight none. no_accepted weight ∙ sym (free weight none));
      some = All-flat_map (λ x. x ≢ 0) (λ (view : CastView). view.accepted) views
          (λ k d within. let own = idle k d within in subst (All (λ x. x ≢ 0)) (sym own.no_accepted) (All-nil (λ x. x ≢ 0)));
      in_order = λ x tries before some lt fits holds.
          absurd (some (sym holds ∙ empty_cell t.claims (claim_place x tries t.claims)));
      probing = λ k d within. let own = idle k d within in subst (IsProbing t.claims base (replicate t.claims 0)) (sym own.rests) tt;
      met = λ k d within. let own = idle k d within in own.met;
    } in
    record {
      size = length-append cells (replicate t.claims 0) ∙ (let zeros = length-replicate {A = ℕ} t.claims 0 in omega arith);
      placed = subst (λ (c : List ℕ). ArePlaced t.home c views) (sym front) (record {
        ordered = ordered;
        hands = λ k d within. let own = idle k d within in subst (IsHand t.home cells) (sym own.rests) tt;
        seen = λ k d within. let own = idle k d within in subst (HasSeen cells) (sym own.rests) tt;
      });
      owned = hold (λ weight none.
          let left = sum_by-append weight (take t.cells words) (hands_of views) in
          let right = sum_by-append weight base (drop t.cells words) in
          let hands = rest_hands weight none views (λ k d within. let own = idle k d within in own.rests) in
          let cells_are = ap (sum_by weight) front in
          let claims_are = ap (sum_by weight) back in
          omega (arith, weigh same weight none, free weight none));
      claimed = subst (λ (c : List ℕ). AreClaimed t.claims base c views) (sym back) claimed;
    }

-- tabulators that are new
pub fresh_met : (claims : List ℕ) → HasMet claims fresh_cast_view
fresh_met claims = record { taken = All-nil (IsClaimed claims); full = λ k d none. absurd (omega arith) }

fresh_idle : (claims : List ℕ) (view : CastView) → view ≡ fresh_cast_view → IsIdle claims view
fresh_idle claims view is = subst (IsIdle claims) (sym is) (record { rests = refl; no_accepted = refl; met = fresh_met claims })

pub opening : (t : Table) (base cells : List ℕ) (views : List CastView) → IsOrdered t.home cells → length cells ≡ t.cells → HoldSame cells base → EachOnce base → All (λ view. view ≡ fresh_cast_view) views → CastInvariant t base (cells ++ replicate t.claims 0) views
opening t base cells views ordered size same once fresh =
    opening_idle t base cells views ordered size same once
    (All-weaker (λ view. view ≡ fresh_cast_view) (IsIdle (replicate t.claims 0)) (fresh_idle (replicate t.claims 0)) views fresh)

-- ---- seats

-- a new tabulator comes last
pub seat_made : (t : Table) (base words : List ℕ) (views : List CastView) → CastInvariant t base words views → CastInvariant t base words (views ++ fresh_cast_view ∷ [])
seat_made t base words views h =
    let cells = take t.cells words in
    let claims = drop t.cells words in
    let all = views ++ fresh_cast_view ∷ [] in
    record {
      size = h.size;
      placed = record {
        ordered = h.placed.ordered;
        hands = All-push (λ view. IsHand t.home cells view.state) views fresh_cast_view h.placed.hands tt;
        seen = All-push (λ view. HasSeen cells view.state) views fresh_cast_view h.placed.seen tt;
      };
      owned = hold (λ weight none.
          let hands = ap (sum_by weight) (map-append (λ (view : CastView). in_hand view.state) views (fresh_cast_view ∷ [])) ∙ sum_by_push weight (hands_of views) 0 in
          let before = sum_by-append weight cells (hands_of views) in
          let after = sum_by-append weight cells (hands_of all) in
          omega (arith, weigh h.owned weight none));
      claimed = record {
        once = h.claimed.once;
        accepted = hold (λ weight none.
            let before = sum_by-flat_map weight (λ (view : CastView). view.accepted) views in
            let after = sum_by-flat_map weight (λ (view : CastView). view.accepted) all in
            let more = sum_by_push (λ (view : CastView). sum_by weight view.accepted) views fresh_cast_view in
            omega (arith, weigh h.claimed.accepted weight none));
        some = All-flat_map (λ x. x ≢ 0) (λ (view : CastView). view.accepted) all
            (All-push (λ view. All (λ x. x ≢ 0) view.accepted) views fresh_cast_view
            (All-from_flat_map (λ x. x ≢ 0) (λ (view : CastView). view.accepted) views h.claimed.some) (All-nil (λ x. x ≢ 0)));
        in_order = h.claimed.in_order;
        probing = All-push (λ view. IsProbing t.claims base claims view.state) views fresh_cast_view h.claimed.probing tt;
        met = All-push (HasMet claims) views fresh_cast_view h.claimed.met (fresh_met claims);
      };
    }

-- two tabulators at rest: the one takes in the other's lists, and the other is as new
pub seat_taken_in : (t : Table) (base words : List ℕ) (views : List CastView) (id other : ℕ) (view gone : CastView) → CastInvariant t base words views → id ≢ other → slice_get views id ≡ Some view → slice_get views other ≡ Some gone → view.state ≡ Rest → gone.state ≡ Rest → CastInvariant t base words (set (set views id (joined_cast_view view gone)) other fresh_cast_view)
seat_taken_in t base words views id other view gone h apart stands stands_too rests rests_too =
    let cells = take t.cells words in
    let claims = drop t.cells words in
    let both = joined_cast_view view gone in
    let first = set views id both in
    let now = set first other fresh_cast_view in
    let within_other = stands_within views other gone stands_too in
    let stays : slice_get first other ≡ Some gone =
    slice_get-get_or first other gone (omega (arith, length-set views id both))
    ∙ ap (λ (v : CastView). Some v) (get_or-set_other views id other both gone (λ e. apart (sym e)) ∙ get_or_from_slice_get views other gone gone stands_too) in
    let two : (P : CastView → Type 0) → All P views → P both → P fresh_cast_view → All P now = λ P all joined fresh.
    All-set P first other fresh_cast_view fresh (All-set P views id both joined all) in
    let P : ℕ → Type 0 = λ x. x ≢ 0 in
    let each = All-from_flat_map P (λ (v : CastView). v.accepted) views h.claimed.some in
    let own = at_place (HasMet claims) views id view stands h.claimed.met in
    let others = at_place (HasMet claims) views other gone stands_too h.claimed.met in
    record {
      size = h.size;
      placed = record {
        ordered = h.placed.ordered;
        hands = two (λ v. IsHand t.home cells v.state) h.placed.hands tt tt;
        seen = two (λ v. HasSeen cells v.state) h.placed.seen tt tt;
      };
      owned = hold (λ weight none.
          let one = hands-set weight views id view both stands in
          let two_now = hands-set weight first other gone fresh_cast_view stays in
          let hand = ap weight (ap in_hand rests) in
          let hand_too = ap weight (ap in_hand rests_too) in
          let before = sum_by-append weight cells (hands_of views) in
          let after = sum_by-append weight cells (hands_of now) in
          omega (arith, weigh h.owned weight none));
      claimed = record {
        once = h.claimed.once;
        accepted = hold (λ weight none.
            let one = accepted-set weight views id view both stands in
            let two_now = accepted-set weight first other gone fresh_cast_view stays in
            let all = sum_by-append weight view.accepted gone.accepted in
            omega (arith, weigh h.claimed.accepted weight none));
        some = All-flat_map P (λ (v : CastView). v.accepted) now
            (two (λ v. All P v.accepted) each
            (All-append P view.accepted gone.accepted (at_place (λ (v : CastView). All P v.accepted) views id view stands each) (at_place (λ (v : CastView). All P v.accepted) views other gone stands_too each))
            (All-nil P));
        in_order = h.claimed.in_order;
        probing = two (λ v. IsProbing t.claims base claims v.state) h.claimed.probing tt tt;
        met = two (HasMet claims) h.claimed.met
            (record {
              taken = All-append (IsClaimed claims) view.taken gone.taken own.taken others.taken;
              full = All-append (λ x. (place : ℕ) → place < length claims → HoldsOther claims x place) view.full gone.full own.full others.full;
            })
            (fresh_met claims);
      };
    }
