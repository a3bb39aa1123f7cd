-- Claim words: a number is claimed in one word and once, and those that are tried or were met stay what they were.
-- Nothing here asks for the cells.
use Rattle.std.proofs.Common.{◌≡◌, ◌≢◌, ℕ, ◌+◌, ◌<◌, ◌≤◌, ⊎_elim, Some, List, [], ◌∷◌, ◌++◌, length, get_or, set, sym, ap, ◌∙◌, subst, arith}
use Rattle.store_spec.proofs.Common.{All, All-push, All-set, All-weaker, AreClaimed, AreInOrder, Carrying, CastState, CastView, Contains, EachOnce, HasMet, HoldsOther, IsClaimed, IsProbing, IsTried, Probing, Ready, Rest, accepted_of, cases_eq, cases_lt, cases_order, claim_place, count_of, get_or-set_other, get_or-set_same, get_or_default, get_or_from_slice_get, slice_get, sum_by, sum_by-append, sum_by-set, sum_by_push}
use Rattle.probe_order.proofs.ClaimOrder.{once, reached, within}
use Rattle.step_core.proofs.SameNumbers.{hold, weigh}
use Rattle.step_core.proofs.Sets.{All-flat_map, All-from_flat_map, at_place, contains-set, none_counted, stands_within, sum_by-flat_map, is_one, is_one-other, is_one-same, is_one-zero}

-- ---- the accepted numbers, where one view changes

pub accepted-set : (weight : ℕ → ℕ) (views : List CastView) (id : ℕ) (view now : CastView) → slice_get views id ≡ Some view → sum_by weight (accepted_of (set views id now)) + sum_by weight view.accepted ≡ sum_by weight (accepted_of views) + sum_by weight now.accepted
accepted-set weight views id view now stands =
    let of_view : CastView → ℕ = λ v. sum_by weight v.accepted in
    let before = sum_by-flat_map weight (λ (v : CastView). v.accepted) views in
    let after = sum_by-flat_map weight (λ (v : CastView). v.accepted) (set views id now) in
    let change = sum_by-set of_view views id now view (stands_within views id view stands) in
    let was : get_or views id view ≡ view = get_or_from_slice_get views id view view stands in
    let weighs : of_view (get_or views id view) ≡ sum_by weight view.accepted = ap of_view was in
    omega arith

-- ---- the claim words stay as they are

pub claimed_still : (count : ℕ) (base claims : List ℕ) (views : List CastView) (id : ℕ) (view now : CastView) → slice_get views id ≡ Some view → AreClaimed count base claims views → now.accepted ≡ view.accepted → IsProbing count base claims now.state → HasMet claims now → AreClaimed count base claims (set views id now)
claimed_still count base claims views id view now stands h same probing met = record {
  once = h.once;
  accepted = hold (λ weight zero_weighs_none.
      let change = accepted-set weight views id view now stands in
      let kept = ap (sum_by weight) same in
      omega (arith, weigh h.accepted weight zero_weighs_none));
  some =
      let P : ℕ → Type 0 = λ x. x ≢ 0 in
      let each = All-from_flat_map P (λ (v : CastView). v.accepted) views h.some in
      let own : All P now.accepted = subst (λ (xs : List ℕ). All P xs) (sym same) (at_place (λ (v : CastView). All P v.accepted) views id view stands each) in
      All-flat_map P (λ (v : CastView). v.accepted) (set views id now)
      (All-set (λ (v : CastView). All P v.accepted) views id now own each);
  in_order = h.in_order;
  probing = All-set (λ v. IsProbing count base claims v.state) views id now probing h.probing;
  met = All-set (HasMet claims) views id now met h.met;
}

-- the number is found in a claim word
pub met_claimed : (claims : List ℕ) (x place : ℕ) → x ≢ 0 → place < length claims → get_or claims place 0 ≡ x → IsClaimed claims x
met_claimed claims x place some there e = (some, (place, there, get_or_default claims place x 0 there ∙ e))

pub met_taken : (claims : List ℕ) (view now : CastView) (x : ℕ) → HasMet claims view → IsClaimed claims x → now.taken ≡ view.taken ++ x ∷ [] → now.full ≡ view.full → HasMet claims now
met_taken claims view now x h claimed taken full = record {
  taken = subst (λ (xs : List ℕ). All (IsClaimed claims) xs) (sym taken) (All-push (IsClaimed claims) view.taken x h.taken claimed);
  full = subst (λ (xs : List ℕ). All (λ y. (place : ℕ) → place < length claims → HoldsOther claims y place) xs) (sym full) h.full;
}

pub met_full : (claims : List ℕ) (view now : CastView) (x : ℕ) → HasMet claims view → ((place : ℕ) → place < length claims → HoldsOther claims x place) → now.full ≡ view.full ++ x ∷ [] → now.taken ≡ view.taken → HasMet claims now
met_full claims view now x h others full taken =
    let P : ℕ → Type 0 = λ y. (place : ℕ) → place < length claims → HoldsOther claims y place in
    record {
      taken = subst (λ (xs : List ℕ). All (IsClaimed claims) xs) (sym taken) h.taken;
      full = subst (λ (xs : List ℕ). All P xs) (sym full) (All-push P view.full x h.full others);
    }

pub met_same : (claims : List ℕ) (view now : CastView) → HasMet claims view → now.taken ≡ view.taken → now.full ≡ view.full → HasMet claims now
met_same claims view now h taken full = record {
  taken = subst (λ (xs : List ℕ). All (IsClaimed claims) xs) (sym taken) h.taken;
  full = subst (λ (xs : List ℕ). All (λ y. (place : ℕ) → place < length claims → HoldsOther claims y place) xs) (sym full) h.full;
}

-- the words tried for a number, and the next
others_more : (count : ℕ) (claims : List ℕ) (x k : ℕ) → ((before : ℕ) → before < k → HoldsOther claims x (claim_place x before count)) → HoldsOther claims x (claim_place x k count) → (before : ℕ) → before < k + 1 → HoldsOther claims x (claim_place x before count)
others_more count claims x k before here j lt = ⊎_elim
    (λ (earlier : j < k). before j earlier)
    (λ (last : k ≤ j). let same : k ≡ j = omega arith in subst (λ (n : ℕ). HoldsOther claims x (claim_place x n count)) same here)
    (cases_lt j k)

pub tried_more : (count : ℕ) (base claims : List ℕ) (x k : ℕ) → IsTried count base claims x k → HoldsOther claims x (claim_place x k count) → k + 1 < count → IsTried count base claims x (k + 1)
tried_more count base claims x k h other left = record {
  some = h.some;
  not_held = h.not_held;
  one_left = left;
  others = others_more count claims x k h.others other;
}

-- where the last word was tried, each word was
pub tried_all : (count : ℕ) (base claims : List ℕ) (x k : ℕ) → IsTried count base claims x k → HoldsOther claims x (claim_place x k count) → k + 1 ≡ count → (place : ℕ) → place < count → HoldsOther claims x place
tried_all count base claims x k h other last place there =
    let at = reached x count place there in
    subst (HoldsOther claims x) at.2 (others_more count claims x k h.others other at.0 (omega (arith, at.1)))

-- ---- a free claim word is won

module _ (claims base : List ℕ) (x k : ℕ) (tried : IsTried (length claims) base claims x k) (in_order : AreInOrder (length claims) claims) (free : get_or claims (claim_place x k (length claims)) 0 ≡ 0) where
  -- the number stands in no claim word: the words before its own are filled, and those tried hold others
  pub nowhere : ¬ Contains claims x
  nowhere c =
      let at = reached x (length claims) c.0 c.1 in
      let here : get_or claims c.0 0 ≡ x = get_or_default claims c.0 0 x c.1 ∙ c.2 in
      let found : get_or claims (claim_place x at.0 (length claims)) 0 ≡ x = ap (λ p. get_or claims p 0) at.2 ∙ here in
      ⊎_elim
      (λ (same : at.0 ≡ k). tried.some (sym found ∙ ap (λ n. get_or claims (claim_place x n (length claims)) 0) same ∙ free))
      (λ d. ⊎_elim
      (λ (earlier : at.0 < k). (tried.others at.0 earlier).other found)
      (λ (later : k < at.0). in_order x at.0 k tried.some later at.1 found free)
      d)
      (cases_order at.0 k)

  there : claim_place x k (length claims) < length claims
  there = let left = tried.one_left in within x k (length claims) (omega arith)

  filled : (place : ℕ) → get_or claims place 0 ≢ 0 → get_or (set claims (claim_place x k (length claims)) x) place 0 ≡ get_or claims place 0
  filled place some = get_or-set_other claims (claim_place x k (length claims)) place x 0 (λ same. some (ap (λ p. get_or claims p 0) same ∙ free))

  here : get_or (set claims (claim_place x k (length claims)) x) (claim_place x k (length claims)) 0 ≡ x
  here = get_or-set_same claims (claim_place x k (length claims)) x 0 there

  -- what was filled stays so, and the word that is won is filled
  filled_now : (place : ℕ) → get_or claims place 0 ≢ 0 → get_or (set claims (claim_place x k (length claims)) x) place 0 ≢ 0
  filled_now place some zero_now = some (sym (filled place some) ∙ zero_now)

  once_now : EachOnce (base ++ claims) → EachOnce (base ++ set claims (claim_place x k (length claims)) x)
  once_now each v some =
      let after = set claims (claim_place x k (length claims)) x in
      let before_all = sum_by-append (is_one v) base claims in
      let after_all = sum_by-append (is_one v) base after in
      let change = sum_by-set (is_one v) claims (claim_place x k (length claims)) x 0 there in
      let was : is_one v (get_or claims (claim_place x k (length claims)) 0) ≡ 0 = ap (is_one v) free ∙ is_one-zero v some in
      ⊎_elim
      (λ (same : x ≡ v).
      let held : count_of v base ≡ 0 = subst (λ (n : ℕ). count_of n base ≡ 0) same (none_counted x base tried.not_held) in
      let claimed : count_of v claims ≡ 0 = subst (λ (n : ℕ). count_of n claims ≡ 0) same (none_counted x claims nowhere) in
      let one : is_one v x ≡ 1 = subst (λ (n : ℕ). is_one n x ≡ 1) same (is_one-same x) in
      omega arith)
      (λ (d : x ≢ v). omega (arith, is_one-other v x d, each v some))
      (cases_eq x v)

  in_order_now : AreInOrder (length claims) (set claims (claim_place x k (length claims)) x)
  in_order_now y tries before some lt fits holds =
      let after = set claims (claim_place x k (length claims)) x in
      let place = claim_place y tries (length claims) in
      let earlier : get_or claims (claim_place y before (length claims)) 0 ≢ 0 = ⊎_elim
      (λ (same : place ≡ claim_place x k (length claims)).
      let own : x ≡ y = sym here ∙ ap (λ p. get_or after p 0) (sym same) ∙ holds in
      let mine : claim_place x tries (length claims) ≡ claim_place x k (length claims) = ap (λ n. claim_place n tries (length claims)) own ∙ same in
      let turn : tries ≡ k = once x tries k (length claims) fits tried.one_left mine in
      subst (λ (n : ℕ). get_or claims (claim_place n before (length claims)) 0 ≢ 0) own (tried.others before (omega arith)).some)
      (λ (d : place ≢ claim_place x k (length claims)).
      in_order y tries before some lt fits (sym (get_or-set_other claims (claim_place x k (length claims)) place x 0 d) ∙ holds))
      (cases_eq place (claim_place x k (length claims))) in
      filled_now (claim_place y before (length claims)) earlier

  other_now : (y place : ℕ) → HoldsOther claims y place → HoldsOther (set claims (claim_place x k (length claims)) x) y place
  other_now y place h = record {
    some = filled_now place h.some;
    other = λ e. h.other (sym (filled place h.some) ∙ e);
  }

  probing_now : (state : CastState) → IsProbing (length claims) base claims state → IsProbing (length claims) base (set claims (claim_place x k (length claims)) x) state
  probing_now Rest h = h
  probing_now (Probing y j) h = record { some = h.some; not_held = h.not_held; one_left = h.one_left; others = λ before lt. other_now y _ (h.others before lt) }
  probing_now (Carrying v i) h = h
  probing_now (Ready v i s) h = h

  claimed_now : (y : ℕ) → IsClaimed claims y → IsClaimed (set claims (claim_place x k (length claims)) x) y
  claimed_now y h = (h.0, contains-set claims (claim_place x k (length claims)) x y (λ e. h.0 (sym e ∙ free)) h.1)

  -- while a claim word is free, they were full for no number
  none_full : (y : ℕ) → ((place : ℕ) → place < length claims → HoldsOther claims y place) → ⊥
  none_full y others = (others (claim_place x k (length claims)) there).some free

  met_now : (view : CastView) → HasMet claims view → HasMet (set claims (claim_place x k (length claims)) x) view
  met_now view h = record {
    taken = All-weaker (IsClaimed claims) (IsClaimed (set claims (claim_place x k (length claims)) x)) claimed_now view.taken h.taken;
    full = λ j d lt. absurd (none_full _ (h.full j d lt));
  }

  pub claimed_won : (views : List CastView) (id : ℕ) (view won : CastView) → slice_get views id ≡ Some view → AreClaimed (length claims) base claims views → won.accepted ≡ view.accepted ++ x ∷ [] → won.taken ≡ view.taken → won.full ≡ view.full → IsProbing (length claims) base (set claims (claim_place x k (length claims)) x) won.state → AreClaimed (length claims) base (set claims (claim_place x k (length claims)) x) (set views id won)
  claimed_won views id view won stands h accepted taken full probing =
      let after = set claims (claim_place x k (length claims)) x in
      let P : ℕ → Type 0 = λ y. y ≢ 0 in
      let each = All-from_flat_map P (λ (v : CastView). v.accepted) views h.some in
      let own : All P won.accepted = subst (λ (xs : List ℕ). All P xs) (sym accepted)
      (All-push P view.accepted x (at_place (λ (v : CastView). All P v.accepted) views id view stands each) tried.some) in
      let probing_all : All (λ v. IsProbing (length claims) base after v.state) views =
      All-weaker (λ v. IsProbing (length claims) base claims v.state) (λ v. IsProbing (length claims) base after v.state) (λ v. probing_now v.state) views h.probing in
      let met_all : All (HasMet after) views = All-weaker (HasMet claims) (HasMet after) met_now views h.met in
      let met_own : HasMet after won = met_same after view won (at_place (HasMet after) views id view stands met_all) taken full in
      record {
        once = once_now h.once;
        accepted = hold (λ weight zero_weighs_none.
            let change = accepted-set weight views id view won stands in
            let gained = ap (sum_by weight) accepted ∙ sum_by_push weight view.accepted x in
            let put = sum_by-set weight claims (claim_place x k (length claims)) x 0 there in
            let was : weight (get_or claims (claim_place x k (length claims)) 0) ≡ 0 = ap weight free ∙ zero_weighs_none in
            omega (arith, weigh h.accepted weight zero_weighs_none));
        some = All-flat_map P (λ (v : CastView). v.accepted) (set views id won) (All-set (λ (v : CastView). All P v.accepted) views id won own each);
        in_order = in_order_now;
        probing = All-set (λ v. IsProbing (length claims) base after v.state) views id won probing probing_all;
        met = All-set (HasMet after) views id won met_own met_all;
      }
