-- Where each ballot that is cast has a number of its own, all may be accepted.
use Rattle.std.proofs.Common.{◌≡◌, ◌≢◌, suc, ◌+◌, List, [], ◌∷◌, ◌++◌, get_or, length, map, refl, sym, ap, subst, ◌∙◌, arith, length-append}
use Rattle.store_spec.proofs.Common.{Accepted, All, All-cons, All-map, All-nil, All-weaker, AllPairs, AllPairs-cons, Ballot, BallotOutcome, CastLine, CastReply, Contains, Contains-append_left, Contains-append_right, Contains-get_or, Contains-permutation, Election, HasNumber, IsBallotSet, IsPermutation, IsRightReply, IsWithinLimit, MayBeCastBefore, accepted_in, filter, flat_map, get_or-append-add, get_or_append_left, get_or_default, is_accepted}
use Rattle.ballot_record.proofs.BallotSets.{listing_of_set}
use Rattle.session_laws.proofs.Lists.{pairs_back, pairs_front}

-- a ballot that is accepted
abbrev pub accepted : Ballot → CastLine
accepted b = record { ballot = b; reply = Accepted }

-- the ballots of all lists
abbrev pub all_lists : List (List Ballot) → List Ballot
all_lists lists = flat_map (λ ballots. ballots) lists

-- of a list that is accepted nothing is left out
accepted_of-all : (ballots : List Ballot) → map (λ l. l.ballot) (filter (λ l. is_accepted l.reply) (map accepted ballots)) ≡ ballots
accepted_of-all [] = refl
accepted_of-all (b ∷ ballots) = ap (λ ballots. b ∷ ballots) (accepted_of-all ballots)

-- nor of all lists
pub accepted_in-all : (lists : List (List Ballot)) → accepted_in (map (map accepted) lists) ≡ all_lists lists
accepted_in-all [] = refl
accepted_in-all (ballots ∷ lists) = ap (λ first. first ++ accepted_in (map (map accepted) lists)) (accepted_of-all ballots) ∙ ap (λ rest. ballots ++ rest) (accepted_in-all lists)

-- ---- ballots apart

-- no two have one number
abbrev pub DifferInNumber : Ballot → Ballot → Type 0
DifferInNumber a b = a.number ≢ b.number

abbrev pub Apart : List Ballot → Type 0
Apart ballots = AllPairs DifferInNumber ballots

-- a ballot of the second list has no number of the first
pub new_number : (xs ys : List Ballot) (b : Ballot) → Apart (xs ++ ys) → Contains ys b → ¬ HasNumber xs b.number
new_number xs ys b apart at has =
    let size = length-append xs ys in
    let differ : (get_or xs has.0 b).number ≢ (get_or ys at.0 b).number =
    subst (λ (x : Ballot). x.number ≢ (get_or ys at.0 b).number) (get_or_append_left xs ys b has.0 has.2)
    (subst (λ (x : Ballot). (get_or (xs ++ ys) has.0 b).number ≢ x.number) (get_or-append-add xs ys at.0 b) (apart has.0 (length xs + at.0) b (omega (arith, has.2)) (omega (arith, at.1)))) in
    differ (ap (λ (b : Ballot). b.number) (get_or_default xs has.0 b has.1 has.2 ∙ has.3) ∙ has.4 ∙ sym (ap (λ (b : Ballot). b.number) at.2))

-- ---- the outcome

-- a line's reply is right
abbrev pub Right : Election → List Ballot → List Ballot → CastLine → Type 0
Right e set after l = IsRightReply e set after l.ballot l.reply

-- what holds of each ballot of the lists holds so of each list
in_lists : (P : Ballot → Type 0) (lists : List (List Ballot)) → ((b : Ballot) → Contains (all_lists lists) b → P b) → All (All (λ (l : CastLine). P l.ballot × (l.reply ≡ Accepted))) (map (map accepted) lists)
in_lists P [] each = All-nil (All (λ (l : CastLine). P l.ballot × (l.reply ≡ Accepted)))
in_lists P (ballots ∷ lists) each =
    All-cons (All (λ (l : CastLine). P l.ballot × (l.reply ≡ Accepted))) (map accepted ballots) (map (map accepted) lists)
    (All-map (λ (l : CastLine). P l.ballot × (l.reply ≡ Accepted)) accepted ballots
    (λ k d within. (each (get_or ballots k d) (Contains-append_left ballots (all_lists lists) (get_or ballots k d) (Contains-get_or ballots k d within)), refl)))
    (in_lists P lists (λ b at. each b (Contains-append_right ballots (all_lists lists) b at)))

-- replies that all accept may stand in any order, in one list
list_in_order : (ballots : List Ballot) → Apart ballots → AllPairs MayBeCastBefore (map accepted ballots)
list_in_order [] apart = λ i j d less within. absurd (omega arith)
list_in_order (b ∷ ballots) apart =
    AllPairs-cons MayBeCastBefore (accepted b) (map accepted ballots)
    (All-map (MayBeCastBefore (accepted b)) accepted ballots (λ k d within same. (apart 0 (suc k) d (omega arith) (omega arith), λ full. cc)))
    (list_in_order ballots (pairs_back DifferInNumber (b ∷ []) ballots apart))

-- and in all lists
lists_in_order : (lists : List (List Ballot)) → Apart (all_lists lists) → All (AllPairs MayBeCastBefore) (map (map accepted) lists)
lists_in_order [] apart = All-nil (AllPairs MayBeCastBefore)
lists_in_order (ballots ∷ lists) apart =
    All-cons (AllPairs MayBeCastBefore) (map accepted ballots) (map (map accepted) lists)
    (list_in_order ballots (pairs_front DifferInNumber ballots (all_lists lists) apart)) (lists_in_order lists (pairs_back DifferInNumber ballots (all_lists lists) apart))

-- so all may be accepted
pub all_accepted : (e : Election) (set : List Ballot) (lists : List (List Ballot)) (after : List Ballot) → IsBallotSet e after → IsWithinLimit e after → IsPermutation (set ++ all_lists lists) after
    → BallotOutcome e set (map (map accepted) lists) after
all_accepted e set lists after is few same =
    let apart : Apart (set ++ all_lists lists) = (listing_of_set e (set ++ all_lists lists) after same is).distinct in
    let IsNew : Ballot → Type 0 = λ b. (¬ HasNumber set b.number) × Contains after b in
    record {
      gains = subst (λ (gained : List Ballot). IsPermutation (set ++ gained) after) (sym (accepted_in-all lists)) same;
      set = is;
      within_limit = few;
      replies = All-weaker (All (λ (l : CastLine). IsNew l.ballot × (l.reply ≡ Accepted))) (All (Right e set after))
          (λ lines. All-weaker (λ (l : CastLine). IsNew l.ballot × (l.reply ≡ Accepted)) (Right e set after)
          (λ l new. subst (λ (reply : CastReply). IsRightReply e set after l.ballot reply) (sym new.1) new.0) lines) (map (map accepted) lists)
          (in_lists IsNew lists (λ b at. (new_number set (all_lists lists) b apart at, Contains-permutation (set ++ all_lists lists) after b same (Contains-append_right set (all_lists lists) b at))));
      in_order = lists_in_order lists (pairs_back DifferInNumber set (all_lists lists) apart);
    }
