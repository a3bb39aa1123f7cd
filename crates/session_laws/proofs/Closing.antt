-- Closes of a phase that go one way.
use Rattle.std.proofs.Common.{◌≡◌, ℕ, List, [], ◌∷◌, ◌++◌, map, refl, sym, ap, subst, ◌∙◌, arith}
use Rattle.store_spec.proofs.Common.{Accepted, All, All-head, All-tail, Ballot, BallotOutcome, CastLine, CastReply, ClosesCasting, Effect, Election, HasNumber, IsBallotSet, IsPermutation, IsPermutation-sym, IsPermutation-trans, IsWithinLimit, accepted_in, ballots_without, cast_text, closing, example, length_permutation, listed, numbers_of, withdraw_text}
use Rattle.ballot_record.proofs.BallotSets.{listing_of_set, same_in_order}
use Rattle.session_laws.specs.NewBallots.{AreNew, ballots_cast}
use Rattle.session_laws.proofs.AllAccepted.{accepted, accepted_in-all, all_accepted, all_lists}
use Rattle.session_laws.proofs.OnlyAccepted.{all_are_accepted}
use Rattle.session_laws.proofs.Spelled.{ClosesCastingOnlySo, ClosesWithdrawingOnlySo}
use Rattle.session_laws.proofs.Withdrawals.{all_answers}
use Rattle.session_laws.proofs.Answered.{withdrawing_closes}
use Rattle.session_laws.proofs.OneList as casting
use Rattle.session_laws.proofs.OneWithdrawList as withdrawing

-- a phase of casting may be closed as any outcome says
pub casting_closes : {e : Election} {set : List Ballot} (lines : List (List CastLine)) (after : List Ballot) → BallotOutcome e set lines after
    → ClosesCasting e set (map (map (λ l. l.ballot)) lines) (closing (map (map (λ l. cast_text l.reply)) lines) after)
casting_closes lines after outcome = record { lines = lines; of_lists = refl; after = after; outcome = outcome; is = refl }

-- ---- where all ballots are new, all are accepted

-- the close at which all ballots are accepted
abbrev pub all_accepted_effect : List (List Ballot) → List Ballot → Effect
all_accepted_effect lists after = closing (map (map (λ l. cast_text l.reply)) (map (map accepted) lists)) after

-- the ballots of a list that is accepted
list_of : (ballots : List Ballot) → map (λ l. l.ballot) (map accepted ballots) ≡ ballots
list_of [] = refl
list_of (b ∷ ballots) = ap (λ ballots. b ∷ ballots) (list_of ballots)

-- and of all lists
lists_of : (lists : List (List Ballot)) → map (map (λ l. l.ballot)) (map (map accepted) lists) ≡ lists
lists_of [] = refl
lists_of (ballots ∷ lists) = ap (λ first. first ∷ map (map (λ l. l.ballot)) (map (map accepted) lists)) (list_of ballots) ∙ ap (λ lists. ballots ∷ lists) (lists_of lists)

-- the ballots of all lists, list by list
ballots_in-map : (lines : List (List CastLine)) → ballots_cast lines ≡ all_lists (map (map (λ l. l.ballot)) lines)
ballots_in-map [] = refl
ballots_in-map (l ∷ lines) = ap (λ rest. map (λ l. l.ballot) l ++ rest) (ballots_in-map lines)

-- lines whose replies all accept are told by their ballots
list_told : (lines : List CastLine) → All (λ l. l.reply ≡ Accepted) lines → lines ≡ map accepted (map (λ l. l.ballot) lines)
list_told [] all = refl
list_told (l ∷ lines) all =
    let first : l ≡ accepted l.ballot = ap (λ (reply : CastReply). record { ballot = l.ballot; reply = reply }) (All-head (λ (l : CastLine). l.reply ≡ Accepted) l lines all) in
    ap (λ first. first ∷ lines) first ∙ ap (λ rest. accepted l.ballot ∷ rest) (list_told lines (All-tail (λ (l : CastLine). l.reply ≡ Accepted) l lines all))

-- and so are all lists
lists_told : (lines : List (List CastLine)) → All (All (λ l. l.reply ≡ Accepted)) lines → lines ≡ map (map accepted) (map (map (λ l. l.ballot)) lines)
lists_told [] all = refl
lists_told (l ∷ lines) all =
    ap (λ first. first ∷ lines) (list_told l (All-head (All (λ (l : CastLine). l.reply ≡ Accepted)) l lines all))
    ∙ ap (λ rest. map accepted (map (λ l. l.ballot) l) ∷ rest) (lists_told lines (All-tail (All (λ (l : CastLine). l.reply ≡ Accepted)) l lines all))

-- the phase is closed in no other way
all_accepted_only : (set : List Ballot) (lists : List (List Ballot)) (after : List Ballot) → IsBallotSet example after → IsWithinLimit example after → IsPermutation (set ++ all_lists lists) after
    → (other : Effect) → ClosesCasting example set lists other → other ≡ all_accepted_effect lists after
all_accepted_only set lists after is few same other closes =
    let whole = set ++ all_lists lists in
    let ballots : ballots_cast closes.lines ≡ all_lists lists = ballots_in-map closes.lines ∙ ap all_lists closes.of_lists in
    let new : AreNew example set (all_lists lists) = record { listing = listing_of_set example whole after same is; room = omega (arith, length_permutation whole after same, few) } in
    let all = all_are_accepted example set closes.lines closes.after closes.outcome (subst (AreNew example set) (sym ballots) new) in
    let lines : closes.lines ≡ map (map accepted) lists = lists_told closes.lines all ∙ ap (map (map accepted)) closes.of_lists in
    let gains : IsPermutation whole closes.after =
    subst (λ (ballots : List Ballot). IsPermutation (set ++ ballots) closes.after) (accepted_in-all lists) (subst (λ (lines : List (List CastLine)). IsPermutation (set ++ accepted_in lines) closes.after) lines closes.outcome.gains) in
    let ends : closes.after ≡ after = same_in_order closes.after after closes.outcome.set.ascending is.ascending (IsPermutation-trans closes.after whole after (IsPermutation-sym whole closes.after gains) same) in
    closes.is ∙ ap (λ (lines : List (List CastLine)). closing (map (map (λ l. cast_text l.reply)) lines) closes.after) lines ∙ ap (all_accepted_effect lists) ends

-- all are accepted, and the phase is closed in no other way
pub all_accepted_close : {set : List Ballot} (lists : List (List Ballot)) (after : List Ballot) → IsBallotSet example after → IsWithinLimit example after → IsPermutation (set ++ all_lists lists) after
    → ClosesCastingOnlySo set lists (all_accepted_effect lists after)
all_accepted_close {set = set} lists after is few same = record {
  closes = record { lines = map (map accepted) lists; of_lists = lists_of lists; after = after; outcome = all_accepted example set lists after is few same; is = refl };
  only = all_accepted_only set lists after is few same;
}

-- ---- one list

-- what waits in one list is answered as any outcome says, and in no other way
pub one_list_casts : {set : List Ballot} (lines : List CastLine) (after : List Ballot) → BallotOutcome example set (lines ∷ []) after
    → ClosesCastingOnlySo set (map (λ l. l.ballot) lines ∷ []) (closing (map (λ l. cast_text l.reply) lines ∷ []) after)
one_list_casts {set = set} lines after outcome =
    let closes = casting_closes (lines ∷ []) after outcome in
    record { closes = closes; only = λ other so. casting.one_close example set (map (λ l. l.ballot) lines) other (closing (map (λ l. cast_text l.reply) lines ∷ []) after) so closes }

-- what is withdrawn from one list is answered one after another, and in no other way
pub one_list_withdraws : {set : List Ballot} (list : List ℕ) (after : List Ballot) → after ≡ ballots_without set (listed (all_answers (numbers_of set) [] (list ∷ [])))
    → ClosesWithdrawingOnlySo set (list ∷ []) (closing (map (map (λ a. withdraw_text a.reply)) (all_answers (numbers_of set) [] (list ∷ []))) after)
one_list_withdraws {set = set} list after rest =
    let closes = withdrawing_closes set (list ∷ []) after rest in
    record { closes = closes; only = λ other so. withdrawing.one_close set list other (closing (map (map (λ a. withdraw_text a.reply)) (all_answers (numbers_of set) [] (list ∷ []))) after) so closes }

-- no ballot of the empty set has a number
pub no_number : (number : ℕ) → ¬ HasNumber [] number
no_number number (k, x, within, is, same) = absurd (omega arith)
