-- Where all ballots that are cast are new, nothing else may come of it than that all are accepted.
use Rattle.std.proofs.Common.{◌≡◌, ◌<◌, Bool, true, cond, List, [], ◌∷◌, ◌++◌, length, map, refl, sym, ap, subst, ◌∙◌, append_assoc, arith, length-append, append-nil}
use Rattle.store_spec.proofs.Common.{Accepted, All, All-append, All-cons, All-contains, All-filter, All-head, All-nil, All-tail, Ballot, BallotOutcome, CastLine, CastReply, Conflict, Contains, Contains-permutation, Duplicate, Election, Full, HasNumber, IsPermutation, IsPermutation-map, IsPermutation-sym, IsPermutation-trans, IsRightReply, accepted_in, filter, filter-append, filter_passes, flat_map, is_accepted, length_permutation, map-append, nil_from_length, not}
use Rattle.std.proofs.lemmas.List.Sorted.{IsPermutation-append_right, IsPermutation-filter_both}
use Rattle.ballot_record.proofs.BallotSets.{listing-IsPermutation, same_in_order}
use Rattle.session_laws.specs.NewBallots.{AreNew, ballots_cast}
use Rattle.session_laws.proofs.AllAccepted.{Right, new_number}
use Rattle.session_laws.proofs.Growing.{any_among, contained_any}
use Rattle.session_laws.proofs.Lists.{Contains-map, nothing_in}

-- ---- the lines of all lists as one list

-- the lines of all lists, list by list
abbrev pub joined : List (List CastLine) → List CastLine
joined lists = flat_map (λ lines. lines) lists

-- a line's ballot is accepted
abbrev pub accepts : CastLine → Bool
accepts l = is_accepted l.reply

-- a line's ballot is not accepted
abbrev refuses : CastLine → Bool
refuses l = not (is_accepted l.reply)

-- their ballots
pub ballots_in-joined : (lists : List (List CastLine)) → ballots_cast lists ≡ map (λ l. l.ballot) (joined lists)
ballots_in-joined [] = refl
ballots_in-joined (lines ∷ lists) = ap (λ rest. map (λ l. l.ballot) lines ++ rest) (ballots_in-joined lists) ∙ sym (map-append (λ l. l.ballot) lines (joined lists))

-- their ballots that are accepted
pub accepted_in-joined : (lists : List (List CastLine)) → accepted_in lists ≡ map (λ l. l.ballot) (filter accepts (joined lists))
accepted_in-joined [] = refl
accepted_in-joined (lines ∷ lists) =
    ap (λ rest. map (λ l. l.ballot) (filter accepts lines) ++ rest) (accepted_in-joined lists)
    ∙ sym (ap (map (λ l. l.ballot)) (filter-append accepts lines (joined lists)) ∙ map-append (λ l. l.ballot) (filter accepts lines) (filter accepts (joined lists)))

-- what holds of each line of each list
pub all_joined : (P : CastLine → Type 0) (lists : List (List CastLine)) → All (All P) lists → All P (joined lists)
all_joined P [] each = All-nil P
all_joined P (lines ∷ lists) each = All-append P lines (joined lists) (All-head (All P) lines lists each) (all_joined P lists (All-tail (All P) lines lists each))

-- ---- nothing is refused

-- the lines that refuse
abbrev refused : List (List CastLine) → List CastLine
refused lists = filter refuses (joined lists)

-- the ballots of the lists are those that are accepted and those that are not
parted : (set : List Ballot) (lists : List (List CastLine)) → IsPermutation (set ++ ballots_cast lists) ((set ++ accepted_in lists) ++ map (λ l. l.ballot) (refused lists))
parted set lists =
    let lines = joined lists in
    let both : IsPermutation (map (λ l. l.ballot) lines) (map (λ l. l.ballot) (filter accepts lines ++ filter refuses lines)) =
    IsPermutation-map (λ l. l.ballot) lines (filter accepts lines ++ filter refuses lines) (IsPermutation-filter_both accepts refuses (λ l. refl) lines) in
    let parts : map (λ l. l.ballot) (filter accepts lines ++ filter refuses lines) ≡ accepted_in lists ++ map (λ l. l.ballot) (refused lists) =
    map-append (λ l. l.ballot) (filter accepts lines) (filter refuses lines) ∙ ap (λ first. first ++ map (λ l. l.ballot) (refused lists)) (sym (accepted_in-joined lists)) in
    let here : IsPermutation (ballots_cast lists) (accepted_in lists ++ map (λ l. l.ballot) (refused lists)) =
    subst (λ (ballots : List Ballot). IsPermutation ballots (accepted_in lists ++ map (λ l. l.ballot) (refused lists))) (sym (ballots_in-joined lists))
    (subst (λ (ballots : List Ballot). IsPermutation (map (λ l. l.ballot) lines) ballots) parts both) in
    subst (λ (ballots : List Ballot). IsPermutation (set ++ ballots_cast lists) ballots) (sym (append_assoc set (accepted_in lists) (map (λ l. l.ballot) (refused lists))))
    (IsPermutation-append_right set (ballots_cast lists) (accepted_in lists ++ map (λ l. l.ballot) (refused lists)) here)

-- a reply that is right, and does not accept, needs the number in the set, or a full one
refusal_wrong : (e : Election) (set now after : List Ballot) (b : Ballot) (reply : CastReply) → IsPermutation now after → ¬ HasNumber now b.number → length now < e.limit → IsRightReply e set after b reply → not (is_accepted reply) ≡ true → ⊥
refusal_wrong e set now after b Accepted same new room right refusing = absurd cc
refusal_wrong e set now after b Duplicate same new room right refusing = new (contained_any (λ x. x.number ≡ b.number) now b (Contains-permutation after now b (IsPermutation-sym now after same) right) refl)
refusal_wrong e set now after b Conflict same new room right refusing =
    new (any_among (λ x. x.number ≡ b.number) after now (λ x. Contains-permutation after now x (IsPermutation-sym now after same)) (right.0, right.1, right.2, right.3, right.4.0))
refusal_wrong e set now after b Full same new room right refusing = omega (arith, right.1, length_permutation now after same)

-- a list that contains something has a ballot
some_within : (lines : List CastLine) (l : CastLine) → Contains lines l → 0 < length (map (λ l. l.ballot) lines)
some_within [] l at = omega (arith, at.1)
some_within (m ∷ lines) l at = omega arith

-- no line refuses
nothing_refused : (e : Election) (set : List Ballot) (lists : List (List CastLine)) (after : List Ballot) → BallotOutcome e set lists after → AreNew e set (ballots_cast lists) → refused lists ≡ []
nothing_refused e set lists after outcome new =
    let now = set ++ accepted_in lists in
    let others = map (λ l. l.ballot) (refused lists) in
    let same = parted set lists in
    let apart = (listing-IsPermutation e (set ++ ballots_cast lists) (now ++ others) same new.listing).distinct in
    nothing_in (refused lists) (λ l at.
    let refusing : not (is_accepted l.reply) ≡ true = All-contains (λ (l : CastLine). refuses l ≡ true) (refused lists) l (filter_passes refuses (joined lists)) at in
    let right : Right e set after l = All-contains (Right e set after) (refused lists) l (All-filter refuses (Right e set after) (joined lists) (all_joined (Right e set after) lists outcome.replies)) at in
    refusal_wrong e set now after l.ballot l.reply outcome.gains (new_number now others l.ballot apart (Contains-map (λ (l : CastLine). l.ballot) (refused lists) l at))
    (omega (arith, new.room, length_permutation (set ++ ballots_cast lists) (now ++ others) same, length-append now others, some_within (refused lists) l at)) right refusing)

-- ---- so all are accepted

-- a line that does not refuse accepts
accepts_one : (reply : CastReply) (l : CastLine) (rest : List CastLine) → cond (not (is_accepted reply)) (l ∷ rest) rest ≡ [] → (reply ≡ Accepted) × (rest ≡ [])
accepts_one Accepted l rest none = (refl, none)
accepts_one Duplicate l rest none = absurd cc
accepts_one Conflict l rest none = absurd cc
accepts_one Full l rest none = absurd cc

-- so do the lines of a list
accepts_all : (lines : List CastLine) → filter refuses lines ≡ [] → All (λ l. l.reply ≡ Accepted) lines
accepts_all [] none = All-nil (λ (l : CastLine). l.reply ≡ Accepted)
accepts_all (l ∷ lines) none =
    let one = accepts_one l.reply l (filter refuses lines) none in
    All-cons (λ (l : CastLine). l.reply ≡ Accepted) l lines one.0 (accepts_all lines one.1)

-- and those of all lists
each_accepts : (lists : List (List CastLine)) → refused lists ≡ [] → All (All (λ l. l.reply ≡ Accepted)) lists
each_accepts [] none = All-nil (All (λ (l : CastLine). l.reply ≡ Accepted))
each_accepts (lines ∷ lists) none =
    let size : length (filter refuses lines ++ refused lists) ≡ 0 = ap length (sym (filter-append refuses lines (joined lists)) ∙ none) in
    let both = length-append (filter refuses lines) (refused lists) in
    All-cons (All (λ (l : CastLine). l.reply ≡ Accepted)) lines lists
    (accepts_all lines (nil_from_length (filter refuses lines) (omega arith))) (each_accepts lists (nil_from_length (refused lists) (omega arith)))

-- so all ballots are accepted
pub all_are_accepted : (e : Election) (set : List Ballot) (lists : List (List CastLine)) (after : List Ballot) → BallotOutcome e set lists after → AreNew e set (ballots_cast lists) → All (All (λ l. l.reply ≡ Accepted)) lists
all_are_accepted e set lists after outcome new = each_accepts lists (nothing_refused e set lists after outcome new)

-- ---- and the set gains them

-- the set after the phase is the one before with all of them
gained : (e : Election) (set : List Ballot) (lists : List (List CastLine)) (after : List Ballot) → BallotOutcome e set lists after → AreNew e set (ballots_cast lists) → IsPermutation (set ++ ballots_cast lists) after
gained e set lists after outcome new =
    let now = set ++ accepted_in lists in
    let all : now ++ map (λ l. l.ballot) (refused lists) ≡ now = ap (λ lines. now ++ map (λ l. l.ballot) lines) (nothing_refused e set lists after outcome new) ∙ append-nil now in
    IsPermutation-trans (set ++ ballots_cast lists) now after (subst (IsPermutation (set ++ ballots_cast lists)) all (parted set lists)) outcome.gains

-- new ballots are new in any order
new_in_order : (e : Election) (set xs ys : List Ballot) → IsPermutation xs ys → AreNew e set xs → AreNew e set ys
new_in_order e set xs ys same new =
    let whole = IsPermutation-append_right set xs ys same in
    record { listing = listing-IsPermutation e (set ++ xs) (set ++ ys) whole new.listing; room = omega (arith, length_permutation (set ++ xs) (set ++ ys) whole, new.room) }

-- so the order does not matter
pub same_set : (e : Election) (set : List Ballot) (lists others : List (List CastLine)) (x y : List Ballot) → BallotOutcome e set lists x → BallotOutcome e set others y
    → AreNew e set (ballots_cast lists) → IsPermutation (ballots_cast lists) (ballots_cast others) → x ≡ y
same_set e set lists others x y first second new same =
    let one = set ++ ballots_cast lists in
    let other = set ++ ballots_cast others in
    same_in_order x y first.set.ascending second.set.ascending
    (IsPermutation-trans x one y (IsPermutation-sym one x (gained e set lists x first new))
    (IsPermutation-trans one other y (IsPermutation-append_right set (ballots_cast lists) (ballots_cast others) same)
    (gained e set others y second (new_in_order e set (ballots_cast lists) (ballots_cast others) same new))))
