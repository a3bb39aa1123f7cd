-- Each phase of casting has an outcome: its ballots may be answered one after another.
use Rattle.std.proofs.Common.{◌≡◌, ◌≢◌, ℕ, ◌<◌, ◌≤◌, inl, inr, List, [], ◌∷◌, ◌++◌, length, map, get_or, refl, sym, ap, subst, ◌∙◌, append_assoc, append-nil, arith, length-append}
use Rattle.store_spec.proofs.Common.{Accepted, All, All-cons, All-head, All-nil, All-push, All-tail, All-weaker, AllPairs, AllPairs-cons, Ballot, BallotOutcome, CastLine, CastReply, Conflict, Contains, Contains-append_left, Contains-get_or, Contains-push, Duplicate, Election, Full, HasNumber, IsBallotSet, IsListing, IsRightReply, IsValid, IsWithinLimit, MayBeCastBefore, accepted_in, all_pairs_push, cases_lt, filter, is_accepted, length_permutation}
use Rattle.std.specs.List.{Any}
use Rattle.ballot_record.proofs.BallotSets.{in_order, in_order-IsPermutation, listing_from_set, set_of_listing}
use Rattle.session_laws.proofs.Growing.{any_among, contained_any, number_or_not, right_in_order, same_ballot_or_not, stays_right}

-- the ballots of a list that are accepted
abbrev pub accepted_of : List CastLine → List Ballot
accepted_of lines = map (λ l. l.ballot) (filter (λ l. is_accepted l.reply) lines)

-- a set on its way, listed in any order
record MayHold (e : Election) (now : List Ballot) : Type 0 where
  listing : IsListing e now
  few : length now ≤ e.limit

-- ---- one ballot

-- what a reply adds to the set
abbrev pub added : Ballot → CastReply → List Ballot
added b reply = accepted_of (record { ballot = b; reply = reply } ∷ [])

-- why a reply may be given when the set has come so far
abbrev pub IsWhy : Election → List Ballot → Ballot → CastReply → Type 0
IsWhy e now b Accepted = (¬ HasNumber now b.number) × (length now < e.limit)
IsWhy e now b Duplicate = Contains now b
IsWhy e now b Conflict = Any (λ other. (other.number ≡ b.number) × (other ≢ b)) now
IsWhy e now b Full = (¬ HasNumber now b.number) × (length now ≡ e.limit)

-- each ballot has a reply
reply_to : (e : Election) (now : List Ballot) (b : Ballot) → length now ≤ e.limit → (reply : CastReply) × IsWhy e now b reply
reply_to e now b few =
    elim (number_or_not now b.number) [
      | inl found ↦ elim (same_ballot_or_not found.0 b found.2) [
        | inl same ↦ (Duplicate, subst (Contains now) same found.1)
        | inr other ↦ (Conflict, contained_any (λ x. (x.number ≡ b.number) × (x ≢ b)) now found.0 found.1 (found.2, other))
      ]
      | inr none ↦ elim (cases_lt (length now) e.limit) [
        | inl room ↦ (Accepted, (none, room))
        | inr full ↦ (Full, (none, omega arith))
      ]
    ]

-- the set after it is one on its way too
listing_more : (e : Election) (now : List Ballot) (b : Ballot) → IsListing e now → IsValid e b → ¬ HasNumber now b.number → IsListing e (now ++ b ∷ [])
listing_more e now b listing valid new = record {
  valid = All-push (IsValid e) now b listing.valid valid;
  distinct = all_pairs_push (λ x y. x.number ≢ y.number) now b listing.distinct (λ k d within same. new (contained_any (λ x. x.number ≡ b.number) now (get_or now k d) (Contains-get_or now k d within) same));
}

-- also after a reply the set is one on its way
grown : (e : Election) (now : List Ballot) (b : Ballot) (reply : CastReply) → MayHold e now → IsValid e b → IsWhy e now b reply → MayHold e (now ++ added b reply)
grown e now b Accepted held valid why = record {
  listing = listing_more e now b held.listing valid why.0;
  few = omega (arith, length-append now (b ∷ []), why.1);
}
grown e now b Duplicate held valid why = subst (MayHold e) (sym (append-nil now)) held
grown e now b Conflict held valid why = subst (MayHold e) (sym (append-nil now)) held
grown e now b Full held valid why = subst (MayHold e) (sym (append-nil now)) held

-- the reply is right then
right_now : (e : Election) (base now : List Ballot) (b : Ballot) (reply : CastReply) → ((x : Ballot) → Contains base x → Contains now x) → IsWhy e now b reply → IsRightReply e base (now ++ added b reply) b reply
right_now e base now b Accepted among why = ((λ has. why.0 (any_among (λ x. x.number ≡ b.number) base now among has)), Contains-push now b)
right_now e base now b Duplicate among why = Contains-append_left now [] b why
right_now e base now b Conflict among why = subst (Any (λ x. (x.number ≡ b.number) × (x ≢ b))) (sym (append-nil now)) why
right_now e base now b Full among why = subst (λ (set : List Ballot). IsRightReply e base set b Full) (sym (append-nil now)) why

-- what is accepted later is new, and there is room for it
abbrev IsLater : Election → List Ballot → CastLine → Type 0
IsLater e now later = later.reply ≡ Accepted → (¬ HasNumber now later.ballot.number) × (length now < e.limit)

-- the number of a ballot of the set is one of the set's
pub has_number : (now : List Ballot) (b : Ballot) (number : ℕ) → b.number ≡ number → Contains now b → HasNumber now number
has_number now b number same at = contained_any (λ x. x.number ≡ number) now b at same

-- so the reply may stand before later ones
may_precede : (e : Election) (now : List Ballot) (b : Ballot) (reply : CastReply) (later : CastLine) → IsWhy e now b reply → IsLater e (now ++ added b reply) later → MayBeCastBefore (record { ballot = b; reply = reply }) later
may_precede e now b Accepted later why is accepted = ((λ same. (is accepted).0 (has_number (now ++ b ∷ []) b later.ballot.number same (Contains-push now b))), λ same. cc)
may_precede e now b Duplicate later why is accepted = ((λ same. (is accepted).0 (has_number (now ++ []) b later.ballot.number same (Contains-append_left now [] b why))), λ same. cc)
may_precede e now b Conflict later why is accepted =
    ((λ same. (is accepted).0 (subst (Any (λ (x : Ballot). x.number ≡ later.ballot.number)) (sym (append-nil now)) (why.0, why.1, why.2, why.3, why.4.0 ∙ same))), λ same. cc)
may_precede e now b Full later why is accepted = absurd (omega (arith, (is accepted).1, why.1, length-append now []))

-- a reply by itself, seen from the set before it
first_is_later : (e : Election) (now : List Ballot) (b : Ballot) (reply : CastReply) → IsWhy e now b reply → IsLater e now (record { ballot = b; reply = reply })
first_is_later e now b Accepted why accepted = why
first_is_later e now b Duplicate why accepted = absurd cc
first_is_later e now b Conflict why accepted = absurd cc
first_is_later e now b Full why accepted = absurd cc

-- what is new later is new before
earlier : (e : Election) (now more : List Ballot) (later : CastLine) → IsLater e (now ++ more) later → IsLater e now later
earlier e now more later is accepted = (
  (λ has. (is accepted).0 (any_among (λ x. x.number ≡ later.ballot.number) now (now ++ more) (λ b. Contains-append_left now more b) has)),
  omega (arith, (is accepted).1, length-append now more),
)

-- ---- a list

-- a list is answered, from the set that has come so far
record ListAnswered (e : Election) (base now ballots : List Ballot) : Type 0 where
  lines : List CastLine
  of_ballots : map (λ l. l.ballot) lines ≡ ballots
  held : MayHold e (now ++ accepted_of lines)
  replies : All (λ l. IsRightReply e base (now ++ accepted_of lines) l.ballot l.reply) lines
  later : All (IsLater e now) lines
  in_order : AllPairs MayBeCastBefore lines

-- the set after one line and more
pub accepted_of-cons : (now : List Ballot) (b : Ballot) (reply : CastReply) (lines : List CastLine) → (now ++ added b reply) ++ accepted_of lines ≡ now ++ accepted_of (record { ballot = b; reply = reply } ∷ lines)
accepted_of-cons now b Accepted lines = append_assoc now (b ∷ []) (accepted_of lines)
accepted_of-cons now b Duplicate lines = ap (λ set. set ++ accepted_of lines) (append-nil now)
accepted_of-cons now b Conflict lines = ap (λ set. set ++ accepted_of lines) (append-nil now)
accepted_of-cons now b Full lines = ap (λ set. set ++ accepted_of lines) (append-nil now)

-- each list is answered, its ballots one after another
list_answered : (e : Election) (base now ballots : List Ballot) → ((x : Ballot) → Contains base x → Contains now x) → MayHold e now → All (IsValid e) ballots → ListAnswered e base now ballots
list_answered e base now [] among held valid = record {
  lines = [];
  of_ballots = refl;
  held = subst (MayHold e) (sym (append-nil now)) held;
  replies = All-nil (λ (l : CastLine). IsRightReply e base (now ++ []) l.ballot l.reply);
  later = All-nil (IsLater e now);
  in_order = λ i j d less within. absurd (omega arith);
}
list_answered e base now (b ∷ ballots) among held valid =
    let first = reply_to e now b held.few in
    let l : CastLine = record { ballot = b; reply = first.0 } in
    let next = now ++ added b first.0 in
    let more = list_answered e base next ballots (λ x at. Contains-append_left now (added b first.0) x (among x at)) (grown e now b first.0 held (All-head (IsValid e) b ballots valid) first.1) (All-tail (IsValid e) b ballots valid) in
    let whole = accepted_of-cons now b first.0 more.lines in
    record {
      lines = l ∷ more.lines;
      of_ballots = ap (λ ballots. b ∷ ballots) more.of_ballots;
      held = subst (MayHold e) whole more.held;
      replies = subst (λ (set : List Ballot). All (λ (l : CastLine). IsRightReply e base set l.ballot l.reply) (l ∷ more.lines)) whole
          (All-cons (λ (l : CastLine). IsRightReply e base (next ++ accepted_of more.lines) l.ballot l.reply) l more.lines
          (stays_right e base next (accepted_of more.lines) b first.0 more.held.few (right_now e base now b first.0 among first.1)) more.replies);
      later = All-cons (IsLater e now) l more.lines (first_is_later e now b first.0 first.1) (All-weaker (IsLater e next) (IsLater e now) (λ later. earlier e now (added b first.0) later) more.lines more.later);
      in_order = AllPairs-cons MayBeCastBefore l more.lines (All-weaker (IsLater e next) (MayBeCastBefore l) (λ later. may_precede e now b first.0 later first.1) more.lines more.later) more.in_order;
    }

-- ---- all lists

-- all lists are answered, from the set that has come so far
record AllAnswered (e : Election) (base now : List Ballot) (lists : List (List Ballot)) : Type 0 where
  lines : List (List CastLine)
  of_lists : map (map (λ l. l.ballot)) lines ≡ lists
  held : MayHold e (now ++ accepted_in lines)
  replies : All (All (λ l. IsRightReply e base (now ++ accepted_in lines) l.ballot l.reply)) lines
  in_order : All (AllPairs MayBeCastBefore) lines

-- all lists are answered, one after another
all_answered : (e : Election) (base now : List Ballot) (lists : List (List Ballot)) → ((x : Ballot) → Contains base x → Contains now x) → MayHold e now → All (All (IsValid e)) lists → AllAnswered e base now lists
all_answered e base now [] among held valid = record {
  lines = [];
  of_lists = refl;
  held = subst (MayHold e) (sym (append-nil now)) held;
  replies = All-nil (All (λ (l : CastLine). IsRightReply e base (now ++ []) l.ballot l.reply));
  in_order = All-nil (AllPairs MayBeCastBefore);
}
all_answered e base now (ballots ∷ lists) among held valid =
    let first = list_answered e base now ballots among held (All-head (All (IsValid e)) ballots lists valid) in
    let gained = accepted_of first.lines in
    let next = now ++ gained in
    let more = all_answered e base next lists (λ x at. Contains-append_left now gained x (among x at)) first.held (All-tail (All (IsValid e)) ballots lists valid) in
    let whole : next ++ accepted_in more.lines ≡ now ++ (gained ++ accepted_in more.lines) = append_assoc now gained (accepted_in more.lines) in
    record {
      lines = first.lines ∷ more.lines;
      of_lists = ap (λ ballots. ballots ∷ map (map (λ l. l.ballot)) more.lines) first.of_ballots ∙ ap (λ lists. ballots ∷ lists) more.of_lists;
      held = subst (MayHold e) whole more.held;
      replies = subst (λ (set : List Ballot). All (All (λ (l : CastLine). IsRightReply e base set l.ballot l.reply)) (first.lines ∷ more.lines)) whole
          (All-cons (All (λ (l : CastLine). IsRightReply e base (next ++ accepted_in more.lines) l.ballot l.reply)) first.lines more.lines
          (All-weaker (λ (l : CastLine). IsRightReply e base next l.ballot l.reply) (λ (l : CastLine). IsRightReply e base (next ++ accepted_in more.lines) l.ballot l.reply)
          (λ l right. stays_right e base next (accepted_in more.lines) l.ballot l.reply more.held.few right) first.lines first.replies)
          more.replies);
      in_order = All-cons (AllPairs MayBeCastBefore) first.lines more.lines first.in_order more.in_order;
    }

-- ---- the outcome

-- some outcome of a casting phase with these lists
pub record HasOutcome (e : Election) (set : List Ballot) (lists : List (List Ballot)) : Type 0 where
  pub lines : List (List CastLine)
  pub of_lists : map (map (λ l. l.ballot)) lines ≡ lists
  pub after : List Ballot
  pub outcome : BallotOutcome e set lines after

-- each casting phase has an outcome
pub has_outcome : (e : Election) (set : List Ballot) (lists : List (List Ballot)) → IsBallotSet e set → IsWithinLimit e set → All (All (IsValid e)) lists → HasOutcome e set lists
has_outcome e set lists is few valid =
    let all = all_answered e set set lists (λ x at. at) (record { listing = listing_from_set e set is; few = few }) valid in
    let now = set ++ accepted_in all.lines in
    let same = in_order-IsPermutation now in
    record {
      lines = all.lines;
      of_lists = all.of_lists;
      after = in_order now;
      outcome = record {
        gains = same;
        set = set_of_listing e now all.held.listing;
        within_limit = omega (arith, length_permutation now (in_order now) same, all.held.few);
        replies = All-weaker (All (λ (l : CastLine). IsRightReply e set now l.ballot l.reply)) (All (λ (l : CastLine). IsRightReply e set (in_order now) l.ballot l.reply))
            (λ lines right. All-weaker (λ (l : CastLine). IsRightReply e set now l.ballot l.reply) (λ (l : CastLine). IsRightReply e set (in_order now) l.ballot l.reply)
            (λ l right. right_in_order e set now (in_order now) l.ballot l.reply same right) lines right) all.lines all.replies;
        in_order = all.in_order;
      };
    }
