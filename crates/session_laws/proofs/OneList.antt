-- A phase of casting whose ballots wait in one list has one outcome.
use Rattle.std.proofs.Common.{◌≡◌, ◌≢◌, ◌≤◌, inl, inr, List, [], ◌∷◌, ◌++◌, length, map, refl, sym, ap, subst, ◌∙◌, append_assoc, append-nil, arith, length-append, zero, suc, ◌⊎◌}
use Rattle.store_spec.proofs.Common.{Accepted, All, All-contains, All-head, AllPairs, Ballot, BallotOutcome, CastLine, CastReply, ClosesCasting, Conflict, Contains, Contains-append_cases, Contains-append_left, Contains-append_right, Contains-permutation, Duplicate, Effect, Election, Full, IsBallotSet, IsPermutation, IsPermutation-sym, IsPermutation-trans, IsRightReply, MayBeCastBefore, cast_text, closing, filter, filter-append, is_accepted, length_permutation, map-append, same_Some}
use Rattle.ballot_record.proofs.BallotSets.{listing_of_set, same_in_order}
use Rattle.session_laws.proofs.AllAccepted.{Apart, DifferInNumber, Right, new_number}
use Rattle.session_laws.proofs.CastReplies.{same_line}
use Rattle.session_laws.proofs.Growing.{any_among, any_contained, contained_any}
use Rattle.session_laws.proofs.Lists.{nothing_in, pairs_back, pairs_first, pairs_front}
use Rattle.session_laws.proofs.OneByOne.{IsWhy, accepted_of, has_number}
use Rattle.ballot_record.proofs.Lookups.{found_once}

-- ---- one reply

-- a line of a list, when the set has come so far, and the lines after it
record Stands (e : Election) (base now : List Ballot) (b : Ballot) (reply : CastReply) (rest : List CastLine) (after : List Ballot) : Type 0 where
  among : (x : Ballot) → Contains base x → Contains now x
  gains : IsPermutation (now ++ accepted_of (record { ballot = b; reply = reply } ∷ rest)) after
  apart : Apart (now ++ accepted_of (record { ballot = b; reply = reply } ∷ rest))
  few : length after ≤ e.limit
  right : IsRightReply e base after b reply
  later : All (MayBeCastBefore (record { ballot = b; reply = reply })) rest

-- what is accepted is the first line's ballot, or is accepted behind it
accepted_one : (reply : CastReply) (ballot : Ballot) (lines : List CastLine) (b : Ballot) → Contains (accepted_of (record { ballot = ballot; reply = reply } ∷ lines)) b → ((reply ≡ Accepted) × (ballot ≡ b)) ⊎ Contains (accepted_of lines) b
accepted_one Accepted ballot lines b (zero, within, is) = inl (refl, is)
accepted_one Accepted ballot lines b (suc k, within, is) = inr (k, omega arith, is)
accepted_one Duplicate ballot lines b at = inr at
accepted_one Conflict ballot lines b at = inr at
accepted_one Full ballot lines b at = inr at

-- what is accepted of lines is accepted in one of them
accepted_line : (lines : List CastLine) (b : Ballot) → Contains (accepted_of lines) b → (l : CastLine) × Contains lines l × (l.reply ≡ Accepted) × (l.ballot ≡ b)
accepted_line [] b at = absurd (omega (arith, at.1))
accepted_line (l ∷ lines) b at =
    elim (accepted_one l.reply l.ballot lines b at) [
      | inl here ↦ (l, (0, omega arith, refl), here.0, here.1)
      | inr behind ↦ let m = accepted_line lines b behind in (m.0, (suc m.1.0, omega (arith, m.1.1), m.1.2), m.2, m.3)
    ]

-- what comes into the set is of the set so far, or of a later line that is accepted
in_after : (e : Election) (base now : List Ballot) (b : Ballot) (reply : CastReply) (rest : List CastLine) (after : List Ballot) → accepted_of (record { ballot = b; reply = reply } ∷ rest) ≡ accepted_of rest → Stands e base now b reply rest after
    → (x : Ballot) → Contains after x → x.number ≡ b.number → Contains now x
in_after e base now b reply rest after refused stands x at same =
    let whole = now ++ accepted_of (record { ballot = b; reply = reply } ∷ rest) in
    let here : Contains (now ++ accepted_of rest) x = subst (λ (more : List Ballot). Contains (now ++ more) x) refused (Contains-permutation after whole x (IsPermutation-sym whole after stands.gains) at) in
    elim (Contains-append_cases now (accepted_of rest) x here) [
      | inl before ↦ before
      | inr behind ↦
          let line = accepted_line rest x behind in
          let precedes = All-contains (MayBeCastBefore (record { ballot = b; reply = reply })) rest line.0 stands.later line.1 line.2 in
          absurd (precedes.0 (sym same ∙ sym (ap (λ (b : Ballot). b.number) line.3)))
    ]

-- so the reply has its reason in the set so far
why : (e : Election) (base now : List Ballot) (b : Ballot) (reply : CastReply) (rest : List CastLine) (after : List Ballot) → Stands e base now b reply rest after → IsWhy e now b reply
why e base now b Accepted rest after stands = (
  new_number now (b ∷ accepted_of rest) b stands.apart (0, omega arith, refl),
  omega (arith, stands.few, length_permutation (now ++ b ∷ accepted_of rest) after stands.gains, length-append now (b ∷ accepted_of rest)),
)
why e base now b Duplicate rest after stands = in_after e base now b Duplicate rest after refl stands b stands.right refl
why e base now b Conflict rest after stands =
    let other = any_contained (λ x. (x.number ≡ b.number) × (x ≢ b)) after stands.right in
    contained_any (λ x. (x.number ≡ b.number) × (x ≢ b)) now other.0 (in_after e base now b Conflict rest after refl stands other.0 other.1 other.2.0) other.2
why e base now b Full rest after stands =
    let none : accepted_of rest ≡ [] = nothing_in (accepted_of rest) (λ x at.
    let line = accepted_line rest x at in
    (All-contains (MayBeCastBefore (record { ballot = b; reply = Full })) rest line.0 stands.later line.1 line.2).1 refl) in (
      (λ has. stands.right.0 (any_among (λ x. x.number ≡ b.number) now after (λ x at. Contains-permutation (now ++ accepted_of rest) after x stands.gains (Contains-append_left now (accepted_of rest) x at)) has)),
      omega (arith, stands.right.1, length_permutation (now ++ accepted_of rest) after stands.gains, length-append now (accepted_of rest), ap length none),
    )

-- ---- there is one reason

-- of two ballots of a set with one number
same_of_number : (now : List Ballot) (a b : Ballot) → Apart now → Contains now a → Contains now b → a.number ≡ b.number → a ≡ b
same_of_number now a b apart at_a at_b same = same_Some a b (sym (found_once now b.number a apart at_a same) ∙ found_once now b.number b apart at_b refl)

-- and there is one reply that has a reason
one_reason : (e : Election) (now : List Ballot) (b : Ballot) (x y : CastReply) → Apart now → IsWhy e now b x → IsWhy e now b y → x ≡ y
one_reason e now b Accepted Accepted apart p q = refl
one_reason e now b Accepted Duplicate apart p q = absurd (p.0 (has_number now b b.number refl q))
one_reason e now b Accepted Conflict apart p q = absurd (p.0 (q.0, q.1, q.2, q.3, q.4.0))
one_reason e now b Accepted Full apart p q = absurd (omega (arith, p.1, q.1))
one_reason e now b Duplicate Accepted apart p q = absurd (q.0 (has_number now b b.number refl p))
one_reason e now b Duplicate Duplicate apart p q = refl
one_reason e now b Duplicate Conflict apart p q = let other = any_contained (λ x. (x.number ≡ b.number) × (x ≢ b)) now q in absurd (other.2.1 (same_of_number now other.0 b apart other.1 p other.2.0))
one_reason e now b Duplicate Full apart p q = absurd (q.0 (has_number now b b.number refl p))
one_reason e now b Conflict Accepted apart p q = absurd (q.0 (p.0, p.1, p.2, p.3, p.4.0))
one_reason e now b Conflict Duplicate apart p q = let other = any_contained (λ x. (x.number ≡ b.number) × (x ≢ b)) now p in absurd (other.2.1 (same_of_number now other.0 b apart other.1 q other.2.0))
one_reason e now b Conflict Conflict apart p q = refl
one_reason e now b Conflict Full apart p q = absurd (q.0 (p.0, p.1, p.2, p.3, p.4.0))
one_reason e now b Full Accepted apart p q = absurd (omega (arith, p.1, q.1))
one_reason e now b Full Duplicate apart p q = absurd (p.0 (has_number now b b.number refl q))
one_reason e now b Full Conflict apart p q = absurd (p.0 (q.0, q.1, q.2, q.3, q.4.0))
one_reason e now b Full Full apart p q = refl

-- ---- a list

-- the outcome of one list
record ListOutcome (e : Election) (base : List Ballot) (lines : List CastLine) (after : List Ballot) : Type 0 where
  gains : IsPermutation (base ++ accepted_of lines) after
  set : IsBallotSet e after
  few : length after ≤ e.limit
  replies : All (Right e base after) lines
  in_order : AllPairs MayBeCastBefore lines

-- the outcome of lists that are one list
of_list : (e : Election) (base : List Ballot) (lines : List CastLine) (after : List Ballot) → BallotOutcome e base (lines ∷ []) after → ListOutcome e base lines after
of_list e base lines after outcome = record {
  gains = subst (λ (more : List Ballot). IsPermutation (base ++ more) after) (append-nil (accepted_of lines)) outcome.gains;
  set = outcome.set;
  few = outcome.within_limit;
  replies = All-head (All (Right e base after)) lines [] outcome.replies;
  in_order = All-head (AllPairs MayBeCastBefore) lines [] outcome.in_order;
}

-- what is accepted of lines and more
accepted_of-append : (done rest : List CastLine) → accepted_of (done ++ rest) ≡ accepted_of done ++ accepted_of rest
accepted_of-append done rest = ap (map (λ l. l.ballot)) (filter-append (λ l. is_accepted l.reply) done rest) ∙ map-append (λ l. l.ballot) (filter (λ l. is_accepted l.reply) done) (filter (λ l. is_accepted l.reply) rest)

-- each line stands behind some and before others
stands : (e : Election) (base : List Ballot) (done : List CastLine) (l : CastLine) (rest : List CastLine) (after : List Ballot) → ListOutcome e base (done ++ l ∷ rest) after → Stands e base (base ++ accepted_of done) l.ballot l.reply rest after
stands e base done l rest after outcome =
    let now = base ++ accepted_of done in
    let whole : base ++ accepted_of (done ++ l ∷ rest) ≡ now ++ accepted_of (l ∷ rest) =
    ap (λ more. base ++ more) (accepted_of-append done (l ∷ rest)) ∙ sym (append_assoc base (accepted_of done) (accepted_of (l ∷ rest))) in
    let gains : IsPermutation (now ++ accepted_of (l ∷ rest)) after = subst (λ (ballots : List Ballot). IsPermutation ballots after) whole outcome.gains in
    record {
      among = λ x at. Contains-append_left base (accepted_of done) x at;
      gains = gains;
      apart = (listing_of_set e (now ++ accepted_of (l ∷ rest)) after gains outcome.set).distinct;
      few = outcome.few;
      right = All-contains (Right e base after) (done ++ l ∷ rest) l outcome.replies (Contains-append_right done (l ∷ rest) l (0, omega arith, refl));
      later = pairs_first MayBeCastBefore l rest (pairs_back MayBeCastBefore done (l ∷ rest) outcome.in_order);
    }

-- so the lines of two outcomes are the same
same_lines : (e : Election) (base : List Ballot) (done xs ys : List CastLine) (x y : List Ballot) → ListOutcome e base (done ++ xs) x → ListOutcome e base (done ++ ys) y → map (λ l. l.ballot) xs ≡ map (λ l. l.ballot) ys → xs ≡ ys
same_lines e base done [] [] x y p q ballots = refl
same_lines e base done [] (m ∷ ys) x y p q ballots = absurd cc
same_lines e base done (l ∷ xs) [] x y p q ballots = absurd cc
same_lines e base done (l ∷ xs) (m ∷ ys) x y p q ballots =
    let now = base ++ accepted_of done in
    let here = stands e base done l xs x p in
    let ballot : l.ballot ≡ m.ballot = cc in
    let first = why e base now l.ballot l.reply xs x here in
    let second = subst (λ (b : Ballot). IsWhy e now b m.reply) (sym ballot) (why e base now m.ballot m.reply ys y (stands e base done m ys y q)) in
    let reply = one_reason e now l.ballot l.reply m.reply (pairs_front DifferInNumber now (accepted_of (l ∷ xs)) here.apart) first second in
    let line = same_line l m ballot reply in
    let next : (line : CastLine) (rest : List CastLine) → done ++ line ∷ rest ≡ (done ++ line ∷ []) ++ rest = λ line rest. sym (append_assoc done (line ∷ []) rest) in
    let more = same_lines e base (done ++ l ∷ []) xs ys x y (subst (λ (lines : List CastLine). ListOutcome e base lines x) (next l xs) p)
    (subst (λ (lines : List CastLine). ListOutcome e base lines y) (ap (λ m. done ++ m ∷ ys) (sym line) ∙ next l ys) q) (cc) in
    ap (λ l. l ∷ xs) line ∙ ap (λ xs. m ∷ xs) more

-- ---- the close

-- there are the lines of one list
one_line_list : (lines : List (List CastLine)) (list : List Ballot) → map (map (λ l. l.ballot)) lines ≡ list ∷ [] → (one : List CastLine) × (lines ≡ one ∷ []) × (map (λ l. l.ballot) one ≡ list)
one_line_list [] list is = absurd cc
one_line_list (one ∷ []) list is = (one, refl, cc)
one_line_list (one ∷ other ∷ more) list is = absurd cc

-- so the phase is closed in one way
pub one_close : (e : Election) (set list : List Ballot) (a b : Effect) → ClosesCasting e set (list ∷ []) a → ClosesCasting e set (list ∷ []) b → a ≡ b
one_close e set list a b p q =
    let one = one_line_list p.lines list p.of_lists in
    let other = one_line_list q.lines list q.of_lists in
    let Outcome : List Ballot → List (List CastLine) → Type 0 = λ after lines. BallotOutcome e set lines after in
    let first = of_list e set one.0 p.after (subst (Outcome p.after) one.1 p.outcome) in
    let second = of_list e set other.0 q.after (subst (Outcome q.after) other.1 q.outcome) in
    let lines : one.0 ≡ other.0 = same_lines e set [] one.0 other.0 p.after q.after first second (one.2 ∙ sym other.2) in
    let gains : IsPermutation (set ++ accepted_of other.0) p.after = subst (λ (lines : List CastLine). IsPermutation (set ++ accepted_of lines) p.after) lines first.gains in
    let after : p.after ≡ q.after =
    same_in_order p.after q.after first.set.ascending second.set.ascending
    (IsPermutation-trans p.after (set ++ accepted_of other.0) q.after (IsPermutation-sym (set ++ accepted_of other.0) p.after gains) second.gains) in
    let all : p.lines ≡ q.lines = one.1 ∙ ap (λ one. one ∷ []) lines ∙ sym other.1 in
    p.is ∙ ap (λ (lines : List (List CastLine)). closing (map (map (λ l. cast_text l.reply)) lines) p.after) all
    ∙ ap (closing (map (map (λ l. cast_text l.reply)) q.lines)) after ∙ sym q.is
