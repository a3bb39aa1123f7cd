-- The set after a phase whose ballots go together.
use Rattle.std.proofs.Common.{◌≡◌, ◌≢◌, ⊎_elim, List, ◌∷◌, ◌++◌, length, map, filter, sym, ◌∙◌, subst, arith}
use Rattle.store_spec.proofs.Common.{Accepted, All, All-contains, AllPairs, AllPairs-cons, Ballot, BallotOutcome, CastLine, CastReply, Conflict, Contains, Contains-append_cases, Contains-append_left, Contains-append_right, Contains-permutation, Duplicate, Election, Full, HasNumber, IsPermutation-sym, IsRightReply, accepted_in, flat_map, is_accepted, numbers_of}
use Rattle.std.specs.Prelude.{◌↔◌}
use Rattle.ballot_record.proofs.BallotNumbers.{ballot_with, contains_number, length-numbers_of, pairs_of_numbers}
use Rattle.ballot_record.proofs.BallotSets.{listing_from_set, same_members}
use Rattle.phase_insert.specs.Union.{GoTogether, all_ballots}
use Rattle.word_rule.proofs.Members.{all_members, contains-flat_map, first_or_later, from_filter, from_flat_map, from_map, contains-map}

abbrev ballots_in : List (List CastLine) → List Ballot
ballots_in lists = flat_map (map (λ l. l.ballot)) lists

-- what is accepted stands in a list
accepted_listed : (lists : List (List CastLine)) (b : Ballot) → Contains (accepted_in lists) b → Contains (ballots_in lists) b
accepted_listed lists b c =
    let list = from_flat_map (λ lines. map (λ (l : CastLine). l.ballot) (filter (λ (l : CastLine). is_accepted l.reply) lines)) lists b c in
    let line = from_map (λ (l : CastLine). l.ballot) (filter (λ (l : CastLine). is_accepted l.reply) list.0) b list.2 in
    let kept = from_filter (λ (l : CastLine). is_accepted l.reply) list.0 line.0 line.1 in
    contains-flat_map (map (λ (l : CastLine). l.ballot)) lists list.0 b list.1
    (subst (Contains (map (λ (l : CastLine). l.ballot) list.0)) line.2 (contains-map (λ (l : CastLine). l.ballot) list.0 line.0 kept.0))

module _ (e : Election) (base after : List Ballot) (lists : List (List CastLine)) (out : BallotOutcome e base lists after) where
  -- what is in the set is of the base or of a list
  from_set : (b : Ballot) → Contains after b → Contains (all_ballots base lists) b
  from_set b c = ⊎_elim
      (λ here. Contains-append_left base (ballots_in lists) b here)
      (λ accepted. Contains-append_right base (ballots_in lists) b (accepted_listed lists b accepted))
      (Contains-append_cases base (accepted_in lists) b (Contains-permutation after (base ++ accepted_in lists) b (IsPermutation-sym (base ++ accepted_in lists) after out.gains) c))

  module _ (together : GoTogether e (all_ballots base lists)) where
    -- there is no line without room
    no_full : (b : Ballot) → Contains (all_ballots base lists) b → ¬ HasNumber after b.number → length after ≡ e.limit → ⊥
    no_full b there without full =
        let numbers = b.number ∷ numbers_of after in
        let apart : AllPairs (λ x y. x ≢ y) numbers =
        AllPairs-cons (λ x y. x ≢ y) b.number (numbers_of after)
        (all_members (λ y. b.number ≢ y) (numbers_of after) (λ y c same. let held = ballot_with after y c in without ((held.1).0, held.0, (held.1).1, (held.1).2, held.2 ∙ sym same)))
        (pairs_of_numbers (λ x y. x ≢ y) after (listing_from_set e after out.set).distinct) in
        let known : All (Contains (numbers_of (all_ballots base lists))) numbers =
        all_members (Contains (numbers_of (all_ballots base lists))) numbers (λ v c. ⊎_elim
        (λ (own : b.number ≡ v). contains_number (all_ballots base lists) b v there own)
        (λ later. let held = ballot_with after v later in contains_number (all_ballots base lists) held.0 v (from_set held.0 held.1) held.2)
        (first_or_later b.number v (numbers_of after) c)) in
        let few = together.few numbers apart known in
        omega (arith, few, length-numbers_of after)

    -- each line has its ballot in the set
    line_there : (b : Ballot) (reply : CastReply) → Contains (all_ballots base lists) b → IsRightReply e base after b reply → Contains after b
    line_there b Accepted there right = right.1
    line_there b Duplicate there right = right
    line_there b Conflict there right =
        let other : Contains after right.1 = (right.0, right.2, right.3) in
        absurd ((right.4).1 (together.alike right.1 b (from_set right.1 other) there (right.4).0))
    line_there b Full there right = absurd (no_full b there right.0 right.1)

    to_set : (b : Ballot) → Contains (all_ballots base lists) b → Contains after b
    to_set b c = ⊎_elim
        (λ here. Contains-permutation (base ++ accepted_in lists) after b out.gains (Contains-append_left base (accepted_in lists) b here))
        (λ listed.
        let list = from_flat_map (map (λ (l : CastLine). l.ballot)) lists b listed in
        let line = from_map (λ (l : CastLine). l.ballot) list.0 b list.2 in
        let Right : CastLine → Type 0 = λ l. IsRightReply e base after l.ballot l.reply in
        let right = All-contains Right list.0 line.0 (All-contains (All Right) lists list.0 out.replies list.1) line.1 in
        line_there b (line.0).reply c (subst (λ (x : Ballot). IsRightReply e base after x (line.0).reply) line.2 right))
        (Contains-append_cases base (ballots_in lists) b c)

    pub union : (b : Ballot) → Contains after b ↔ Contains (all_ballots base lists) b
    union b = (from_set b, to_set b)

-- ballots with the same members go together alike
together_alike : (e : Election) (xs ys : List Ballot) → GoTogether e xs → ((b : Ballot) → Contains xs b ↔ Contains ys b) → GoTogether e ys
together_alike e xs ys h same = record {
  alike = λ a b first second. h.alike a b ((same a).1 first) ((same b).1 second);
  few = λ numbers apart known. h.few numbers apart (all_members (Contains (numbers_of xs)) numbers (λ v c.
      let held = ballot_with ys v (All-contains (Contains (numbers_of ys)) numbers v known c) in
      contains_number xs held.0 v ((same held.0).1 held.1) held.2));
}

pub same_set : (e : Election) (base x y : List Ballot) (lists others : List (List CastLine)) → BallotOutcome e base lists x → BallotOutcome e base others y → GoTogether e (all_ballots base lists)
    → ((b : Ballot) → Contains (all_ballots base lists) b ↔ Contains (all_ballots base others) b) → x ≡ y
same_set e base x y lists others first second together same =
    let one = union e base x lists first together in
    let other = union e base y others second (together_alike e (all_ballots base lists) (all_ballots base others) together same) in
    same_members x y first.set.ascending second.set.ascending
    (λ b c. (other b).1 ((same b).0 ((one b).0 c)))
    (λ b c. (one b).1 ((same b).1 ((other b).0 c)))
