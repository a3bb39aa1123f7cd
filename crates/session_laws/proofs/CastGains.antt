-- What a phase of casting makes of a set, where no two ballots that are cast have one number.
use Rattle.std.proofs.Common.{◌≡◌, ◌≢◌, ◌≤◌, inl, inr, Some, Bool, true, false, List, ◌++◌, length, refl, sym, ap, subst, ◌∙◌, arith, length-append}
use Rattle.store_spec.proofs.Common.{Accepted, All-contains, AllPairs, AllPairs-filter, Ballot, BallotOutcome, CastLine, CastReply, Conflict, Contains, Contains-append_cases, Contains-append_left, Contains-append_right, Contains-permutation, Duplicate, Election, Full, HasNumber, IsBallotSet, IsListing, IsPermutation, IsPermutation-sym, IsRightReply, accepted_in, cases_eq, filter, is_accepted, not, numbers_of}
use Rattle.ballot_record.proofs.BallotNumbers.{ballot_with, contains_number}
use Rattle.ballot_record.proofs.Lookups.{found_once}
use Rattle.session_laws.specs.LargeRun.{GainsNew, new_to}
use Rattle.session_laws.specs.NewBallots.{ballots_cast}
use Rattle.session_laws.proofs.AllAccepted.{DifferInNumber, Right}
use Rattle.session_laws.proofs.Filling.{Among, from_image, left_in, no_more, pairs-append, passed_in, passes}
use Rattle.session_laws.proofs.Growing.{any_contained, contained_any}
use Rattle.session_laws.proofs.LargeSets.{all_among, distinct}
use Rattle.session_laws.proofs.Lists.{Contains-map}
use Rattle.session_laws.proofs.Members.{Contains-has, has, has-none}
use Rattle.session_laws.proofs.OnlyAccepted.{accepted_in-joined, accepts, all_joined, ballots_in-joined, joined}

-- ---- new ballots

-- a set has no ballot with the number of one that is new
pub new_lacked : (set ballots : List Ballot) (b : Ballot) → Contains (new_to set ballots) b → ¬ HasNumber set b.number
new_lacked set ballots b at any =
    let one = any_contained (λ (x : Ballot). x.number ≡ b.number) set any in
    let none : not (has (numbers_of set) b.number) ≡ true = passes (λ b. not (has (numbers_of set) b.number)) ballots b at in
    has-none (numbers_of set) b.number (not_true (has (numbers_of set) b.number) none) (contains_number set one.0 b.number one.1 one.2)
  where
    not_true : (t : Bool) → not t ≡ true → t ≡ false
    not_true true is = absurd cc
    not_true false is = refl

-- a ballot with such a number is new
pub lacked_new : (set ballots : List Ballot) (b : Ballot) → Contains ballots b → ¬ HasNumber set b.number → Contains (new_to set ballots) b
lacked_new set ballots b at lacks = left_in (λ b. not (has (numbers_of set) b.number)) ballots b at (none (has (numbers_of set) b.number) refl)
  where
    none : (t : Bool) → has (numbers_of set) b.number ≡ t → not t ≡ true
    none false is = refl
    none true is =
        let held = ballot_with set b.number (Contains-has (numbers_of set) b.number is) in
        absurd (lacks (contained_any (λ (x : Ballot). x.number ≡ b.number) set held.0 held.1 held.2))

-- a set and what is new to it are distinct
pub new_apart : (e : Election) (set ballots : List Ballot) → IsBallotSet e set → IsListing e ballots → AllPairs (λ a b. a ≢ b) (set ++ new_to set ballots)
new_apart e set ballots is listing =
    let differ : AllPairs DifferInNumber (new_to set ballots) = AllPairs-filter DifferInNumber (λ b. not (has (numbers_of set) b.number)) ballots listing.distinct in
    pairs-append (λ a b. a ≢ b) set (new_to set ballots) (distinct e set is)
    (λ i j d less within same. differ i j d less within (ap (λ (b : Ballot). b.number) same))
    (λ x y held new same. new_lacked set ballots y new (contained_any (λ (x : Ballot). x.number ≡ y.number) set x held (ap (λ (b : Ballot). b.number) same)))

-- ---- the phase

module _ (e : Election) (set ballots : List Ballot) (lists : List (List CastLine)) (after : List Ballot) (is : IsBallotSet e set) (listing : IsListing e ballots) (outcome : BallotOutcome e set lists after) (all : IsPermutation (ballots_cast lists) ballots) where
  -- the set with what is new to it
  abbrev whole : List Ballot
  whole = set ++ new_to set ballots

  -- each reply is right
  reply_right : (l : CastLine) → Contains (joined lists) l → Right e set after l
  reply_right l at = All-contains (Right e set after) (joined lists) l (all_joined (Right e set after) lists outcome.replies) at

  -- the line of a ballot that is cast
  line_of_ballot : (b : Ballot) → Contains ballots b → (l : CastLine) × Contains (joined lists) l × (l.ballot ≡ b)
  line_of_ballot b at =
      let here : Contains (ballots_cast lists) b = Contains-permutation ballots (ballots_cast lists) b (IsPermutation-sym (ballots_cast lists) ballots all) at in
      from_image (λ (l : CastLine). l.ballot) (joined lists) b (subst (λ (l : List Ballot). Contains l b) (ballots_in-joined lists) here)

  -- a line's ballot is cast
  ballot_of_line : (l : CastLine) → Contains (joined lists) l → Contains ballots l.ballot
  ballot_of_line l at =
      Contains-permutation (ballots_cast lists) ballots l.ballot all
      (subst (λ (bs : List Ballot). Contains bs l.ballot) (sym (ballots_in-joined lists)) (Contains-map (λ (l : CastLine). l.ballot) (joined lists) l at))

  -- what is accepted is new
  accepted_new : Among (accepted_in lists) (new_to set ballots)
  accepted_new b at =
      let one = from_image (λ (l : CastLine). l.ballot) (filter accepts (joined lists)) b (subst (λ (l : List Ballot). Contains l b) (accepted_in-joined lists) at) in
      let here = passed_in accepts (joined lists) one.0 one.1 in
      subst (Contains (new_to set ballots)) one.2
      (lacked_new set ballots one.0.ballot (ballot_of_line one.0 here) (lacks one.0.reply one.0.ballot (passes accepts (joined lists) one.0 one.1) (reply_right one.0 here)))
    where
      lacks : (reply : CastReply) (b : Ballot) → is_accepted reply ≡ true → IsRightReply e set after b reply → ¬ HasNumber set b.number
      lacks Accepted b accepting right = right.0
      lacks Duplicate b accepting right = absurd cc
      lacks Conflict b accepting right = absurd cc
      lacks Full b accepting right = absurd cc

  -- so the set after the phase has nothing else
  only_new : Among after whole
  only_new b at =
      elim (Contains-append_cases set (accepted_in lists) b (Contains-permutation after (set ++ accepted_in lists) b (IsPermutation-sym (set ++ accepted_in lists) after outcome.gains) at)) [
        | inl old ↦ Contains-append_left set (new_to set ballots) b old
        | inr new ↦ Contains-append_right set (new_to set ballots) b (accepted_new b new)
      ]

  -- it has what was held
  keeps_all : Among set after
  keeps_all b at = Contains-permutation (set ++ accepted_in lists) after b outcome.gains (Contains-append_left set (accepted_in lists) b at)

  -- ---- with room left

  -- another ballot after the phase does not have the number of one that is new
  no_conflict : (b other : Ballot) → Contains (new_to set ballots) b → Contains after other → other.number ≡ b.number → other ≡ b
  no_conflict b other new at same =
      elim (Contains-append_cases set (new_to set ballots) other (only_new other at)) [
        | inl old ↦ absurd (new_lacked set ballots b new (contained_any (λ (x : Ballot). x.number ≡ b.number) set other old same))
        | inr cast ↦
            let one = found_once ballots b.number b listing.distinct (passed_in _ ballots b new) refl in
            let another = found_once ballots b.number other listing.distinct (passed_in _ ballots other cast) same in
            let both : Some other ≡ Some b = sym another ∙ one in
            cc
      ]

  -- where the store is not full, a new ballot is in it
  new_held : length after ≢ e.limit → Among (new_to set ballots) after
  new_held room b new =
      let line = line_of_ballot b (passed_in _ ballots b new) in
      held line.0.reply (subst (λ (b : Ballot). IsRightReply e set after b line.0.reply) line.2 (reply_right line.0 line.1))
    where
      held : (reply : CastReply) → IsRightReply e set after b reply → Contains after b
      held Accepted right = right.1
      held Duplicate right = right
      held Conflict (k, other, within, at, (same, differ)) = absurd (differ (no_conflict b other new (k, within, at) same))
      held Full right = absurd (room right.1)

  -- what the phase makes of the set
  pub cast_gains : GainsNew e set ballots after
  cast_gains = record {
    is = outcome.set;
    keeps = all_among set after keeps_all;
    only = all_among after whole only_new;
    count = elim (cases_eq (length after) e.limit) [
      | inl full ↦ omega (arith, fewer, length-append set (new_to set ballots))
      | inr room ↦ omega (arith, fewer, length-append set (new_to set ballots), outcome.within_limit, no_more whole after (new_apart e set ballots is listing) (all_in room))
    ];
  }
    where
      fewer : length after ≤ length whole
      fewer = no_more after whole (distinct e after outcome.set) only_new

      all_in : length after ≢ e.limit → Among whole after
      all_in room b at = elim (Contains-append_cases set (new_to set ballots) b at) [ inl old ↦ keeps_all b old | inr new ↦ new_held room b new ]
