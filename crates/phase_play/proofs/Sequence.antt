-- Lists that are answered one ballot after another: a casting phase has an outcome.
use Rattle.std.proofs.Common.{◌≡◌, ◌≢◌, ℕ, ◌<◌, ◌≤◌, ◌⊎◌, inl, inr, ⊎_elim, true, false, cond, None, List, [], ◌∷◌, ◌++◌, length, get_or, map, refl, sym, ap, ◌∙◌, subst, arith}
use Rattle.store_spec.proofs.Common.{Accepted, All, All-cons, All-head, All-nil, All-push, All-tail, All-weaker, AllPairs, Ballot, BallotOutcome, CastLine, CastReply, Conflict, Contains, Contains-append_left, Contains-get_or, Contains-permutation, Contains-push, Duplicate, Election, Full, HasNumber, IsBallotSet, IsPermutation, IsPermutation-sym, IsPermutation-trans, IsRightReply, IsValid, IsWithinLimit, MayBeCastBefore, accepted_in, all_pairs_push, append-nil, append_assoc, ballot_of, bytes_eq, bytes_eq-Decides, cases_Bool, cases_eq, cases_lt, filter, filter-append, is_accepted, length-append, length_permutation, map-append, map_push, numbers_of}
use Rattle.ballot_record.proofs.BallotNumbers.{ballot_with, contains_number}
use Rattle.ballot_record.proofs.BallotSets.{in_order, in_order-IsPermutation, same_in_order, set_of_listing}
use Rattle.ballot_record.proofs.Lookups.{found_in, missing_from, option_cases}
use Rattle.body_store.proofs.BallotSets.{MayHold, limit-IsPermutation, may_hold_set}
use Rattle.phase_insert.proofs.Outcome.{number_there}
use Rattle.phase_play.specs.Plays.{PlaysCasting}

-- ---- sets that grow

-- A later set begins with an earlier one, and is the same once that has reached the limit.
record Grows (e : Election) (set later : List Ballot) : Type 0 where
  more : List Ballot
  is : later ≡ set ++ more
  stops : length set ≡ e.limit → more ≡ []

stays : (e : Election) (set : List Ballot) → Grows e set set
stays e set = record { more = []; is = sym (append-nil set); stops = λ full. refl }

grows_on : (e : Election) (a b c : List Ballot) → Grows e a b → Grows e b c → Grows e a c
grows_on e a b c first second = record {
  more = first.more ++ second.more;
  is = second.is ∙ ap (λ l. l ++ second.more) first.is ∙ append_assoc a first.more second.more;
  stops = λ full.
      let none = first.stops full in
      let same : b ≡ a = first.is ∙ ap (λ l. a ++ l) none ∙ append-nil a in
      ap (λ l. l ++ second.more) none ∙ second.stops (ap length same ∙ full);
}

grows_by : (e : Election) (set : List Ballot) (b : Ballot) → length set < e.limit → Grows e set (set ++ b ∷ [])
grows_by e set b room = record { more = b ∷ []; is = refl; stops = λ full. absurd (omega arith) }

still_there : (e : Election) (set later : List Ballot) (b : Ballot) → Grows e set later → Contains set b → Contains later b
still_there e set later b grows c = subst (λ (l : List Ballot). Contains l b) (sym grows.is) (Contains-append_left set grows.more b c)

still_numbered : (e : Election) (set later : List Ballot) (v : ℕ) → Grows e set later → Contains (numbers_of set) v → Contains (numbers_of later) v
still_numbered e set later v grows c =
    let held = ballot_with set v c in
    contains_number later held.0 v (still_there e set later held.0 grows held.1) held.2

-- ---- one list

-- the reply is right in each later set
abbrev RightFrom : Election → List Ballot → List Ballot → CastLine → Type 0
RightFrom e base set l = (later : List Ballot) → Grows e set later → IsRightReply e base later l.ballot l.reply

-- there was no room, or the number is one of the set
abbrev IsMet : Election → List Ballot → CastLine → Type 0
IsMet e set l = ((l.reply ≡ Full) × (length set ≡ e.limit)) ⊎ ((l.reply ≢ Full) × Contains (numbers_of set) l.ballot.number)

abbrev accepted_of : List CastLine → List Ballot
accepted_of lines = map (λ l. l.ballot) (filter (λ l. is_accepted l.reply) lines)

-- a list is answered from one set to another
record Answers (e : Election) (base start : List Ballot) (items : List Ballot) : Type 0 where
  lines : List CastLine
  of_items : map (λ l. l.ballot) lines ≡ items
  end : List Ballot
  gains : end ≡ start ++ accepted_of lines
  grows : Grows e start end
  held : MayHold e end
  right : All (RightFrom e base end) lines
  met : All (IsMet e end) lines
  in_order : AllPairs MayBeCastBefore lines

accepted_push : (lines : List CastLine) (l : CastLine) → accepted_of (lines ++ l ∷ []) ≡ accepted_of lines ++ map (λ x. x.ballot) (cond (is_accepted l.reply) (l ∷ []) [])
accepted_push lines l =
    ap (map (λ (x : CastLine). x.ballot)) (filter-append (λ (x : CastLine). is_accepted x.reply) lines (l ∷ []))
    ∙ map-append (λ (x : CastLine). x.ballot) (filter (λ (x : CastLine). is_accepted x.reply) lines) (cond (is_accepted l.reply) (l ∷ []) [])

abbrev line : Ballot → CastReply → CastLine
line b r = record { ballot = b; reply = r }

-- a ballot that is not accepted leaves the set as it is
not_accepted : (e : Election) (base start items : List Ballot) (b : Ballot) (r : CastReply) (a : Answers e base start items) → is_accepted r ≡ false → RightFrom e base a.end (line b r) → IsMet e a.end (line b r) → Answers e base start (items ++ b ∷ [])
not_accepted e base start items b r a refused right met =
    let l = line b r in
    let same : accepted_of (a.lines ++ l ∷ []) ≡ accepted_of a.lines =
    accepted_push a.lines l ∙ ap (λ t. accepted_of a.lines ++ map (λ (x : CastLine). x.ballot) (cond t (l ∷ []) [])) refused ∙ append-nil (accepted_of a.lines) in
    record {
      lines = a.lines ++ l ∷ [];
      of_items = map_push (λ (x : CastLine). x.ballot) a.lines l ∙ ap (λ bs. bs ++ b ∷ []) a.of_items;
      end = a.end;
      gains = a.gains ∙ ap (λ bs. start ++ bs) (sym same);
      grows = a.grows;
      held = a.held;
      right = All-push (RightFrom e base a.end) a.lines l a.right right;
      met = All-push (IsMet e a.end) a.lines l a.met met;
      in_order = all_pairs_push MayBeCastBefore a.lines l a.in_order (λ k d within is. absurd (let other : is_accepted r ≡ true = ap is_accepted is in cc));
    }

met_later : (e : Election) (set later : List Ballot) (l : CastLine) → Grows e set later → length set < e.limit → IsMet e set l → IsMet e later l
met_later e set later l grows room met = ⊎_elim
    (λ (full : (l.reply ≡ Full) × (length set ≡ e.limit)). absurd (omega (arith, full.1)))
    (λ (other : (l.reply ≢ Full) × Contains (numbers_of set) l.ballot.number). inr (other.0, still_numbered e set later l.ballot.number grows other.1))
    met

-- a new ballot for which there is room joins the set
joins : (e : Election) (base start items : List Ballot) (b : Ballot) (a : Answers e base start items) → IsValid e b → Grows e base start → ¬ Contains (numbers_of a.end) b.number → length a.end < e.limit → Answers e base start (items ++ b ∷ [])
joins e base start items b a valid from new room =
    let l = line b Accepted in
    let set = a.end ++ b ∷ [] in
    let grows = grows_by e a.end b room in
    let apart = λ (other : Ballot) (c : Contains a.end other) (same : other.number ≡ b.number). new (contains_number a.end other b.number c same) in
    let first_in : Contains set b = Contains-push a.end b in
    record {
      lines = a.lines ++ l ∷ [];
      of_items = map_push (λ (x : CastLine). x.ballot) a.lines l ∙ ap (λ bs. bs ++ b ∷ []) a.of_items;
      end = set;
      gains = ap (λ bs. bs ++ b ∷ []) a.gains ∙ append_assoc start (accepted_of a.lines) (b ∷ []) ∙ ap (λ bs. start ++ bs) (sym (accepted_push a.lines l));
      grows = grows_on e start a.end set a.grows grows;
      held = record {
        listing = record {
          valid = All-push (IsValid e) a.end b a.held.listing.valid valid;
          distinct = all_pairs_push (λ x y. x.number ≢ y.number) a.end b a.held.listing.distinct (λ k d within. apart (get_or a.end k d) (Contains-get_or a.end k d within));
        };
        within_limit = omega (arith, length-append a.end (b ∷ []));
      };
      right = All-push (RightFrom e base set) a.lines l
          (All-weaker (RightFrom e base a.end) (RightFrom e base set) (λ x h later on. h later (grows_on e a.end set later grows on)) a.lines a.right)
          (λ later on. (
            λ held. new (still_numbered e base a.end b.number (grows_on e base start a.end from a.grows) (number_there base b.number held)),
            still_there e set later b on first_in,
          ));
      met = All-push (IsMet e set) a.lines l (All-weaker (IsMet e a.end) (IsMet e set) (λ x. met_later e a.end set x grows room) a.lines a.met)
          (inr ((λ same. absurd cc), contains_number set b b.number first_in refl));
      in_order = all_pairs_push MayBeCastBefore a.lines l a.in_order (λ k d within is.
          let earlier = get_or a.lines k d in
          ⊎_elim
          (λ (full : (earlier.reply ≡ Full) × (length a.end ≡ e.limit)). absurd (omega (arith, full.1)))
          (λ (other : (earlier.reply ≢ Full) × Contains (numbers_of a.end) earlier.ballot.number).
          ((λ same. new (subst (λ n. Contains (numbers_of a.end) n) same other.1)), other.0))
          (a.met k d within));
    }

-- two ballots with one number are the same or not
same_or_other : (a b : Ballot) → a.number ≡ b.number → (a ≡ b) ⊎ (a ≢ b)
same_or_other a b number = ⊎_elim
    (λ (style : a.style ≡ b.style). ⊎_elim
    (λ (yes : bytes_eq a.marks b.marks ≡ true). inl (ap (λ n. record { number = n; style = a.style; marks = a.marks }) number ∙ ap (λ s. record { number = b.number; style = s; marks = a.marks }) style ∙ ap (λ ms. record { number = b.number; style = b.style; marks = ms }) ((bytes_eq-Decides a.marks b.marks).0 yes)))
    (λ (other : bytes_eq a.marks b.marks ≡ false). inr (λ same. absurd (let yes = (bytes_eq-Decides a.marks b.marks).1 (ap (λ (x : Ballot). x.marks) same) in cc)))
    (cases_Bool (bytes_eq a.marks b.marks)))
    (λ (other : a.style ≢ b.style). inr (λ same. other (ap (λ (x : Ballot). x.style) same)))
    (cases_eq a.style b.style)

one_more : (e : Election) (base start items : List Ballot) (b : Ballot) → Grows e base start → Answers e base start items → IsValid e b → Answers e base start (items ++ b ∷ [])
one_more e base start items b from a valid = ⊎_elim
    (λ (none : ballot_of a.end b.number ≡ None).
    let new : ¬ Contains (numbers_of a.end) b.number = λ c. let held = ballot_with a.end b.number c in missing_from a.end b.number none held.0 held.1 held.2 in
    ⊎_elim
    (λ (room : length a.end < e.limit). joins e base start items b a valid from new room)
    (λ (more : e.limit ≤ length a.end).
    let few = a.held.within_limit in
    let full : length a.end ≡ e.limit = omega arith in
    not_accepted e base start items b Full a refl
    (λ later on.
    let same : later ≡ a.end = on.is ∙ ap (λ l. a.end ++ l) (on.stops full) ∙ append-nil a.end in
    ((λ held. new (subst (λ (l : List Ballot). Contains (numbers_of l) b.number) same (number_there later b.number held))), ap length same ∙ full))
    (inl (refl, full)))
    (cases_lt (length a.end) e.limit))
    (λ some.
    let found = found_in a.end b.number some.0 some.1 in
    let numbered = contains_number a.end some.0 b.number found.0 found.1 in
    ⊎_elim
    (λ (same : some.0 ≡ b).
    not_accepted e base start items b Duplicate a refl
    (λ later on. subst (λ (x : Ballot). Contains later x) same (still_there e a.end later some.0 on found.0))
    (inr ((λ is. absurd cc), numbered)))
    (λ (other : some.0 ≢ b).
    not_accepted e base start items b Conflict a refl
    (λ later on. let c = still_there e a.end later some.0 on found.0 in (c.0, some.0, c.1, c.2, (found.1, other)))
    (inr ((λ is. absurd cc), numbered)))
    (same_or_other some.0 b found.1))
    (option_cases (ballot_of a.end b.number))

rest_of : (e : Election) (base start done rest : List Ballot) → Grows e base start → Answers e base start done → All (IsValid e) rest → Answers e base start (done ++ rest)
rest_of e base start done [] from a valid = subst (λ (items : List Ballot). Answers e base start items) (sym (append-nil done)) a
rest_of e base start done (b ∷ rest) from a valid =
    subst (λ (items : List Ballot). Answers e base start items) (append_assoc done (b ∷ []) rest)
    (rest_of e base start (done ++ b ∷ []) rest from (one_more e base start done b from a (All-head (IsValid e) b rest valid)) (All-tail (IsValid e) b rest valid))

whole : (e : Election) (base start items : List Ballot) → Grows e base start → MayHold e start → All (IsValid e) items → Answers e base start items
whole e base start items from held valid =
    rest_of e base start [] items from (record {
      lines = [];
      of_items = refl;
      end = start;
      gains = sym (append-nil start);
      grows = stays e start;
      held = held;
      right = All-nil (RightFrom e base start);
      met = All-nil (IsMet e start);
      in_order = λ i j d less within. absurd (omega arith);
    }) valid

-- ---- all lists

record AnswersAll (e : Election) (base start : List Ballot) (lists : List (List Ballot)) : Type 0 where
  lines : List (List CastLine)
  of_lists : map (map (λ l. l.ballot)) lines ≡ lists
  end : List Ballot
  gains : end ≡ start ++ accepted_in lines
  grows : Grows e start end
  held : MayHold e end
  right : All (All (RightFrom e base end)) lines
  in_order : All (AllPairs MayBeCastBefore) lines

all_of : (e : Election) (base start : List Ballot) (lists : List (List Ballot)) → Grows e base start → MayHold e start → All (All (IsValid e)) lists → AnswersAll e base start lists
all_of e base start [] from held valid = record {
  lines = [];
  of_lists = refl;
  end = start;
  gains = sym (append-nil start);
  grows = stays e start;
  held = held;
  right = All-nil (All (RightFrom e base start));
  in_order = All-nil (AllPairs MayBeCastBefore);
}
all_of e base start (list ∷ lists) from held valid =
    let a = whole e base start list from held (All-head (All (IsValid e)) list lists valid) in
    let rest = all_of e base a.end lists (grows_on e base start a.end from a.grows) a.held (All-tail (All (IsValid e)) list lists valid) in
    record {
      lines = a.lines ∷ rest.lines;
      of_lists = ap (λ l. l ∷ map (map (λ (x : CastLine). x.ballot)) rest.lines) a.of_items ∙ ap (λ l. list ∷ l) rest.of_lists;
      end = rest.end;
      gains = rest.gains ∙ ap (λ bs. bs ++ accepted_in rest.lines) a.gains ∙ append_assoc start (accepted_of a.lines) (accepted_in rest.lines);
      grows = grows_on e start a.end rest.end a.grows rest.grows;
      held = rest.held;
      right = All-cons (All (RightFrom e base rest.end)) a.lines rest.lines
          (All-weaker (RightFrom e base a.end) (RightFrom e base rest.end) (λ l h later on. h later (grows_on e a.end rest.end later rest.grows on)) a.lines a.right)
          rest.right;
      in_order = All-cons (AllPairs MayBeCastBefore) a.lines rest.lines a.in_order rest.in_order;
    }

-- ---- the outcome

number_moved : (xs ys : List Ballot) (number : ℕ) → IsPermutation xs ys → HasNumber xs number → HasNumber ys number
number_moved xs ys number p h = let c = Contains-permutation xs ys h.1 p (h.0, h.2, h.3) in (c.0, h.1, c.1, c.2, h.4)

right_moved : (e : Election) (base xs ys : List Ballot) (b : Ballot) (r : CastReply) → IsPermutation xs ys → IsRightReply e base xs b r → IsRightReply e base ys b r
right_moved e base xs ys b Accepted p h = (h.0, Contains-permutation xs ys b p h.1)
right_moved e base xs ys b Duplicate p h = Contains-permutation xs ys b p h
right_moved e base xs ys b Conflict p h = let c = Contains-permutation xs ys h.1 p (h.0, h.2, h.3) in (c.0, h.1, c.1, c.2, h.4)
right_moved e base xs ys b Full p h = (
  λ held. h.0 (number_moved ys xs b.number (IsPermutation-sym xs ys p) held),
  length_permutation xs ys p ∙ h.1,
)

pub an_outcome : (e : Election) (base : List Ballot) (work : List (List Ballot)) → IsBallotSet e base → IsWithinLimit e base → All (All (IsValid e)) work → (replies : List (List CastReply)) × (after : List Ballot) × PlaysCasting e base work replies after
an_outcome e base work set few valid =
    let a = all_of e base base work (stays e base) (may_hold_set e base set few) valid in
    let after = in_order a.end in
    let p = in_order-IsPermutation a.end in (
      map (map (λ l. l.reply)) a.lines,
      after,
      record {
        lines = a.lines;
        of_work = a.of_lists;
        of_replies = refl;
        outcome = record {
          gains = subst (λ (bs : List Ballot). IsPermutation bs after) a.gains p;
          set = set_of_listing e a.end a.held.listing;
          within_limit = limit-IsPermutation e a.end after p a.held.within_limit;
          replies = All-weaker (All (RightFrom e base a.end)) (All (λ l. IsRightReply e base after l.ballot l.reply))
              (λ list each. All-weaker (RightFrom e base a.end) (λ l. IsRightReply e base after l.ballot l.reply)
              (λ l h. right_moved e base a.end after l.ballot l.reply p (h a.end (stays e a.end))) list each)
              a.lines a.right;
          in_order = a.in_order;
        };
      },
    )

-- the base and the lines fix the set
pub one_set : (e : Election) (base a b : List Ballot) (lines : List (List CastLine)) → BallotOutcome e base lines a → BallotOutcome e base lines b → a ≡ b
one_set e base a b lines first second =
    same_in_order a b first.set.ascending second.set.ascending
    (IsPermutation-trans a (base ++ accepted_in lines) b (IsPermutation-sym (base ++ accepted_in lines) a first.gains) second.gains)
