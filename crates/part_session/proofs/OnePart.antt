-- What came of one part decides what is replied to its items at a close, and its share of the set after it.
use Rattle.std.proofs.Common.{◌≡◌, ◌≢◌, ◌∙◌, ◌+◌, ◌^◌, ◌<◌, ◌≤◌, ◌==◌, ⊎_elim, ℕ, Bool, true, false, All, List, [], ◌∷◌, ◌++◌, ap, ap₂, arith, get_or, length, map, not, refl, subst, sym}
use Rattle.store_spec.proofs.Common.{All-append, All-filter, All-head, All-map, All-permutation, All-tail, All-weaker, AllPairs-filter, Ballot, BallotOutcome, CastLine, ClosesCastingInParts, ClosesFinding, ClosesWithdrawingInParts, Contains, Effect, Election, IsBallotSet, IsTrue, IsValid, IsWithinLimit, WithdrawOutcome, Withdrawal, accepted_in, ballots_without, cases_eq, cases_lt, cast_text, closing, eq-eqb, eqb-true, filter, filter_passes, find_text, get_or-map-range_with_len, length-map-range_with_len, list_any, listed, numbers_of, of_part, part_of, range_with_len, share, withdraw_text}
use Rattle.std.proofs.lemmas.List.Filters.{length-filter_both}
use Rattle.std.specs.Prelude.{◌↔◌}
use Rattle.ballot_record.proofs.BallotNumbers.{ballot_with, contains_number}
use Rattle.part_play.proofs.Beside.{filters_mapped}
use Rattle.part_play.proofs.Shares.{accepted_own, share_left}
use Rattle.part_session.proofs.Together.{all_together}
use Rattle.part_session.proofs.Words.{finding}
use Rattle.part_session.specs.Runs.{MayHoldParts}
use Rattle.partition_store.proofs.Shares.{each_in_part, joined_set, none_own, share_joined}
use Rattle.partition_store.specs.Parted.{AreBits, AreParts, BelongsTo, joined}
use Rattle.phase_find.specs.Present.{is_present}
use Rattle.phase_play.proofs.Playing.{plays_finding}
use Rattle.phase_play.proofs.Sequence.{an_outcome}
use Rattle.phase_play.proofs.Withdrawals as withdrawals
use Rattle.store_spec.specs.WithdrawPhase.{Finding}
use Rattle.word_rule.proofs.Members.{contains-filter, from_filter}

-- ---- sets

-- some ballots of a set are one
some_set : (e : Election) (test : Ballot → Bool) (set : List Ballot) → IsBallotSet e set → IsBallotSet e (filter test set)
some_set e test set is = record {
  valid = All-filter test (IsValid e) set is.valid;
  ascending = AllPairs-filter (λ a b. a.number < b.number) test set is.ascending;
}

-- and no more
some_of : (test : Ballot → Bool) (set : List Ballot) → length (filter test set) ≤ length set
some_of test set = omega (arith, length-filter_both test (λ b. not (test b)) (λ b. refl) set)

-- each share is within the limit: past the last part there are no ballots
each_within : (e : Election) (bits : ℕ) (set : List Ballot) → AreBits bits → MayHoldParts bits e set → (part : ℕ) → IsWithinLimit e (share bits part set)
each_within e bits set are may part = ⊎_elim
    (λ (lt : part < 2 ^ bits). may.within_limit part lt)
    (λ (past : 2 ^ bits ≤ part).
    let none : share bits part set ≡ [] =
    none_own (λ (b : Ballot). b.number) bits part set
    (λ k d lt is. let below = each_in_part bits (get_or set k d).number are (may.is_set.valid k d lt).short_number in omega (arith, below, is, past)) in
    subst (IsWithinLimit e) (sym none) (omega arith))
    (cases_lt part (2 ^ bits))

-- the ballots of a share belong to its part
own_share : (bits part : ℕ) (set : List Ballot) → BelongsTo bits part (share bits part set)
own_share bits part set k d lt =
    eqb-true (part_of bits (get_or (share bits part set) k d).number) part (filter_passes (λ (b : Ballot). part_of bits b.number == part) set k d lt)

-- some of each list
each_valid : (e : Election) (test : Ballot → Bool) (lists : List (List Ballot)) → All (All (IsValid e)) lists → All (All (IsValid e)) (map (filter test) lists)
each_valid e test lists valid =
    All-map (All (IsValid e)) (filter test) lists
    (All-weaker (All (IsValid e)) (λ list. All (IsValid e) (filter test list)) (λ list all. All-filter test (IsValid e) list all) lists valid)

-- A close with lines that are alike in a part leaves a set that is alike there.
pub record Alike (L : Type 0) (bits part : ℕ) (e : Election) (number : L → ℕ) (Closes : List (List L) → List Ballot → Type 0) (lines : List (List L)) (after : List Ballot) : Type 0 where
  pub too : List (List L)
  pub left : List Ballot
  pub closes : Closes too left
  pub same : map (of_part number bits part) too ≡ map (of_part number bits part) lines
  pub alike : share bits part left ≡ share bits part after
  pub may : MayHoldParts bits e left

module _ (e : Election) (bits part : ℕ) (are : AreBits bits) (below : part < 2 ^ bits) (set other : List Ballot) (may : MayHoldParts bits e other) (alike : share bits part other ≡ share bits part set) where
  -- ---- casting

  module _ (lists others : List (List Ballot)) (effect : Effect) (valid : All (All (IsValid e)) others)
      (same : map (of_part (λ b. b.number) bits part) others ≡ map (of_part (λ b. b.number) bits part) lists)
      (one : ClosesCastingInParts bits e set lists effect) where
    abbrev cast_in : ℕ → List (List CastLine) → List (List CastLine)
    cast_in place lines = map (of_part (λ l. l.ballot.number) bits place) lines

    -- what comes of each part: of this one the same
    record CastAt (place : ℕ) : Type 0 where
      rows : List (List CastLine)
      of_rows : map (map (λ l. l.ballot)) rows ≡ map (of_part (λ b. b.number) bits place) others
      after : List Ballot
      outcome : BallotOutcome e (share bits place other) rows after
      here : place ≡ part → (rows ≡ cast_in part one.lines) × (after ≡ share bits part one.after)

    cast_here : CastAt part
    cast_here = record {
      rows = cast_in part one.lines;
      of_rows =
          sym (filters_mapped (λ (b : Ballot). part_of bits b.number == part) (λ (l : CastLine). l.ballot) one.lines)
          ∙ ap (map (of_part (λ (b : Ballot). b.number) bits part)) one.of_lists ∙ sym same;
      after = share bits part one.after;
      outcome = subst (λ (base : List Ballot). BallotOutcome e base (cast_in part one.lines) (share bits part one.after)) (sym alike) (one.outcome part below);
      here = λ is. (refl, refl);
    }

    cast_at : (place : ℕ) → CastAt place
    cast_at place = ⊎_elim
        (λ (is : place ≡ part). subst CastAt (sym is) cast_here)
        (λ (elsewhere : place ≢ part).
        let belongs : Ballot → Bool = λ b. part_of bits b.number == place in
        let some = an_outcome e (share bits place other) (map (filter belongs) others) (some_set e belongs other may.is_set) (each_within e bits other are may place) (each_valid e belongs others valid) in
        record { rows = some.2.lines; of_rows = some.2.of_work; after = some.1; outcome = some.2.outcome; here = λ is. absurd (elsewhere is) })
        (cases_eq place part)

    abbrev set_at : ℕ → List Ballot
    set_at place = (cast_at place).after

    pub cast_alike : Alike CastLine bits part e (λ l. l.ballot.number)
        (λ lines after. (map (map (λ l. l.ballot)) lines ≡ others) × ClosesCastingInParts bits e other others (closing (map (map (λ l. cast_text l.reply)) lines) after))
        one.lines one.after
    cast_alike =
        let t = all_together CastLine Ballot (λ l. l.ballot) (λ b. part_of bits b.number) others (λ place. (cast_at place).rows) (λ place. (cast_at place).of_rows) in
        let sets = map set_at (range_with_len 0 (2 ^ bits)) in
        let many : length sets ≡ 2 ^ bits = length-map-range_with_len set_at 0 (2 ^ bits) in
        let there = λ (place : ℕ) (lt : place < 2 ^ bits). get_or-map-range_with_len set_at 0 (2 ^ bits) place place [] lt (let is : 0 + place ≡ place = omega arith in is) in
        let own = λ (place : ℕ).
        let Own : Ballot → Type 0 = λ b. part_of bits b.number ≡ place in
        All-permutation Own (share bits place other ++ accepted_in (cast_at place).rows) (set_at place) (cast_at place).outcome.gains
        (All-append Own (share bits place other) (accepted_in (cast_at place).rows) (own_share bits place other)
        (subst (λ (rows : List (List CastLine)). All Own (accepted_in rows)) (t.there place) (accepted_own bits place t.lines))) in
        let parts : AreParts bits sets = record {
          count = many;
          own = λ place lt. let within : place < 2 ^ bits = omega (arith, many, lt) in subst (BelongsTo bits place) (sym (there place within)) (own place);
        } in
        let is_set : IsBallotSet e (joined sets) = joined_set e bits sets are parts (All-map (IsBallotSet e) set_at (range_with_len 0 (2 ^ bits)) (λ k d lt. (cast_at (get_or (range_with_len 0 (2 ^ bits)) k d)).outcome.set)) in
        let shares = λ (place : ℕ) (lt : place < 2 ^ bits). share_joined bits place sets parts ∙ there place lt in
        record {
          too = t.lines;
          left = joined sets;
          closes = (
            t.of_items,
            record {
              lines = t.lines;
              of_lists = t.of_items;
              after = joined sets;
              is_set = is_set;
              outcome = λ place lt.
                  subst (λ (rows : List (List CastLine)). BallotOutcome e (share bits place other) rows (share bits place (joined sets))) (sym (t.there place))
                  (subst (λ (after : List Ballot). BallotOutcome e (share bits place other) (cast_at place).rows after) (sym (shares place lt)) (cast_at place).outcome);
              is = refl;
            },
          );
          same = t.there part ∙ ((cast_at part).here refl).0;
          alike = shares part below ∙ ((cast_at part).here refl).1;
          may = record {
            is_set = is_set;
            within_limit = λ place lt. subst (IsWithinLimit e) (sym (shares place lt)) (cast_at place).outcome.within_limit;
          };
        }

  -- ---- withdrawing

  module _ (lists others : List (List ℕ)) (effect : Effect)
      (same : map (of_part (λ number. number) bits part) others ≡ map (of_part (λ number. number) bits part) lists)
      (one : ClosesWithdrawingInParts bits set lists effect) where
    abbrev withdrawn_in : ℕ → List (List Withdrawal) → List (List Withdrawal)
    withdrawn_in place lines = map (of_part (λ a. a.number) bits place) lines

    record WithdrawnAt (place : ℕ) : Type 0 where
      rows : List (List Withdrawal)
      of_rows : map (map (λ a. a.number)) rows ≡ map (of_part (λ number. number) bits place) others
      outcome : WithdrawOutcome (numbers_of (share bits place other)) rows (numbers_of (ballots_without (share bits place other) (listed rows)))
      here : place ≡ part → rows ≡ withdrawn_in part one.lines

    -- what the first close leaves of the part
    left_here : share bits part one.after ≡ ballots_without (share bits part other) (listed (withdrawn_in part one.lines))
    left_here =
        ap (share bits part) one.rest ∙ share_left bits part set one.lines
        ∙ ap (λ (base : List Ballot). ballots_without base (listed (withdrawn_in part one.lines))) (sym alike)

    withdrawn_here : WithdrawnAt part
    withdrawn_here =
        let rows = withdrawn_in part one.lines in
        record {
          rows = rows;
          of_rows =
              sym (filters_mapped (λ number. part_of bits number == part) (λ (a : Withdrawal). a.number) one.lines)
              ∙ ap (map (of_part (λ number. number) bits part)) one.of_lists ∙ sym same;
          outcome =
              subst (λ (after : List Ballot). WithdrawOutcome (numbers_of (share bits part other)) rows (numbers_of after)) left_here
              (subst (λ (base : List Ballot). WithdrawOutcome (numbers_of base) rows (numbers_of (share bits part one.after))) (sym alike) (one.outcome part below));
          here = λ is. refl;
        }

    withdrawn_at : (place : ℕ) → WithdrawnAt place
    withdrawn_at place = ⊎_elim
        (λ (is : place ≡ part). subst WithdrawnAt (sym is) withdrawn_here)
        (λ (elsewhere : place ≢ part).
        let base = share bits place other in
        let some = withdrawals.an_outcome e base (map (of_part (λ number. number) bits place) others) (some_set e (λ b. part_of bits b.number == place) other may.is_set) in
        record {
          rows = some.2.lines;
          of_rows = some.2.of_work;
          outcome = subst (λ (after : List Ballot). WithdrawOutcome (numbers_of base) some.2.lines (numbers_of after)) some.2.rest some.2.outcome;
          here = λ is. absurd (elsewhere is);
        })
        (cases_eq place part)

    pub withdrawn_alike : Alike Withdrawal bits part e (λ a. a.number)
        (λ lines after. (map (map (λ a. a.number)) lines ≡ others) × ClosesWithdrawingInParts bits other others (closing (map (map (λ a. withdraw_text a.reply)) lines) after))
        one.lines one.after
    withdrawn_alike =
        let t = all_together Withdrawal ℕ (λ a. a.number) (part_of bits) others (λ place. (withdrawn_at place).rows) (λ place. (withdrawn_at place).of_rows) in
        let left = ballots_without other (listed t.lines) in
        let shares = λ (place : ℕ). share_left bits place other t.lines ∙ ap (λ (rows : List (List Withdrawal)). ballots_without (share bits place other) (listed rows)) (t.there place) in
        let stays : List (List Withdrawal) → Ballot → Bool = λ rows b. not (list_any (λ number. number == b.number) (listed rows)) in
        let fixed : (withdrawn_at part).rows ≡ withdrawn_in part one.lines = (withdrawn_at part).here refl in
        record {
          too = t.lines;
          left = left;
          closes = (
            t.of_items,
            record {
              lines = t.lines;
              of_lists = t.of_items;
              after = left;
              rest = refl;
              outcome = λ place lt.
                  subst (λ (rows : List (List Withdrawal)). WithdrawOutcome (numbers_of (share bits place other)) rows (numbers_of (share bits place left))) (sym (t.there place))
                  (subst (λ (after : List Ballot). WithdrawOutcome (numbers_of (share bits place other)) (withdrawn_at place).rows (numbers_of after)) (sym (shares place)) (withdrawn_at place).outcome);
              is = refl;
            },
          );
          same = t.there part ∙ fixed;
          alike = shares part ∙ ap (λ (rows : List (List Withdrawal)). ballots_without (share bits part other) (listed rows)) fixed ∙ sym left_here;
          may = record {
            is_set = some_set e (stays t.lines) other may.is_set;
            within_limit = λ place lt.
                let few = may.within_limit place lt in
                let some = some_of (stays (withdrawn_at place).rows) (share bits place other) in
                subst (IsWithinLimit e) (sym (shares place)) (let le : length (filter (stays (withdrawn_at place).rows) (share bits place other)) ≤ e.limit = omega (arith, few, some) in le);
          };
        }

-- ---- finding

-- an answer to a number of the part is right
abbrev IsFound : ℕ → ℕ → List Ballot → Finding → Type 0
IsFound bits part held a = (part_of bits a.number ≡ part) × (IsTrue a.present ↔ Contains (numbers_of held) a.number)

-- sets that are alike in a part have the same numbers of it
numbers_alike : (bits part : ℕ) (xs ys : List Ballot) → share bits part xs ≡ share bits part ys → (n : ℕ) → part_of bits n ≡ part → Contains (numbers_of xs) n → Contains (numbers_of ys) n
numbers_alike bits part xs ys alike n own c =
    let belongs : Ballot → Bool = λ b. part_of bits b.number == part in
    let b = ballot_with xs n c in
    let here = contains-filter belongs xs b.0 b.1 (eq-eqb (part_of bits b.0.number) part (ap (part_of bits) b.2 ∙ own)) in
    let there = from_filter belongs ys b.0 (subst (λ (l : List Ballot). Contains l b.0) alike here) in
    contains_number ys b.0 n there.0 b.2

-- tests that hold together are the same
same_test : (x y : Bool) → (x ≡ true → y ≡ true) → (y ≡ true → x ≡ true) → x ≡ y
same_test x true there back = back refl
same_test true false there back = sym (there refl)
same_test false false there back = refl

module _ (bits part : ℕ) (set other : List Ballot) (alike : share bits part other ≡ share bits part set) where
  same_finding : (a b : Finding) → a.number ≡ b.number → IsFound bits part other a → IsFound bits part set b → a ≡ b
  same_finding a b number first second =
      let there = numbers_alike bits part other set alike a.number first.0 in
      let back = numbers_alike bits part set other (sym alike) a.number first.0 in
      let told : IsTrue b.present ↔ Contains (numbers_of set) a.number = subst (λ n. IsTrue b.present ↔ Contains (numbers_of set) n) (sym number) second.1 in
      finding a b number (same_test a.present b.present (λ yes. told.1 (there (first.1.0 yes))) (λ yes. first.1.1 (back (told.0 yes))))

  same_findings : (these those : List Finding) → map (λ a. a.number) these ≡ map (λ a. a.number) those → All (IsFound bits part other) these → All (IsFound bits part set) those → these ≡ those
  same_findings [] [] numbers first second = refl
  same_findings [] (b ∷ those) numbers first second = absurd cc
  same_findings (a ∷ these) [] numbers first second = absurd cc
  same_findings (a ∷ these) (b ∷ those) numbers first second =
      ap₂ (λ l ls. l ∷ ls)
      (same_finding a b (cc) (All-head (IsFound bits part other) a these first) (All-head (IsFound bits part set) b those second))
      (same_findings these those (cc) (All-tail (IsFound bits part other) a these first) (All-tail (IsFound bits part set) b those second))

  all_findings : (these those : List (List Finding)) → map (map (λ a. a.number)) these ≡ map (map (λ a. a.number)) those → All (All (IsFound bits part other)) these → All (All (IsFound bits part set)) those → these ≡ those
  all_findings [] [] numbers first second = refl
  all_findings [] (b ∷ those) numbers first second = absurd cc
  all_findings (a ∷ these) [] numbers first second = absurd cc
  all_findings (a ∷ these) (b ∷ those) numbers first second =
      ap₂ (λ l ls. l ∷ ls)
      (same_findings a b (cc) (All-head (All (IsFound bits part other)) a these first) (All-head (All (IsFound bits part set)) b those second))
      (all_findings these those (cc) (All-tail (All (IsFound bits part other)) a these first) (All-tail (All (IsFound bits part set)) b those second))

found_at : (bits part : ℕ) (held : List Ballot) (lines : List (List Finding)) → All (All (λ a. IsTrue a.present ↔ Contains (numbers_of held) a.number)) lines → All (All (IsFound bits part held)) (map (of_part (λ a. a.number) bits part) lines)
found_at bits part held lines all =
    let Right : Finding → Type 0 = λ a. IsTrue a.present ↔ Contains (numbers_of held) a.number in
    let goes : Finding → Bool = λ a. part_of bits a.number == part in
    All-map (All (IsFound bits part held)) (filter goes) lines
    (All-weaker (All Right) (λ line. All (IsFound bits part held) (filter goes line))
    (λ line each k d lt. (
      eqb-true (part_of bits (get_or (filter goes line) k d).number) part (filter_passes goes line k d lt),
      All-filter goes Right line each k d lt,
    ))
    lines all)

pub found_alike : (e : Election) (bits part : ℕ) (set other : List Ballot) → MayHoldParts bits e other → share bits part other ≡ share bits part set
    → (lists others : List (List ℕ)) (effect : Effect) → map (of_part (λ number. number) bits part) others ≡ map (of_part (λ number. number) bits part) lists
    → (one : ClosesFinding set lists effect)
    → Alike Finding bits part e (λ a. a.number)
    (λ lines after. (map (map (λ a. a.number)) lines ≡ others) × ClosesFinding other others (closing (map (map (λ a. find_text a.present)) lines) after))
    one.lines set
found_alike e bits part set other may alike lists others effect same one =
    let two = plays_finding other others (map (map (is_present other)) others) refl in
    let goes : ℕ → Bool = λ n. part_of bits n == part in
    let number : Finding → ℕ = λ a. a.number in
    record {
      too = two.lines;
      left = other;
      closes = (two.of_work, record { lines = two.lines; of_lists = two.of_work; outcome = two.outcome; is = refl });
      same = all_findings bits part set other alike (map (of_part number bits part) two.lines) (map (of_part number bits part) one.lines)
          (sym (filters_mapped goes number two.lines) ∙ ap (map (filter goes)) two.of_work ∙ same ∙ ap (map (filter goes)) (sym one.of_lists) ∙ filters_mapped goes number one.lines)
          (found_at bits part other two.lines two.outcome.answers)
          (found_at bits part set one.lines one.outcome.answers);
      alike = alike;
      may = may;
    }
