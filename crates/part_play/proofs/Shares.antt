-- Phases of parts, and the whole set of which the parts hold their shares.
use Rattle.std.proofs.Common.{◌≡◌, ◌^◌, ◌<◌, ◌≤◌, ◌++◌, ◌∙◌, ℕ, Bool, true, false, All, List, [], ◌∷◌, ap, arith, cond, get_or, map, not, refl, subst, sym}
use Rattle.store_spec.proofs.Common.{All-append, All-contains, All-filter, All-map, All-nil, All-permutation, AllPairs-filter, Ballot, CastLine, CastReply, ClosesCastingInParts, ClosesWithdrawingInParts, Contains, Effect, Election, IsBallotSet, IsValid, WithdrawReply, Withdrawal, accepted_in, ballots_without, cast_text, closing, eq-eqb, eqb-true, filter, filter-append, filter_passes, is_accepted, list_any, listed, numbers_of, of_part, part_of, share, slice_get_within, withdraw_text}
use Rattle.std.specs.Prelude.{◌==◌}
use Rattle.ballot_record.proofs.BallotSets.{same_members}
use Rattle.part_play.proofs.Beside.{filter_mapped}
use Rattle.part_play.specs.Plays.{AreSharesOf, HoldTheirOwn, PlaysCastingInParts, PlaysWithdrawingInParts}
use Rattle.partition_store.proofs.Shares.{each_in_part}
use Rattle.phase_delete.proofs.Left.{left_alike}
use Rattle.phase_kind.proofs.Counts.{something_there}
use Rattle.phase_play.proofs.Rows.{map_twice}
use Rattle.word_rule.proofs.Members.{contains-filter, from_filter}

-- ---- two tests

by_both : {X : Type 0} (p q : X → Bool) (x : X) (kept others : List X) (a b : Bool) → p x ≡ a → q x ≡ b → filter p others ≡ filter q kept → filter p (cond b (x ∷ others) others) ≡ filter q (cond a (x ∷ kept) kept)
by_both p q x kept others true true is it rest = ap (λ c. cond c (x ∷ filter p others) (filter p others)) is ∙ ap (λ l. x ∷ l) rest ∙ ap (λ c. cond c (x ∷ filter q kept) (filter q kept)) (sym it)
by_both p q x kept others true false is it rest = rest ∙ ap (λ c. cond c (x ∷ filter q kept) (filter q kept)) (sym it)
by_both p q x kept others false true is it rest = ap (λ c. cond c (x ∷ filter p others) (filter p others)) is ∙ rest
by_both p q x kept others false false is it rest = rest

filter_twice : {X : Type 0} (p q : X → Bool) (xs : List X) → filter p (filter q xs) ≡ filter q (filter p xs)
filter_twice p q [] = refl
filter_twice p q (x ∷ xs) = by_both p q x (filter p xs) (filter q xs) (p x) (q x) refl refl (filter_twice p q xs)

-- ---- numbers that are withdrawn

module _ (bits part : ℕ) where
  abbrev goes : ℕ → Bool
  goes n = part_of bits n == part

  abbrev belongs : Ballot → Bool
  belongs b = part_of bits b.number == part

  -- those of a part
  listed_part : (lines : List (List Withdrawal)) → listed (map (of_part (λ a. a.number) bits part) lines) ≡ filter goes (listed lines)
  listed_part [] = refl
  listed_part (line ∷ lines) =
      let number : Withdrawal → ℕ = λ a. a.number in
      ap (λ l. l ++ listed (map (of_part number bits part) lines)) (sym (filter_mapped goes number line))
      ∙ ap (λ l. filter goes (map number line) ++ l) (listed_part lines)
      ∙ sym (filter-append goes (map number line) (listed lines))

  -- the share of what is left is what is left of the share
  pub share_left : (set : List Ballot) (lines : List (List Withdrawal)) → share bits part (ballots_without set (listed lines)) ≡ ballots_without (share bits part set) (listed (map (of_part (λ a. a.number) bits part) lines))
  share_left set lines =
      let gone = listed lines in
      let gone_here = listed (map (of_part (λ (a : Withdrawal). a.number) bits part) lines) in
      let own : All (λ n. goes n ≡ true) (numbers_of (share bits part set)) = All-map (λ n. goes n ≡ true) (λ (b : Ballot). b.number) (share bits part set) (filter_passes belongs set) in
      filter_twice belongs (λ b. not (list_any (λ number. number == b.number) gone)) set
      ∙ left_alike (share bits part set) gone gone_here (λ x c. (
        λ there. subst (λ (l : List ℕ). Contains l x) (sym (listed_part lines)) (contains-filter goes gone x there (All-contains (λ n. goes n ≡ true) (numbers_of (share bits part set)) x own c)),
        λ here. (from_filter goes gone x (subst (λ (l : List ℕ). Contains l x) (listed_part lines) here)).0,
      ))

-- ---- sets with the same shares

module _ (e : Election) (bits : ℕ) (some : 1 ≤ bits) (few : bits ≤ 3) where
  among : (xs ys : List Ballot) → IsBallotSet e xs → ((part : ℕ) → part < 2 ^ bits → share bits part xs ≡ share bits part ys) → (b : Ballot) → Contains xs b → Contains ys b
  among xs ys set same b c =
      let valid = All-contains (IsValid e) xs b set.valid c in
      let part = part_of bits b.number in
      let below = each_in_part bits b.number (record { some = some; few = few }) valid.short_number in
      let here = contains-filter (belongs bits part) xs b c (eq-eqb part part refl) in
      (from_filter (belongs bits part) ys b (subst (λ (l : List Ballot). Contains l b) (same part below) here)).0

  same_sets : (xs ys : List Ballot) → IsBallotSet e xs → IsBallotSet e ys → ((part : ℕ) → part < 2 ^ bits → share bits part xs ≡ share bits part ys) → xs ≡ ys
  same_sets xs ys first second same = same_members xs ys first.ascending second.ascending (among xs ys first same) (among ys xs second (λ part below. sym (same part below)))

-- ---- a close

words : {L R : Type 0} (text : R → List ℕ) (reply : L → R) (lines : List (List L)) (replies : List (List R)) (after : List Ballot) (effect : Effect) → map (map reply) lines ≡ replies → effect ≡ closing (map (map text) replies) after → effect ≡ closing (map (map (λ l. text (reply l))) lines) after
words text reply lines replies after effect are is = is ∙ ap (λ ws. closing ws after) (ap (map (map text)) (sym are) ∙ map_twice text reply lines)

pub closes_casting : (bits : ℕ) (e : Election) (set after : List Ballot) (parts parts_after : List (List Ballot)) (lists : List (List Ballot)) (replies : List (List CastReply)) (effect : Effect) → AreSharesOf bits set parts → AreSharesOf bits after parts_after → IsBallotSet e after
    → PlaysCastingInParts bits e parts lists replies parts_after → effect ≡ closing (map (map cast_text) replies) after → ClosesCastingInParts bits e set lists effect
closes_casting bits e set after parts parts_after lists replies effect shares shares_after is_set p is = record {
  lines = p.lines;
  of_lists = p.of_work;
  after = after;
  is_set = is_set;
  outcome = λ part below. p.outcome part (share bits part set) (share bits part after) (shares.each part below) (shares_after.each part below);
  is = words cast_text (λ (l : CastLine). l.reply) p.lines replies after effect p.of_replies is;
}

pub closes_withdrawing : (bits : ℕ) (e : Election) (set after : List Ballot) (parts parts_after : List (List Ballot)) (lists : List (List ℕ)) (replies : List (List WithdrawReply)) (effect : Effect) → 1 ≤ bits → bits ≤ 3 → AreSharesOf bits set parts → AreSharesOf bits after parts_after → IsBallotSet e set → IsBallotSet e after
    → PlaysWithdrawingInParts bits parts lists replies parts_after → effect ≡ closing (map (map withdraw_text) replies) after → ClosesWithdrawingInParts bits set lists effect
closes_withdrawing bits e set after parts parts_after lists replies effect some few shares shares_after is_set is_set_after p is =
    let keep : Ballot → Bool = λ b. not (list_any (λ number. number == b.number) (listed p.lines)) in
    let left : IsBallotSet e (ballots_without set (listed p.lines)) = record {
      valid = All-filter keep (IsValid e) set is_set.valid;
      ascending = AllPairs-filter (λ a b. a.number < b.number) keep set is_set.ascending;
    } in
    record {
      lines = p.lines;
      of_lists = p.of_work;
      after = after;
      rest = same_sets e bits some few after (ballots_without set (listed p.lines)) is_set_after left (λ part below.
          p.rest part (share bits part set) (share bits part after) (shares.each part below) (shares_after.each part below) ∙ sym (share_left bits part set p.lines));
      outcome = λ part below. p.outcome part (share bits part set) (share bits part after) (shares.each part below) (shares_after.each part below);
      is = words withdraw_text (λ (a : Withdrawal). a.reply) p.lines replies after effect p.of_replies is;
    }

-- ---- parts that hold their own

-- what is accepted of a part's lines is the part's own
pub accepted_own : (bits part : ℕ) (lines : List (List CastLine)) → All (λ b. part_of bits b.number ≡ part) (accepted_in (map (of_part (λ l. l.ballot.number) bits part) lines))
accepted_own bits part [] = All-nil (λ (b : Ballot). part_of bits b.number ≡ part)
accepted_own bits part (line ∷ lines) =
    let Own : Ballot → Type 0 = λ b. part_of bits b.number ≡ part in
    let OwnLine : CastLine → Type 0 = λ l. part_of bits l.ballot.number ≡ part in
    let mine = of_part (λ (l : CastLine). l.ballot.number) bits part line in
    let accepts : CastLine → Bool = λ l. is_accepted l.reply in
    let own : All OwnLine mine = λ k d within. eqb-true (part_of bits (get_or mine k d).ballot.number) part (filter_passes (λ (l : CastLine). part_of bits l.ballot.number == part) line k d within) in
    All-append Own (map (λ l. l.ballot) (filter accepts mine)) (accepted_in (map (of_part (λ l. l.ballot.number) bits part) lines))
    (All-map Own (λ (l : CastLine). l.ballot) (filter accepts mine) (All-filter accepts OwnLine mine own))
    (accepted_own bits part lines)

pub casting_keeps : (bits : ℕ) (e : Election) (base : List (List Ballot)) (work : List (List Ballot)) (replies : List (List CastReply)) (after : List (List Ballot)) → PlaysCastingInParts bits e base work replies after → HoldTheirOwn bits base → HoldTheirOwn bits after
casting_keeps bits e base work replies after p own part new there =
    let Own : Ballot → Type 0 = λ b. part_of bits b.number ≡ part in
    let old = something_there base part (omega (arith, slice_get_within after part new there, p.parts)) in
    let lines = map (of_part (λ (l : CastLine). l.ballot.number) bits part) p.lines in
    All-permutation Own (old.0 ++ accepted_in lines) new (p.outcome part old.0 new old.1 there).gains (All-append Own old.0 (accepted_in lines) (own part old.0 old.1) (accepted_own bits part p.lines))

pub withdrawing_keeps : (bits : ℕ) (base : List (List Ballot)) (work : List (List ℕ)) (replies : List (List WithdrawReply)) (after : List (List Ballot)) → PlaysWithdrawingInParts bits base work replies after → HoldTheirOwn bits base → HoldTheirOwn bits after
withdrawing_keeps bits base work replies after p own part new there =
    let Own : Ballot → Type 0 = λ b. part_of bits b.number ≡ part in
    let old = something_there base part (omega (arith, slice_get_within after part new there, p.parts)) in
    let gone = listed (map (of_part (λ (a : Withdrawal). a.number) bits part) p.lines) in
    subst (All Own) (sym (p.rest part old.0 new old.1 there)) (All-filter (λ b. not (list_any (λ number. number == b.number) gone)) Own old.0 (own part old.0 old.1))
