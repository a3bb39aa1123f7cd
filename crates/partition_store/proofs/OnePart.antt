-- A store in one part.
use Rattle.std.proofs.Common.{◌≡◌, ◌/◌, ◌^◌, ◌<◌, ℕ, List, [], ◌∷◌, get_or, map, not, refl, sym, ap, subst, ◌∙◌, arith}
use Rattle.store_spec.proofs.Common.{All, All-filter, All-head, All-tail, Ballot, BallotOutcome, CastLine, ClosesCasting, ClosesCastingInParts, ClosesWithdrawing, ClosesWithdrawingInParts, Effect, Election, IsBallotSet, IsValid, WithdrawOutcome, Withdrawal, ballots_without, get_or-map, length-map, list_any, listed, numbers_of, of_part, part_of, share}
use Rattle.std.specs.Prelude.{◌==◌, ◌↔◌}
use Rattle.partition_store.proofs.Shares.{all_own}

short_part : (n : ℕ) → n < 2 ^ 64 → part_of 0 n ≡ 0
short_part n lt = let short : n < 18446744073709551616 = lt in let here : n / 18446744073709551616 ≡ 0 = omega (arith, short) in here

map_same : {X : Type 0} (f : X → X) (xs : List X) → All (λ x. f x ≡ x) xs → map f xs ≡ xs
map_same f [] same = refl
map_same f (x ∷ xs) same = ap (λ y. y ∷ map f xs) (All-head (λ x. f x ≡ x) x xs same) ∙ ap (λ ys. x ∷ ys) (map_same f xs (All-tail (λ x. f x ≡ x) x xs same))

all_back : {X Y : Type 0} (f : X → Y) (P : Y → Type 0) (xs : List X) → All P (map f xs) → All (λ x. P (f x)) xs
all_back f P xs all k d lt = subst P (get_or-map f xs k d (f d) lt) (all k (f d) (omega (arith, length-map xs f, lt)))

-- all of the lists are in the one part
lines_same : {X Y : Type 0} (item : X → Y) (number : X → ℕ) (P : Y → Type 0) → ((x : X) → P (item x) → number x < 2 ^ 64) → (lines : List (List X)) (lists : List (List Y))
    → map (map item) lines ≡ lists → All (All P) lists → map (of_part number 0 0) lines ≡ lines
lines_same {X} item number P short lines lists is all =
    let each : All (λ line. All P (map item line)) lines = all_back (map item) (All P) lines (subst (All (All P)) (sym is) all) in
    map_same (of_part number 0 0) lines
    (λ k d lt. all_own number 0 0 (get_or lines k d)
    (λ j f within. short_part (number (get_or (get_or lines k d) j f)) (short (get_or (get_or lines k d) j f) (all_back item P (get_or lines k d) (each k d lt) j f within))))

in_one : (set : List Ballot) → All (λ b. b.number < 2 ^ 64) set → share 0 0 set ≡ set
in_one set all = all_own (λ (b : Ballot). b.number) 0 0 set (λ k d lt. short_part (get_or set k d).number (all k d lt))

whole : (e : Election) (set : List Ballot) → IsBallotSet e set → share 0 0 set ≡ set
whole e set is = in_one set (λ k d lt. (is.valid k d lt).short_number)

pub one_casting : (e : Election) (set : List Ballot) (lists : List (List Ballot)) (effect : Effect) → IsBallotSet e set → All (All (IsValid e)) lists
    → ClosesCastingInParts 0 e set lists effect ↔ ClosesCasting e set lists effect
one_casting e set lists effect is valid = (
  λ parts.
      let same = lines_same (λ (l : CastLine). l.ballot) (λ (l : CastLine). l.ballot.number) (IsValid e) (λ l v. v.short_number) parts.lines lists parts.of_lists valid in
      record {
        lines = parts.lines;
        of_lists = parts.of_lists;
        after = parts.after;
        outcome = subst (λ s. BallotOutcome e s parts.lines parts.after) (whole e set is)
            (subst (λ ls. BallotOutcome e (share 0 0 set) ls parts.after) same
            (subst (λ a. BallotOutcome e (share 0 0 set) (map (of_part (λ (l : CastLine). l.ballot.number) 0 0) parts.lines) a) (whole e parts.after parts.is_set) (parts.outcome 0 (omega arith))));
        is = parts.is;
      },
  λ one.
      let same = lines_same (λ (l : CastLine). l.ballot) (λ (l : CastLine). l.ballot.number) (IsValid e) (λ l v. v.short_number) one.lines lists one.of_lists valid in
      record {
        lines = one.lines;
        of_lists = one.of_lists;
        after = one.after;
        is_set = one.outcome.set;
        outcome = λ part lt.
            let below : part < 1 = lt in
            let here : 0 ≡ part = omega (arith, below) in
            subst (λ p. BallotOutcome e (share 0 p set) (map (of_part (λ (l : CastLine). l.ballot.number) 0 p) one.lines) (share 0 p one.after)) here
            (subst (λ s. BallotOutcome e s (map (of_part (λ (l : CastLine). l.ballot.number) 0 0) one.lines) (share 0 0 one.after)) (sym (whole e set is))
            (subst (λ ls. BallotOutcome e set ls (share 0 0 one.after)) (sym same)
            (subst (λ a. BallotOutcome e set one.lines a) (sym (whole e one.after one.outcome.set)) one.outcome)));
        is = one.is;
      },
)

-- what is left of a set
rest_in_one : (e : Election) (set after : List Ballot) (lines : List (List Withdrawal)) → IsBallotSet e set → after ≡ ballots_without set (listed lines) → share 0 0 after ≡ after
rest_in_one e set after lines is rest =
    in_one after
    (subst (All (λ (b : Ballot). b.number < 2 ^ 64)) (sym rest)
    (All-filter (λ (b : Ballot). not (list_any (λ number. number == b.number) (listed lines))) (λ (b : Ballot). b.number < 2 ^ 64) set (λ k d lt. (is.valid k d lt).short_number)))

pub one_withdrawing : (e : Election) (set : List Ballot) (lists : List (List ℕ)) (effect : Effect) → IsBallotSet e set → All (All (λ number. number < 2 ^ 64)) lists
    → ClosesWithdrawingInParts 0 set lists effect ↔ ClosesWithdrawing set lists effect
one_withdrawing e set lists effect is short = (
  λ parts.
      let same = lines_same (λ (a : Withdrawal). a.number) (λ (a : Withdrawal). a.number) (λ number. number < 2 ^ 64) (λ a lt. lt) parts.lines lists parts.of_lists short in
      record {
        lines = parts.lines;
        of_lists = parts.of_lists;
        after = parts.after;
        rest = parts.rest;
        outcome = subst (λ s. WithdrawOutcome (numbers_of s) parts.lines (numbers_of parts.after)) (whole e set is)
            (subst (λ ls. WithdrawOutcome (numbers_of (share 0 0 set)) ls (numbers_of parts.after)) same
            (subst (λ a. WithdrawOutcome (numbers_of (share 0 0 set)) (map (of_part (λ (a : Withdrawal). a.number) 0 0) parts.lines) (numbers_of a)) (rest_in_one e set parts.after parts.lines is parts.rest)
            (parts.outcome 0 (omega arith))));
        is = parts.is;
      },
  λ one.
      let same = lines_same (λ (a : Withdrawal). a.number) (λ (a : Withdrawal). a.number) (λ number. number < 2 ^ 64) (λ a lt. lt) one.lines lists one.of_lists short in
      record {
        lines = one.lines;
        of_lists = one.of_lists;
        after = one.after;
        rest = one.rest;
        outcome = λ part lt.
            let below : part < 1 = lt in
            let here : 0 ≡ part = omega (arith, below) in
            subst (λ p. WithdrawOutcome (numbers_of (share 0 p set)) (map (of_part (λ (a : Withdrawal). a.number) 0 p) one.lines) (numbers_of (share 0 p one.after))) here
            (subst (λ s. WithdrawOutcome (numbers_of s) (map (of_part (λ (a : Withdrawal). a.number) 0 0) one.lines) (numbers_of (share 0 0 one.after))) (sym (whole e set is))
            (subst (λ ls. WithdrawOutcome (numbers_of set) ls (numbers_of (share 0 0 one.after))) (sym same)
            (subst (λ a. WithdrawOutcome (numbers_of set) one.lines (numbers_of a)) (sym (rest_in_one e set one.after one.lines is one.rest)) one.outcome)));
        is = one.is;
      },
)
