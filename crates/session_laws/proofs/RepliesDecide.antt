-- What is replied to a line decides what it does.
use Rattle.std.proofs.Common.{◌≡◌, ℕ, ◌+◌, List, [], ◌∷◌, ◌++◌, map, Option, Some, None, inl, inr, refl, sym, ap, subst, ◌∙◌}
use Rattle.store_spec.proofs.Common.{Answers, Ballot, Cast, CastInvalid, CastLine, Casts, Checkpoint, Close, Closed, ClosesCasting, ClosesWithdrawing, Does, Effect, Election, Export, Find, Finds, IsPermutation, IsPermutation-sym, IsPermutation-trans, Open, Phase, Plays, ScriptLine, State, Tally, Withdraw, Withdraws, accepted_in, ballots_without, begun, flat_map, listed}
use Rattle.ballot_record.proofs.BallotSets.{same_in_order}
use Rattle.script_lines.proofs.Meanings.{one_meaning}
use Rattle.session_laws.proofs.CastReplies.{lists_told}
use Rattle.session_laws.proofs.Effects.{same_effect}
use Rattle.session_laws.proofs.Listed.{listed-map}
use Rattle.session_laws.proofs.NoChoice.{no_choice}

-- ---- at the close of a phase

-- the set after a casting phase is told by what was accepted
same_after : (e : Election) (set : List Ballot) (lists : List (List Ballot)) (a b : Effect) (x : ClosesCasting e set lists a) (y : ClosesCasting e set lists b) → x.lines ≡ y.lines → x.after ≡ y.after
same_after e set lists a b x y same =
    let gained : IsPermutation (set ++ accepted_in y.lines) x.after = subst (λ (lines : List (List CastLine)). IsPermutation (set ++ accepted_in lines) x.after) same x.outcome.gains in
    same_in_order x.after y.after x.outcome.set.ascending y.outcome.set.ascending
    (IsPermutation-trans x.after (set ++ accepted_in y.lines) y.after (IsPermutation-sym (set ++ accepted_in y.lines) x.after gained) y.outcome.gains)

-- the close of a phase of casting is told by what is replied
casting : (e : Election) (set : List Ballot) (lists : List (List Ballot)) (a b : Effect) → ClosesCasting e set lists a → ClosesCasting e set lists b → a.reply ≡ b.reply → a ≡ b
casting e set lists a b x y same =
    let texts = sym (ap (λ (effect : Effect). effect.reply) x.is) ∙ same ∙ ap (λ (effect : Effect). effect.reply) y.is in
    let lines = lists_told 1 x.lines y.lines _ _ (x.of_lists ∙ sym y.of_lists) texts in
    let after = same_after e set lists a b x y lines in
    same_effect a b same
    (ap (λ (effect : Effect). effect.acknowledged) x.is ∙ sym (ap (λ (effect : Effect). effect.acknowledged) y.is))
    (ap (λ (effect : Effect). effect.next) x.is ∙ ap begun after ∙ sym (ap (λ (effect : Effect). effect.next) y.is))

-- so is that of a phase of withdrawing
withdrawing : (set : List Ballot) (lists : List (List ℕ)) (a b : Effect) → ClosesWithdrawing set lists a → ClosesWithdrawing set lists b → a.reply ≡ b.reply → a ≡ b
withdrawing set lists a b x y same =
    let numbers : listed x.lines ≡ listed y.lines = listed-map x.lines ∙ ap (flat_map (λ numbers. numbers)) (x.of_lists ∙ sym y.of_lists) ∙ sym (listed-map y.lines) in
    let after : x.after ≡ y.after = x.rest ∙ ap (ballots_without set) numbers ∙ sym y.rest in
    same_effect a b same
    (ap (λ (effect : Effect). effect.acknowledged) x.is ∙ sym (ap (λ (effect : Effect). effect.acknowledged) y.is))
    (ap (λ (effect : Effect). effect.next) x.is ∙ ap begun after ∙ sym (ap (λ (effect : Effect). effect.next) y.is))

-- ---- a line

-- where there is no choice, one thing; else what is replied tells it
does_one : (e : Election) (n : ℕ) (s : State) (line : ScriptLine) (phase : Phase) (a b : Effect) → Does e n s line phase a → Does e n s line phase b → a.reply ≡ b.reply → a ≡ b
does_one e n s Close (Casts lists) a b x y same = casting e s.set lists a b x y same
does_one e n s Close (Withdraws lists) a b x y same = withdrawing s.set lists a b x y same
does_one e n s Close Closed a b x y same = no_choice e n s Close Closed a b x y (λ choice. choice.1)
does_one e n s Close (Finds lists) a b x y same = no_choice e n s Close (Finds lists) a b x y (λ choice. choice.1)
does_one e n s (Open work tabs) phase a b x y same = no_choice e n s (Open work tabs) phase a b x y (λ choice. absurd cc)
does_one e n s Checkpoint phase a b x y same = no_choice e n s Checkpoint phase a b x y (λ choice. absurd cc)
does_one e n s Tally phase a b x y same = no_choice e n s Tally phase a b x y (λ choice. absurd cc)
does_one e n s Export phase a b x y same = no_choice e n s Export phase a b x y (λ choice. absurd cc)
does_one e n s (Cast tab ballot) phase a b x y same = no_choice e n s (Cast tab ballot) phase a b x y (λ choice. absurd cc)
does_one e n s (CastInvalid tab) phase a b x y same = no_choice e n s (CastInvalid tab) phase a b x y (λ choice. absurd cc)
does_one e n s (Withdraw tab number) phase a b x y same = no_choice e n s (Withdraw tab number) phase a b x y (λ choice. absurd cc)
does_one e n s (Find tab number) phase a b x y same = no_choice e n s (Find tab number) phase a b x y (λ choice. absurd cc)

-- so is what each line does
pub one_effect : (e : Election) (n : ℕ) (s : State) (line : Option (List ℕ)) (a b : Effect) → Answers e n s line a → Answers e n s line b → a.reply ≡ b.reply → a ≡ b
one_effect e n s None a b x y same = x ∙ sym y
one_effect e n s (Some bytes) a b (inl x) (inl y) same = x.1 ∙ sym y.1
one_effect e n s (Some bytes) a b (inl x) (inr y) same = absurd (x.0 y.0 y.1)
one_effect e n s (Some bytes) a b (inr x) (inl y) same = absurd (y.0 x.0 x.1)
one_effect e n s (Some bytes) a b (inr x) (inr y) same =
    does_one e n s y.0 s.phase a b (subst (λ (line : ScriptLine). Does e n s line s.phase a) (one_meaning e bytes x.0 y.0 x.1 y.1) x.2) y.2 same

-- ---- a script

-- the same was done, and the end is the same
pub record SamePlay (xs ys : List Effect) (x y : State) : Type 0 where
  pub effects : xs ≡ ys
  pub end : x ≡ y

-- scripts that are replied alike play alike
pub one_play : (e : Election) (n : ℕ) (s : State) (lines : List (Option (List ℕ))) (xs ys : List Effect) (x y : State)
    → Plays e n s lines xs x → Plays e n s lines ys y → map (λ effect. effect.reply) xs ≡ map (λ effect. effect.reply) ys → SamePlay xs ys x y
one_play e n s [] [] [] x y p q same = record { effects = refl; end = p ∙ sym q }
one_play e n s [] (a ∷ xs) ys x y p q same = absurd p
one_play e n s [] [] (b ∷ ys) x y p q same = absurd q
one_play e n s (line ∷ lines) [] ys x y p q same = absurd p
one_play e n s (line ∷ lines) (a ∷ xs) [] x y p q same = absurd q
one_play e n s (line ∷ lines) (a ∷ xs) (b ∷ ys) x y p q same =
    let one : a ≡ b = one_effect e n s line a b p.0 q.0 (cc) in
    let more = one_play e (n + 1) b.next lines xs ys x y (subst (λ (a : Effect). Plays e (n + 1) a.next lines xs x) one p.1) q.1 (cc) in
    record { effects = ap (λ a. a ∷ xs) one ∙ ap (λ xs. b ∷ xs) more.effects; end = more.end }
