-- What came of one part decides what is replied to its items, close after close.
use Rattle.std.proofs.Common.{◌≡◌, ◌∙◌, ◌^◌, ◌<◌, ℕ, All, List, [], ◌∷◌, ap, map, refl, subst, sym}
use Rattle.store_spec.proofs.Common.{All-head, All-tail, All-weaker, Ballot, CastLine, Casts, Closed, ClosesCastingInParts, ClosesFinding, ClosesWithdrawingInParts, Effect, Election, Finds, IsBallotSet, IsWithinLimit, Phase, Withdrawal, Withdraws, closing, of_part, of_parts, share}
use Rattle.part_session.proofs.OnePart.{cast_alike, found_alike, withdrawn_alike}
use Rattle.part_session.proofs.Words.{cast_told, finding_told, withdrawal_told}
use Rattle.part_session.specs.Runs.{AnsweredPhase, AreAlikeAt, AreClosed, IsClosed, MayHoldParts, answered_at, asked, reply_words, waiting_at}
use Rattle.part_session.specs.Runs.AnsweredPhase.{Cast, Found, Withdrawn}
use Rattle.partition_store.proofs.Shares.{joined_set, share_joined}
use Rattle.partition_store.specs.Parted.{AreBits, IsPart, IsParted, Parted, joined}
use Rattle.phase_gate.specs.Replies.{ClosesBy}
use Rattle.phase_gate.specs.Standing.{MayWait}
use Rattle.store_spec.specs.WithdrawPhase.{Finding}

-- lists that begin alike and go on alike
both : {X : Type 0} (x y : X) (xs ys : List X) → x ≡ y → xs ≡ ys → x ∷ xs ≡ y ∷ ys
both x y xs ys first rest = ap (λ z. z ∷ xs) first ∙ ap (λ zs. y ∷ zs) rest

-- a close of a phase that is alike in a part
record ClosedAlike (e : Election) (bits part : ℕ) (other : List Ballot) (phase : Phase) (one : AnsweredPhase) (after : List Ballot) : Type 0 where
  too : AnsweredPhase
  left : List Ballot
  closed : IsClosed (of_parts bits e) other too left
  asks : asked too ≡ phase
  same : answered_at bits part too ≡ answered_at bits part one
  alike : share bits part left ≡ share bits part after
  may : MayHoldParts bits e left

module _ (e : Election) (bits part : ℕ) (are : AreBits bits) (below : part < 2 ^ bits) where
  close_alike : (set other after : List Ballot) → MayHoldParts bits e other → share bits part other ≡ share bits part set
      → (phase : Phase) (one : AnsweredPhase) → MayWait e phase → waiting_at bits part phase ≡ waiting_at bits part (asked one)
      → IsClosed (of_parts bits e) set one after → ClosedAlike e bits part other phase one after
  close_alike set other after may alike Closed (Cast lines) wait same closed = absurd cc
  close_alike set other after may alike Closed (Withdrawn lines) wait same closed = absurd cc
  close_alike set other after may alike Closed (Found lines) wait same closed = absurd cc
  close_alike set other after may alike (Casts others) (Withdrawn lines) wait same closed = absurd cc
  close_alike set other after may alike (Casts others) (Found lines) wait same closed = absurd cc
  close_alike set other after may alike (Withdraws others) (Cast lines) wait same closed = absurd cc
  close_alike set other after may alike (Withdraws others) (Found lines) wait same closed = absurd cc
  close_alike set other after may alike (Finds others) (Cast lines) wait same closed = absurd cc
  close_alike set other after may alike (Finds others) (Withdrawn lines) wait same closed = absurd cc
  close_alike set other after may alike (Casts others) (Cast lines) wait same closed =
      let fixed = cast_told lines closed.lines after closed.after (sym closed.of_lists) closed.is in
      let a = cast_alike e bits part are below set other may alike (map (map (λ l. l.ballot)) lines) others (closing (reply_words (Cast lines)) after) (wait.casts others refl).1 (cc) closed in
      record {
        too = Cast a.too;
        left = a.left;
        closed = subst (λ (lists : List (List Ballot)). ClosesCastingInParts bits e other lists (closing (reply_words (Cast a.too)) a.left)) (sym a.closes.0) a.closes.1;
        asks = ap Casts a.closes.0;
        same = ap Cast (a.same ∙ ap (map (of_part (λ (l : CastLine). l.ballot.number) bits part)) (sym fixed.0));
        alike = a.alike ∙ ap (share bits part) (sym fixed.1);
        may = a.may;
      }
  close_alike set other after may alike (Withdraws others) (Withdrawn lines) wait same closed =
      let fixed = withdrawal_told lines closed.lines after closed.after (sym closed.of_lists) closed.is in
      let a = withdrawn_alike e bits part are below set other may alike (map (map (λ a. a.number)) lines) others (closing (reply_words (Withdrawn lines)) after) (cc) closed in
      record {
        too = Withdrawn a.too;
        left = a.left;
        closed = subst (λ (lists : List (List ℕ)). ClosesWithdrawingInParts bits other lists (closing (reply_words (Withdrawn a.too)) a.left)) (sym a.closes.0) a.closes.1;
        asks = ap Withdraws a.closes.0;
        same = ap Withdrawn (a.same ∙ ap (map (of_part (λ (a : Withdrawal). a.number) bits part)) (sym fixed.0));
        alike = a.alike ∙ ap (share bits part) (sym fixed.1);
        may = a.may;
      }
  close_alike set other after may alike (Finds others) (Found lines) wait same closed =
      let fixed = finding_told lines closed.lines after set (sym closed.of_lists) closed.is in
      let a = found_alike e bits part set other may alike (map (map (λ a. a.number)) lines) others (closing (reply_words (Found lines)) after) (cc) closed in
      record {
        too = Found a.too;
        left = a.left;
        closed = subst (λ (lists : List (List ℕ)). ClosesFinding other lists (closing (reply_words (Found a.too)) a.left)) (sym a.closes.0) a.closes.1;
        asks = ap Finds a.closes.0;
        same = ap Found (a.same ∙ ap (map (of_part (λ (a : Finding). a.number) bits part)) (sym fixed.0));
        alike = a.alike ∙ ap (share bits part) (sym fixed.1);
        may = a.may;
      }

  pub one_close : (set other after : List Ballot) → MayHoldParts bits e other → share bits part other ≡ share bits part set
      → (phase : Phase) (one : AnsweredPhase) → MayWait e phase → waiting_at bits part phase ≡ waiting_at bits part (asked one)
      → IsClosed (of_parts bits e) set one after
      → (too : AnsweredPhase) × (left : List Ballot) × IsClosed (of_parts bits e) other too left × (asked too ≡ phase)
      × (answered_at bits part too ≡ answered_at bits part one) × (share bits part left ≡ share bits part after)
  one_close set other after may alike phase one wait same closed =
      let a = close_alike set other after may alike phase one wait same closed in
      (a.too, a.left, a.closed, a.asks, a.same, a.alike)

  pub run_alike : (run : List AnsweredPhase) (phases : List Phase) (set other end : List Ballot) → MayHoldParts bits e other → share bits part other ≡ share bits part set
      → All (MayWait e) phases → AreAlikeAt bits part phases (map asked run) → AreClosed (of_parts bits e) set run end
      → (too : List AnsweredPhase) × (left : List Ballot) × AreClosed (of_parts bits e) other too left × (map asked too ≡ phases)
      × (map (answered_at bits part) too ≡ map (answered_at bits part) run) × (share bits part left ≡ share bits part end)
  run_alike [] [] set other end may alike wait same closed = ([], other, refl, refl, refl, alike ∙ ap (share bits part) (sym closed))
  run_alike [] (phase ∷ phases) set other end may alike wait same closed = absurd cc
  run_alike (one ∷ run) [] set other end may alike wait same closed = absurd cc
  run_alike (one ∷ run) (phase ∷ phases) set other end may alike wait same closed =
      let first = close_alike set other closed.0 may alike phase one (All-head (MayWait e) phase phases wait) (cc) closed.1 in
      let rest = run_alike run phases closed.0 first.left end first.may first.alike (All-tail (MayWait e) phase phases wait) (cc) closed.2 in (
        first.too ∷ rest.0,
        rest.1,
        (first.left, first.closed, rest.2),
        both (asked first.too) phase (map asked rest.0) phases first.asks rest.3,
        both (answered_at bits part first.too) (answered_at bits part one) (map (answered_at bits part) rest.0) (map (answered_at bits part) run) first.same rest.4,
        rest.5,
      )

-- ---- what a close answers

pub some_answers : (e : Election) (bits : ℕ) (set : List Ballot) (phase : Phase) (effect : Effect) → ClosesBy (of_parts bits e) set phase effect
    → (one : AnsweredPhase) × (after : List Ballot) × (asked one ≡ phase) × (effect ≡ closing (reply_words one) after)
some_answers e bits set Closed effect closes = absurd closes
some_answers e bits set (Casts lists) effect closes = (Cast closes.lines, closes.after, ap Casts closes.of_lists, closes.is)
some_answers e bits set (Withdraws lists) effect closes = (Withdrawn closes.lines, closes.after, ap Withdraws closes.of_lists, closes.is)
some_answers e bits set (Finds lists) effect closes = (Found closes.lines, set, ap Finds closes.of_lists, closes.is)

pub one_answer : (one other : AnsweredPhase) (after left : List Ballot) → asked one ≡ asked other → closing (reply_words one) after ≡ closing (reply_words other) left → (one ≡ other) × (after ≡ left)
one_answer (Cast a) (Cast b) after left same is = let told = cast_told a b after left (cc) is in (ap Cast told.0, told.1)
one_answer (Withdrawn a) (Withdrawn b) after left same is = let told = withdrawal_told a b after left (cc) is in (ap Withdrawn told.0, told.1)
one_answer (Found a) (Found b) after left same is = let told = finding_told a b after left (cc) is in (ap Found told.0, told.1)
one_answer (Cast a) (Withdrawn b) after left same is = absurd cc
one_answer (Cast a) (Found b) after left same is = absurd cc
one_answer (Withdrawn a) (Cast b) after left same is = absurd cc
one_answer (Withdrawn a) (Found b) after left same is = absurd cc
one_answer (Found a) (Cast b) after left same is = absurd cc
one_answer (Found a) (Withdrawn b) after left same is = absurd cc

-- ---- what stores hold

pub stores_may_hold : (store : Parted) → IsParted store → MayHoldParts store.bits store.election (joined store.sets)
stores_may_hold store is = record {
  is_set = joined_set store.election store.bits store.sets is.bits is.parts (All-weaker (IsPart store.election) (IsBallotSet store.election) (λ set part. part.0) store.sets is.sets);
  within_limit = λ part lt.
      subst (IsWithinLimit store.election) (sym (share_joined store.bits part store.sets is.parts))
      (is.sets part [] (subst (λ n. part < n) (sym is.parts.count) lt)).1;
}
