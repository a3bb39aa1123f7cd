-- What is replied at the close of a phase tells each reply.
use Rattle.std.proofs.Common.{◌≡◌, ℕ, ◌+◌, if◌then◌else◌, ◌==◌, Bool, true, false, List, [], ◌∷◌, ◌++◌, get_or, map, refl, sym, ap, subst, ◌∙◌, append_assoc}
use Rattle.store_spec.proofs.Common.{Ballot, CastLine, CastReply, WithdrawReply, Withdrawal, all_reply_lines, append_cancel_left, cast_text, closing, decimal, find_text, reply_line, reply_lines, space, withdraw_text}
use Rattle.store_spec.specs.BallotPhase as cast
use Rattle.store_spec.specs.WithdrawPhase as withdraw
use Rattle.store_spec.specs.WithdrawPhase.{Finding}

-- what stands before the reply in a line
abbrev places : ℕ → ℕ → List ℕ
places list at = decimal list ++ space ∷ (decimal at ++ space ∷ [])

-- a line and what follows it, as one text
line_then : (list at : ℕ) (word xs : List ℕ) → reply_line list at word ++ xs ≡ places list at ++ (word ++ 10 ∷ xs)
line_then list at word xs = simp append_assoc

-- Replies whose first letters tell them apart, to items.
module _ (L R Y : Type 0) (item : L → Y) (reply : L → R) (text : R → List ℕ) (named : ℕ → R)
    (by_first : (r : R) (xs : List ℕ) → named (get_or (text r ++ xs) 0 0) ≡ r)
    (whole : (l m : L) → item l ≡ item m → reply l ≡ reply m → l ≡ m) where
  abbrev word : L → List ℕ
  word l = text (reply l)

  -- a line tells its reply, and what follows it
  line_told : (list at : ℕ) (l m : L) (xs ys : List ℕ) → reply_line list at (word l) ++ xs ≡ reply_line list at (word m) ++ ys → (reply l ≡ reply m) × (xs ≡ ys)
  line_told list at l m xs ys same =
      let words : word l ++ 10 ∷ xs ≡ word m ++ 10 ∷ ys = append_cancel_left (places list at) (word l ++ 10 ∷ xs) (word m ++ 10 ∷ ys) (sym (line_then list at (word l) xs) ∙ same ∙ line_then list at (word m) ys) in
      let one : reply l ≡ reply m = sym (by_first (reply l) (10 ∷ xs)) ∙ ap (λ (text : List ℕ). named (get_or text 0 0)) words ∙ by_first (reply m) (10 ∷ ys) in
      (one, append_cancel_left (10 ∷ []) xs ys (append_cancel_left (word m) (10 ∷ xs) (10 ∷ ys) (subst (λ (r : R). text r ++ 10 ∷ xs ≡ word m ++ 10 ∷ ys) one words)))

  -- the lines of a list tell their replies
  list_told : (list at : ℕ) (a b : List L) (xs ys : List ℕ) → map item a ≡ map item b → reply_lines list at (map word a) ++ xs ≡ reply_lines list at (map word b) ++ ys → (a ≡ b) × (xs ≡ ys)
  list_told list at [] [] xs ys items same = (refl, same)
  list_told list at [] (m ∷ b) xs ys items same = absurd cc
  list_told list at (l ∷ a) [] xs ys items same = absurd cc
  list_told list at (l ∷ a) (m ∷ b) xs ys items same =
      let rest_a = reply_lines list (at + 1) (map word a) in
      let rest_b = reply_lines list (at + 1) (map word b) in
      let one = line_told list at l m (rest_a ++ xs) (rest_b ++ ys) (sym (append_assoc (reply_line list at (word l)) rest_a xs) ∙ same ∙ append_assoc (reply_line list at (word m)) rest_b ys) in
      let more = list_told list (at + 1) a b xs ys (cc) one.1 in
      let first : l ≡ m = whole l m (cc) one.0 in
      (ap (λ l. l ∷ a) first ∙ ap (λ a. m ∷ a) more.0, more.1)

  -- and so do those of all lists
  lists_told : (list : ℕ) (a b : List (List L)) (xs ys : List ℕ) → map (map item) a ≡ map (map item) b → all_reply_lines list (map (map word) a) ++ xs ≡ all_reply_lines list (map (map word) b) ++ ys → a ≡ b
  lists_told list [] [] xs ys items same = refl
  lists_told list [] (m ∷ b) xs ys items same = absurd cc
  lists_told list (l ∷ a) [] xs ys items same = absurd cc
  lists_told list (l ∷ a) (m ∷ b) xs ys items same =
      let rest_a = all_reply_lines (list + 1) (map (map word) a) in
      let rest_b = all_reply_lines (list + 1) (map (map word) b) in
      let one = list_told list 1 l m (rest_a ++ xs) (rest_b ++ ys) (cc) (sym (append_assoc (reply_lines list 1 (map word l)) rest_a xs) ∙ same ∙ append_assoc (reply_lines list 1 (map word m)) rest_b ys) in
      ap (λ l. l ∷ a) one.0 ∙ ap (λ a. m ∷ a) (lists_told (list + 1) a b xs ys (cc) one.1)

  -- so does a close, and it tells the set
  close_told : (a b : List (List L)) (after other : List Ballot) → map (map item) a ≡ map (map item) b → closing (map (map word) a) after ≡ closing (map (map word) b) other → (a ≡ b) × (after ≡ other)
  close_told a b after other items same =
      let set : after ≡ other = ap (λ effect. effect.next.set) same in
      (lists_told 1 a b _ _ items (ap (λ effect. effect.reply) same), set)

-- ---- casting

cast_named : ℕ → CastReply
cast_named letter = if letter == 97 then cast.CastReply.Accepted else if letter == 100 then cast.CastReply.Duplicate else if letter == 99 then cast.CastReply.Conflict else cast.CastReply.Full

cast_by_first : (r : CastReply) (xs : List ℕ) → cast_named (get_or (cast_text r ++ xs) 0 0) ≡ r
unfolding cast_named
cast_by_first cast.CastReply.Accepted xs = refl
cast_by_first cast.CastReply.Duplicate xs = refl
cast_by_first cast.CastReply.Conflict xs = refl
cast_by_first cast.CastReply.Full xs = refl

cast_line : (l m : CastLine) → l.ballot ≡ m.ballot → l.reply ≡ m.reply → l ≡ m
cast_line l m ballot reply =
    ap (λ ballot. record { ballot = ballot; reply = l.reply }) ballot ∙ ap (λ reply. record { ballot = m.ballot; reply = reply }) reply

pub cast_told : (a b : List (List CastLine)) (after other : List Ballot) → map (map (λ l. l.ballot)) a ≡ map (map (λ l. l.ballot)) b
    → closing (map (map (λ l. cast_text l.reply)) a) after ≡ closing (map (map (λ l. cast_text l.reply)) b) other → (a ≡ b) × (after ≡ other)
cast_told = close_told CastLine CastReply Ballot (λ l. l.ballot) (λ l. l.reply) cast_text cast_named cast_by_first cast_line

-- ---- withdrawing

withdrawal_named : ℕ → WithdrawReply
withdrawal_named letter = if letter == 119 then withdraw.WithdrawReply.Withdrawn else if letter == 103 then withdraw.WithdrawReply.Gone else withdraw.WithdrawReply.Absent

withdrawal_by_first : (r : WithdrawReply) (xs : List ℕ) → withdrawal_named (get_or (withdraw_text r ++ xs) 0 0) ≡ r
unfolding withdrawal_named
withdrawal_by_first withdraw.WithdrawReply.Withdrawn xs = refl
withdrawal_by_first withdraw.WithdrawReply.Gone xs = refl
withdrawal_by_first withdraw.WithdrawReply.Absent xs = refl

withdrawal : (a b : Withdrawal) → a.number ≡ b.number → a.reply ≡ b.reply → a ≡ b
withdrawal a b number reply =
    ap (λ number. record { number = number; reply = a.reply }) number ∙ ap (λ reply. record { number = b.number; reply = reply }) reply

pub withdrawal_told : (a b : List (List Withdrawal)) (after other : List Ballot) → map (map (λ a. a.number)) a ≡ map (map (λ a. a.number)) b
    → closing (map (map (λ a. withdraw_text a.reply)) a) after ≡ closing (map (map (λ a. withdraw_text a.reply)) b) other → (a ≡ b) × (after ≡ other)
withdrawal_told = close_told Withdrawal WithdrawReply ℕ (λ a. a.number) (λ a. a.reply) withdraw_text withdrawal_named withdrawal_by_first withdrawal

-- ---- finding

present_named : ℕ → Bool
present_named letter = letter == 112

present_by_first : (present : Bool) (xs : List ℕ) → present_named (get_or (find_text present ++ xs) 0 0) ≡ present
unfolding present_named
present_by_first true xs = refl
present_by_first false xs = refl

pub finding : (a b : Finding) → a.number ≡ b.number → a.present ≡ b.present → a ≡ b
finding a b number present =
    ap (λ number. record { number = number; present = a.present }) number ∙ ap (λ present. record { number = b.number; present = present }) present

pub finding_told : (a b : List (List Finding)) (after other : List Ballot) → map (map (λ a. a.number)) a ≡ map (map (λ a. a.number)) b
    → closing (map (map (λ a. find_text a.present)) a) after ≡ closing (map (map (λ a. find_text a.present)) b) other → (a ≡ b) × (after ≡ other)
finding_told = close_told Finding Bool ℕ (λ a. a.number) (λ a. a.present) find_text present_named present_by_first finding
