-- What is replied at the close of a casting phase tells each reply.
use Rattle.std.proofs.Common.{◌≡◌, ℕ, ◌+◌, if◌then◌else◌, ◌==◌, List, [], ◌∷◌, ◌++◌, get_or, map, refl, sym, ap, subst, ◌∙◌, append_assoc}
use Rattle.store_spec.proofs.Common.{Accepted, CastLine, CastReply, Conflict, Duplicate, Full, all_reply_lines, append_cancel_left, cast_text, decimal, reply_line, reply_lines, space}

-- the reply whose text begins with this letter
named : ℕ → CastReply
named letter = if letter == 97 then Accepted else if letter == 100 then Duplicate else if letter == 99 then Conflict else Full

-- the first letter of its text names a reply
named_by_first : (reply : CastReply) (xs : List ℕ) → named (get_or (cast_text reply ++ xs) 0 0) ≡ reply
unfolding named
named_by_first Accepted xs = refl
named_by_first Duplicate xs = refl
named_by_first Conflict xs = refl
named_by_first Full xs = refl

-- texts that begin with replies begin with the same reply, and go on alike
record GoesOn (a b : CastReply) (xs ys : List ℕ) : Type 0 where
  reply : a ≡ b
  rest : xs ≡ ys

-- a reply is told by its text
reply_told : (a b : CastReply) (xs ys : List ℕ) → cast_text a ++ xs ≡ cast_text b ++ ys → GoesOn a b xs ys
reply_told a b xs ys same =
    let reply : a ≡ b = sym (named_by_first a xs) ∙ ap (λ (text : List ℕ). named (get_or text 0 0)) same ∙ named_by_first b ys in
    record {
      reply = reply;
      rest = append_cancel_left (cast_text b) xs ys (subst (λ (reply : CastReply). cast_text reply ++ xs ≡ cast_text b ++ ys) reply same);
    }

-- what stands before the reply in a line, and the line with what follows it
abbrev places : ℕ → ℕ → List ℕ
places list at = decimal list ++ space ∷ (decimal at ++ space ∷ [])

-- a line and what follows it, as one text
line_then : (list at : ℕ) (word xs : List ℕ) → reply_line list at word ++ xs ≡ places list at ++ (word ++ 10 ∷ xs)
line_then list at word xs = simp append_assoc

-- a reply is told by its line
line_told : (list at : ℕ) (a b : CastReply) (xs ys : List ℕ)
    → reply_line list at (cast_text a) ++ xs ≡ reply_line list at (cast_text b) ++ ys → GoesOn a b xs ys
line_told list at a b xs ys same =
    let words = append_cancel_left (places list at) (cast_text a ++ 10 ∷ xs) (cast_text b ++ 10 ∷ ys) (sym (line_then list at (cast_text a) xs) ∙ same ∙ line_then list at (cast_text b) ys) in
    let told = reply_told a b (10 ∷ xs) (10 ∷ ys) words in
    record { reply = told.reply; rest = append_cancel_left (10 ∷ []) xs ys told.rest }

-- lines with the same ballot and reply are the same
pub same_line : (l m : CastLine) → l.ballot ≡ m.ballot → l.reply ≡ m.reply → l ≡ m
same_line l m ballot reply =
    ap (λ ballot. record { ballot = ballot; reply = l.reply }) ballot ∙ ap (λ reply. record { ballot = m.ballot; reply = reply }) reply

-- the words that are replied to a list
abbrev words : List CastLine → List (List ℕ)
words lines = map (λ l. cast_text l.reply) lines

-- texts that begin with the lines of a list begin with the same lines, and go on alike
record SameLines (a b : List CastLine) (xs ys : List ℕ) : Type 0 where
  lines : a ≡ b
  rest : xs ≡ ys

-- the lines of a list are told by their text
list_told : (list at : ℕ) (a b : List CastLine) (xs ys : List ℕ) → map (λ l. l.ballot) a ≡ map (λ l. l.ballot) b
    → reply_lines list at (words a) ++ xs ≡ reply_lines list at (words b) ++ ys → SameLines a b xs ys
list_told list at [] [] xs ys ballots same = record { lines = refl; rest = same }
list_told list at [] (m ∷ b) xs ys ballots same = absurd cc
list_told list at (l ∷ a) [] xs ys ballots same = absurd cc
list_told list at (l ∷ a) (m ∷ b) xs ys ballots same =
    let rest_a = reply_lines list (at + 1) (words a) in
    let rest_b = reply_lines list (at + 1) (words b) in
    let one = line_told list at l.reply m.reply (rest_a ++ xs) (rest_b ++ ys)
    (sym (append_assoc (reply_line list at (cast_text l.reply)) rest_a xs) ∙ same
    ∙ append_assoc (reply_line list at (cast_text m.reply)) rest_b ys) in
    let more = list_told list (at + 1) a b xs ys (cc) one.rest in
    let first : l ≡ m = same_line l m (cc) one.reply in
    record { lines = ap (λ l. l ∷ a) first ∙ ap (λ a. m ∷ a) more.lines; rest = more.rest }

-- and so are those of all lists
pub lists_told : (list : ℕ) (a b : List (List CastLine)) (xs ys : List ℕ) → map (map (λ l. l.ballot)) a ≡ map (map (λ l. l.ballot)) b
    → all_reply_lines list (map words a) ++ xs ≡ all_reply_lines list (map words b) ++ ys → a ≡ b
lists_told list [] [] xs ys ballots same = refl
lists_told list [] (m ∷ b) xs ys ballots same = absurd cc
lists_told list (l ∷ a) [] xs ys ballots same = absurd cc
lists_told list (l ∷ a) (m ∷ b) xs ys ballots same =
    let rest_a = all_reply_lines (list + 1) (map words a) in
    let rest_b = all_reply_lines (list + 1) (map words b) in
    let one = list_told list 1 l m (rest_a ++ xs) (rest_b ++ ys) (cc)
    (sym (append_assoc (reply_lines list 1 (words l)) rest_a xs) ∙ same ∙ append_assoc (reply_lines list 1 (words m)) rest_b ys) in
    ap (λ l. l ∷ a) one.lines ∙ ap (λ a. m ∷ a) (lists_told (list + 1) a b xs ys (cc) one.rest)
