-- A line reads in one way.
use Rattle.std.proofs.Common.{◌≡◌, ℕ, List, [], ◌∷◌, ◌++◌, get_or, Option, Some, None, refl, sym, ap, subst, ◌∙◌, arith}
use Rattle.store_spec.proofs.Common.{AllZip}
use Rattle.schedule_replay.proofs.Numbers.{one_reading}
use Rattle.schedule_replay.specs.ReplayLine.{AreNumbers, HasForm, ReadsAsReplay, ReplayLine, TakenAs, word_text}
use Rattle.schedule_replay.specs.declared.line.Word.{Word}
use Rattle.schedule_replay.specs.declared.line.Word.TheVariants as words

differs : {P : Type 0} (k a b : ℕ) (xs ys : List ℕ) → xs ≡ ys → get_or xs k 0 ≡ a → get_or ys k 0 ≡ b → (a ≡ b → ⊥) → P
differs k a b xs ys same left right apart = absurd (apart (sym left ∙ ap (λ l. get_or l k 0) same ∙ right))

-- a line begins with one word
pub one_word : (v w : Word) (a b : List ℕ) → word_text v ++ a ≡ word_text w ++ b → (v ≡ w) × (a ≡ b)
one_word words.Start words.Start a b e = (refl, cc)
one_word words.Start words.Cast a b e = differs 0 115 99 _ _ e refl refl (λ e. omega arith)
one_word words.Start words.Withdraw a b e = differs 0 115 119 _ _ e refl refl (λ e. omega arith)
one_word words.Start words.List a b e = differs 0 115 108 _ _ e refl refl (λ e. omega arith)
one_word words.Start words.Steps a b e = differs 2 97 101 _ _ e refl refl (λ e. omega arith)
one_word words.Cast words.Start a b e = differs 0 99 115 _ _ e refl refl (λ e. omega arith)
one_word words.Cast words.Cast a b e = (refl, cc)
one_word words.Cast words.Withdraw a b e = differs 0 99 119 _ _ e refl refl (λ e. omega arith)
one_word words.Cast words.List a b e = differs 0 99 108 _ _ e refl refl (λ e. omega arith)
one_word words.Cast words.Steps a b e = differs 0 99 115 _ _ e refl refl (λ e. omega arith)
one_word words.Withdraw words.Start a b e = differs 0 119 115 _ _ e refl refl (λ e. omega arith)
one_word words.Withdraw words.Cast a b e = differs 0 119 99 _ _ e refl refl (λ e. omega arith)
one_word words.Withdraw words.Withdraw a b e = (refl, cc)
one_word words.Withdraw words.List a b e = differs 0 119 108 _ _ e refl refl (λ e. omega arith)
one_word words.Withdraw words.Steps a b e = differs 0 119 115 _ _ e refl refl (λ e. omega arith)
one_word words.List words.Start a b e = differs 0 108 115 _ _ e refl refl (λ e. omega arith)
one_word words.List words.Cast a b e = differs 0 108 99 _ _ e refl refl (λ e. omega arith)
one_word words.List words.Withdraw a b e = differs 0 108 119 _ _ e refl refl (λ e. omega arith)
one_word words.List words.List a b e = (refl, cc)
one_word words.List words.Steps a b e = differs 0 108 115 _ _ e refl refl (λ e. omega arith)
one_word words.Steps words.Start a b e = differs 2 101 97 _ _ e refl refl (λ e. omega arith)
one_word words.Steps words.Cast a b e = differs 0 115 99 _ _ e refl refl (λ e. omega arith)
one_word words.Steps words.Withdraw a b e = differs 0 115 119 _ _ e refl refl (λ e. omega arith)
one_word words.Steps words.List a b e = differs 0 115 108 _ _ e refl refl (λ e. omega arith)
one_word words.Steps words.Steps a b e = (refl, cc)

pub one_line : (bytes : List ℕ) (l m : ReplayLine) → ReadsAsReplay bytes l → ReadsAsReplay bytes m → l ≡ m
one_line bytes l m a b =
    let same = one_word l.word m.word a.behind b.behind (sym a.begun ∙ b.begun) in
    let numbers = one_reading a.behind l.numbers m.numbers a.numbers (subst (λ rest. AreNumbers rest m.numbers) (sym same.1) b.numbers) in
    let word = same.0 in
    ap (λ w. let line : ReplayLine = record { word = w; numbers = l.numbers } in line) word ∙ ap (λ ns. let line : ReplayLine = record { word = m.word; numbers = ns } in line) numbers

one_taken : (taken : Option (List ℕ)) (l m : ReplayLine) → TakenAs taken l → TakenAs taken m → l ≡ m
one_taken None l m a b = absurd a
one_taken (Some bytes) l m a b = one_line bytes l m a b

pub one_parts : (lines : List (Option (List ℕ))) (ls ms : List ReplayLine) → AllZip TakenAs lines ls → AllZip TakenAs lines ms → ls ≡ ms
one_parts [] [] [] a b = refl
one_parts [] [] (m ∷ ms) a b = absurd b
one_parts [] (l ∷ ls) ms a b = absurd a
one_parts (x ∷ lines) [] ms a b = absurd a
one_parts (x ∷ lines) (l ∷ ls) [] a b = absurd b
one_parts (x ∷ lines) (l ∷ ls) (m ∷ ms) a b =
    let first = one_taken x l m a.0 b.0 in
    let rest = one_parts lines ls ms a.1 b.1 in
    cc

-- ---- the answers of reading a line

pub no_word : (bytes : List ℕ) → ((word : Word) (rest : List ℕ) → ¬ (bytes ≡ word_text word ++ rest)) → (line : ReplayLine) → ¬ ReadsAsReplay bytes line
no_word bytes none line reads = none line.word reads.behind reads.begun

pub no_numbers : (bytes rest : List ℕ) (word : Word) → bytes ≡ word_text word ++ rest → ((ns : List ℕ) → ¬ AreNumbers rest ns) → (line : ReplayLine) → ¬ ReadsAsReplay bytes line
no_numbers bytes rest word front none line reads =
    let same = one_word word line.word rest reads.behind (sym front ∙ reads.begun) in
    none line.numbers (subst (λ bs. AreNumbers bs line.numbers) (sym same.1) reads.numbers)

pub no_form : (bytes rest numbers : List ℕ) (word : Word) → bytes ≡ word_text word ++ rest → AreNumbers rest numbers → ¬ HasForm word numbers → (line : ReplayLine) → ¬ ReadsAsReplay bytes line
no_form bytes rest numbers word front read wrong line reads =
    let same = one_word word line.word rest reads.behind (sym front ∙ reads.begun) in
    let others = one_reading rest line.numbers numbers (subst (λ bs. AreNumbers bs line.numbers) (sym same.1) reads.numbers) read in
    wrong (subst (λ ns. HasForm word ns) others (subst (λ w. HasForm w line.numbers) (sym same.0) reads.form))

pub reads_as : (bytes rest numbers : List ℕ) (word : Word) → bytes ≡ word_text word ++ rest → AreNumbers rest numbers → HasForm word numbers → ReadsAsReplay bytes (record { word = word; numbers = numbers })
reads_as bytes rest numbers word front read form = record { form = form; behind = rest; begun = front; numbers = read }
