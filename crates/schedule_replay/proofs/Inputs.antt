-- The lines so far, and what the next may be.
use Rattle.std.proofs.Common.{◌≡◌, ◌≢◌, ℕ, ◌<◌, ◌≤◌, List, [], ◌∷◌, ◌++◌, All, AllPairs, length, get_or, map, refl, sym, ap, subst, ◌∙◌, append_assoc, arith}
use Rattle.store_spec.proofs.Common.{All-append, All-cons, All-head, All-nil, All-tail, Election, Invalid, Malformed, append-nil, map-append}
use Rattle.schedule_replay.specs.Input.{Addition, IsInput, ReplayInput, addition_line, base_line, kind_line, lines_in, turns_line, word_of_kind}
use Rattle.schedule_replay.specs.ReplayLine.{ReplayLine}
use Rattle.schedule_replay.specs.Refusal.{BeginsInput}
use Rattle.schedule_replay.specs.Script.{IsLineRefused}
use Rattle.schedule_replay.specs.declared.line.Kind.{Kind}
use Rattle.schedule_replay.specs.declared.line.Kind.TheVariants as kinds
use Rattle.schedule_replay.specs.declared.line.Word.{Word}
use Rattle.schedule_replay.specs.declared.line.Word.TheVariants as words

-- ---- what holds of each

pub All-map : {X Y : Type 0} (P : Y → Type 0) (f : X → Y) (xs : List X) → All (λ x. P (f x)) xs → All P (map f xs)
All-map P f [] h = All-nil P
All-map {X} P f (x ∷ xs) h =
    let Q : X → Type 0 = λ y. P (f y) in All-cons P (f x) (map f xs) (All-head Q x xs h) (All-map P f xs (All-tail Q x xs h))

All-middle : {X : Type 0} (P : X → Type 0) (xs : List X) (x : X) (ys : List X) → All P (xs ++ x ∷ ys) → P x
All-middle P [] x ys h = All-head P x ys h
All-middle P (y ∷ xs) x ys h = All-middle P xs x ys (All-tail P y (xs ++ x ∷ ys) h)

All-any : {X : Type 0} (P : X → Type 0) (xs : List X) → ((x : X) → P x) → All P xs
All-any P [] h = All-nil P
All-any P (x ∷ xs) h = All-cons P x xs (h x) (All-any P xs h)

-- ---- the words behind the first two lines

abbrev behind : List Addition → List (List ℕ) → List ReplayLine
behind additions turns = map addition_line additions ++ map turns_line turns

abbrev pub IsBehind : Word → Type 0
IsBehind words.Start = ⊥
IsBehind words.Cast = ⊥
IsBehind words.Withdraw = ⊥
IsBehind words.List = Unit {0}
IsBehind words.Steps = Unit {0}

words_behind : (additions : List Addition) (turns : List (List ℕ)) → All (λ l. IsBehind l.word) (behind additions turns)
words_behind additions turns =
    let P : ReplayLine → Type 0 = λ l. IsBehind l.word in
    All-append P (map addition_line additions) (map turns_line turns)
    (All-map P addition_line additions (All-any (λ (a : Addition). P (addition_line a)) additions (λ a. tt)))
    (All-map P turns_line turns (All-any (λ (t : List ℕ). P (turns_line t)) turns (λ t. tt)))

abbrev IsTurns : ReplayLine → Type 0
IsTurns line = line.word ≡ words.Steps

-- behind a line of turns there are only such
turns_then : (additions : List Addition) (turns : List (List ℕ)) (t : List ℕ) (lines : List ReplayLine) → turns_line t ∷ lines ≡ behind additions turns → All IsTurns lines
turns_then [] turns t lines e =
    let each = All-map IsTurns turns_line turns (All-any (λ (u : List ℕ). IsTurns (turns_line u)) turns (λ u. refl)) in
    All-tail IsTurns (turns_line t) lines (subst (All IsTurns) (sym e) each)
turns_then (a ∷ additions) turns t lines e = absurd (let heads : words.Steps ≡ words.List = ap (λ ls. (get_or ls 0 (turns_line [])).word) e in cc)

behind_turns : (adds additions : List Addition) (ts turns : List (List ℕ)) (line : ReplayLine) (others : List ReplayLine) → 0 < length ts → behind adds ts ++ line ∷ others ≡ behind additions turns → IsTurns line
behind_turns [] additions [] turns line others some e = absurd (omega arith)
behind_turns [] additions (t ∷ ts) turns line others some e =
    All-middle IsTurns (map turns_line ts) line others (turns_then additions turns t (map turns_line ts ++ line ∷ others) e)
behind_turns (a ∷ adds) [] ts [] line others some e = absurd (let none : addition_line a ∷ (behind adds ts ++ line ∷ others) ≡ [] = e in cc)
behind_turns (a ∷ adds) [] ts (t ∷ turns) line others some e = absurd (let heads : words.List ≡ words.Steps = ap (λ ls. (get_or ls 0 (turns_line [])).word) e in cc)
behind_turns (a ∷ adds) (b ∷ additions) ts turns line others some e =
    let rest : behind adds ts ++ line ∷ others ≡ behind additions turns = cc in
    behind_turns adds additions ts turns line others some rest

-- ---- the first two lines

abbrev nothing : ReplayLine
nothing = base_line []

-- the word and the numbers of the line at a place
same_word : (ls ms : List ReplayLine) (k : ℕ) → ls ≡ ms → (get_or ls k nothing).word ≡ (get_or ms k nothing).word
same_word ls ms k e = ap (λ lines. (get_or lines k nothing).word) e

same_numbers : (ls ms : List ReplayLine) (k : ℕ) → ls ≡ ms → (get_or ls k nothing).numbers ≡ (get_or ms k nothing).numbers
same_numbers ls ms k e = ap (λ lines. (get_or lines k nothing).numbers) e

rest_of : (ls ms : List ReplayLine) (l m n o : ReplayLine) → l ∷ m ∷ ls ≡ n ∷ o ∷ ms → ls ≡ ms
rest_of ls ms l m n o e = cc

-- ---- whoever is named is there

abbrev WithinBy : ℕ → Word → List ℕ → Type 0
WithinBy tabs words.Start numbers = Unit {0}
WithinBy tabs words.Cast numbers = Unit {0}
WithinBy tabs words.Withdraw numbers = Unit {0}
WithinBy tabs words.List numbers = get_or numbers 0 0 ≤ tabs
WithinBy tabs words.Steps numbers = All (λ t. t ≤ tabs) numbers

abbrev IsWithin : ℕ → ReplayLine → Type 0
IsWithin tabs line = WithinBy tabs line.word line.numbers

kind_within : (tabs : ℕ) (kind : Kind) (numbers : List ℕ) → WithinBy tabs (word_of_kind kind) numbers
kind_within tabs kinds.Cast numbers = tt
kind_within tabs kinds.Withdraw numbers = tt

all_within : (e : Election) (input : ReplayInput) → IsInput e input → All (IsWithin input.tabs) (lines_in input)
all_within e input valid =
    let P = IsWithin input.tabs in
    let others = behind input.additions input.turns in
    All-cons P (base_line input.base) (kind_line input.kind input.tabs ∷ others) tt
    (All-cons P (kind_line input.kind input.tabs) others (kind_within input.tabs input.kind (input.tabs ∷ []))
    (All-append P (map addition_line input.additions) (map turns_line input.turns)
    (All-map P addition_line input.additions valid.listed) (All-map P turns_line input.turns valid.scheduled)))

-- ---- why a line is refused

begins_with : (parts : List ReplayLine) (line : ReplayLine) (input : ReplayInput) → BeginsInput (parts ++ line ∷ []) input → (others : List ReplayLine) × (parts ++ line ∷ others ≡ lines_in input)
begins_with parts line input b = (b.others, sym (b.first ∙ append_assoc parts (line ∷ []) b.others))

-- before the base
pub wrong_first : (e : Election) (line : ReplayLine) → line.word ≢ words.Start → IsLineRefused e [] line Malformed
wrong_first e line wrong input b =
    let begun = begins_with [] line input b in wrong (same_word (line ∷ begun.0) (lines_in input) 0 begun.1)

-- before the kind
pub wrong_second : (e : Election) (first line : ReplayLine) → ((kind : Kind) → line.word ≢ word_of_kind kind) → IsLineRefused e (first ∷ []) line Malformed
wrong_second e first line wrong input b =
    let begun = begins_with (first ∷ []) line input b in wrong input.kind (same_word (first ∷ line ∷ begun.0) (lines_in input) 1 begun.1)

-- where both are there
pub wrong_behind : (e : Election) (old : ReplayInput) (line : ReplayLine) → ¬ IsBehind line.word → IsLineRefused e (lines_in old) line Malformed
wrong_behind e old line wrong input b =
    let begun = begins_with (lines_in old) line input b in
    let rest = rest_of (behind old.additions old.turns ++ line ∷ begun.0) (behind input.additions input.turns) (base_line old.base) (kind_line old.kind old.tabs) (base_line input.base) (kind_line input.kind input.tabs) begun.1 in
    let P : ReplayLine → Type 0 = λ l. IsBehind l.word in
    wrong (All-middle P (behind old.additions old.turns) line begun.0 (subst (All P) (sym rest) (words_behind input.additions input.turns)))

-- behind turns
pub wrong_turns : (e : Election) (old : ReplayInput) (line : ReplayLine) → 0 < length old.turns → line.word ≢ words.Steps → IsLineRefused e (lines_in old) line Malformed
wrong_turns e old line some wrong input b =
    let begun = begins_with (lines_in old) line input b in
    let rest = rest_of (behind old.additions old.turns ++ line ∷ begun.0) (behind input.additions input.turns) (base_line old.base) (kind_line old.kind old.tabs) (base_line input.base) (kind_line input.kind input.tabs) begun.1 in
    wrong (behind_turns old.additions input.additions old.turns input.turns line begun.0 some rest)

-- an input whose base is no set within the limit
pub wrong_base : (e : Election) (numbers : List ℕ) → ¬ (AllPairs (λ a b. a ≢ b) numbers × (length numbers ≤ e.limit)) → IsLineRefused e [] (base_line numbers) Invalid
wrong_base e numbers wrong = (
  (let any : ReplayInput = record { base = numbers; kind = kinds.Cast; tabs = 1; additions = []; turns = [] } in any, record { others = kind_line kinds.Cast 1 ∷ []; first = refl }),
  λ input valid b.
      let begun = begins_with [] (base_line numbers) input b in
      let same = same_numbers (base_line numbers ∷ begun.0) (lines_in input) 0 begun.1 in
      wrong (subst (λ ns. AllPairs (λ a b. a ≢ b) ns × (length ns ≤ e.limit)) (sym same) (valid.distinct, valid.few)),
)

-- whoever a line names is there in every valid input that begins so
named_within : (e : Election) (old input : ReplayInput) (line : ReplayLine) → IsInput e input → BeginsInput (lines_in old ++ line ∷ []) input → IsWithin old.tabs line
named_within e old input line valid b =
    let begun = begins_with (lines_in old) line input b in
    let tabs : old.tabs ≡ input.tabs = ap (λ ns. get_or ns 0 0) (same_numbers (lines_in old ++ line ∷ begun.0) (lines_in input) 1 begun.1) in
    subst (λ n. IsWithin n line) (sym tabs)
    (All-middle (IsWithin input.tabs) (lines_in old) line begun.0 (subst (All (IsWithin input.tabs)) (sym begun.1) (all_within e input valid)))

-- with one more addition, where there are no turns
abbrev pub with_addition : ReplayInput → Addition → ReplayInput
with_addition input a = record { base = input.base; kind = input.kind; tabs = input.tabs; additions = input.additions ++ a ∷ []; turns = input.turns }

pub lines_added : (input : ReplayInput) (a : Addition) → input.turns ≡ [] → lines_in input ++ addition_line a ∷ [] ≡ lines_in (with_addition input a)
lines_added input a none =
    ap (λ ls. base_line input.base ∷ kind_line input.kind input.tabs ∷ ls)
    (ap (λ ts. (map addition_line input.additions ++ map turns_line ts) ++ addition_line a ∷ []) none
    ∙ ap (λ ls. ls ++ addition_line a ∷ []) (append-nil (map addition_line input.additions))
    ∙ sym (map-append addition_line input.additions (a ∷ []))
    ∙ sym (append-nil (map addition_line (input.additions ++ a ∷ [])))
    ∙ ap (λ ts. map addition_line (input.additions ++ a ∷ []) ++ map turns_line ts) (sym none))

-- with more turns
abbrev pub with_turns : ReplayInput → List ℕ → ReplayInput
with_turns input turns = record { base = input.base; kind = input.kind; tabs = input.tabs; additions = input.additions; turns = input.turns ++ turns ∷ [] }

pub lines_turned : (input : ReplayInput) (turns : List ℕ) → lines_in input ++ turns_line turns ∷ [] ≡ lines_in (with_turns input turns)
lines_turned input turns =
    ap (λ ls. base_line input.base ∷ kind_line input.kind input.tabs ∷ ls)
    (append_assoc (map addition_line input.additions) (map turns_line input.turns) (turns_line turns ∷ [])
    ∙ ap (λ ls. map addition_line input.additions ++ ls) (sym (map-append turns_line input.turns (turns ∷ []))))

pub all_begun : (parts : List ReplayLine) (input : ReplayInput) → parts ≡ lines_in input → BeginsInput parts input
all_begun parts input is = record { others = []; first = sym is ∙ sym (append-nil parts) }

pub wrong_addition : (e : Election) (old : ReplayInput) (a : Addition) → old.turns ≡ [] → old.tabs < a.tab → IsLineRefused e (lines_in old) (addition_line a) Invalid
wrong_addition e old a none above = (
  (with_addition old a, all_begun (lines_in old ++ addition_line a ∷ []) (with_addition old a) (lines_added old a none)),
  λ input valid b. let within : a.tab ≤ old.tabs = named_within e old input (addition_line a) valid b in omega arith,
)

pub wrong_named : (e : Election) (old : ReplayInput) (turns : List ℕ) → ¬ All (λ t. t ≤ old.tabs) turns → IsLineRefused e (lines_in old) (turns_line turns) Invalid
wrong_named e old turns wrong = (
  (with_turns old turns, all_begun (lines_in old ++ turns_line turns ∷ []) (with_turns old turns) (lines_turned old turns)),
  λ input valid b. wrong (named_within e old input (turns_line turns) valid b),
)
