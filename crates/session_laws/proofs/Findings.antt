-- A phase of finding is closed in one way.
use Rattle.std.proofs.Common.{◌≡◌, ℕ, Bool, true, false, List, [], ◌∷◌, map, refl, sym, ap, ◌∙◌}
use Rattle.store_spec.proofs.Common.{All, All-cons, All-head, All-nil, All-tail, Ballot, ClosesFinding, Contains, Effect, IsTrue, closing, find_text, numbers_of}
use Rattle.std.specs.Prelude.{◌↔◌}
use Rattle.store_spec.specs.WithdrawPhase.{Finding}
use Rattle.session_laws.proofs.Members.{Contains-has, has, has-Contains}

-- each number is looked for
abbrev pub finding : List ℕ → ℕ → Finding
finding held number = record { number = number; present = has held number }

-- all numbers of all lists are looked for
abbrev pub findings : List ℕ → List (List ℕ) → List (List Finding)
findings held lists = map (map (finding held)) lists

-- they are the numbers of the list
numbers_found : (held numbers : List ℕ) → map (λ a. a.number) (map (finding held) numbers) ≡ numbers
numbers_found held [] = refl
numbers_found held (n ∷ numbers) = ap (λ numbers. n ∷ numbers) (numbers_found held numbers)

-- and of all lists
lists_found : (held : List ℕ) (lists : List (List ℕ)) → map (map (λ a. a.number)) (findings held lists) ≡ lists
lists_found held [] = refl
lists_found held (numbers ∷ lists) = ap (λ first. first ∷ map (map (λ a. a.number)) (findings held lists)) (numbers_found held numbers) ∙ ap (λ lists. numbers ∷ lists) (lists_found held lists)

-- an answer is right
abbrev IsFound : List ℕ → Finding → Type 0
IsFound held a = IsTrue a.present ↔ Contains held a.number

-- the answers of a list are right
each_found : (held numbers : List ℕ) → All (IsFound held) (map (finding held) numbers)
each_found held [] = All-nil (IsFound held)
each_found held (n ∷ numbers) = All-cons (IsFound held) (finding held n) (map (finding held) numbers) (Contains-has held n, has-Contains held n) (each_found held numbers)

-- and those of all lists
all_found : (held : List ℕ) (lists : List (List ℕ)) → All (All (IsFound held)) (findings held lists)
all_found held [] = All-nil (All (IsFound held))
all_found held (numbers ∷ lists) = All-cons (All (IsFound held)) (map (finding held) numbers) (findings held lists) (each_found held numbers) (all_found held lists)

-- what is written for the answers; the set stays
abbrev pub finding_effect : List Ballot → List (List Finding) → Effect
finding_effect set lines = closing (map (map (λ a. find_text a.present)) lines) set

-- so the phase may be closed
pub finding_closes : (set : List Ballot) (lists : List (List ℕ)) → ClosesFinding set lists (finding_effect set (findings (numbers_of set) lists))
finding_closes set lists = record {
  lines = findings (numbers_of set) lists;
  of_lists = lists_found (numbers_of set) lists;
  outcome = record { answers = all_found (numbers_of set) lists; stays = refl };
  is = refl;
}

-- ---- and in no other

-- tests that hold together are the same
same_answer : (x y : Bool) → (x ≡ true → y ≡ true) → (y ≡ true → x ≡ true) → x ≡ y
same_answer true y there back = sym (there refl)
same_answer false true there back = back refl
same_answer false false there back = refl

-- an answer that is right is told by its number
finding_told : (held : List ℕ) (a : Finding) → IsFound held a → a ≡ finding held a.number
finding_told held a is =
    ap (λ (present : Bool). record { number = a.number; present = present })
    (same_answer a.present (has held a.number) (λ yes. has-Contains held a.number (is.0 yes)) (λ yes. is.1 (Contains-has held a.number yes)))

-- so are the answers of a list
list_told : (held : List ℕ) (lines : List Finding) → All (IsFound held) lines → lines ≡ map (finding held) (map (λ a. a.number) lines)
list_told held [] all = refl
list_told held (a ∷ lines) all =
    ap (λ first. first ∷ lines) (finding_told held a (All-head (IsFound held) a lines all)) ∙ ap (λ rest. finding held a.number ∷ rest) (list_told held lines (All-tail (IsFound held) a lines all))

-- and those of all lists
lists_told : (held : List ℕ) (lines : List (List Finding)) → All (All (IsFound held)) lines → lines ≡ findings held (map (map (λ a. a.number)) lines)
lists_told held [] all = refl
lists_told held (l ∷ lines) all =
    ap (λ first. first ∷ lines) (list_told held l (All-head (All (IsFound held)) l lines all))
    ∙ ap (λ rest. map (finding held) (map (λ a. a.number) l) ∷ rest) (lists_told held lines (All-tail (All (IsFound held)) l lines all))

-- so the phase is closed in one way
pub finding_only : (set : List Ballot) (lists : List (List ℕ)) (effect : Effect) → ClosesFinding set lists effect → effect ≡ finding_effect set (findings (numbers_of set) lists)
finding_only set lists effect closes =
    closes.is ∙ ap (finding_effect set) (lists_told (numbers_of set) closes.lines closes.outcome.answers ∙ ap (findings (numbers_of set)) closes.of_lists)
