-- What is kept after one more line.
use Rattle.std.proofs.Common.{◌≡◌, ◌≢◌, ◌==◌, if◌then◌else◌, ℕ, zero, suc, ◌+◌, ◌-◌, ◌<◌, ◌≤◌, List, [], ◌∷◌, ◌++◌, All, AllPairs, length, get_or, take, drop, set, map, replicate, refl, sym, ap, subst, ◌∙◌, arith, length-append, length-drop}
use Rattle.store_spec.proofs.Common.{All-append, All-cons, All-head, All-nil, All-set, All-tail, Decides-eqb, Election, Global, Invalid, IsDistinct-from_AllPairs, IsNonDecreasing, IsNumber, IsPermutation, IsPermutation-sym, IsStrictlyIncreasing, Malformed, Vec, append-nil, cond-false, cond-true, eq-eqb, flat_map-append, get_or-map, get_or-map-range_with_len, length-map, length-replicate, length-set, map-set, ne_eqb, range_with_len, take_all}
use Rattle.std.proofs.lemmas.List.Kept.{AllPairs-from_increasing}
use Rattle.std.proofs.lemmas.Map.Keys.{IsStrictlyIncreasing-from_distinct}
use Rattle.layout_def.proofs.Ascending.{distinct-IsPermutation}
use Rattle.schedule_replay.proofs.Inputs.{All-map, IsBehind, lines_added, lines_turned, with_addition, with_turns, wrong_addition, wrong_base, wrong_behind, wrong_first, wrong_named, wrong_second, wrong_turns}
use Rattle.schedule_replay.specs.Input.{Addition, ReplayInput, IsInput, addition_line, base_line, kind_line, list_at, lines_in, lists_in, schedule_in, turns_line, word_of_kind}
use Rattle.schedule_replay.specs.ReplayLine.{HasForm, ReplayLine}
use Rattle.schedule_replay.specs.Script.{HasRead, HoldsBase, IsAt, IsLineRefused, Keeps, MayCome, line_at, lists_of}
use Rattle.schedule_replay.specs.declared.line.Kind.{Kind}
use Rattle.schedule_replay.specs.declared.line.Kind.TheVariants as kinds
use Rattle.schedule_replay.specs.declared.line.Word.{Word}
use Rattle.schedule_replay.specs.declared.line.Word.TheVariants as words
use Rattle.schedule_replay.specs.declared.script.Script.{Script}
use Rattle.schedule_replay.specs.declared.script.Stage.{Stage}
use Rattle.schedule_replay.specs.declared.script.Stage.TheVariants as stages
use Rattle.store_spec.specs.ScriptLine.{most_tabs}

at_stage : (e : Election) (script : Script) (parts : List ReplayLine) (stage : Stage) → script.stage ≡ stage → HasRead e script parts → IsAt stage e script parts
at_stage e script parts stage is h = subst (λ s. IsAt s e script parts) is h.stage

-- ---- the base

pub took_base : (e : Election) (old new : Script) (numbers : List ℕ) → old.stage ≡ stages.Base → new.stage ≡ stages.Kind → new.base.items ≡ old.base.items ++ numbers → new.lists ≡ old.lists → new.schedule ≡ old.schedule
    → AllPairs (λ a b. a ≢ b) numbers → length numbers ≤ e.limit → All IsNumber numbers → (parts : List ReplayLine) → HasRead e old parts → HasRead e new (parts ++ base_line numbers ∷ [])
took_base e old new numbers was stage base lists schedule distinct few named parts h =
    let at = at_stage e old parts stages.Base was h in
    let is : new.base.items ≡ numbers = base ∙ ap (λ b. b ++ numbers) at.1 in
    let none : new.lists.items ≡ [] = ap (λ l. l.items) lists ∙ at.2.lists in
    let holds : HoldsBase new = record { lists = none; schedule = ap (λ s. s.items) schedule ∙ at.2.schedule } in
    let now : IsAt stages.Kind e new (parts ++ base_line numbers ∷ []) = (ap (λ ps. ps ++ base_line numbers ∷ []) at.0 ∙ ap (λ ns. base_line ns ∷ []) (sym is), holds) in
    record {
      ready = record {
        distinct = subst (AllPairs (λ a b. a ≢ b)) (sym is) distinct;
        few = subst (λ (ns : List ℕ). length ns ≤ e.limit) (sym is) few;
        base = subst (All IsNumber) (sym is) named;
        few_lists = omega (arith, ap length none);
        listed = subst (All (λ list. All IsNumber list.items)) (sym none) (All-nil (λ list. All IsNumber list.items));
        turns = subst (All (λ tab. (1 ≤ tab) × (tab ≤ length new.lists.items))) (sym holds.schedule) (All-nil (λ (tab : ℕ). (1 ≤ tab) × (tab ≤ length new.lists.items)));
      };
      stage = subst (λ s. IsAt s e new (parts ++ base_line numbers ∷ [])) (sym stage) now;
    }

-- ---- the kind

no_lists : (a n : ℕ) → replicate n [] ≡ map (list_at []) (range_with_len a n)
no_lists a zero = refl
no_lists a (suc n) = ap (λ ls. [] ∷ ls) (no_lists (a + 1) n)

all_empty : (lists : List (List ℕ)) (n : ℕ) → lists ≡ replicate n [] → All (All IsNumber) lists
all_empty lists n is = subst (All (All IsNumber)) (sym is) (each n) where
  each : (n : ℕ) → All (All IsNumber) (replicate n [])
  each zero = All-nil (All IsNumber)
  each (suc n) = All-cons (All IsNumber) [] (replicate n []) (All-nil IsNumber) (each n)

All-from_map : {X Y : Type 0} (P : Y → Type 0) (f : X → Y) (xs : List X) → All P (map f xs) → All (λ x. P (f x)) xs
All-from_map {X} P f [] h = All-nil (λ (x : X). P (f x))
All-from_map {X} P f (x ∷ xs) h =
    let Q : X → Type 0 = λ y. P (f y) in All-cons Q x xs (All-head P (f x) (map f xs) h) (All-from_map P f xs (All-tail P (f x) (map f xs) h))

-- what holds of each list of a script
each_list : (script : Script) → All (All IsNumber) (lists_of script) → All (λ list. All IsNumber list.items) script.lists.items
each_list script h = All-from_map (All IsNumber) (λ (list : Vec ℕ Global). list.items) script.lists.items h

from_each : (script : Script) → All (λ list. All IsNumber list.items) script.lists.items → All (All IsNumber) (lists_of script)
from_each script h = All-map (All IsNumber) (λ (list : Vec ℕ Global). list.items) script.lists.items h

pub took_kind : (e : Election) (old new : Script) (kind : Kind) (tabs : ℕ) → old.stage ≡ stages.Kind → new.stage ≡ stages.Lists → new.kind ≡ kind → new.base ≡ old.base → lists_of new ≡ lists_of old ++ replicate tabs [] → new.schedule ≡ old.schedule
    → 1 ≤ tabs → tabs ≤ most_tabs → (parts : List ReplayLine) → HasRead e old parts → HasRead e new (parts ++ kind_line kind tabs ∷ [])
took_kind e old new kind tabs was stage kind_now base lists schedule some few parts h =
    let at = at_stage e old parts stages.Kind was h in
    let empty : lists_of new ≡ replicate tabs [] = lists ∙ ap (λ (ls : List (Vec ℕ Global)). map (λ list. list.items) ls ++ replicate tabs []) at.1.lists in
    let long : length new.lists.items ≡ tabs = sym (length-map new.lists.items (λ (list : Vec ℕ Global). list.items)) ∙ ap length empty ∙ length-replicate tabs [] in
    let same : new.base.items ≡ old.base.items = ap (λ b. b.items) base in
    let none : new.schedule.items ≡ [] = ap (λ s. s.items) schedule ∙ at.1.schedule in
    let input : ReplayInput = record { base = old.base.items; kind = kind; tabs = tabs; additions = []; turns = [] } in
    let valid : IsInput e input = record {
      distinct = h.ready.distinct;
      few = h.ready.few;
      listed = All-nil (λ (a : Addition). a.tab ≤ tabs);
      scheduled = All-nil (All (λ tab. tab ≤ tabs));
    } in
    let keeps : Keeps e new input = record { valid = valid; base = same; kind = kind_now; tabs = sym long; some_list = some; lists = empty ∙ no_lists 1 tabs; schedule = none } in
    let now : IsAt stages.Lists e new (parts ++ kind_line kind tabs ∷ []) = (input, ap (λ ps. ps ++ kind_line kind tabs ∷ []) at.0, refl, keeps) in
    record {
      ready = record {
        distinct = subst (AllPairs (λ a b. a ≢ b)) (sym same) h.ready.distinct;
        few = subst (λ (ns : List ℕ). length ns ≤ e.limit) (sym same) h.ready.few;
        base = subst (All IsNumber) (sym same) h.ready.base;
        few_lists = omega arith;
        listed = each_list new (all_empty (lists_of new) tabs empty);
        turns = subst (All (λ tab. (1 ≤ tab) × (tab ≤ length new.lists.items))) (sym none) (All-nil (λ (tab : ℕ). (1 ≤ tab) × (tab ≤ length new.lists.items)));
      };
      stage = subst (λ s. IsAt s e new (parts ++ kind_line kind tabs ∷ [])) (sym stage) now;
    }

-- ---- an addition

-- a list after one more addition
list_more : (additions : List Addition) (a : Addition) (tab : ℕ) → list_at (additions ++ a ∷ []) tab ≡ list_at additions tab ++ (if a.tab == tab then a.numbers else [])
list_more additions a tab =
    let f : Addition → List ℕ = λ b. if b.tab == tab then b.numbers else [] in
    flat_map-append f additions (a ∷ []) ∙ ap (λ ns. list_at additions tab ++ ns) (append-nil (f a))

lists_more : (additions : List Addition) (a : Addition) (from n i : ℕ) → a.tab ≡ from + i
    → set (map (list_at additions) (range_with_len from n)) i (list_at additions a.tab ++ a.numbers) ≡ map (list_at (additions ++ a ∷ [])) (range_with_len from n)
lists_more additions a from zero i is = refl
lists_more additions a from (suc n) zero is =
    let here : a.tab ≡ from = omega arith in
    let first : list_at (additions ++ a ∷ []) from ≡ list_at additions a.tab ++ a.numbers =
    list_more additions a from ∙ ap (λ ns. list_at additions from ++ ns) (cond-true (a.tab == from) a.numbers [] (eq-eqb a.tab from here)) ∙ ap (λ t. list_at additions t ++ a.numbers) (sym here) in
    ap (λ x. x ∷ map (list_at additions) (range_with_len (from + 1) n)) (sym first) ∙ ap (λ xs. list_at (additions ++ a ∷ []) from ∷ xs) (others additions a (from + 1) n (omega arith))
  where
    others : (additions : List Addition) (a : Addition) (from n : ℕ) → a.tab < from → map (list_at additions) (range_with_len from n) ≡ map (list_at (additions ++ a ∷ [])) (range_with_len from n)
    others additions a from zero below = refl
    others additions a from (suc n) below =
        let same : list_at additions from ≡ list_at (additions ++ a ∷ []) from =
        sym (list_more additions a from ∙ ap (λ ns. list_at additions from ++ ns) (cond-false (a.tab == from) a.numbers [] (ne_eqb a.tab from (λ e. omega arith))) ∙ append-nil (list_at additions from)) in
        let rest = others additions a (from + 1) n (omega arith) in
        cc
lists_more additions a from (suc n) (suc i) is =
    let same : list_at additions from ≡ list_at (additions ++ a ∷ []) from =
    sym (list_more additions a from ∙ ap (λ ns. list_at additions from ++ ns) (cond-false (a.tab == from) a.numbers [] (ne_eqb a.tab from (λ e. omega arith))) ∙ append-nil (list_at additions from)) in
    let rest = lists_more additions a (from + 1) n i (omega arith) in
    cc

pub took_addition : (e : Election) (old new : Script) (a : Addition) (list : List ℕ) → old.stage ≡ stages.Lists → new.stage ≡ old.stage → new.kind ≡ old.kind → new.base ≡ old.base → new.schedule ≡ old.schedule
    → 1 ≤ a.tab → a.tab ≤ length old.lists.items → list ≡ get_or (lists_of old) (a.tab - 1) [] ++ a.numbers → lists_of new ≡ set (lists_of old) (a.tab - 1) list → All IsNumber a.numbers
    → (parts : List ReplayLine) → HasRead e old parts → HasRead e new (parts ++ addition_line a ∷ [])
took_addition e old new a list was stage kind base schedule some within is lists named parts h =
    let at = at_stage e old parts stages.Lists was h in
    let input = at.0 in
    let keeps = at.3 in
    let count = length old.lists.items in
    let long : length new.lists.items ≡ count =
    sym (length-map new.lists.items (λ (list : Vec ℕ Global). list.items)) ∙ ap length lists ∙ length-set (lists_of old) (a.tab - 1) list ∙ length-map old.lists.items (λ (list : Vec ℕ Global). list.items) in
    let same : new.base.items ≡ old.base.items = ap (λ b. b.items) base in
    let turns : new.schedule.items ≡ old.schedule.items = ap (λ s. s.items) schedule in
    let now_input = with_addition input a in
    let before : get_or (lists_of old) (a.tab - 1) [] ≡ list_at input.additions a.tab =
    ap (λ ls. get_or ls (a.tab - 1) []) keeps.lists ∙ get_or-map-range_with_len (list_at input.additions) 1 input.tabs (a.tab - 1) a.tab [] (omega (arith, keeps.tabs)) (omega arith) in
    let all : lists_of new ≡ lists_in now_input =
    lists ∙ ap (λ ls. set ls (a.tab - 1) list) keeps.lists ∙ ap (λ l. set (lists_in input) (a.tab - 1) l) (is ∙ ap (λ l. l ++ a.numbers) before) ∙ lists_more input.additions a 1 input.tabs (a.tab - 1) (omega arith) in
    let valid : IsInput e now_input = record {
      distinct = keeps.valid.distinct;
      few = keeps.valid.few;
      listed = All-append (λ (b : Addition). b.tab ≤ input.tabs) input.additions (a ∷ []) keeps.valid.listed (All-cons (λ (b : Addition). b.tab ≤ input.tabs) a [] (omega (arith, keeps.tabs)) (All-nil (λ (b : Addition). b.tab ≤ input.tabs)));
      scheduled = keeps.valid.scheduled;
    } in
    let keeps_now : Keeps e new now_input = record { valid = valid; base = same ∙ keeps.base; kind = kind ∙ keeps.kind; tabs = keeps.tabs ∙ sym long; some_list = keeps.some_list; lists = all; schedule = turns ∙ keeps.schedule } in
    let now : IsAt stages.Lists e new (parts ++ addition_line a ∷ []) = (now_input, ap (λ ps. ps ++ addition_line a ∷ []) at.1 ∙ lines_added input a at.2, at.2, keeps_now) in
    record {
      ready = record {
        distinct = subst (AllPairs (λ a b. a ≢ b)) (sym same) h.ready.distinct;
        few = subst (λ (ns : List ℕ). length ns ≤ e.limit) (sym same) h.ready.few;
        base = subst (All IsNumber) (sym same) h.ready.base;
        few_lists = omega (arith, h.ready.few_lists);
        listed = each_list new (subst (All (All IsNumber)) (sym lists) (All-set (All IsNumber) (lists_of old) (a.tab - 1) list
            (subst (All IsNumber) (sym is) (All-append IsNumber (get_or (lists_of old) (a.tab - 1) []) a.numbers (from_each old h.ready.listed (a.tab - 1) [] (omega (arith, length-map old.lists.items (λ (list : Vec ℕ Global). list.items)))) named)) (from_each old h.ready.listed)));
        turns = subst (λ n. All (λ tab. (1 ≤ tab) × (tab ≤ n)) new.schedule.items) (sym long) (subst (All (λ tab. (1 ≤ tab) × (tab ≤ count))) (sym turns) h.ready.turns);
      };
      stage = subst (λ s. IsAt s e new (parts ++ addition_line a ∷ [])) (sym (stage ∙ was)) now;
    }

-- ---- turns

-- at both stages an input is kept
pub record KeptAt (e : Election) (script : Script) (parts : List ReplayLine) : Type 0 where
  pub input : ReplayInput
  pub lines : parts ≡ lines_in input
  pub keeps : Keeps e script input

pub kept_at : (e : Election) (script : Script) (parts : List ReplayLine) (stage : Stage) → MayCome stage words.Steps → IsAt stage e script parts → KeptAt e script parts
kept_at e script parts stages.Base may at = absurd may
kept_at e script parts stages.Kind may at = absurd may
kept_at e script parts stages.Lists may at = record { input = at.0; lines = at.1; keeps = at.3 }
kept_at e script parts stages.Turns may at = record { input = at.0; lines = at.1; keeps = at.3 }

pub took_turns : (e : Election) (old new : Script) (turns : List ℕ) → MayCome old.stage words.Steps → new.stage ≡ stages.Turns → new.kind ≡ old.kind → new.base ≡ old.base → new.lists ≡ old.lists → new.schedule.items ≡ old.schedule.items ++ turns
    → All IsNumber turns → All (λ t. t ≤ length old.lists.items) turns → (parts : List ReplayLine) → HasRead e old parts → HasRead e new (parts ++ turns_line turns ∷ [])
took_turns e old new turns may stage kind base lists schedule named within parts h =
    let at = kept_at e old parts old.stage may h.stage in
    let input = at.input in
    let keeps = at.keeps in
    let same : new.base.items ≡ old.base.items = ap (λ b. b.items) base in
    let same_lists : new.lists.items ≡ old.lists.items = ap (λ l. l.items) lists in
    let now_input = with_turns input turns in
    let each : All (λ t. t ≤ input.tabs) turns = subst (λ n. All (λ t. t ≤ n) turns) (sym keeps.tabs) within in
    let valid : IsInput e now_input = record {
      distinct = keeps.valid.distinct;
      few = keeps.valid.few;
      listed = keeps.valid.listed;
      scheduled = All-append (All (λ t. t ≤ input.tabs)) input.turns (turns ∷ []) keeps.valid.scheduled (All-cons (All (λ t. t ≤ input.tabs)) turns [] each (All-nil (All (λ t. t ≤ input.tabs))));
    } in
    let appended : schedule_in input ++ turns ≡ schedule_in now_input =
    sym (flat_map-append (λ (ts : List ℕ). ts) input.turns (turns ∷ []) ∙ ap (λ ts. schedule_in input ++ ts) (append-nil turns)) in
    let keeps_now : Keeps e new now_input = record {
      valid = valid;
      base = same ∙ keeps.base;
      kind = kind ∙ keeps.kind;
      tabs = keeps.tabs ∙ ap length (sym same_lists);
      some_list = keeps.some_list;
      lists = ap (map (λ (list : Vec ℕ Global). list.items)) same_lists ∙ keeps.lists;
      schedule = schedule ∙ ap (λ ts. ts ++ turns) keeps.schedule ∙ appended;
    } in
    let now : IsAt stages.Turns e new (parts ++ turns_line turns ∷ []) =
    (now_input, ap (λ ps. ps ++ turns_line turns ∷ []) at.lines ∙ lines_turned input turns, omega (arith, length-append input.turns (turns ∷ [])), keeps_now) in
    let Named : ℕ → Type 0 = λ tab. (1 ≤ tab) × (tab ≤ length old.lists.items) in
    let both : All Named turns = λ k d lt. ((named k d lt).0, within k d lt) in
    record {
      ready = record {
        distinct = subst (AllPairs (λ a b. a ≢ b)) (sym same) h.ready.distinct;
        few = subst (λ (ns : List ℕ). length ns ≤ e.limit) (sym same) h.ready.few;
        base = subst (All IsNumber) (sym same) h.ready.base;
        few_lists = omega (arith, h.ready.few_lists, ap length same_lists);
        listed = subst (All (λ list. All IsNumber list.items)) (sym same_lists) h.ready.listed;
        turns = subst (λ (ls : List (Vec ℕ Global)). All (λ tab. (1 ≤ tab) × (tab ≤ length ls)) new.schedule.items) (sym same_lists) (subst (All Named) (sym schedule) (All-append Named old.schedule.items turns h.ready.turns both));
      };
      stage = subst (λ s. IsAt s e new (parts ++ turns_line turns ∷ [])) (sym stage) now;
    }

-- ---- numbers that are distinct

pub sorted_distinct : (numbers copy sorted : List ℕ) → copy ≡ numbers → IsPermutation copy sorted → IsStrictlyIncreasing sorted → AllPairs (λ a b. a ≢ b) numbers
sorted_distinct numbers copy sorted is same rises =
    let below = AllPairs-from_increasing sorted rises in
    let apart : AllPairs (λ a b. a ≢ b) sorted = λ i j d lt within e. omega (arith, below i j d lt within) in
    subst (AllPairs (λ a b. a ≢ b)) is (distinct-IsPermutation sorted copy (IsPermutation-sym copy sorted same) apart)

pub distinct_sorted : (numbers copy sorted : List ℕ) → copy ≡ numbers → IsPermutation copy sorted → IsNonDecreasing sorted → AllPairs (λ a b. a ≢ b) numbers → IsStrictlyIncreasing sorted
distinct_sorted numbers copy sorted is same order apart =
    let there = distinct-IsPermutation copy sorted same (subst (AllPairs (λ a b. a ≢ b)) (sym is) apart) in
    IsStrictlyIncreasing-from_distinct sorted order (IsDistinct-from_AllPairs Decides-eqb sorted there)

-- ---- refusals

pub refused_base : (e : Election) (old : Script) (numbers : List ℕ) → old.stage ≡ stages.Base → ¬ (AllPairs (λ a b. a ≢ b) numbers × (length numbers ≤ e.limit)) → (parts : List ReplayLine) → HasRead e old parts → IsLineRefused e parts (base_line numbers) Invalid
refused_base e old numbers was wrong parts h =
    let at = at_stage e old parts stages.Base was h in
    subst (λ ps. IsLineRefused e ps (base_line numbers) Invalid) (sym at.0) (wrong_base e numbers wrong)

pub refused_addition : (e : Election) (old : Script) (a : Addition) → old.stage ≡ stages.Lists → length old.lists.items < a.tab → (parts : List ReplayLine) → HasRead e old parts → IsLineRefused e parts (addition_line a) Invalid
refused_addition e old a was above parts h =
    let at = at_stage e old parts stages.Lists was h in
    subst (λ ps. IsLineRefused e ps (addition_line a) Invalid) (sym at.1) (wrong_addition e at.0 a at.2 (omega (arith, at.3.tabs)))

pub refused_turns : (e : Election) (old : Script) (turns : List ℕ) → MayCome old.stage words.Steps → ¬ All (λ t. t ≤ length old.lists.items) turns → (parts : List ReplayLine) → HasRead e old parts → IsLineRefused e parts (turns_line turns) Invalid
refused_turns e old turns may wrong parts h =
    let at = kept_at e old parts old.stage may h.stage in
    subst (λ ps. IsLineRefused e ps (turns_line turns) Invalid) (sym at.lines) (wrong_named e at.input turns (λ each. wrong (subst (λ n. All (λ t. t ≤ n) turns) at.keeps.tabs each)))

kind_comes : (kind : Kind) → MayCome stages.Kind (word_of_kind kind)
kind_comes kinds.Cast = tt
kind_comes kinds.Withdraw = tt

behind_comes : (word : Word) → IsBehind word → MayCome stages.Lists word
behind_comes words.Start h = absurd h
behind_comes words.Cast h = absurd h
behind_comes words.Withdraw h = absurd h
behind_comes words.List h = tt
behind_comes words.Steps h = tt

refused_at : (e : Election) (script : Script) (line : ReplayLine) (parts : List ReplayLine) (stage : Stage) → ¬ MayCome stage line.word → IsAt stage e script parts → IsLineRefused e parts line Malformed
refused_at e script line parts stages.Base wrong at =
    subst (λ ps. IsLineRefused e ps line Malformed) (sym at.0) (wrong_first e line (λ is. wrong (subst (MayCome stages.Base) (sym is) tt)))
refused_at e script line parts stages.Kind wrong at =
    subst (λ ps. IsLineRefused e ps line Malformed) (sym at.0) (wrong_second e (base_line script.base.items) line (λ kind is. wrong (subst (MayCome stages.Kind) (sym is) (kind_comes kind))))
refused_at e script line parts stages.Lists wrong at =
    subst (λ ps. IsLineRefused e ps line Malformed) (sym at.1) (wrong_behind e at.0 line (λ h. wrong (behind_comes line.word h)))
refused_at e script line parts stages.Turns wrong at =
    subst (λ ps. IsLineRefused e ps line Malformed) (sym at.1) (wrong_turns e at.0 line at.2 (λ is. wrong (subst (MayCome stages.Turns) (sym is) tt)))

pub refused_word : (e : Election) (script : Script) (line : ReplayLine) → ¬ MayCome script.stage line.word → (parts : List ReplayLine) → HasRead e script parts → IsLineRefused e parts line Malformed
refused_word e script line wrong parts h = refused_at e script line parts script.stage wrong h.stage

-- ---- numbers that have their form

pub form_one : (kind : Kind) (numbers : List ℕ) → HasForm (word_of_kind kind) numbers → (numbers ≡ get_or numbers 0 0 ∷ []) × (get_or numbers 0 0 ≤ most_tabs)
form_one kinds.Cast [] form = absurd form
form_one kinds.Cast (n ∷ ns) form = (ap (λ xs. n ∷ xs) form.1, form.0)
form_one kinds.Withdraw [] form = absurd form
form_one kinds.Withdraw (n ∷ ns) form = (ap (λ xs. n ∷ xs) form.1, form.0)

pub form_some : (numbers : List ℕ) → HasForm words.List numbers → numbers ≡ get_or numbers 0 0 ∷ drop 1 numbers
form_some [] form = absurd form
form_some (n ∷ ns) form = refl

-- the first of some numbers
pub first_number : (numbers rest : List ℕ) → numbers ≡ get_or numbers 0 0 ∷ rest → All IsNumber numbers → IsNumber (get_or numbers 0 0) × All IsNumber rest
first_number numbers rest is each =
    let h = subst (All IsNumber) is each in
    (All-head IsNumber (get_or numbers 0 0) rest h, All-tail IsNumber (get_or numbers 0 0) rest h)

pub line_of_one : (kind : Kind) (numbers : List ℕ) (e : Election) (new : Script) (parts : List ReplayLine) → numbers ≡ get_or numbers 0 0 ∷ [] → HasRead e new (parts ++ kind_line kind (get_or numbers 0 0) ∷ []) → HasRead e new (parts ++ line_at (word_of_kind kind) numbers ∷ [])
line_of_one kind numbers e new parts is h = subst (λ (ns : List ℕ). HasRead e new (parts ++ line_at (word_of_kind kind) ns ∷ [])) (sym is) h

-- the addition of a line
abbrev pub addition_of : List ℕ → Addition
addition_of numbers = record { tab = get_or numbers 0 0; numbers = drop 1 numbers }

pub taken_as_list : (numbers : List ℕ) (e : Election) (old new : Script) → numbers ≡ get_or numbers 0 0 ∷ drop 1 numbers → ((parts : List ReplayLine) → HasRead e old parts → HasRead e new (parts ++ addition_line (addition_of numbers) ∷ []))
    → (parts : List ReplayLine) → HasRead e old parts → HasRead e new (parts ++ line_at words.List numbers ∷ [])
taken_as_list numbers e old new is took parts h = subst (λ (ns : List ℕ). HasRead e new (parts ++ line_at words.List ns ∷ [])) (sym is) (took parts h)

pub refused_as_list : (numbers : List ℕ) (e : Election) (old : Script) → numbers ≡ get_or numbers 0 0 ∷ drop 1 numbers → ((parts : List ReplayLine) → HasRead e old parts → IsLineRefused e parts (addition_line (addition_of numbers)) Invalid)
    → (parts : List ReplayLine) → HasRead e old parts → IsLineRefused e parts (line_at words.List numbers) Invalid
refused_as_list numbers e old is refused parts h = subst (λ (ns : List ℕ). IsLineRefused e parts (line_at words.List ns) Invalid) (sym is) (refused parts h)

-- one list of a script is extended
pub lists_set : (lists : List (Vec ℕ Global)) (i : ℕ) (list : Vec ℕ Global) → map (λ (l : Vec ℕ Global). l.items) (set lists i list) ≡ set (map (λ (l : Vec ℕ Global). l.items) lists) i list.items
lists_set lists i list = map-set (λ (l : Vec ℕ Global). l.items) lists i list

list_before : (lists : List (Vec ℕ Global)) (i : ℕ) (d : Vec ℕ Global) → i < length lists → get_or (map (λ (l : Vec ℕ Global). l.items) lists) i [] ≡ (get_or lists i d).items
list_before lists i d lt = get_or-map (λ (l : Vec ℕ Global). l.items) lists i d [] lt

-- a list with all numbers but the first behind it
pub list_extended : (lists : List (Vec ℕ Global)) (i : ℕ) (list : Vec ℕ Global) (numbers now : List ℕ) → i < length lists → list ≡ get_or lists i list → now ≡ list.items ++ take (length numbers - 1) (drop 1 numbers)
    → now ≡ get_or (map (λ (l : Vec ℕ Global). l.items) lists) i [] ++ drop 1 numbers
list_extended lists i list numbers now within at is =
    is ∙ ap (λ ns. list.items ++ ns) (take_all (length numbers - 1) (drop 1 numbers) (omega (arith, length-drop 1 numbers)))
    ∙ ap (λ ns. ns ++ drop 1 numbers) (ap (λ (l : Vec ℕ Global). l.items) at ∙ sym (list_before lists i list within))
