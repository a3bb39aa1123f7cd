-- What a replay's script gives is decided by its text, but for faults and want of memory.
use Rattle.std.proofs.Common.{◌≡◌, ℕ, zero, suc, ◌+◌, ◌<◌, ◌≤◌, List, [], ◌∷◌, ◌++◌, length, take, drop, Option, Some, Result, Ok, Err, ◌⊎◌, inl, inr, ⊎_elim, refl, sym, ◌∙◌, ap, subst, append_assoc, arith}
use Rattle.store_spec.proofs.Common.{AllZip, Election, Invalid, Malformed, Reason, append-nil, lines_of, script_limit, take-append-drop, take-take, taken_lines, taken_within}
use Rattle.ballot_record.proofs.Reasons.{same_why}
use Rattle.ballot_record.specs.LineWhy.{reason}
use Rattle.ballot_record.specs.declared.fault.LineWhy.{LineWhy}
use Rattle.outside_io.proofs.FirstLine.{all_within}
use Rattle.outside_io.proofs.Told.{told_at}
use Rattle.outside_io.specs.Outside.{Outside}
use Rattle.schedule_replay.specs.Ends.{ReplayEnds, HasBadLine, IsDecided}
use Rattle.schedule_replay.specs.Input.{IsInput, ReplayInput, lines_in}
use Rattle.schedule_replay.specs.Refusal.{AreGood, AreLinesOf, Begin, EndsEarly, IsFirstBadReplayLine, IsLastBad}
use Rattle.schedule_replay.specs.ReplayLine.{ReplayLine, TakenAs}
use Rattle.schedule_replay.specs.declared.fault.ReplayFault.{ReplayFault}
use Rattle.schedule_replay.specs.declared.fault.ReplayFault.TheVariants as faults
use Rattle.store_spec.specs.Build.Reason.{Duplicate, Conflict, Full}

-- ---- lines

-- lines as they are taken
abbrev Taken : Type 0
Taken = List (Option (List ℕ))

zip_take : (n : ℕ) (lines : Taken) (parts : List ReplayLine) → AllZip TakenAs lines parts → AllZip TakenAs (take n lines) (take n parts)
zip_take zero lines parts each = tt
zip_take (suc n) [] [] each = tt
zip_take (suc n) [] (p ∷ parts) each = absurd each
zip_take (suc n) (l ∷ lines) [] each = absurd each
zip_take (suc n) (l ∷ lines) (p ∷ parts) each = (each.0, zip_take n lines parts each.1)

zip_length : (lines : Taken) (parts : List ReplayLine) → AllZip TakenAs lines parts → length lines ≡ length parts
zip_length [] [] each = refl
zip_length [] (p ∷ parts) each = absurd each
zip_length (l ∷ lines) [] each = absurd each
zip_length (l ∷ lines) (p ∷ parts) each = ap suc (zip_length lines parts each.1)

begin_take : (n : ℕ) (lines : Taken) (input : ReplayInput) → Begin lines input → Begin (take n lines) input
begin_take n lines input begin = record {
  parts = take n begin.parts;
  each = zip_take n lines begin.parts begin.each;
  first = record {
    others = drop n begin.parts ++ begin.first.others;
    first = begin.first.first ∙ ap (λ parts. parts ++ begin.first.others) (sym (take-append-drop n begin.parts)) ∙ append_assoc (take n begin.parts) (drop n begin.parts) begin.first.others;
  };
}

-- the first of good lines are good
good_take : (e : Election) (n : ℕ) (lines : Taken) → AreGood e lines → AreGood e (take n lines)
good_take e n lines good = (good.0, begin_take n lines good.0 good.1, good.2)

whole_good : (e : Election) (lines : Taken) (input : ReplayInput) → AreLinesOf input lines → IsInput e input → AreGood e lines
whole_good e lines input each valid = (input, record { parts = lines_in input; each = each; first = record { others = []; first = sym (append-nil (lines_in input)) } }, valid)

-- ---- the first bad line

last_not_good : (e : Election) (lines : Taken) (why : Reason) → IsLastBad e lines why → ¬ AreGood e lines
last_not_good e lines Malformed bad good = bad (good.0, good.1)
last_not_good e lines Invalid bad good = bad.1 good
last_not_good e lines Duplicate bad good = bad
last_not_good e lines Conflict bad good = bad
last_not_good e lines Full bad good = bad

bad_not_good : (e : Election) (lines : Taken) (at : ℕ) (why : Reason) → IsFirstBadReplayLine e lines at why → ¬ AreGood e lines
bad_not_good e lines at why bad good = last_not_good e (take (bad.index + 1) lines) why bad.bad (good_take e (bad.index + 1) lines good)

-- the lines up to a bad one are not good
none_before : (e : Election) (lines : Taken) (m n : ℕ) (v w : Reason) (a : IsFirstBadReplayLine e lines m v) (b : IsFirstBadReplayLine e lines n w) → ¬ (a.index < b.index)
none_before e lines m n v w a b lt =
    last_not_good e (take (a.index + 1) lines) v a.bad
    (subst (AreGood e) (take-take (a.index + 1) b.index lines (omega arith)) (good_take e (a.index + 1) (take b.index lines) b.good))

one_reason : (e : Election) (lines : Taken) (v w : Reason) → IsLastBad e lines v → IsLastBad e lines w → v ≡ w
one_reason e lines Malformed Malformed x y = refl
one_reason e lines Malformed Invalid x y = absurd (x y.0)
one_reason e lines Invalid Malformed x y = absurd (y x.0)
one_reason e lines Invalid Invalid x y = refl
one_reason e lines Duplicate w x y = absurd x
one_reason e lines Conflict w x y = absurd x
one_reason e lines Full w x y = absurd x
one_reason e lines v Duplicate x y = absurd y
one_reason e lines v Conflict x y = absurd y
one_reason e lines v Full x y = absurd y

one_bad : (e : Election) (lines : Taken) (m n : ℕ) (v w : Reason) → IsFirstBadReplayLine e lines m v → IsFirstBadReplayLine e lines n w → (m ≡ n) × (v ≡ w)
one_bad e lines m n v w a b =
    let left = none_before e lines m n v w a b in
    let right = none_before e lines n m w v b a in
    let same : a.index ≡ b.index = omega (arith, left, right) in (
      omega (arith, a.counted, b.counted, same),
      one_reason e (take (b.index + 1) lines) v w (subst (λ i. IsLastBad e (take (i + 1) lines) v) same a.bad) b.bad,
    )

-- ---- what a text decides

-- a bad line, or lines that end too early
abbrev IsBadAt : Election → List ℕ → ℕ → Reason → Type 0
IsBadAt e text line why =
    IsFirstBadReplayLine e (taken_within script_limit text) line why
    ⊎ ((length text ≤ script_limit) × EndsEarly e (taken_within script_limit text) line why)

abbrev pub Decides : Election → List ℕ → Result (Unit {0}) ReplayFault → Type 0
Decides e text (Ok done) = (length text ≤ script_limit) × ((input : ReplayInput) × AreLinesOf input (taken_within script_limit text) × IsInput e input)
Decides e text (Err (faults.BadLine line why)) = IsBadAt e text line (reason why)
Decides e text (Err faults.TooLong) = (script_limit < length text) × AreGood e (taken_within script_limit text)
Decides e text (Err other) = ⊥

-- all lines are taken of a text within the limit
all_taken : (text : List ℕ) → length text ≤ script_limit → taken_within script_limit text ≡ taken_lines (lines_of text)
all_taken text within = ap taken_lines (all_within script_limit text within)

bad_line_decides : (e : Election) (text left : List ℕ) (line : ℕ) (why : Reason) → HasBadLine e line why text left → IsBadAt e text line why
bad_line_decides e text left line why (HasBadLine.bad first gives) = inl first
bad_line_decides e text left line why (HasBadLine.early read early) =
    inr (read.0, subst (λ (lines : Taken). EndsEarly e lines line why) (sym (all_taken text read.0)) early)

pub replay_decides : {S K : Type 0} (e : Election) (a : Result (Unit {0}) ReplayFault) (before after : Outside S K) (text : List ℕ) → before.script.left ≡ Some text
    → IsDecided a → ReplayEnds e a before after → Decides e text a
replay_decides e (Ok done) before after text is decided ends =
    let read = (told_at text is ends.0.spelled).1 in
    (read.0.0, (ends.0.input, subst (AreLinesOf ends.0.input) (sym (all_taken text read.0.0)) read.1, ends.0.valid))
replay_decides e (Err (faults.BadLine line why)) before after text is decided ends =
    let read = told_at text is ends.0.why in bad_line_decides e text read.0 line (reason why) read.1
replay_decides e (Err faults.TooLong) before after text is decided ends =
    let read = (told_at text is ends.0.why).1 in (omega (arith, read.0), read.1)
replay_decides e (Err faults.ReadFault) before after text is decided ends = absurd decided
replay_decides e (Err faults.WriteFault) before after text is decided ends = absurd decided
replay_decides e (Err faults.Memory) before after text is decided ends = absurd decided

-- an input has its first two lines
never_early : (e : Election) (lines : Taken) (input : ReplayInput) (at : ℕ) (why : Reason) → AreLinesOf input lines → ¬ EndsEarly e lines at why
never_early e lines input at why each early = omega (arith, zip_length lines (lines_in input) each, early.early)

good_or_bad : (e : Election) (text : List ℕ) (line : ℕ) (why : Reason) → AreGood e (taken_within script_limit text) → (length text ≤ script_limit → ¬ EndsEarly e (taken_within script_limit text) line why) → ¬ IsBadAt e text line why
good_or_bad e text line why good late = ⊎_elim
    (λ bad. bad_not_good e (taken_within script_limit text) line why bad good)
    (λ early. late early.0 early.1)

one_bad_at : (e : Election) (text : List ℕ) (m n : ℕ) (v w : Reason) → IsBadAt e text m v → IsBadAt e text n w → (m ≡ n) × (v ≡ w)
one_bad_at e text m n v w x y =
    let lines = taken_within script_limit text in ⊎_elim
    (λ a. ⊎_elim
    (λ b. one_bad e lines m n v w a b)
    (λ b. absurd (bad_not_good e lines m v a b.1.good))
    y)
    (λ a. ⊎_elim
    (λ b. absurd (bad_not_good e lines n w b a.1.good))
    (λ b. (omega (arith, a.1.counted, b.1.counted), a.1.missing ∙ sym b.1.missing))
    y)
    x

same_bad_line : (m n : ℕ) (v w : LineWhy) → m ≡ n → v ≡ w → faults.BadLine m v ≡ faults.BadLine n w
same_bad_line m n v w same why = ap (λ line. faults.BadLine line v) same ∙ ap (λ x. faults.BadLine n x) why

abbrev Answer : Type 0
Answer = Result (Unit {0}) ReplayFault

abbrev refused_with : ReplayFault → Answer
refused_with fault = Err fault

pub decides_one : (e : Election) (text : List ℕ) (a b : Answer) → Decides e text a → Decides e text b → a ≡ b
decides_one e text (Ok x) (Ok y) p q = refl
decides_one e text (Ok x) (Err (faults.BadLine line why)) p q =
    absurd (good_or_bad e text line (reason why) (whole_good e (taken_within script_limit text) p.1.0 p.1.1 p.1.2) (λ few. never_early e (taken_within script_limit text) p.1.0 line (reason why) p.1.1) q)
decides_one e text (Ok x) (Err faults.TooLong) p q = absurd (omega (arith, p.0, q.0))
decides_one e text (Err (faults.BadLine line why)) (Ok y) p q =
    absurd (good_or_bad e text line (reason why) (whole_good e (taken_within script_limit text) q.1.0 q.1.1 q.1.2) (λ few. never_early e (taken_within script_limit text) q.1.0 line (reason why) q.1.1) p)
decides_one e text (Err (faults.BadLine m v)) (Err (faults.BadLine n w)) p q =
    let one = one_bad_at e text m n (reason v) (reason w) p q in
    let fault : faults.BadLine m v ≡ faults.BadLine n w = same_bad_line m n v w one.0 (same_why v w one.1) in
    ap refused_with fault
decides_one e text (Err (faults.BadLine m v)) (Err faults.TooLong) p q =
    absurd (good_or_bad e text m (reason v) q.1 (λ few. absurd (omega (arith, few, q.0))) p)
decides_one e text (Err faults.TooLong) (Ok y) p q = absurd (omega (arith, p.0, q.0))
decides_one e text (Err faults.TooLong) (Err (faults.BadLine n w)) p q =
    absurd (good_or_bad e text n (reason w) p.1 (λ few. absurd (omega (arith, few, p.0))) q)
decides_one e text (Err faults.TooLong) (Err faults.TooLong) p q = refl
decides_one e text (Err faults.ReadFault) b p q = absurd p
decides_one e text (Err faults.WriteFault) b p q = absurd p
decides_one e text (Err faults.Memory) b p q = absurd p
decides_one e text a (Err faults.ReadFault) p q = absurd q
decides_one e text a (Err faults.WriteFault) p q = absurd q
decides_one e text a (Err faults.Memory) p q = absurd q

-- where the script tells its bytes, two answers that are neither faults nor want of memory are equal
pub one_answer : {S K : Type 0} (e : Election) (a b : Answer) (before a_after b_after : Outside S K) (text : List ℕ) → before.script.left ≡ Some text
    → ReplayEnds e a before a_after → ReplayEnds e b before b_after → IsDecided a → IsDecided b → a ≡ b
one_answer e a b before a_after b_after text is x y da db =
    decides_one e text a b (replay_decides e a before a_after text is da x) (replay_decides e b before b_after text is db y)
