-- The lines of a script as they are read: they are good, or which of them is the first bad one.
use Rattle.std.proofs.Common.{◌≡◌, ℕ, ◌+◌, ◌<◌, ◌≤◌, List, [], ◌∷◌, ◌++◌, All, length, take, Option, Some, None, Ok, Err, refl, ap, sym, subst, ◌∙◌, arith, append_assoc, length-append}
use Rattle.store_spec.proofs.Common.{All-nil, AllZip, AllZip-long, Election, Invalid, Malformed, Reason, length-drop, script_limit, take_at}
use Rattle.std.proofs.lemmas.Slice.Zip.{all_zipped_more}
use Rattle.ballot_record.specs.LineWhy.{reason}
use Rattle.ballot_record.specs.declared.fault.LineWhy.{LineWhy}
use Rattle.ballot_record.specs.declared.fault.LineWhy.TheVariants as whys
use Rattle.outside_io.proofs.Told.{told_as, told_with}
use Rattle.outside_io.specs.Reading.{ReadFirst, ReadLines, ReadsTo}
use Rattle.outside_io.specs.Reading.Ending.{ReadOut, TooMuch, Faulted}
use Rattle.outside_io.specs.Stream.{GivesAtMost}
use Rattle.outside_io.specs.Told.{IfTold}
use Rattle.schedule_replay.proofs.Inputs.{all_begun}
use Rattle.schedule_replay.proofs.Takings.{kept_at}
use Rattle.schedule_replay.proofs.Words.{one_parts}
use Rattle.schedule_replay.specs.Ends.{HasBadLine, HasTooMuch, IsGoodSoFar}
use Rattle.schedule_replay.specs.Ends.HasBadLine.{bad, early}
use Rattle.schedule_replay.specs.Input.{Addition, IsInput, ReplayInput, kind_line, lines_in}
use Rattle.schedule_replay.specs.Refusal.{AreGood, AreLinesOf, Begin, BeginsInput, EndsEarly, IsFirstBadReplayLine, IsLastBad}
use Rattle.schedule_replay.specs.ReplayLine.{ReadsAsReplay, ReplayLine, TakenAs}
use Rattle.schedule_replay.specs.Script.{HasBothLines, HasRead, IsAt, IsLineRefused, MayBeOpened, TakesLine}
use Rattle.schedule_replay.specs.Script.TakesLine.{reads, reads_none, no_memory}
use Rattle.schedule_replay.specs.Spelled.{SpellsScript}
use Rattle.schedule_replay.specs.declared.fault.Refusal.TheVariants as refusals
use Rattle.schedule_replay.specs.declared.line.Kind.TheVariants as kinds
use Rattle.schedule_replay.specs.declared.script.Script.{Script}
use Rattle.schedule_replay.specs.declared.script.Stage.{Stage}
use Rattle.schedule_replay.specs.declared.script.Stage.TheVariants as stages
use Rattle.store_spec.specs.Build.Reason.{Duplicate, Conflict, Full}

-- ---- lines by their parts

-- the parts of some lines, and those of one more
record PartsBut (lines : List (Option (List ℕ))) (line : Option (List ℕ)) (parts : List ReplayLine) : Type 0 where
  front : List ReplayLine
  last : ReplayLine
  each : AllZip TakenAs lines front
  taken : TakenAs line last

parts_but : (lines : List (Option (List ℕ))) (line : Option (List ℕ)) (parts : List ReplayLine) → AllZip TakenAs (lines ++ line ∷ []) parts → PartsBut lines line parts
parts_but [] line [] each = absurd each
parts_but [] line (p ∷ parts) each = record { front = []; last = p; each = tt; taken = each.0 }
parts_but (l ∷ lines) line [] each = absurd each
parts_but (l ∷ lines) line (p ∷ parts) each =
    let rest = parts_but lines line parts each.1 in
    record { front = p ∷ rest.front; last = rest.last; each = (each.0, rest.each); taken = rest.taken }

-- ---- lines that are good

-- the lines so far were taken, and this is kept of them
pub record AreTaken (e : Election) (script : Script) (count : ℕ) (lines : List (Option (List ℕ))) : Type 0 where
  pub parts : List ReplayLine
  pub each : AllZip TakenAs lines parts
  pub read : HasRead e script parts
  pub counted : count ≡ length lines

pub none_taken : (e : Election) (script : Script) → HasRead e script [] → AreTaken e script 0 []
none_taken e script read = record { parts = []; each = tt; read = read; counted = refl }

-- a valid input that begins with these parts
record ValidInput (e : Election) (parts : List ReplayLine) : Type 0 where
  input : ReplayInput
  begins : BeginsInput parts input
  valid : IsInput e input

-- one of a base
abbrev opening : Script → ReplayInput
opening script = record { base = script.base.items; kind = kinds.Cast; tabs = 1; additions = []; turns = [] }

valid_opening : (e : Election) (script : Script) → MayBeOpened e script → IsInput e (opening script)
valid_opening e script ready = record {
  distinct = ready.distinct;
  few = ready.few;
  listed = All-nil (λ (a : Addition). a.tab ≤ 1);
  scheduled = All-nil (All (λ (tab : ℕ). tab ≤ 1));
}

valid_at : (e : Election) (script : Script) (parts : List ReplayLine) (stage : Stage) → MayBeOpened e script → IsAt stage e script parts → ValidInput e parts
valid_at e script parts stages.Base ready at = record {
  input = opening script;
  begins = record { others = lines_in (opening script); first = ap (λ ps. ps ++ lines_in (opening script)) (sym at.0) };
  valid = valid_opening e script ready;
}
valid_at e script parts stages.Kind ready at = record {
  input = opening script;
  begins = record { others = kind_line kinds.Cast 1 ∷ []; first = ap (λ ps. ps ++ kind_line kinds.Cast 1 ∷ []) (sym at.0) };
  valid = valid_opening e script ready;
}
valid_at e script parts stages.Lists ready at = record { input = at.0; begins = all_begun parts at.0 at.1; valid = at.3.valid }
valid_at e script parts stages.Turns ready at = record { input = at.0; begins = all_begun parts at.0 at.1; valid = at.3.valid }

good_taken : (e : Election) (script : Script) (count : ℕ) (lines : List (Option (List ℕ))) → AreTaken e script count lines → AreGood e lines
good_taken e script count lines taken =
    let some = valid_at e script taken.parts script.stage taken.read.ready taken.read.stage in
    (some.input, record { parts = taken.parts; each = taken.each; first = some.begins }, some.valid)

-- ---- a line that is bad behind good ones

-- whatever input begins with the lines begins with their parts
begins_same : (lines : List (Option (List ℕ))) (parts : List ReplayLine) (input : ReplayInput) → AllZip TakenAs lines parts → Begin lines input → BeginsInput parts input
begins_same lines parts input each b = subst (λ ps. BeginsInput ps input) (one_parts lines b.parts parts b.each each) b.first

refused_last : (e : Election) (parts : List ReplayLine) (line : ReplayLine) (lines : List (Option (List ℕ))) (bytes : List ℕ) (why : Reason) → AllZip TakenAs lines parts → ReadsAsReplay bytes line → IsLineRefused e parts line why → IsLastBad e (lines ++ Some bytes ∷ []) why
refused_last e parts line lines bytes Malformed each is refused =
    let all = all_zipped_more TakenAs lines parts (Some bytes) line each is in
    λ form. refused form.0 (begins_same (lines ++ Some bytes ∷ []) (parts ++ line ∷ []) form.0 all form.1)
refused_last e parts line lines bytes Invalid each is refused =
    let all = all_zipped_more TakenAs lines parts (Some bytes) line each is in
    let some = refused.0 in (
      (some.0, record { parts = parts ++ line ∷ []; each = all; first = some.1 }),
      λ good. refused.1 good.0 good.2 (begins_same (lines ++ Some bytes ∷ []) (parts ++ line ∷ []) good.0 all good.1),
    )
refused_last e parts line lines bytes Duplicate each is refused = absurd refused
refused_last e parts line lines bytes Conflict each is refused = absurd refused
refused_last e parts line lines bytes Full each is refused = absurd refused

-- a line that is not in the grammar
outside_last : (e : Election) (lines : List (Option (List ℕ))) (line : Option (List ℕ)) → ((part : ReplayLine) → ¬ TakenAs line part) → IsLastBad e (lines ++ line ∷ []) Malformed
outside_last e lines line none form = let but = parts_but lines line form.1.parts form.1.each in none but.last but.taken

-- the last of the lines is bad for this reason, behind so many good ones
pub record AreBad (e : Election) (count : ℕ) (why : Reason) (lines : List (Option (List ℕ))) : Type 0 where
  pub before : List (Option (List ℕ))
  pub line : Option (List ℕ)
  pub last : lines ≡ before ++ line ∷ []
  pub counted : count ≡ length before
  pub good : AreGood e before
  pub refused : IsLastBad e (before ++ line ∷ []) why

pub bad_wide : (e : Election) (script : Script) (count : ℕ) (lines : List (Option (List ℕ))) → AreTaken e script count lines → AreBad e count Malformed (lines ++ None ∷ [])
bad_wide e script count lines taken = record {
  before = lines;
  line = None;
  last = refl;
  counted = taken.counted;
  good = good_taken e script count lines taken;
  refused = outside_last e lines None (λ part h. h);
}

-- ---- what becomes of one more line

pub one_more : (e : Election) (old new : Script) (bytes : List ℕ) (count : ℕ) (done : Unit {0}) → TakesLine (Ok done) e bytes old new → (lines : List (Option (List ℕ))) → AreTaken e old count lines → AreTaken e new (count + 1) (lines ++ Some bytes ∷ [])
one_more e old new bytes count done (reads line is takes) lines taken = record {
  parts = taken.parts ++ line ∷ [];
  each = all_zipped_more TakenAs lines taken.parts (Some bytes) line taken.each is;
  read = takes taken.parts taken.read;
  counted = omega (arith, taken.counted, length-append lines (Some bytes ∷ []));
}
one_more e old new bytes count done (reads_none none is) lines taken = absurd cc
one_more e old new bytes count done (no_memory is) lines taken = absurd cc

pub one_bad : (e : Election) (old new : Script) (bytes : List ℕ) (count : ℕ) (why : LineWhy) → TakesLine (Err (refusals.Bad why)) e bytes old new → (lines : List (Option (List ℕ))) → AreTaken e old count lines → AreBad e count (reason why) (lines ++ Some bytes ∷ [])
one_bad e old new bytes count why takes lines taken = record {
  before = lines;
  line = Some bytes;
  last = refl;
  counted = taken.counted;
  good = good_taken e old count lines taken;
  refused = refused takes;
} where
  refused : TakesLine (Err (refusals.Bad why)) e bytes old new → IsLastBad e (lines ++ Some bytes ∷ []) (reason why)
  refused (reads line is takes) = refused_last e taken.parts line lines bytes (reason why) taken.each is (takes taken.parts taken.read)
  refused (reads_none none is) =
      let same : why ≡ whys.Malformed = cc in
      subst (λ w. IsLastBad e (lines ++ Some bytes ∷ []) (reason w)) (sym same) (outside_last e lines (Some bytes) none)
  refused (no_memory is) = absurd cc

-- ---- how the reading ends

first_bad : (e : Election) (count : ℕ) (why : Reason) (lines others : List (Option (List ℕ))) → AreBad e count why lines → IsFirstBadReplayLine e (lines ++ others) (count + 1) why
first_bad e count why lines others b =
    let before = b.before in
    let n = length before in
    let one = b.line ∷ [] in
    let all : lines ++ others ≡ before ++ b.line ∷ others = ap (λ ls. ls ++ others) b.last ∙ append_assoc before one others in
    let front : take (n + 1) (before ++ b.line ∷ others) ≡ before ++ one =
    ap (take (n + 1)) (sym (append_assoc before one others)) ∙ take_at (before ++ one) others (n + 1) (length-append before one) in
    let there : IsFirstBadReplayLine e (before ++ b.line ∷ others) (count + 1) why = record {
      index = n;
      counted = ap (λ k. k + 1) b.counted;
      within = omega (arith, length-append before (b.line ∷ others));
      good = subst (AreGood e) (sym (take_at before (b.line ∷ others) n refl)) b.good;
      bad = subst (λ (ls : List (Option (List ℕ))). IsLastBad e ls why) (sym front) b.refused;
    } in
    subst (λ (ls : List (Option (List ℕ))). IsFirstBadReplayLine e ls (count + 1) why) (sym all) there

pub told_bad : {a b : Option (List ℕ)} (e : Election) (count : ℕ) (why : Reason) → ReadsTo ReadFirst (AreBad e count why) a b → IfTold a b (GivesAtMost (script_limit + 1)) → IfTold a b (HasBadLine e (count + 1) why)
told_bad e count why read given = told_as (told_with read.told given) (λ x y h.
    let first = h.0 in
    bad (subst (λ (ls : List (Option (List ℕ))). IsFirstBadReplayLine e ls (count + 1) why) (sym first.1) (first_bad e count why read.lines first.0 read.good)) h.1)

-- all lines of an input were taken
pub told_input : {a b : Option (List ℕ)} (e : Election) (script : Script) (count : ℕ) → HasBothLines script.stage → ReadsTo (ReadLines ReadOut) (AreTaken e script count) a b → SpellsScript e a b script
told_input e script count whole read =
    let taken = read.good in
    let kept = kept_at e script taken.parts script.stage whole taken.read.stage in
    let each : AllZip TakenAs read.lines (lines_in kept.input) = subst (AllZip TakenAs read.lines) kept.lines taken.each in
    record {
      input = kept.input;
      keeps = kept.keeps;
      ready = taken.read.ready;
      spelled = told_as read.told (λ x y h. ((h.0, h.1), subst (AreLinesOf kept.input) h.2 each));
    }

few_parts : (e : Election) (script : Script) (parts : List ReplayLine) (stage : Stage) → ¬ HasBothLines stage → IsAt stage e script parts → length parts < 2
few_parts e script parts stages.Base part at = omega (arith, ap length at.0)
few_parts e script parts stages.Kind part at = omega (arith, ap length at.0)
few_parts e script parts stages.Lists part at = absurd (part tt)
few_parts e script parts stages.Turns part at = absurd (part tt)

-- the input ended before its second line
pub told_early : {a b : Option (List ℕ)} (e : Election) (script : Script) (count : ℕ) → ¬ HasBothLines script.stage → ReadsTo (ReadLines ReadOut) (AreTaken e script count) a b → IfTold a b (HasBadLine e (count + 1) Malformed)
told_early e script count part read =
    let taken = read.good in
    let ends : EndsEarly e read.lines (count + 1) Malformed = record {
      good = good_taken e script count read.lines taken;
      early = omega (arith, few_parts e script taken.parts script.stage part taken.read.stage, AllZip-long TakenAs read.lines taken.parts taken.each);
      counted = ap (λ n. n + 1) taken.counted;
      missing = refl;
    } in
    told_as read.told (λ x y h. early (h.0, h.1) (subst (λ (ls : List (Option (List ℕ))). EndsEarly e ls (count + 1) Malformed) h.2 ends))

pub told_too_much : {a b : Option (List ℕ)} (e : Election) (script : Script) (count : ℕ) → ReadsTo (ReadLines TooMuch) (AreTaken e script count) a b → IfTold a b (HasTooMuch e)
told_too_much e script count read =
    let good = good_taken e script count read.lines read.good in
    told_as read.told (λ x y h. (omega (arith, h.0, ap length h.1, length-drop (script_limit + 1) x), subst (AreGood e) h.2 good))

pub told_fault : {a b : Option (List ℕ)} (e : Election) (script : Script) (count : ℕ) → ReadsTo (ReadLines Faulted) (AreTaken e script count) a b → IfTold a b (IsGoodSoFar e)
told_fault e script count read =
    let good = good_taken e script count read.lines read.good in
    told_as read.told (λ x y ended. (ended.0, ended.1, ended.2, subst (AreGood e) ended.3 good))
