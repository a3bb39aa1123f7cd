-- A loop over `next_line`: which lines were taken so far, and how the loop ends. A proof about such a loop has
-- `ReadSoFar` in its invariant, and cites one lemma here at each answer.
use Rattle.std.proofs.Common.{◌≡◌, ◌≢◌, ℕ, Bool, true, false, ◌+◌, ◌<◌, ◌≤◌, ◌⊎◌, ⊎_elim, List, [], ◌∷◌, ◌++◌, length, take, drop, Option, Some, None, Result, Ok, Err, refl, ap, sym, subst, ◌∙◌, inl, inr, arith, append_assoc, length-append, length-drop}
use Rattle.store_spec.proofs.Common.{append-nil, cases_lt, drop_all, drop_at, ended_lines, first_width, length-take-le, lines_of, lines_within, map-append, nil_from_length, script_limit, take-append-add, take-append-drop, take-take, take_all, take_at, taken_line, taken_lines, taken_within}
use Rattle.outside_io.proofs.EndedLines.{IsWhole, lines_of-append, ended_lines-append, lines_within-append}
use Rattle.outside_io.proofs.FirstLine.{all_within, ended_lines-ended, ended_lines-none, first_width-le, first_width-more, first_width-take_none, first_width-take, lines_of-ended, lines_of-last, lines_within-first, lines_within-none}
use Rattle.outside_io.proofs.Told.{told_still, told_as, told_with, told_on}
use Rattle.outside_io.specs.Lines.{AnswersNext, AnswersTold, EndsEmpty, HandsOut}
use Rattle.outside_io.specs.Reading.{ReadLines, ReadFirst, ReadsTo}
use Rattle.outside_io.specs.Reading.Ending.{ReadOut, TooMuch, Faulted}
use Rattle.outside_io.specs.Stream.{GivesAtMost, GivesFront}
use Rattle.outside_io.specs.Told.{IfTold}
use Rattle.outside_io.specs.Window.{Kept}
use Rattle.outside_io.specs.declared.lines.LineEndFault.{LineEndFault}
use Rattle.outside_io.specs.declared.lines.LineEndFault.TheVariants.{TooLong, ReadFault}
use Rattle.outside_io.specs.declared.lines.NextLine.{NextLine}
use Rattle.outside_io.specs.declared.lines.NextLine.TheVariants.{Whole, TooWide, End}

-- ---- what was taken of a text

-- These are the lines of a front of the text. Behind it stands `now`, and of the limit `room` is left. The last of them
-- has no end only where it is known that the source has ended.
pub record HasTaken (lines : List (Option (List ℕ))) (room : ℕ) (ended : Bool) (text now : List ℕ) : Type 0 where
  pub front : List ℕ
  pub cut : text ≡ front ++ now
  pub taken : lines ≡ taken_lines (lines_of front)
  pub whole : ((ended ≡ true) × (now ≡ [])) ⊎ IsWhole front
  pub counted : room + length front ≡ script_limit

taken_nothing : (ended : Bool) (text : List ℕ) → HasTaken [] script_limit ended text text
taken_nothing ended text = record { front = []; cut = refl; taken = refl; whole = inr refl; counted = omega arith }

-- the lines that are taken within the limit are these and then those of what is left
taken_first : (lines : List (Option (List ℕ))) (room : ℕ) (ended : Bool) (text now : List ℕ) → HasTaken lines room ended text now → taken_within script_limit text ≡ lines ++ taken_within room now
taken_first lines room ended text now h =
    let P : List ℕ → Type 0 = λ text. taken_within script_limit text ≡ lines ++ taken_within room now in
    subst P (sym h.cut) (⊎_elim
    (λ (last : (ended ≡ true) × (now ≡ [])).
    let none = last.1 in
    let all : h.front ++ now ≡ h.front = ap (λ rest. h.front ++ rest) none ∙ append-nil h.front in
    ap (λ text. taken_within script_limit text) all ∙ ap taken_lines (all_within script_limit h.front (omega (arith, h.counted))) ∙ sym h.taken
    ∙ sym (append-nil lines) ∙ ap (λ rest. lines ++ rest) (sym (ap (λ rest. taken_within room rest) none ∙ ap taken_lines (lines_within-none room))))
    (λ (whole : IsWhole h.front).
    ap taken_lines (lines_within-append script_limit room h.front now whole h.counted)
    ∙ map-append taken_line (lines_of h.front) (lines_within room now) ∙ ap (λ front. front ++ taken_within room now) (sym h.taken))
    h.whole)

-- a first line that has an end
ended_more : (front now : List ℕ) → IsWhole front → first_width now < length now → IsWhole (front ++ take (first_width now + 1) now) × (lines_of (front ++ take (first_width now + 1) now) ≡ lines_of front ++ take (first_width now) now ∷ [])
ended_more front now whole ends =
    let w = first_width now in
    let piece = take (w + 1) now in
    let width : first_width piece ≡ w = first_width-take (w + 1) now (omega arith) in
    let long : length piece ≡ w + 1 = length-take-le (w + 1) now (omega arith) in
    let behind : drop (first_width piece + 1) piece ≡ [] = nil_from_length (drop (first_width piece + 1) piece) (omega (arith, length-drop (first_width piece + 1) piece)) in
    let line : take (first_width piece) piece ≡ take w now = ap (λ n. take n piece) width ∙ take-take w (w + 1) now (omega arith) in
    let all : lines_of piece ≡ take w now ∷ [] =
    lines_of-ended piece (omega arith) ∙ ap (λ rest. take (first_width piece) piece ∷ lines_of rest) behind ∙ ap (λ first. first ∷ []) line in
    let ended : ended_lines piece ≡ take w now ∷ [] =
    ended_lines-ended piece (omega arith) ∙ ap (λ rest. take (first_width piece) piece ∷ ended_lines rest) behind ∙ ap (λ first. first ∷ []) line in
    let lines = lines_of-append front piece whole ∙ ap (λ ls. lines_of front ++ ls) all in
    (ended_lines-append front piece whole ∙ ap (λ ls. lines_of front ++ ls) ended ∙ sym lines, lines)

-- ---- the next line

-- The line that was handed out is the first of what was left.
first_taken : (line : Option (List ℕ)) (now rest : List ℕ) (room room_left : ℕ) (ended : Bool) → 0 < length now → HandsOut line now room rest room_left ended → taken_line (take (first_width now) now) ≡ line
first_taken line now rest room room_left ended some hands =
    let first = ap taken_lines (lines_within-first room room_left now some hands.within (omega (arith, hands.counted, ap length hands.behind))) in
    let both : taken_line (take (first_width now) now) ∷ taken_within room_left (drop (first_width now + 1) now) ≡ line ∷ taken_within room_left rest = sym first ∙ hands.lines in
    cc

-- a line comes only of what is not empty
some_left : (line : Option (List ℕ)) (now rest : List ℕ) (room room_left : ℕ) (ended : Bool) → HandsOut line now room rest room_left ended → 0 < length now
some_left line [] rest room room_left ended hands =
    absurd (let none : [] ≡ line ∷ taken_within room_left rest = sym (ap taken_lines (lines_within-none room)) ∙ hands.lines in cc)
some_left line (byte ∷ now) rest room room_left ended hands = omega arith

-- lines that were taken, and one more
more_taken : (lines : List (Option (List ℕ))) (line : Option (List ℕ)) (front piece bytes : List ℕ) → lines ≡ taken_lines (lines_of front) → lines_of (front ++ piece) ≡ lines_of front ++ bytes ∷ [] → taken_line bytes ≡ line → lines ++ line ∷ [] ≡ taken_lines (lines_of (front ++ piece))
more_taken lines line front piece bytes before more is =
    ap (λ ls. ls ++ line ∷ []) before ∙ ap (λ one. taken_lines (lines_of front) ++ one ∷ []) (sym is) ∙ sym (map-append taken_line (lines_of front) (bytes ∷ [])) ∙ ap taken_lines (sym more)

taken_more : (lines : List (Option (List ℕ))) (line : Option (List ℕ)) (room room_left : ℕ) (was ended : Bool) (text now rest : List ℕ) → HasTaken lines room was text now → HandsOut line now room rest room_left ended → HasTaken (lines ++ line ∷ []) room_left ended text rest
taken_more lines line room room_left was ended text now rest h hands =
    let w = first_width now in
    let front = h.front in
    let some = some_left line now rest room room_left ended hands in
    let is = first_taken line now rest room room_left ended some hands in
    let whole : IsWhole front = ⊎_elim (λ (last : (was ≡ true) × (now ≡ [])). absurd (omega (arith, ap length last.1))) (λ (whole : IsWhole front). whole) h.whole in
    let piece = take (w + 1) now in
    let cut : text ≡ (front ++ piece) ++ rest =
    h.cut ∙ ap (λ tail. front ++ tail) (sym (take-append-drop (w + 1) now)) ∙ sym (append_assoc front piece (drop (w + 1) now)) ∙ ap (λ tail. (front ++ piece) ++ tail) (sym hands.behind) in
    let size : length (front ++ piece) + length rest ≡ length front + length now =
    omega (arith, ap length cut, length-append (front ++ piece) rest, ap length h.cut, length-append front now) in
    let counted : room_left + length (front ++ piece) ≡ script_limit = omega (arith, hands.counted, h.counted) in
    elim (cases_lt w (length now)) [
      | inl ends ↦
          let more = ended_more front now whole ends in
          record {
            front = front ++ piece;
            cut = cut;
            taken = more_taken lines line front piece (take w now) h.taken more.1 is;
            whole = inr more.0;
            counted = counted;
          }
      | inr last ↦
          let none : w ≡ length now = omega (arith, first_width-le now) in
          let all : piece ≡ now = take_all (w + 1) now (omega arith) in
          let lines_now : lines_of (front ++ piece) ≡ lines_of front ++ take w now ∷ [] =
          lines_of-append front piece whole ∙ ap (λ bytes. lines_of front ++ lines_of bytes) all
          ∙ ap (λ ls. lines_of front ++ ls) (lines_of-last now none some ∙ ap (λ bytes. bytes ∷ []) (sym (take_all w now (omega arith)))) in
          record {
            front = front ++ piece;
            cut = cut;
            taken = more_taken lines line front piece (take w now) h.taken lines_now is;
            whole = inl (hands.last none, hands.behind ∙ drop_all (w + 1) now (omega arith));
            counted = counted;
          }
    ]

-- ---- how a reading ends

-- what a source gave of what was left it gave of the text
given_of : (lines : List (Option (List ℕ))) (room : ℕ) (ended : Bool) (text kept left now : List ℕ) → HasTaken lines room ended text (kept ++ left) → GivesFront left now → GivesFront text now
given_of lines room ended text kept left now h gives =
    let given = gives.0 in (
      h.front ++ (kept ++ given),
      h.cut ∙ ap (λ rest. h.front ++ (kept ++ rest)) gives.1 ∙ ap (λ rest. h.front ++ rest) (sym (append_assoc kept given now)) ∙ sym (append_assoc h.front (kept ++ given) now),
    )

taken_out : (lines : List (Option (List ℕ))) (room : ℕ) (ended : Bool) (text now left : List ℕ) → HasTaken lines room ended text now → now ≡ [] → left ≡ [] → ReadLines ReadOut text left lines
taken_out lines room ended text now left h none nothing =
    let all : text ≡ h.front = h.cut ∙ ap (λ rest. h.front ++ rest) none ∙ append-nil h.front in
    (omega (arith, ap length all, h.counted), nothing, h.taken ∙ ap (λ bytes. taken_lines (lines_of bytes)) (sym all))

taken_too_much : (lines : List (Option (List ℕ))) (room : ℕ) (ended : Bool) (text now left : List ℕ) → HasTaken lines room ended text now → taken_within room now ≡ [] → length now ≡ room + 1 + length left → GivesFront text left → ReadLines TooMuch text left lines
taken_too_much lines room ended text now left h none size gives =
    let long : length text ≡ script_limit + 1 + length left = omega (arith, ap length h.cut, length-append h.front now, h.counted, size) in
    let given : length gives.0 ≡ script_limit + 1 = omega (arith, ap length gives.1, length-append gives.0 left, long) in (
      omega arith,
      sym (ap (drop (script_limit + 1)) gives.1 ∙ drop_at gives.0 left (script_limit + 1) given),
      sym (taken_first lines room ended text now h ∙ ap (λ others. lines ++ others) none ∙ append-nil lines),
    )

-- the source gave so many more bytes of what was left, with no line end
taken_fault : (lines : List (Option (List ℕ))) (room m : ℕ) (ended : Bool) (text now left : List ℕ) → ended ≡ false → HasTaken lines room ended text now → m ≤ first_width now → m ≤ room → length now ≡ m + length left → GivesFront text left → ReadLines Faulted text left lines
taken_fault lines room m ended text now left asked h no_end few size gives = ⊎_elim
    (λ (last : (ended ≡ true) × (now ≡ [])). absurd (let clash : true ≡ false = sym last.0 ∙ asked in cc))
    (λ (whole : IsWhole h.front).
    let front = h.front in
    let given = gives.0 in
    let within : m ≤ length now = omega arith in
    let long : length given ≡ length front + m =
    omega (arith, ap length gives.1, length-append given left, ap length h.cut, length-append front now) in
    let same : given ≡ front ++ take m now =
    sym (take_at given left (length given) refl) ∙ ap (λ bytes. take (length given) bytes) (sym gives.1 ∙ h.cut) ∙ ap (λ n. take n (front ++ now)) long ∙ take-append-add front now m in
    let width : first_width (take m now) ≡ length (take m now) = first_width-take_none m now no_end ∙ sym (length-take-le m now within) in
    let lines_given : ended_lines given ≡ lines_of front =
    ap ended_lines same ∙ ended_lines-append front (take m now) whole ∙ ap (λ ls. lines_of front ++ ls) (ended_lines-none (take m now) width) ∙ append-nil (lines_of front) in
    (given, gives.1, omega (arith, h.counted), h.taken ∙ ap taken_lines (sym lines_given)))
    h.whole

-- ---- a loop over `next_line`

-- The lines so far, of which P holds. The reader keeps, and the source has left, what stands behind them.
pub record ReadSoFar (P : List (Option (List ℕ)) → Type 0) (kept : Kept) (before left : Option (List ℕ)) : Type 0 where
  pub lines : List (Option (List ℕ))
  pub told : IfTold before left (λ text left. HasTaken lines kept.room kept.ended text (kept.text ++ left))
  pub ended : EndsEmpty kept left
  pub within_room : length kept.text ≤ kept.room + 1
  pub counted : length lines + kept.room ≤ script_limit
  pub good : P lines

-- before the first line
pub read_nothing : {P : List (Option (List ℕ)) → Type 0} {a : Option (List ℕ)} (kept : Kept) → kept.text ≡ [] → kept.room ≡ script_limit → kept.ended ≡ false → P [] → ReadSoFar P kept a a
read_nothing kept none all open_still good = record {
  lines = [];
  told = told_still refl (λ x.
      let T : List ℕ → Type 0 = λ text. HasTaken [] kept.room kept.ended x (text ++ x) in
      let R : ℕ → Type 0 = λ room. HasTaken [] room kept.ended x x in
      subst T (sym none) (subst R (sym all) (taken_nothing kept.ended x)));
  ended = λ is. absurd (let clash : true ≡ false = sym is ∙ open_still in cc);
  within_room = omega (arith, ap length none);
  counted = omega arith;
  good = good;
}

-- a line came, whole or too wide
read_one : {P Q : List (Option (List ℕ)) → Type 0} {kept next : Kept} {a b c : Option (List ℕ)} (line : Option (List ℕ)) → ReadSoFar P kept a b → IfTold b c (λ x y. HandsOut line (kept.text ++ x) kept.room (next.text ++ y) next.room next.ended) → EndsEmpty next c → next.room < kept.room → length next.text ≤ next.room + 1
    → ((lines : List (Option (List ℕ))) → P lines → Q (lines ++ line ∷ [])) → ReadSoFar Q next a c
read_one {kept} {next} line so_far hands ends progress within step = record {
  lines = so_far.lines ++ line ∷ [];
  told = told_on so_far.told hands (λ x y z h. taken_more so_far.lines line kept.room next.room kept.ended next.ended x (kept.text ++ y) (next.text ++ z) h);
  ended = ends;
  within_room = within;
  counted = omega (arith, length-append so_far.lines (line ∷ []), so_far.counted);
  good = step so_far.lines so_far.good;
}

-- a whole line came
pub read_whole : {P Q : List (Option (List ℕ)) → Type 0} {kept next : Kept} {a b c : Option (List ℕ)} {answer : NextLine} → ReadSoFar P kept a b → answer ≡ Whole → AnswersTold (Ok answer) kept b next c → (answer ≢ End → next.room < kept.room) → length next.text ≤ next.room + 1
    → ((lines : List (Option (List ℕ))) → P lines → Q (lines ++ Some next.line ∷ [])) → ReadSoFar Q next a c
read_whole {kept} {next} {b} {c} so_far is answers progress within step =
    let A : NextLine → Type 0 = λ answer. AnswersTold (Ok answer) kept b next c in
    let answered = subst A is answers in
    read_one (Some next.line) so_far (answered.told so_far.ended) (answered.ended so_far.ended) (progress (λ end. let clash : Whole ≡ End = sym is ∙ end in cc)) within step

-- a line came that is too wide
pub read_wide : {P Q : List (Option (List ℕ)) → Type 0} {kept next : Kept} {a b c : Option (List ℕ)} {answer : NextLine} → ReadSoFar P kept a b → answer ≡ TooWide → AnswersTold (Ok answer) kept b next c → (answer ≢ End → next.room < kept.room) → length next.text ≤ next.room + 1
    → ((lines : List (Option (List ℕ))) → P lines → Q (lines ++ None ∷ [])) → ReadSoFar Q next a c
read_wide {kept} {next} {b} {c} so_far is answers progress within step =
    let A : NextLine → Type 0 = λ answer. AnswersTold (Ok answer) kept b next c in
    let answered = subst A is answers in
    read_one None so_far (answered.told so_far.ended) (answered.ended so_far.ended) (progress (λ end. let clash : TooWide ≡ End = sym is ∙ end in cc)) within step

-- the loop stops here
pub read_first : {P : List (Option (List ℕ)) → Type 0} {kept : Kept} {a b : Option (List ℕ)} → ReadSoFar P kept a b → ReadsTo ReadFirst P a b
read_first {kept} so_far = record {
  lines = so_far.lines;
  told = told_as so_far.told (λ x y h. (taken_within kept.room (kept.text ++ y), taken_first so_far.lines kept.room kept.ended x (kept.text ++ y) h));
  good = so_far.good;
}

-- the source has ended
pub read_out : {P : List (Option (List ℕ)) → Type 0} {kept next : Kept} {a b c : Option (List ℕ)} {answer : NextLine} → ReadSoFar P kept a b → answer ≡ End → AnswersTold (Ok answer) kept b next c → ReadsTo (ReadLines ReadOut) P a c
read_out {kept} {next} {b} {c} so_far is answers =
    let A : NextLine → Type 0 = λ answer. AnswersTold (Ok answer) kept b next c in
    record {
      lines = so_far.lines;
      told = told_on so_far.told ((subst A is answers).told so_far.ended) (λ x y z h end. taken_out so_far.lines kept.room kept.ended x (kept.text ++ y) z h end.0.empty (nothing_left next.text z end.1));
      good = so_far.good;
    }
  where
    nothing_left : (kept left : List ℕ) → kept ++ left ≡ [] → left ≡ []
    nothing_left [] left is = is
    nothing_left (byte ∷ kept) left is = absurd cc

-- there are more bytes than the limit
pub read_too_much : {P : List (Option (List ℕ)) → Type 0} {kept next : Kept} {a b c : Option (List ℕ)} {fault : LineEndFault} → ReadSoFar P kept a b → fault ≡ TooLong → AnswersTold (Err fault) kept b next c → IfTold b c GivesFront → length next.text ≤ next.room + 1 → ReadsTo (ReadLines TooMuch) P a c
read_too_much {kept} {next} {b} {c} so_far is answers gives within =
    let A : LineEndFault → Type 0 = λ fault. AnswersTold (Err fault) kept b next c in
    record {
      lines = so_far.lines;
      told = told_on so_far.told (told_with ((subst A is answers).told so_far.ended) gives) (λ x y z h more.
          taken_too_much so_far.lines kept.room kept.ended x (kept.text ++ y) z h more.0.0.lines (omega (arith, more.0.1.size, length-append next.text z, more.0.2.more, more.0.3, within)) (given_of so_far.lines kept.room kept.ended x kept.text y z h more.1));
      good = so_far.good;
    }

-- the source failed
pub read_fault : {P : List (Option (List ℕ)) → Type 0} {kept next : Kept} {a b c : Option (List ℕ)} {fault : LineEndFault} → ReadSoFar P kept a b → fault ≡ ReadFault → AnswersTold (Err fault) kept b next c → IfTold b c GivesFront → (first_width next.text ≡ length next.text) × (length next.text ≤ next.room) → ReadsTo (ReadLines Faulted) P a c
read_fault {kept} {next} {b} {c} so_far is answers gives none =
    let A : LineEndFault → Type 0 = λ fault. AnswersTold (Err fault) kept b next c in
    record {
      lines = so_far.lines;
      told = told_on so_far.told (told_with ((subst A is answers).told so_far.ended) gives) (λ x y z h failed.
          let alike = failed.0.0 in
          taken_fault so_far.lines kept.room (length next.text) kept.ended x (kept.text ++ y) z ((subst A is answers).asked refl) h (omega (arith, none.0, first_width-more next.text z, alike.width)) (omega (arith, none.1, failed.0.1))
          (omega (arith, alike.size, length-append next.text z)) (given_of so_far.lines kept.room kept.ended x kept.text y z h failed.1));
      good = so_far.good;
    }

-- ---- how much was given

-- what an answer took off the room it took off the bytes
counted : (answer : Result NextLine LineEndFault) (text rest : List ℕ) (room : ℕ) (next : Kept) → AnswersNext answer text room next rest → room + length rest ≡ next.room + length text
counted (Ok Whole) text rest room next hands = hands.counted
counted (Ok TooWide) text rest room next hands = hands.counted
counted (Ok End) text rest room next done = omega (arith, ap length done.0.empty, ap length done.1, done.2)
counted (Err TooLong) text rest room next much = omega (arith, much.1.size, much.3)
counted (Err ReadFault) text rest room next failed = omega (arith, failed.0.size, failed.1)

-- whatever the answer, no more was given than the limit and one byte
pub few_given : {P : List (Option (List ℕ)) → Type 0} {kept next : Kept} {a b c : Option (List ℕ)} {answer : Result NextLine LineEndFault} → ReadSoFar P kept a b → AnswersTold answer kept b next c → length next.text ≤ next.room + 1 → IfTold a c (GivesAtMost (script_limit + 1))
few_given {kept} {next} {answer} so_far answers within =
    told_on so_far.told (answers.told so_far.ended) (λ x y z h now.
    omega (arith, ap length h.cut, length-append h.front (kept.text ++ y), h.counted, counted answer (kept.text ++ y) (next.text ++ z) kept.room next now, length-append next.text z))
