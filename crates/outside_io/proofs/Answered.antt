-- What a call of `next_line` answers, from what its parts do.
use Rattle.std.proofs.Common.{◌≡◌, ℕ, Bool, true, false, ◌+◌, ◌<◌, ◌≤◌, List, [], ◌∷◌, ◌++◌, length, take, drop, map, Option, Some, None, Ok, Err, refl, ap, sym, ◌∙◌, subst, inl, inr, arith, append_assoc, length-append, length-drop, length-take}
use Rattle.store_spec.proofs.Common.{IsErrAnd, IsTooLong, Result, append-nil, cases_lt, drop-append-le, drop-drop, drop_all, drop_at, first_width, line_limit, nil_from_length, take-append-le, take_all, taken_line, taken_within}
use Rattle.std.specs.Option.{IfSome}
use Rattle.outside_io.specs.declared.lines.LineEndFault.TheVariants.{TooLong, ReadFault}
use Rattle.outside_io.specs.declared.lines.LineEndFault.{LineEndFault}
use Rattle.outside_io.specs.Lines.{HandsOut, EndsEmpty, LooksLike, AnswersNext, AnswersTold, CutsOff, StaysSame, TakesLast}
use Rattle.outside_io.specs.declared.lines.NextLine.{NextLine}
use Rattle.outside_io.specs.declared.lines.NextLine.TheVariants.{Whole, TooWide, End}
use Rattle.outside_io.specs.Stream.{Gives}
use Rattle.outside_io.specs.Told.{IfTold}
use Rattle.outside_io.specs.Window.{Kept}
use Rattle.outside_io.proofs.TakenLines.{taken_line-narrow, taken_line-wide}
use Rattle.outside_io.proofs.Told.{told_still, told_as, told_on, told_given, told_holds}
use Rattle.outside_io.proofs.FirstLine.{first_width-le, first_width-append, first_width-more, first_width-same, lines_within-first, lines_within-none, lines_within-too_long}

-- ---- texts that look alike

pub looks_same : (text : List ℕ) → LooksLike text text
looks_same text = record { width = refl; line = refl; behind = refl; size = refl }

pub looks_on : (a b c : List ℕ) → LooksLike a b → LooksLike b c → LooksLike a c
looks_on a b c ab bc = record {
  width = bc.width ∙ ab.width;
  line = ap (λ n. taken_line (take n c)) (sym ab.width) ∙ bc.line ∙ ap (λ n. taken_line (take n b)) ab.width ∙ ab.line;
  behind = ap (λ n. drop n c) (sym ab.width) ∙ bc.behind ∙ ap (λ n. drop n b) ab.width ∙ ab.behind;
  size = bc.size ∙ ab.size;
}

-- the first line with a wide front is too wide
wide_first : (front rest : List ℕ) (n : ℕ) → line_limit < length front → n ≡ length front + first_width rest → taken_line (take n (front ++ rest)) ≡ None
wide_first front rest n wide is =
    taken_line-wide (take n (front ++ rest)) (omega (arith, length-take n (front ++ rest), length-append front rest, first_width-le rest))

behind_front : (front rest : List ℕ) (n : ℕ) → n ≡ length front + first_width rest → drop n (front ++ rest) ≡ drop (first_width rest) rest
behind_front front rest n is =
    ap (λ k. drop k (front ++ rest)) is ∙ sym (drop-drop (first_width rest) (length front) (front ++ rest))
    ∙ ap (λ others. drop (first_width rest) others) (drop_at front rest (length front) refl)

pub looks_forgotten : (a b rest : List ℕ) → first_width a ≡ length a → first_width b ≡ length b → length b ≡ length a → (length a ≤ line_limit → b ≡ a) → LooksLike (a ++ rest) (b ++ rest)
looks_forgotten a b rest none_a none_b same narrow = elim (cases_lt line_limit (length a)) [
  | inl wide ↦
      let width_a = first_width-append a rest none_a in
      let width_b = first_width-append b rest none_b in
      record {
        width = omega arith;
        line = wide_first b rest (first_width (a ++ rest)) (omega arith) (omega arith) ∙ sym (wide_first a rest (first_width (a ++ rest)) wide width_a);
        behind = behind_front b rest (first_width (a ++ rest)) (omega arith) ∙ sym (behind_front a rest (first_width (a ++ rest)) width_a);
        size = omega (arith, length-append a rest, length-append b rest);
      }
  | inr few ↦
      let P : List ℕ → Type 0 = λ front. LooksLike (a ++ rest) (front ++ rest) in
      subst P (sym (narrow few)) (looks_same (a ++ rest))
]

pub too_long_alike : (before now : List ℕ) (room : ℕ) → LooksLike before now → IsTooLong now room → IsTooLong before room
too_long_alike before now room alike long = record {
  more = omega (arith, alike.size, long.more);
  no_end = omega (arith, alike.width, long.no_end);
}

pub too_long_more : (text rest : List ℕ) (room : ℕ) → IsTooLong text room → IsTooLong (text ++ rest) room
too_long_more text rest room long = record {
  more = omega (arith, length-append text rest, long.more);
  no_end = omega (arith, first_width-more text rest, long.no_end);
}

-- ---- what is kept and left, where the source tells its bytes

-- a piece came behind what was kept, of which a front may have been forgotten
pub filled : {before after : Option (List ℕ)} (old mid now piece : List ℕ) → first_width old ≡ length old → first_width mid ≡ length mid → length mid ≡ length old → (length old ≤ line_limit → mid ≡ old) → now ≡ mid ++ piece → Gives before piece after → IfTold before after (λ x y. LooksLike (old ++ x) (now ++ y))
filled old mid now piece none_old none_mid same narrow is gives =
    told_given piece gives (λ x y given.
    let joined : mid ++ x ≡ now ++ y = ap (λ rest. mid ++ rest) given ∙ sym (append_assoc mid piece y) ∙ ap (λ front. front ++ y) (sym is) in
    let P : List ℕ → Type 0 = λ text. LooksLike (old ++ x) text in
    subst P joined (looks_forgotten old mid x none_old none_mid same narrow))

-- nothing came behind what was kept, of which a front may have been forgotten
pub not_filled : {before after : Option (List ℕ)} (old mid now : List ℕ) → first_width old ≡ length old → first_width mid ≡ length mid → length mid ≡ length old → (length old ≤ line_limit → mid ≡ old) → now ≡ mid → after ≡ before → IfTold before after (λ x y. LooksLike (old ++ x) (now ++ y))
not_filled old mid now none_old none_mid same narrow is still =
    told_still still (λ x.
    let P : List ℕ → Type 0 = λ text. LooksLike (old ++ x) text in
    subst P (ap (λ front. front ++ x) (sym is)) (looks_forgotten old mid x none_old none_mid same narrow))

-- an empty piece came from a source that has ended
pub still_ended : (before after : Option (List ℕ)) (piece : List ℕ) → Gives before piece after → piece ≡ [] → IfSome before (λ left. left ≡ []) → IfSome after (λ left. left ≡ [])
still_ended before None piece gives nothing ended = tt
still_ended before (Some y) piece gives nothing ended =
    let all : piece ++ y ≡ [] = told_holds (λ left. left ≡ []) (piece ++ y) gives ended in
    sym (ap (λ front. front ++ y) nothing) ∙ all

-- ---- the answers

-- the first line of a text and what stands behind it, from those of a text that looks like it
hands_alike : (line : Option (List ℕ)) (text all rest : List ℕ) (room room_left : ℕ) (ended : Bool) → LooksLike text all → (first_width all ≡ length all → ended ≡ true) → 0 < length all → ¬ IsTooLong all room → taken_line (take (first_width all) all) ≡ line → rest ≡ drop (first_width all + 1) all → room + length rest ≡ room_left + length all → HandsOut line text room rest room_left ended
hands_alike line text all rest room room_left ended alike last some short taken behind counted =
    let w = first_width text in
    let width : first_width all + 1 ≡ w + 1 = ap (λ n. n + 1) alike.width in
    let behind_text : rest ≡ drop (w + 1) text =
    behind ∙ ap (λ n. drop n all) width ∙ sym (drop-drop 1 w all) ∙ ap (λ others. drop 1 others) alike.behind ∙ drop-drop 1 w text in
    let within : ¬ IsTooLong text room = λ long. short (record { more = omega (arith, alike.size, long.more); no_end = omega (arith, alike.width, long.no_end) }) in
    let first : taken_line (take w text) ≡ line = sym alike.line ∙ ap (λ n. taken_line (take n all)) (sym alike.width) ∙ taken in
    let counted_text : room + length (drop (w + 1) text) ≡ room_left + length text = omega (arith, counted, alike.size, ap length behind_text) in
    record {
      lines = ap (map taken_line) (lines_within-first room room_left text (omega (arith, alike.size)) within counted_text)
          ∙ ap (λ taken. taken ∷ taken_within room_left (drop (w + 1) text)) first ∙ ap (λ others. line ∷ taken_within room_left others) (sym behind_text);
      behind = behind_text;
      counted = omega (arith, counted, alike.size);
      within = within;
      last = λ none. last (alike.width ∙ none ∙ sym alike.size);
    }

-- a line was cut off
cut_hands : (line : Option (List ℕ)) (old now : Kept) (text left : List ℕ) (room : ℕ) → LooksLike text (old.text ++ left) → old.room ≡ room → first_width old.text < length old.text → first_width old.text < old.room → now.text ≡ drop (first_width old.text + 1) old.text → old.room ≡ now.room + (first_width old.text + 1) → taken_line (take (first_width old.text) old.text) ≡ line → HandsOut line text room (now.text ++ left) now.room now.ended
cut_hands line old now text left room alike same ends within rest counted taken =
    let w = first_width old.text in
    let all = old.text ++ left in
    let width : first_width all ≡ w = first_width-same old.text left ends in
    let size = length-append old.text left in
    let behind : drop (w + 1) all ≡ now.text ++ left = drop-append-le (w + 1) old.text left (omega arith) ∙ ap (λ front. front ++ left) (sym rest) in
    let first : taken_line (take (first_width all) all) ≡ line =
    ap (λ n. taken_line (take n all)) width ∙ ap taken_line (take-append-le w old.text left (omega arith)) ∙ taken in
    hands_alike line text all (now.text ++ left) room now.room now.ended alike (λ none. absurd (omega arith)) (omega arith) (λ long. absurd (omega (arith, long.no_end))) first
    (sym behind ∙ ap (λ n. drop (n + 1) all) (sym width)) (omega (arith, ap length behind, length-drop (w + 1) all))

-- the last line was handed out
last_hands : (line : Option (List ℕ)) (old now : Kept) (text : List ℕ) (room : ℕ) → LooksLike text (old.text ++ []) → old.room ≡ room → first_width old.text ≡ length old.text → length old.text ≤ old.room → 0 < length old.text → now.text ≡ [] → old.room ≡ now.room + length old.text → now.ended ≡ true → taken_line old.text ≡ line → HandsOut line text room (now.text ++ []) now.room now.ended
last_hands line old now text room alike same none within some rest counted ended taken =
    let all = old.text ++ [] in
    let is : all ≡ old.text = append-nil old.text in
    let nothing : now.text ++ [] ≡ [] = append-nil now.text ∙ rest in
    let size : length all ≡ length old.text = ap length is in
    let width : first_width all ≡ length old.text = ap first_width is ∙ none in
    hands_alike line text all (now.text ++ []) room now.room now.ended alike (λ _. ended) (omega arith) (λ long. absurd (omega (arith, long.more)))
    (ap taken_line (take_all (first_width all) all (omega arith) ∙ is) ∙ taken)
    (nothing ∙ sym (drop_all (first_width all + 1) all (omega arith))) (omega (arith, ap length nothing))

pub answers_line : (answer : NextLine) (old now : Kept) (text left : List ℕ) (room : ℕ) → LooksLike text (old.text ++ left) → old.room ≡ room → CutsOff answer old now → AnswersNext (Ok answer) text room now (now.text ++ left)
answers_line Whole old now text left room alike same cut =
    cut_hands (Some now.line) old now text left room alike same cut.ends cut.within cut.rest cut.room
    (taken_line-narrow (take (first_width old.text) old.text) cut.answer.0 ∙ ap Some (sym cut.answer.1))
answers_line TooWide old now text left room alike same cut =
    cut_hands None old now text left room alike same cut.ends cut.within cut.rest cut.room (taken_line-wide (take (first_width old.text) old.text) cut.answer)
answers_line End old now text left room alike same cut = absurd cut.answer

answers_end : (answer : NextLine) (old now : Kept) (text : List ℕ) (room : ℕ) → LooksLike text (old.text ++ []) → old.room ≡ room → first_width old.text ≡ length old.text → length old.text ≤ old.room → TakesLast answer old now → AnswersNext (Ok answer) text room now (now.text ++ [])
answers_end Whole old now text room alike same none within last =
    last_hands (Some now.line) old now text room alike same none within last.0 last.1 last.2 last.3 (taken_line-narrow old.text last.4.0 ∙ ap Some (sym last.4.1))
answers_end TooWide old now text room alike same none within last =
    last_hands None old now text room alike same none within last.0 last.1 last.2 last.3 (taken_line-wide old.text last.4)
answers_end End old now text room alike same none within last =
    let empty : old.text ++ [] ≡ [] = append-nil old.text ∙ last.0 in
    let nothing : text ≡ [] = nil_from_length text (omega (arith, alike.size, ap length empty)) in
    let lines : taken_within room text ≡ [] = ap (λ bytes. taken_within room bytes) nothing ∙ ap (map taken_line) (lines_within-none room) in
    (record { lines = lines; empty = nothing }, append-nil now.text ∙ last.1, last.2 ∙ same, last.3)

pub answers_last : (answer : NextLine) (old now : Kept) (text left : List ℕ) (room : ℕ) → LooksLike text (old.text ++ left) → old.room ≡ room → first_width old.text ≡ length old.text → length old.text ≤ old.room → left ≡ [] → TakesLast answer old now → AnswersNext (Ok answer) text room now (now.text ++ left)
answers_last answer old now text left room alike same none within ended last =
    let P : List ℕ → Type 0 = λ left. LooksLike text (old.text ++ left) → AnswersNext (Ok answer) text room now (now.text ++ left) in
    subst P (sym ended) (λ alike. answers_end answer old now text room alike same none within last) alike

-- ---- the same, where the source tells its bytes

-- what was kept and left before looks like what is kept and left
abbrev pub Alike : Kept → Kept → Option (List ℕ) → Option (List ℕ) → Type 0
Alike old now before left = IfTold before left (λ x y. LooksLike (old.text ++ x) (now.text ++ y))

-- and a further piece was read
pub alike_more : {a b c : Option (List ℕ)} (old mid cut now : Kept) → Alike old mid a b → cut.text ≡ mid.text → IfTold b c (λ x y. LooksLike (cut.text ++ x) (now.text ++ y)) → Alike old now a c
alike_more {b} {c} old mid cut now alike still filled =
    let P : List ℕ → Type 0 = λ text. IfTold b c (λ x y. LooksLike (text ++ x) (now.text ++ y)) in
    told_on alike (subst P still filled) (λ x y z. looks_on (old.text ++ x) (mid.text ++ y) (now.text ++ z))

-- Where the end of the source is known at a turn of the loop, it was known before the first, and nothing was done since.
abbrev pub EndedBefore : Kept → Kept → Option (List ℕ) → Option (List ℕ) → Type 0
EndedBefore old mid before left = mid.ended ≡ true → (mid ≡ old) × (left ≡ before)

-- then nothing is kept, and the source has nothing left
ended_still : (before left : Option (List ℕ)) (old mid : Kept) → EndedBefore old mid before left → EndsEmpty old before → EndsEmpty mid left
ended_still before left old mid known ends is =
    let same = known is in
    let was = ends (ap (λ (kept : Kept). kept.ended) (sym same.0) ∙ is) in
    (ap (λ (kept : Kept). kept.text) same.0 ∙ was.0, subst (λ (o : Option (List ℕ)). IfSome o (λ rest. rest ≡ [])) (sym same.1) was.1)

pub told_line : (answer : NextLine) (before left : Option (List ℕ)) (old mid now : Kept) → Alike old mid before left → mid.room ≡ old.room → EndedBefore old mid before left → CutsOff answer mid now → AnswersTold (Ok answer) old before now left
told_line answer before left old mid now alike same known cut = record {
  told = λ ends. told_as alike (λ x y looks. answers_line answer mid now (old.text ++ x) y old.room looks same cut);
  ended = λ ends is. absurd (omega (arith, cut.ends, ap length (ended_still before left old mid known ends (sym cut.ended ∙ is)).0));
  asked = λ failed. absurd (cc);
}

too_long_now : (old mid now : Kept) (x y : List ℕ) → mid.room ≡ old.room → IsTooLong mid.text mid.room → StaysSame mid now → LooksLike (old.text ++ x) (mid.text ++ y) → AnswersNext (Err TooLong) (old.text ++ x) old.room now (now.text ++ y)
too_long_now old mid now x y same long still alike =
    let P : List ℕ → Type 0 = λ text. LooksLike (old.text ++ x) (text ++ y) in
    let R : ℕ → Type 0 = λ room. IsTooLong mid.text room in
    let T : List ℕ → Type 0 = λ text. IsTooLong text now.room in
    let long_now : IsTooLong mid.text now.room = subst R (sym still.room) long in
    let long_old : IsTooLong mid.text old.room = subst R same long in
    let too_long = too_long_alike (old.text ++ x) (mid.text ++ y) old.room alike (too_long_more mid.text y old.room long_old) in
    (record { lines = ap (map taken_line) (lines_within-too_long old.room (old.text ++ x) too_long); too_long = too_long }, subst P (sym still.text) alike, subst T (sym still.text) long_now, still.room ∙ same)

pub told_too_long : (before left : Option (List ℕ)) (old mid now : Kept) → Alike old mid before left → mid.room ≡ old.room → EndedBefore old mid before left → IsTooLong mid.text mid.room → StaysSame mid now → AnswersTold (Err TooLong) old before now left
told_too_long before left old mid now alike same known long still = record {
  told = λ ends. told_as alike (λ x y looks. too_long_now old mid now x y same long still looks);
  ended = λ ends is. absurd (omega (arith, long.more, ap length (ended_still before left old mid known ends (sym still.ended ∙ is)).0));
  asked = λ failed. absurd (cc);
}

pub told_last : (answer : NextLine) (before left : Option (List ℕ)) (old mid now : Kept) → Alike old mid before left → mid.room ≡ old.room → first_width mid.text ≡ length mid.text → length mid.text ≤ mid.room → (EndsEmpty old before → IfSome left (λ rest. rest ≡ [])) → TakesLast answer mid now → AnswersTold (Ok answer) old before now left
told_last answer before left old mid now alike same none within ended last = record {
  told = λ ends. record {
    told = alike.told;
    related = λ x y was is. answers_last answer mid now (old.text ++ x) y old.room (alike.related x y was is) same none within (told_holds (λ rest. rest ≡ []) y is (ended ends)) last;
  };
  ended = λ ends is. (last_taken answer mid now last, ended ends);
  asked = λ failed. absurd (cc);
}
  where
    last_taken : (answer : NextLine) (mid now : Kept) → TakesLast answer mid now → now.text ≡ []
    last_taken Whole mid now last = last.1
    last_taken TooWide mid now last = last.1
    last_taken End mid now last = last.1

-- the source failed
pub told_fault : (answer : Result NextLine LineEndFault) (before left : Option (List ℕ)) (old now : Kept) → IsErrAnd answer (λ fault. fault ≡ ReadFault) → Alike old now before left → now.room ≡ old.room → old.ended ≡ false → now.ended ≡ false → AnswersTold answer old before now left
told_fault (Ok line) before left old now failed alike same open_before open_now = absurd failed
told_fault (Err fault) before left old now failed alike same open_before open_now =
    let P : LineEndFault → Type 0 = λ fault. AnswersTold (Err fault) old before now left in
    subst P (sym failed) (record {
      told = λ ends. told_as alike (λ x y looks. (looks, same));
      ended = λ ends is. absurd (cc);
      asked = λ _. open_before;
    })
