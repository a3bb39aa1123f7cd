-- The ballots that the lines of a script spell, as far as they were read.
use Rattle.std.proofs.Common.{◌≡◌, ◌≢◌, ℕ, ◌+◌, List, [], ◌∷◌, ◌++◌, length, map, take, Option, Some, None, refl, ap, sym, subst, ◌∙◌, arith}
use Rattle.store_spec.proofs.Common.{AllZip, AllZip-long, Ballot, Contains-permutation, Election, Invalid, IsListing, IsPermutation-sym, IsWithinLimit, Malformed, Reason, Spells, ended_lines, length-drop, length_permutation, lines_of, lines_within, map_push, script_limit, slice_get, take_at, taken_line, taken_lines}
use Rattle.std.specs.Prelude.{Any, IsPermutation}
use Rattle.script_commands.specs.Build.{HasBadLine, HasTooMuch, IsGoodSoFar}
use Rattle.outside_io.specs.Outside.{IsReadOut}
use Rattle.outside_io.proofs.TakenLines.{IsBehind, line_behind, whole_line, whole_lines, wide_line}
use Rattle.outside_io.proofs.Told.{told_as, told_with}
use Rattle.outside_io.specs.Reading.{ReadLines, ReadFirst, ReadsTo}
use Rattle.outside_io.specs.Reading.Ending.{Faulted, ReadOut, TooMuch}
use Rattle.outside_io.specs.Stream.{GivesAtMost}
use Rattle.outside_io.specs.Told.{IfTold}
use Rattle.ballot_record.proofs.BallotSets.{in_order, in_order-IsPermutation}
use Rattle.ballot_record.proofs.LineFronts.{listing_builds}
use Rattle.ballot_record.proofs.LineLaws.{short_lines}
use Rattle.ballot_record.proofs.Versions.{few_bytes}
use Rattle.store_spec.specs.Build.{Builds, IsFirstBad, IsRefused}
use Rattle.store_spec.specs.Build.Reason.{Duplicate, Conflict, Full}

-- ---- lines and ballots

-- all of these lines were taken whole, and spell these ballots, one for one
abbrev pub AreSpelled : Election → List Ballot → List (Option (List ℕ)) → Type 0
AreSpelled e ballots lines = (whole : List (List ℕ)) × (lines ≡ map Some whole) × AllZip (Spells e) whole ballots

zip_push : (e : Election) (lines : List (List ℕ)) (ballots : List Ballot) (line : List ℕ) (b : Ballot) → AllZip (Spells e) lines ballots → Spells e line b → AllZip (Spells e) (lines ++ line ∷ []) (ballots ++ b ∷ [])
zip_push e [] [] line b each spells = (spells, tt)
zip_push e [] (x ∷ ballots) line b each spells = absurd each
zip_push e (l ∷ lines) [] line b each spells = absurd each
zip_push e (l ∷ lines) (x ∷ ballots) line b each spells = (each.0, zip_push e lines ballots line b each.1 spells)

pub spelled_more : (e : Election) (ballots : List Ballot) (line : List ℕ) (b : Ballot) → Spells e line b → (lines : List (Option (List ℕ))) → AreSpelled e ballots lines → AreSpelled e (ballots ++ b ∷ []) (lines ++ Some line ∷ [])
spelled_more e ballots line b spells lines each =
    (each.0 ++ line ∷ [], ap (λ ls. ls ++ Some line ∷ []) each.1 ∙ sym (map_push Some each.0 line), zip_push e each.0 ballots line b each.2 spells)

-- the lines of a text, where all that are taken of it are these
spelled_lines : (e : Election) (lines : List (List ℕ)) (taken : List (Option (List ℕ))) (ballots : List Ballot) → taken ≡ taken_lines lines → AreSpelled e ballots taken → AllZip (Spells e) lines ballots
spelled_lines e lines taken ballots are each =
    subst (λ (ls : List (List ℕ)). AllZip (Spells e) ls ballots) (sym (whole_lines lines each.0 (sym are ∙ each.1))) each.2

-- ---- a refusal

any_too : (P : Ballot → Type 0) (xs ys : List Ballot) → IsPermutation xs ys → Any P xs → Any P ys
any_too P xs ys p any = let there = Contains-permutation xs ys any.1 p (any.0, any.2, any.3) in (there.0, any.1, there.1, there.2, any.4)

-- a line that is refused after a listing is refused after the set
pub refused_after : (e : Election) (listing set : List Ballot) (bytes : List ℕ) (why : Reason) → IsPermutation listing set → IsRefused e listing bytes why → IsRefused e set bytes why
refused_after e listing set bytes Malformed same refused = refused
refused_after e listing set bytes Invalid same refused = refused
refused_after e listing set bytes Duplicate same refused = (refused.0, refused.1, Contains-permutation listing set refused.0 same refused.2)
refused_after e listing set bytes Conflict same refused = (refused.0, refused.1, any_too (λ other. (other.number ≡ refused.0.number) × (other ≢ refused.0)) listing set same refused.2)
refused_after e listing set bytes Full same refused = (
  refused.0,
  refused.1,
  λ any. refused.2 (any_too (λ other. other.number ≡ refused.0.number) set listing (IsPermutation-sym listing set same) any),
  length_permutation listing set same ∙ refused.3,
)

-- ---- the first bad line

take_front : {A : Type 0} (front : List A) (x : A) (rest : List A) → take (length front) (front ++ x ∷ rest) ≡ front
take_front front x rest = take_at front (x ∷ rest) (length front) refl

slice_get_front : {A : Type 0} (front : List A) (x : A) (rest : List A) → slice_get (front ++ x ∷ rest) (length front) ≡ Some x
slice_get_front [] x rest = refl
slice_get_front (y ∷ front) x rest = slice_get_front front x rest

-- those before it spell a listing, and it is refused after that
first_bad : (e : Election) (lines whole : List (List ℕ)) (taken : Option (List ℕ)) (listing : List Ballot) (why : Reason) → IsBehind lines whole taken → AllZip (Spells e) whole listing → IsListing e listing → IsWithinLimit e listing
    → ((bytes : List ℕ) → taken_line bytes ≡ taken → IsRefused e listing bytes why) → IsFirstBad e lines (length listing + 1) why
first_bad e lines whole taken listing why a each is few refused =
    let built = listing_builds e whole listing each is few in
    let P : List (List ℕ) → Type 0 = λ lines. IsFirstBad e lines (length listing + 1) why in
    subst P (sym a.stands) (record {
      index = length whole;
      counted = ap (λ n. n + 1) (AllZip-long (Spells e) whole listing each);
      bytes = a.bytes;
      stands = slice_get_front whole a.bytes a.others;
      before = in_order listing;
      good = subst (λ (ls : List (List ℕ)). Builds e ls (in_order listing)) (sym (take_front whole a.bytes a.others)) built;
      refused = refused_after e listing (in_order listing) a.bytes why (in_order-IsPermutation listing) (refused a.bytes a.taken);
    })

-- the lines so far spell these ballots, and one more was taken
abbrev pub AreSpelledBut : Election → List Ballot → Option (List ℕ) → List (Option (List ℕ)) → Type 0
AreSpelledBut e ballots taken lines = (read : List (Option (List ℕ))) × AreSpelled e ballots read × (lines ≡ read ++ taken ∷ [])

pub told_bad : {a b : Option (List ℕ)} (e : Election) (taken : Option (List ℕ)) (listing : List Ballot) (why : Reason) → IsListing e listing → IsWithinLimit e listing → ((bytes : List ℕ) → taken_line bytes ≡ taken → IsRefused e listing bytes why)
    → (reads : ReadsTo ReadFirst (AreSpelledBut e listing taken) a b) → IfTold a b (GivesAtMost (script_limit + 1)) → IfTold a b (HasBadLine e (length listing + 1) why)
told_bad e taken listing why is few refused reads given =
    let read = reads.good in
    let whole = read.1.0 in
    told_as (told_with reads.told given) (λ x y h.
    let lines = lines_within script_limit x in
    let cut : taken_lines lines ≡ (map Some whole ++ taken ∷ []) ++ h.0.0 = h.0.1 ∙ ap (λ ls. ls ++ h.0.0) (read.2 ∙ ap (λ front. front ++ taken ∷ []) read.1.1) in
    (first_bad e lines whole taken listing why (line_behind lines whole taken h.0.0 cut) read.1.2 is few refused, h.1))

pub refused_whole : (e : Election) (listing : List Ballot) (line : List ℕ) (why : Reason) → IsRefused e listing line why → (bytes : List ℕ) → taken_line bytes ≡ Some line → IsRefused e listing bytes why
refused_whole e listing line why refused bytes is = subst (λ (l : List ℕ). IsRefused e listing l why) (sym (whole_line bytes line is)) refused

-- a line that is too wide is none of the grammar
pub refused_wide : (e : Election) (listing : List Ballot) (bytes : List ℕ) → taken_line bytes ≡ None → IsRefused e listing bytes Malformed
refused_wide e listing bytes is line = omega (arith, short_lines e bytes line, few_bytes e, wide_line bytes is)

-- ---- how the reading ended

pub told_all : {a b : Option (List ℕ)} (e : Election) (listing : List Ballot) → ReadsTo (ReadLines ReadOut) (AreSpelled e listing) a b → IfTold a b (λ text left. IsReadOut text left × AllZip (Spells e) (lines_of text) listing)
told_all e listing reads = told_as reads.told (λ x y h. ((h.0, h.1), spelled_lines e (lines_of x) reads.lines listing h.2 reads.good))

pub told_too_much : {a b : Option (List ℕ)} (e : Election) (listing : List Ballot) → IsListing e listing → IsWithinLimit e listing → ReadsTo (ReadLines TooMuch) (AreSpelled e listing) a b → IfTold a b (HasTooMuch e)
told_too_much e listing is few reads = told_as reads.told (λ x y h.
    let each = spelled_lines e (lines_within script_limit x) reads.lines listing h.2 reads.good in
    (omega (arith, h.0, ap length h.1, length-drop (script_limit + 1) x), in_order listing, listing_builds e (lines_within script_limit x) listing each is few))

pub told_fault : {a b : Option (List ℕ)} (e : Election) (listing : List Ballot) → IsListing e listing → IsWithinLimit e listing → ReadsTo (ReadLines Faulted) (AreSpelled e listing) a b → IfTold a b (IsGoodSoFar e)
told_fault e listing is few reads = told_as reads.told (λ x y ended.
    let each = spelled_lines e (ended_lines ended.0) reads.lines listing ended.3 reads.good in
    (ended.0, ended.1, ended.2, in_order listing, listing_builds e (ended_lines ended.0) listing each is few))
