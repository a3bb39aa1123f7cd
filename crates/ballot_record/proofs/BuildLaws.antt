-- Why lines build one thing.
use Rattle.std.proofs.Common.{◌≡◌, ◌≢◌, ℕ, zero, suc, ◌<◌, List, [], ◌∷◌, length, get_or, set, take, Some, Ok, Err, refl, ap, sym, subst, ◌∙◌, inl, inr, arith}
use Rattle.store_spec.proofs.Common.{AllZip, AllZip-long, Ballot, Contains-permutation, Election, Invalid, IsLineOf, IsListing, IsPermutation, IsPermutation-refl, IsPermutation-sym, IsPermutation-trans, IsRecordLine, Malformed, Reason, Result, Spells, cases_eq, cases_lt, get_or-take, get_or_default, length-take-le, length_permutation, slice_get, swap, take-take}
use Rattle.std.proofs.lemmas.List.Edits.{swap_is}
use Rattle.std.proofs.lemmas.List.Sorted.{IsPermutation-keeps, IsPermutation-swap}
use Rattle.std.specs.Prelude.{◌↔◌, Any, Contains, AllPairs}
use Rattle.store_spec.specs.Build.{Builds, BuiltFrom, IsFirstBad, IsRefused}
use Rattle.store_spec.specs.Build.Reason.{Duplicate, Conflict, Full}
use Rattle.ballot_record.proofs.BallotNumbers.{no_ballot}
use Rattle.ballot_record.proofs.BallotSets.{listing_from_set, listing_of_set, same_in_order, same_members}
use Rattle.ballot_record.proofs.LineLaws.{one_ballot}
use Rattle.ballot_record.proofs.Lookups.{AreAmong}

same_ballots : (e : Election) (lines : List (List ℕ)) (xs ys : List Ballot) → AllZip (Spells e) lines xs → AllZip (Spells e) lines ys → xs ≡ ys
same_ballots e [] [] [] x y = refl
same_ballots e [] [] (b ∷ ys) x y = absurd y
same_ballots e [] (b ∷ xs) ys x y = absurd x
same_ballots e (l ∷ ls) [] ys x y = absurd x
same_ballots e (l ∷ ls) (a ∷ xs) [] x y = absurd y
same_ballots e (l ∷ ls) (a ∷ xs) (b ∷ ys) x y =
    ap (λ first. first ∷ xs) (one_ballot e l a b x.0 y.0) ∙ ap (λ rest. b ∷ rest) (same_ballots e ls xs ys x.1 y.1)

-- a line among lines that spell ballots, and those before it
record Stands (e : Election) (lines : List (List ℕ)) (ballots : List Ballot) (i : ℕ) (bytes : List ℕ) : Type 0 where
  ballot : Ballot
  spells : Spells e bytes ballot
  place : i < length ballots
  is : (d : Ballot) → get_or ballots i d ≡ ballot
  before : AllZip (Spells e) (take i lines) (take i ballots)

stands : (e : Election) (lines : List (List ℕ)) (ballots : List Ballot) (i : ℕ) (bytes : List ℕ) → AllZip (Spells e) lines ballots → slice_get lines i ≡ Some bytes → Stands e lines ballots i bytes
stands e [] ballots i bytes all here = absurd cc
stands e (l ∷ ls) [] i bytes all here = absurd all
stands e (l ∷ ls) (b ∷ bs) zero bytes all here =
    let same : l ≡ bytes = cc in
    let P : List ℕ → Type 0 = λ line. Spells e line b in
    record { ballot = b; spells = subst P same all.0; place = omega arith; is = λ d. refl; before = tt }
stands e (l ∷ ls) (b ∷ bs) (suc i) bytes all here =
    let rest = stands e ls bs i bytes all.1 here in
    record { ballot = rest.ballot; spells = rest.spells; place = omega (arith, rest.place); is = λ d. rest.is d; before = (all.0, rest.before) }

-- no other ballot before it has its number
numbered_before : (ballots : List Ballot) (i : ℕ) (b : Ballot) → AllPairs (λ x y. x.number ≢ y.number) ballots → i < length ballots → ((d : Ballot) → get_or ballots i d ≡ b) → ¬ Any (λ other. other.number ≡ b.number) (take i ballots)
numbered_before ballots i b distinct place is any =
    let size = length-take-le i ballots (omega arith) in
    let before : any.0 < i = omega (arith, any.2, size) in
    let other = any.1 in
    let there : get_or ballots any.0 other ≡ other = sym (get_or-take i ballots any.0 other before) ∙ any.3 in
    distinct any.0 i other before place (ap (λ (x : Ballot). x.number) there ∙ any.4 ∙ sym (ap (λ (x : Ballot). x.number) (is other)))

contained : (ballots : List Ballot) (b : Ballot) → Contains ballots b → Any (λ other. other.number ≡ b.number) ballots
contained ballots b c = (c.0, b, c.1, c.2, refl)

-- a line of a set, after the ballots of the lines before it, is not refused
accepted : (e : Election) (bytes : List ℕ) (before : List Ballot) (b : Ballot) (why : Reason) → Spells e bytes b → ¬ Any (λ other. other.number ≡ b.number) before → length before < e.limit → IsRefused e before bytes why → ⊥
accepted e bytes before b Malformed spells new room bad = bad (spells.line, spells.reads)
accepted e bytes before b Invalid spells new room bad = bad.1 (b, spells)
accepted e bytes before b Duplicate spells new room bad =
    let P : Ballot → Type 0 = λ b. Any (λ other. other.number ≡ b.number) before in
    new (subst P (one_ballot e bytes bad.0 b bad.1 spells) (contained before bad.0 bad.2))
accepted e bytes before b Conflict spells new room bad =
    let same = one_ballot e bytes bad.0 b bad.1 spells in
    let other = bad.2 in
    new (other.0, other.1, other.2, other.3, other.4.0 ∙ ap (λ (x : Ballot). x.number) same)
accepted e bytes before b Full spells new room bad = omega (arith, bad.3)

-- who has a number in a list has it in the list in another order
numbered_too : (xs ys : List Ballot) (b : Ballot) → IsPermutation xs ys → Any (λ other. other.number ≡ b.number) xs → Any (λ other. other.number ≡ b.number) ys
numbered_too xs ys b p any =
    let there = Contains-permutation xs ys any.1 p (any.0, any.2, any.3) in
    (there.0, any.1, there.1, there.2, any.4)

not_refused : (e : Election) (lines : List (List ℕ)) (ballots before : List Ballot) (i : ℕ) (bytes : List ℕ) (why : Reason) → Builds e lines ballots → slice_get lines i ≡ Some bytes → Builds e (take i lines) before → IsRefused e before bytes why → ⊥
not_refused e lines ballots before i bytes why good here prefix bad =
    let listing = good.listing in
    let s = stands e lines listing i bytes good.each here in
    let same : prefix.listing ≡ take i listing = same_ballots e (take i lines) prefix.listing (take i listing) prefix.each s.before in
    let apart = listing_of_set e listing ballots good.same good.set in
    let new = numbered_before listing i s.ballot apart.distinct s.place s.is in
    let moved : IsPermutation before (take i listing) =
    subst (λ (front : List Ballot). IsPermutation before front) same (IsPermutation-sym prefix.listing before prefix.same) in
    let size = length-take-le i listing (omega (arith, s.place)) in
    let count = length_permutation before (take i listing) moved in
    let whole = length_permutation listing ballots good.same in
    accepted e bytes before s.ballot why s.spells (λ any. new (numbered_too before (take i listing) s.ballot moved any)) (omega (arith, s.place, size, count, whole, good.within_limit)) bad

-- ---- one reason

-- a line that is refused in spite of its ballot
twice_or_not : (ballots : List Ballot) (b : Ballot) → AllPairs (λ x y. x.number ≢ y.number) ballots → Contains ballots b → Any (λ other. (other.number ≡ b.number) × (other ≢ b)) ballots → ⊥
twice_or_not ballots b distinct has other =
    let k = has.0 in
    let l = other.0 in
    let x = other.1 in
    let at_k : get_or ballots k b ≡ b = has.2 in
    let at_l : get_or ballots l x ≡ x = other.3 in
    let number_k : (d : Ballot) → (get_or ballots k d).number ≡ b.number = λ d. ap (λ (x : Ballot). x.number) (get_or_default ballots k d b has.1 ∙ at_k) in
    let number_l : (d : Ballot) → (get_or ballots l d).number ≡ x.number = λ d. ap (λ (x : Ballot). x.number) (get_or_default ballots l d x other.2 ∙ at_l) in
    elim (cases_lt k l) [
      | inl less ↦ distinct k l b less other.2 (number_k b ∙ sym other.4.0 ∙ sym (number_l b))
      | inr more ↦ elim (cases_eq k l) [
        | inl same ↦ other.4.1 (sym at_l ∙ get_or_default ballots l x b other.2 ∙ ap (λ n. get_or ballots n b) (sym same) ∙ at_k)
        | inr apart ↦ distinct l k b (omega arith) has.1 (number_l b ∙ other.4.0 ∙ sym (number_k b))
      ]
    ]

duplicate_conflict : (e : Election) (before : List Ballot) (bytes : List ℕ) → IsListing e before → IsRefused e before bytes Duplicate → IsRefused e before bytes Conflict → ⊥
duplicate_conflict e before bytes set x y =
    let P : Ballot → Type 0 = λ b. Contains before b in
    twice_or_not before y.0 set.distinct (subst P (one_ballot e bytes x.0 y.0 x.1 y.1) x.2) y.2

duplicate_full : (e : Election) (before : List Ballot) (bytes : List ℕ) → IsRefused e before bytes Duplicate → IsRefused e before bytes Full → ⊥
duplicate_full e before bytes x y =
    let P : Ballot → Type 0 = λ b. Any (λ other. other.number ≡ b.number) before in
    y.2 (subst P (one_ballot e bytes x.0 y.0 x.1 y.1) (contained before x.0 x.2))

conflict_full : (e : Election) (before : List Ballot) (bytes : List ℕ) → IsRefused e before bytes Conflict → IsRefused e before bytes Full → ⊥
conflict_full e before bytes x y =
    let same = one_ballot e bytes x.0 y.0 x.1 y.1 in
    let other = x.2 in
    y.2 (other.0, other.1, other.2, other.3, other.4.0 ∙ ap (λ (b : Ballot). b.number) same)

line_of : (e : Election) (bytes : List ℕ) → IsLineOf e bytes → IsRecordLine e bytes
line_of e bytes is = (is.1.line, is.1.reads)

one_reason : (e : Election) (before : List Ballot) (bytes : List ℕ) (x y : Reason) → IsListing e before → IsRefused e before bytes x → IsRefused e before bytes y → x ≡ y
one_reason e before bytes Malformed Malformed set x y = refl
one_reason e before bytes Malformed Invalid set x y = absurd (x y.0)
one_reason e before bytes Malformed Duplicate set x y = absurd (x (line_of e bytes (y.0, y.1)))
one_reason e before bytes Malformed Conflict set x y = absurd (x (line_of e bytes (y.0, y.1)))
one_reason e before bytes Malformed Full set x y = absurd (x (line_of e bytes (y.0, y.1)))
one_reason e before bytes Invalid Malformed set x y = absurd (y x.0)
one_reason e before bytes Invalid Invalid set x y = refl
one_reason e before bytes Invalid Duplicate set x y = absurd (x.1 (y.0, y.1))
one_reason e before bytes Invalid Conflict set x y = absurd (x.1 (y.0, y.1))
one_reason e before bytes Invalid Full set x y = absurd (x.1 (y.0, y.1))
one_reason e before bytes Duplicate Malformed set x y = absurd (y (line_of e bytes (x.0, x.1)))
one_reason e before bytes Duplicate Invalid set x y = absurd (y.1 (x.0, x.1))
one_reason e before bytes Duplicate Duplicate set x y = refl
one_reason e before bytes Duplicate Conflict set x y = absurd (duplicate_conflict e before bytes set x y)
one_reason e before bytes Duplicate Full set x y = absurd (duplicate_full e before bytes x y)
one_reason e before bytes Conflict Malformed set x y = absurd (y (line_of e bytes (x.0, x.1)))
one_reason e before bytes Conflict Invalid set x y = absurd (y.1 (x.0, x.1))
one_reason e before bytes Conflict Duplicate set x y = absurd (duplicate_conflict e before bytes set y x)
one_reason e before bytes Conflict Conflict set x y = refl
one_reason e before bytes Conflict Full set x y = absurd (conflict_full e before bytes x y)
one_reason e before bytes Full Malformed set x y = absurd (y (line_of e bytes (x.0, x.1)))
one_reason e before bytes Full Invalid set x y = absurd (y.1 (x.0, x.1))
one_reason e before bytes Full Duplicate set x y = absurd (duplicate_full e before bytes y x)
one_reason e before bytes Full Conflict set x y = absurd (conflict_full e before bytes y x)
one_reason e before bytes Full Full set x y = refl

-- ---- one outcome

pub same_set : (e : Election) (lines : List (List ℕ)) (xs ys : List Ballot) → Builds e lines xs → Builds e lines ys → xs ≡ ys
same_set e lines xs ys first second =
    let same : first.listing ≡ second.listing = same_ballots e lines first.listing second.listing first.each second.each in
    let moved : IsPermutation first.listing ys = subst (λ (listing : List Ballot). IsPermutation listing ys) (sym same) second.same in
    same_in_order xs ys first.set.ascending second.set.ascending
    (IsPermutation-trans xs first.listing ys (IsPermutation-sym first.listing xs first.same) moved)

slice_get_take : (n : ℕ) (lines : List (List ℕ)) (i : ℕ) → i < n → slice_get (take n lines) i ≡ slice_get lines i
slice_get_take zero lines i before = absurd (omega arith)
slice_get_take (suc n) [] i before = refl
slice_get_take (suc n) (l ∷ ls) zero before = refl
slice_get_take (suc n) (l ∷ ls) (suc i) before = slice_get_take n ls i (omega arith)

first_first : (e : Election) (lines : List (List ℕ)) (m n : ℕ) (v w : Reason) (x : IsFirstBad e lines m v) (y : IsFirstBad e lines n w) → x.index < y.index → ⊥
first_first e lines m n v w x y before =
    let prefix = take-take x.index y.index lines (omega arith) in
    let P : List (List ℕ) → Type 0 = λ front. Builds e front x.before in
    not_refused e (take y.index lines) y.before x.before x.index x.bytes v y.good (slice_get_take y.index lines x.index before ∙ x.stands) (subst P (sym prefix) x.good) x.refused

same_first : (e : Election) (lines : List (List ℕ)) (m n : ℕ) (v w : Reason) (x : IsFirstBad e lines m v) (y : IsFirstBad e lines n w) → x.index ≡ y.index → v ≡ w
same_first e lines m n v w x y same =
    let here : Some x.bytes ≡ Some y.bytes = sym x.stands ∙ ap (λ i. slice_get lines i) same ∙ y.stands in
    let bytes : x.bytes ≡ y.bytes = cc in
    let A : ℕ → Type 0 = λ i. Builds e (take i lines) x.before in
    let before : x.before ≡ y.before = same_set e (take y.index lines) x.before y.before (subst A same x.good) y.good in
    let B : List ℕ → Type 0 = λ bytes. IsRefused e x.before bytes v in
    let C : List Ballot → Type 0 = λ before. IsRefused e before y.bytes v in
    one_reason e y.before y.bytes v w (listing_from_set e y.before y.good.set) (subst C before (subst B bytes x.refused)) y.refused

one_bad : (e : Election) (lines : List (List ℕ)) (p q : ℕ × Reason) → IsFirstBad e lines p.0 p.1 → IsFirstBad e lines q.0 q.1 → p ≡ q
one_bad e lines p q x y = elim (cases_lt x.index y.index) [
  | inl less ↦ absurd (first_first e lines p.0 q.0 p.1 q.1 x y less)
  | inr more ↦ elim (cases_lt y.index x.index) [
    | inl less ↦ absurd (first_first e lines q.0 p.0 q.1 p.1 y x less)
    | inr same ↦
        let index : x.index ≡ y.index = omega arith in
        let line : p.0 ≡ q.0 = omega (arith, x.counted, y.counted) in
        ap (λ n. (n, p.1)) line ∙ ap (λ why. (q.0, why)) (same_first e lines p.0 q.0 p.1 q.1 x y index)
  ]
]

pub build_one_way : (e : Election) (lines : List (List ℕ)) (a b : Result (List Ballot) (ℕ × Reason)) → BuiltFrom e lines a → BuiltFrom e lines b → a ≡ b
build_one_way e lines (Ok xs) (Ok ys) x y = ap Ok (same_set e lines xs ys x y)
build_one_way e lines (Ok xs) (Err q) x y = absurd (not_refused e lines xs y.before y.index y.bytes q.1 x y.stands y.good y.refused)
build_one_way e lines (Err p) (Ok ys) x y = absurd (not_refused e lines ys x.before x.index x.bytes p.1 y x.stands x.good x.refused)
build_one_way e lines (Err p) (Err q) x y = ap Err (one_bad e lines p q x y)

-- ---- the order of the lines

zip_at : (e : Election) (lines : List (List ℕ)) (listing : List Ballot) (i : ℕ) (d : List ℕ) (b : Ballot) → AllZip (Spells e) lines listing → i < length lines → Spells e (get_or lines i d) (get_or listing i b)
zip_at e [] listing i d b each within = absurd (omega arith)
zip_at e (l ∷ lines) [] i d b each within = absurd each
zip_at e (l ∷ lines) (x ∷ listing) zero d b each within = each.0
zip_at e (l ∷ lines) (x ∷ listing) (suc i) d b each within = zip_at e lines listing i d b each.1 (omega arith)

zip_set : (e : Election) (lines : List (List ℕ)) (listing : List Ballot) (i : ℕ) (l : List ℕ) (b : Ballot) → AllZip (Spells e) lines listing → Spells e l b → AllZip (Spells e) (set lines i l) (set listing i b)
zip_set e [] [] i l b each one = tt
zip_set e [] (x ∷ listing) i l b each one = absurd each
zip_set e (k ∷ lines) [] i l b each one = absurd each
zip_set e (k ∷ lines) (x ∷ listing) zero l b each one = (one, each.1)
zip_set e (k ∷ lines) (x ∷ listing) (suc i) l b each one = (each.0, zip_set e lines listing i l b each.1 one)

-- two lines that change places take their ballots along
zip_swap : (e : Election) (lines : List (List ℕ)) (listing : List Ballot) (i j : ℕ) → i < length lines → j < length lines → AllZip (Spells e) lines listing → AllZip (Spells e) (swap lines i j) (swap listing i j)
zip_swap e lines listing i j first second each =
    let long = AllZip-long (Spells e) lines listing each in
    let one = zip_at e lines listing i [] no_ballot each first in
    let other = zip_at e lines listing j [] no_ballot each second in
    subst (λ (ls : List (List ℕ)). AllZip (Spells e) ls (swap listing i j)) (swap_is lines i j [] first second)
    (subst (λ (bs : List Ballot). AllZip (Spells e) (set (set lines i (get_or lines j [])) j (get_or lines i [])) bs) (swap_is listing i j no_ballot (omega arith) (omega arith))
    (zip_set e (set lines i (get_or lines j [])) (set listing i (get_or listing j no_ballot)) j _ _ (zip_set e lines listing i _ _ each other) one))

-- what the lines spell, in the order of other lines
record SpellsToo (e : Election) (listing : List Ballot) (lines : List (List ℕ)) : Type 0 where
  in_their_order : List Ballot
  each : AllZip (Spells e) lines in_their_order
  same : IsPermutation listing in_their_order

in_other_order : (e : Election) (lines others : List (List ℕ)) (listing : List Ballot) → IsPermutation lines others → AllZip (Spells e) lines listing → SpellsToo e listing others
in_other_order e lines others listing p each =
    IsPermutation-keeps lines (SpellsToo e listing)
    (record { in_their_order = listing; each = each; same = IsPermutation-refl listing })
    (λ ls i j first second so_far.
    let own = so_far.in_their_order in
    let long = AllZip-long (Spells e) ls own so_far.each in
    record {
      in_their_order = swap own i j;
      each = zip_swap e ls own i j first second so_far.each;
      same = IsPermutation-trans listing own (swap own i j) so_far.same (IsPermutation-swap own (swap own i j) i j (omega arith) (omega arith) refl);
    })
    others p

pub any_order_builds : (e : Election) (lines others : List (List ℕ)) (ballots : List Ballot) → IsPermutation lines others → Builds e lines ballots → Builds e others ballots
any_order_builds e lines others ballots p built =
    let moved = in_other_order e lines others built.listing p built.each in
    record {
      listing = moved.in_their_order;
      each = moved.each;
      same = IsPermutation-trans moved.in_their_order built.listing ballots (IsPermutation-sym built.listing moved.in_their_order moved.same) built.same;
      set = built.set;
      within_limit = built.within_limit;
    }

-- ---- the same lines, anywhere and any number of times

-- the line of a ballot, and the ballot of a line
line_behind : (e : Election) (lines : List (List ℕ)) (listing : List Ballot) (b : Ballot) → AllZip (Spells e) lines listing → Contains listing b → (line : List ℕ) × Contains lines line × Spells e line b
line_behind e [] [] b each c = absurd (omega (arith, c.1))
line_behind e [] (x ∷ listing) b each c = absurd each
line_behind e (l ∷ lines) [] b each c = absurd each
line_behind e (l ∷ lines) (x ∷ listing) b each (zero, lt, is) = (l, (0, omega arith, refl), subst (λ (b : Ballot). Spells e l b) is each.0)
line_behind e (l ∷ lines) (x ∷ listing) b each (suc k, lt, is) =
    let rest = line_behind e lines listing b each.1 (k, omega arith, is) in
    (rest.0, (suc rest.1.0, omega (arith, rest.1.1), rest.1.2), rest.2)

spelled_by : (e : Election) (lines : List (List ℕ)) (listing : List Ballot) (line : List ℕ) → AllZip (Spells e) lines listing → Contains lines line → (b : Ballot) × Contains listing b × Spells e line b
spelled_by e [] [] line each c = absurd (omega (arith, c.1))
spelled_by e [] (x ∷ listing) line each c = absurd each
spelled_by e (l ∷ lines) [] line each c = absurd each
spelled_by e (l ∷ lines) (x ∷ listing) line each (zero, lt, is) = (x, (0, omega arith, refl), subst (λ (bytes : List ℕ). Spells e bytes x) is each.0)
spelled_by e (l ∷ lines) (x ∷ listing) line each (suc k, lt, is) =
    let rest = spelled_by e lines listing line each.1 (k, omega arith, is) in
    (rest.0, (suc rest.1.0, omega (arith, rest.1.1), rest.1.2), rest.2)

spelled_among : (e : Election) (lines others : List (List ℕ)) (xs ys : List Ballot) → ((line : List ℕ) → Contains lines line → Contains others line) → Builds e lines xs → Builds e others ys → AreAmong xs ys
spelled_among e lines others xs ys among built also b c =
    let back = Contains-permutation xs built.listing b (IsPermutation-sym built.listing xs built.same) c in
    let from = line_behind e lines built.listing b built.each back in
    let to = spelled_by e others also.listing from.0 also.each (among from.0 from.1) in
    Contains-permutation also.listing ys b also.same (subst (λ (b : Ballot). Contains also.listing b) (one_ballot e from.0 to.0 b to.2 from.2) to.1)

pub same_lines_build : (e : Election) (lines others : List (List ℕ)) (xs ys : List Ballot) → ((line : List ℕ) → Contains lines line ↔ Contains others line) → Builds e lines xs → Builds e others ys → xs ≡ ys
same_lines_build e lines others xs ys same built also =
    same_members xs ys built.set.ascending also.set.ascending
    (spelled_among e lines others xs ys (λ line. (same line).0) built also)
    (spelled_among e others lines ys xs (λ line. (same line).1) also built)
