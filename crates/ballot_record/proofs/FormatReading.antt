-- What is read from a cell is spelled so, and what is spelled so is read.
use Rattle.std.proofs.Common.{◌≡◌, ℕ, zero, suc, ◌+◌, ◌-◌, ◌*◌, ◌%◌, ◌^◌, ◌<◌, ◌≤◌, List, [], ◌∷◌, ◌++◌, length, get_or, take, drop, replicate, set, inl, inr, refl, sym, ap, ap₂, subst, ◌∙◌, append_assoc, append-nil, arith, length-append, length-take, length-drop, take-append-drop, take_at, drop_at, get_or-take, get_or-drop, mod-eq_of_lt}
use Rattle.store_spec.proofs.Common.{Ballot, Election, IsCellOf, IsElection, IsValid, MARK_SETS, bytes_high_first, cases_lt, drop-drop, drop_more, flat_map, flat_map-cons, get_or-append_right, get_or-replicate, get_or_append_left, get_or_past, length-replicate, mul-suc, nil_from_length, set_at, set_width}
use Rattle.store_spec.specs.Election.{cell_size}
use Rattle.store_spec.specs.Image.{ballot_bytes}
use Rattle.std.specs.Prelude.{All}
use Rattle.std.specs.Int.{from_be_bytes, to_be_bytes, w32, w64}
use Rattle.std.proofs.lemmas.Nat.{be_bytes_4, be_bytes_8, from_be_bytes-to_be_bytes_8}
use Rattle.byteorder.specs.Endian.{big_number}
use Rattle.byteorder.specs.Numbers.{big_from-take, big_number-reads_back, length-bytes_high_first}
use Rattle.ballot_record.proofs.ValidMarks.{marks_kept, set_spellable}
use Rattle.ballot_record.proofs.Versions.{contests_fit, known_width}
use Rattle.ballot_record.specs.Format.{IsSetWidth, sets_at, ballot_at}

abbrev pub AreBytes : List ℕ → Type 0
AreBytes bytes = (i : ℕ) → get_or bytes i 0 < 256

pub AreBytes-drop : (n : ℕ) (bytes : List ℕ) → AreBytes bytes → AreBytes (drop n bytes)
AreBytes-drop n bytes fits i = rw get_or-drop (fits (n + i))

AreBytes-take : (n : ℕ) (bytes : List ℕ) → AreBytes bytes → AreBytes (take n bytes)
AreBytes-take n bytes fits i =
    elim (cases_lt i n) [
      | inl within ↦ rw (get_or-take n bytes i 0 within) (fits i)
      | inr past ↦ rw (get_or_past (take n bytes) i 0 (omega (arith, length-take n bytes))) (omega arith)
    ]

pub length-sets_at : (width n : ℕ) (bytes : List ℕ) → length (sets_at width n bytes) ≡ n
unfolding sets_at
length-sets_at width zero bytes = refl
length-sets_at width (suc n) bytes = ap suc (length-sets_at width n (drop width bytes))

-- the mark set at a place is spelled by the bytes there
pub set_read : (width n : ℕ) (bytes : List ℕ) (place : ℕ) → place < n → get_or (sets_at width n bytes) place 0 ≡ big_number width (drop (width * place) bytes)
unfolding sets_at
set_read width zero bytes place within = absurd (omega arith)
set_read width (suc n) bytes zero within = ap (λ k. big_number width (drop k bytes)) (let none : 0 ≡ width * 0 = omega arith in none)
set_read width (suc n) bytes (suc place) within =
    set_read width n (drop width bytes) place (omega arith)
    ∙ ap (big_number width) (drop-drop (width * place) width bytes ∙ ap (λ k. drop k bytes) (omega (arith, mul-suc width place)))

-- the number that bytes spell is spelled by them
word_spelled : (width : ℕ) (bytes : List ℕ) → IsSetWidth width → AreBytes bytes → width ≤ length bytes → bytes_high_first width (big_number width bytes) ≡ take width bytes
word_spelled width bytes known fits long = elim known [
  | inl four ↦
      let front = take 4 bytes in
      let number : big_number 4 bytes ≡ from_be_bytes w32 front = sym (big_from-take 0 4 4 bytes (omega arith)) ∙ omega arith in
      let spelled : bytes_high_first 4 (big_number 4 bytes) ≡ front = be_bytes_4 front (big_number 4 bytes) (omega (arith, length-take 4 bytes)) (AreBytes-take 4 bytes fits) number in
      subst (λ width. bytes_high_first width (big_number width bytes) ≡ take width bytes) (sym four) spelled
  | inr eight ↦
      let front = take 8 bytes in
      let number : big_number 8 bytes ≡ from_be_bytes w64 front = sym (big_from-take 0 8 8 bytes (omega arith)) ∙ omega arith in
      let spelled : bytes_high_first 8 (big_number 8 bytes) ≡ front = be_bytes_8 front (big_number 8 bytes) (omega (arith, length-take 8 bytes)) (AreBytes-take 8 bytes fits) number in
      subst (λ width. bytes_high_first width (big_number width bytes) ≡ take width bytes) (sym eight) spelled
]

sets_spelled : (width n : ℕ) (bytes : List ℕ) → IsSetWidth width → AreBytes bytes → length bytes ≡ width * n → flat_map (bytes_high_first width) (sets_at width n bytes) ≡ bytes
unfolding sets_at
sets_spelled width zero bytes known fits long = sym (nil_from_length bytes (omega arith))
sets_spelled width (suc n) bytes known fits long =
    let all : length bytes ≡ width * n + width = omega (arith, long, mul-suc width n) in
    let first = word_spelled width bytes known fits (omega (arith, all)) in
    let rest = sets_spelled width n (drop width bytes) known (AreBytes-drop width bytes fits) (omega (arith, length-drop width bytes, all)) in
    flat_map-cons (bytes_high_first width) (big_number width bytes) (sets_at width n (drop width bytes)) ∙ ap₂ (λ x y. x ++ y) first rest ∙ take-append-drop width bytes

sets_again : (width : ℕ) (sets : List ℕ) → ((i : ℕ) → i < length sets → get_or sets i 0 < 256 ^ width) → sets_at width (length sets) (flat_map (bytes_high_first width) sets) ≡ sets
unfolding sets_at
sets_again width [] small = refl
sets_again width (set ∷ sets) small =
    let first = bytes_high_first width set in
    let rest = flat_map (bytes_high_first width) sets in
    ap (sets_at width (suc (length sets))) (flat_map-cons (bytes_high_first width) set sets)
    ∙ ap₂ (λ x y. x ∷ y)
    (big_number-reads_back width set rest (small 0 (omega arith)))
    (ap (sets_at width (length sets)) (drop_at first rest width (length-bytes_high_first width set)) ∙ sets_again width sets (λ i within. small (suc i) (omega arith)))

-- ---- the whole cell

joined : (number_bytes : List ℕ) (style : ℕ) (set_bytes bytes : List ℕ) → number_bytes ≡ take 8 bytes → style ≡ get_or bytes 8 0 → set_bytes ≡ drop 9 bytes → 9 ≤ length bytes → bytes ≡ (number_bytes ++ style ∷ []) ++ set_bytes
joined number_bytes style set_bytes bytes number_is style_is sets_are long =
    sym (append_assoc number_bytes (style ∷ []) set_bytes ∙ ap₂ (λ x y. x ++ y) number_is (ap₂ (λ x y. x ∷ y) style_is sets_are ∙ sym (drop_more bytes 8 0 (omega arith))) ∙ take-append-drop 8 bytes)

record AreParted (number_bytes : List ℕ) (style : ℕ) (set_bytes bytes : List ℕ) : Type 0 where
  number : take 8 bytes ≡ number_bytes
  style_is : get_or bytes 8 0 ≡ style
  sets : drop 9 bytes ≡ set_bytes

parted : (number_bytes : List ℕ) (style : ℕ) (set_bytes : List ℕ) → length number_bytes ≡ 8 → AreParted number_bytes style set_bytes ((number_bytes ++ style ∷ []) ++ set_bytes)
parted number_bytes style set_bytes eight =
    let regrouped = append_assoc number_bytes (style ∷ []) set_bytes in
    record {
      number = ap (take 8) regrouped ∙ take_at number_bytes (style ∷ set_bytes) 8 eight;
      style_is = ap (λ bytes. get_or bytes 8 0) regrouped ∙ get_or-append_right number_bytes (style ∷ set_bytes) 8 8 0 eight (omega arith);
      sets = drop_at (number_bytes ++ style ∷ []) set_bytes 9 (omega (arith, length-append number_bytes (style ∷ []), eight));
    }

-- the bytes are those of the ballot that was read
pub cell_spelled : (e : Election) (bytes : List ℕ) → AreBytes bytes → length bytes ≡ cell_size e → bytes ≡ ballot_bytes e (ballot_at e bytes)
unfolding ballot_bytes cell_size
cell_spelled e bytes fits long =
    let n = length e.contests in
    let width = set_width e in
    let sets = sets_at width n (drop 9 bytes) in
    let zeros : List ℕ = replicate (MARK_SETS - n) 0 in
    let number : to_be_bytes w64 (from_be_bytes w64 (take 8 bytes)) ≡ take 8 bytes = be_bytes_8 (take 8 bytes) _ (omega (arith, length-take 8 bytes)) (AreBytes-take 8 bytes fits) refl in
    let style : get_or bytes 8 0 % 256 ≡ get_or bytes 8 0 = mod-eq_of_lt (fits 8) in
    let set_bytes : flat_map (bytes_high_first width) (take n (sets ++ zeros)) ≡ drop 9 bytes =
    ap (flat_map (bytes_high_first width)) (take_at sets zeros n (length-sets_at width n (drop 9 bytes)))
    ∙ sets_spelled width n (drop 9 bytes) (known_width e) (AreBytes-drop 9 bytes fits) (omega (arith, length-drop 9 bytes)) in
    joined (to_be_bytes w64 (from_be_bytes w64 (take 8 bytes))) (get_or bytes 8 0 % 256) (flat_map (bytes_high_first width) (take n (sets ++ zeros))) bytes number style set_bytes (omega arith)

-- a valid ballot is read from its bytes
pub cell_again : (e : Election) (b : Ballot) → IsElection e → IsValid e b → ballot_at e (ballot_bytes e b) ≡ b
unfolding ballot_bytes
cell_again e b election valid =
    let n = length e.contests in
    let width = set_width e in
    let front = take n b.marks in
    let count : length front ≡ n = omega (arith, length-take n b.marks, valid.every_set, contests_fit e election) in
    let small : (i : ℕ) → i < length front → get_or front i 0 < 256 ^ width = λ i within.
    subst (λ set. set < 256 ^ width) (sym (get_or-take n b.marks i 0 (omega (arith, count)))) (set_spellable e b election valid i) in
    let parts = parted (to_be_bytes w64 b.number) (b.style % 256) (flat_map (bytes_high_first width) front) refl in
    let made : ℕ → ℕ → List ℕ → Ballot = λ number style sets. record { number = number; style = style; marks = sets ++ replicate (MARK_SETS - n) 0 } in
    let number : from_be_bytes w64 (take 8 (ballot_bytes e b)) ≡ b.number = ap (from_be_bytes w64) parts.number ∙ from_be_bytes-to_be_bytes_8 b.number valid.short_number in
    let style : get_or (ballot_bytes e b) 8 0 ≡ b.style = parts.style_is ∙ mod-eq_of_lt (omega (arith, valid.known_style, election.few_styles)) in
    let sets : sets_at width n (drop 9 (ballot_bytes e b)) ≡ front =
    ap (sets_at width n) parts.sets ∙ ap (λ k. sets_at width k (flat_map (bytes_high_first width) front)) (sym count) ∙ sets_again width front small in
    ap (λ k. made k (get_or (ballot_bytes e b) 8 0) (sets_at width n (drop 9 (ballot_bytes e b)))) number
    ∙ ap (λ k. made b.number k (sets_at width n (drop 9 (ballot_bytes e b)))) style
    ∙ ap (made b.number b.style) sets
    ∙ ap (λ marks. record { number = b.number; style = b.style; marks = marks }) (sym (marks_kept e b election valid))

-- the bytes of a ballot spell its style and its mark sets
pub style_read : (e : Election) (bytes : List ℕ) (b : Ballot) → IsElection e → IsCellOf e bytes b → get_or bytes 8 0 ≡ b.style
style_read e bytes b election is =
    ap (λ (b : Ballot). b.style) (ap (ballot_at e) is.1 ∙ cell_again e b election is.0)

pub marks_read : (e : Election) (bytes : List ℕ) (b : Ballot) (place : ℕ) → IsElection e → IsCellOf e bytes b → place < length e.contests
    → big_number (set_width e) (drop (9 + set_width e * place) bytes) ≡ get_or b.marks place 0
marks_read e bytes b place election is within =
    let n = length e.contests in
    let width = set_width e in
    let sets = sets_at width n (drop 9 bytes) in
    let again = ap (ballot_at e) is.1 ∙ cell_again e b election is.0 in
    ap (big_number width) (sym (drop-drop (width * place) 9 bytes))
    ∙ sym (set_read width n (drop 9 bytes) place within)
    ∙ sym (get_or_append_left sets (replicate (MARK_SETS - n) 0) 0 place (omega (arith, length-sets_at width n (drop 9 bytes))))
    ∙ ap (λ (b : Ballot). get_or b.marks place 0) again

-- ---- zeros

pub zeros_from_all : (bytes : List ℕ) → All {X = ℕ} (λ byte. byte ≡ 0) bytes → bytes ≡ replicate (length bytes) 0
zeros_from_all [] zeros = refl
zeros_from_all (byte ∷ bytes) zeros =
    let first : byte ≡ 0 = zeros 0 0 (omega arith) in
    let rest = zeros_from_all bytes (λ k d within. zeros (suc k) d (omega arith)) in
    ap₂ (λ x y. x ∷ y) first rest

pub all_from_zeros : (n : ℕ) → All {X = ℕ} (λ byte. byte ≡ 0) (replicate n 0)
all_from_zeros n k d within = let long : length (replicate {A = ℕ} n 0) ≡ n = length-replicate n 0 in get_or-replicate n k 0 d (omega arith)

-- ---- set after set

pub record AreSetsSoFar (width contests : ℕ) (bytes : List ℕ) (place : ℕ) (marks rest : List ℕ) : Type 0 where
  pub before : List ℕ
  pub counted : length before ≡ place
  pub kept : marks ≡ before ++ replicate (MARK_SETS - place) 0
  pub long : length rest ≡ width * (contests - place)
  pub more : before ++ sets_at width (contests - place) rest ≡ sets_at width contests bytes

pub no_sets_yet : (width contests : ℕ) (bytes : List ℕ) → length bytes ≡ width * contests → AreSetsSoFar width contests bytes 0 (replicate MARK_SETS 0) bytes
no_sets_yet width contests bytes long =
    let same : contests - 0 ≡ contests = omega arith in
    record {
      before = [];
      counted = refl;
      kept = refl;
      long = long ∙ ap (λ n. width * n) (sym same);
      more = ap (λ n. sets_at width n bytes) same;
    }

-- one more set is left, and the bytes of the others behind it
pub set_left : (width contests : ℕ) (bytes : List ℕ) (place : ℕ) (marks rest : List ℕ) → place < contests → AreSetsSoFar width contests bytes place marks rest
    → length rest ≡ width * (contests - (place + 1)) + width
set_left width contests bytes place marks rest within so_far =
    let one_more : contests - place ≡ suc (contests - (place + 1)) = omega arith in
    so_far.long ∙ ap (λ n. width * n) one_more ∙ mul-suc width (contests - (place + 1))

pub next_set : (width contests : ℕ) (bytes : List ℕ) (place : ℕ) (marks rest : List ℕ) (read : ℕ) (after : List ℕ) → contests ≤ MARK_SETS → place < contests → AreSetsSoFar width contests bytes place marks rest
    → read ≡ big_number width rest → after ≡ drop width rest → AreSetsSoFar width contests bytes (place + 1) (set marks place read) after
unfolding sets_at
next_set width contests bytes place marks rest read after few within so_far is rest_is =
    let one_more : contests - place ≡ suc (contests - (place + 1)) = omega arith in
    let one_left : MARK_SETS - place ≡ suc (MARK_SETS - (place + 1)) = omega arith in
    let behind : List ℕ = replicate (MARK_SETS - (place + 1)) 0 in
    record {
      before = so_far.before ++ read ∷ [];
      counted = omega (arith, length-append so_far.before (read ∷ []), so_far.counted);
      kept = ap (λ marks. set marks place read) (so_far.kept ∙ ap (λ n. so_far.before ++ replicate n 0) one_left)
          ∙ set_at so_far.before 0 behind read place so_far.counted ∙ sym (append_assoc so_far.before (read ∷ []) behind);
      long = omega (arith, ap length rest_is, length-drop width rest, set_left width contests bytes place marks rest within so_far);
      more = append_assoc so_far.before (read ∷ []) (sets_at width (contests - (place + 1)) after)
          ∙ ap (λ sets. so_far.before ++ sets) (ap₂ (λ x y. x ∷ sets_at width (contests - (place + 1)) y) is rest_is ∙ ap (λ n. sets_at width n rest) (sym one_more))
          ∙ so_far.more;
    }

pub all_sets : (width contests : ℕ) (bytes : List ℕ) (place : ℕ) (marks rest : List ℕ) → place ≡ contests → AreSetsSoFar width contests bytes place marks rest → marks ≡ sets_at width contests bytes ++ replicate (MARK_SETS - contests) 0
unfolding sets_at
all_sets width contests bytes place marks rest all so_far =
    let none : contests - place ≡ 0 = omega arith in
    let sets : so_far.before ≡ sets_at width contests bytes = sym (append-nil so_far.before) ∙ ap (λ n. so_far.before ++ sets_at width n rest) (sym none) ∙ so_far.more in
    so_far.kept ∙ ap₂ (λ x n. x ++ replicate (MARK_SETS - n) 0) sets all

zero_anywhere : (n k : ℕ) → get_or {A = ℕ} (replicate n 0) k 0 ≡ 0
zero_anywhere zero k = refl
zero_anywhere (suc n) zero = refl
zero_anywhere (suc n) (suc k) = zero_anywhere n k

pub nothing_behind : (width contests : ℕ) (bytes marks : List ℕ) → marks ≡ sets_at width contests bytes ++ replicate (MARK_SETS - contests) 0 → (k : ℕ) → contests ≤ k → get_or marks k 0 ≡ 0
nothing_behind width contests bytes marks is k past =
    ap (λ marks. get_or marks k 0) is
    ∙ get_or-append_right (sets_at width contests bytes) (replicate (MARK_SETS - contests) 0) contests k 0 (length-sets_at width contests bytes) past
    ∙ zero_anywhere (MARK_SETS - contests) (k - contests)
