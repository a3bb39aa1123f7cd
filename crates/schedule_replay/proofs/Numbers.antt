-- Numbers with a space before each: as they are read, and that they are read in one way.
use Rattle.std.proofs.Common.{◌≡◌, ℕ, ◌<◌, List, [], ◌∷◌, ◌++◌, All, length, Option, Some, None, refl, sym, ap, subst, ◌∙◌, append_assoc, arith, lit<}
use Rattle.store_spec.proofs.Common.{All-append, All-cons, All-head, All-nil, All-tail, IsNumber, append-nil, decimal, flat_map-append, none-some, some_pair_parts}
use Rattle.std.specs.Prelude.{flat_map}
use Rattle.ballot_record.proofs.LineNumbers.{StopsDigits, number_again, number_takes}
use Rattle.ballot_record.specs.LineReading.{digits_at}
use Rattle.schedule_replay.specs.ReplayLine.{AreNumbers, TakesNumber, number_text}

-- the greatest number
abbrev most : ℕ
most = 18446744073709551615

stops : (ns : List ℕ) → StopsDigits (flat_map number_text ns)
stops [] = tt
stops (n ∷ ns) = refl

-- what follows the space before the first of some numbers
record FirstIs (bytes : List ℕ) (n : ℕ) (ns : List ℕ) : Type 0 where
  reads : digits_at most 0 bytes ≡ Some (n, flat_map number_text ns)
  others : AreNumbers (flat_map number_text ns) ns

first_is : (bytes : List ℕ) (n : ℕ) (ns : List ℕ) → AreNumbers (32 ∷ bytes) (n ∷ ns) → FirstIs bytes n ns
first_is bytes n ns h =
    let whole : 32 ∷ bytes ≡ 32 ∷ (decimal n ++ flat_map number_text ns) = h.spelled in
    let behind : bytes ≡ decimal n ++ flat_map number_text ns = cc in
    let one : IsNumber n = All-head IsNumber n ns h.each in
    record {
      reads = ap (digits_at most 0) behind ∙ number_again most n (flat_map number_text ns) (lit< tt) one.0 (omega (arith, one.1)) (stops ns);
      others = record { each = All-tail IsNumber n ns h.each; spelled = refl };
    }

-- ---- the number that stands first

none_first : (bytes : List ℕ) → None ≡ digits_at most 0 bytes → (ns : List ℕ) → ¬ AreNumbers (32 ∷ bytes) ns
none_first bytes is [] h = let e : 32 ∷ bytes ≡ [] = h.spelled in cc
none_first bytes is (n ∷ ns) h = none-some (n, flat_map number_text ns) (is ∙ (first_is bytes n ns h).reads)

only_first : (bytes : List ℕ) (x : ℕ × List ℕ) → Some x ≡ digits_at most 0 bytes → (ns : List ℕ) → AreNumbers (32 ∷ bytes) ns → (others : List ℕ) × (ns ≡ x.0 ∷ others) × AreNumbers x.1 others
only_first bytes x is [] h = absurd (let e : 32 ∷ bytes ≡ [] = h.spelled in cc)
only_first bytes x is (n ∷ ns) h =
    let first = first_is bytes n ns h in
    let parts = some_pair_parts x.0 n x.1 (flat_map number_text ns) (is ∙ first.reads) in
    (ns, ap (λ m. m ∷ ns) (sym parts.0), subst (λ rest. AreNumbers rest ns) (sym parts.1) first.others)

takes_behind : (bytes : List ℕ) (o : Option (ℕ × List ℕ)) → o ≡ digits_at most 0 bytes → TakesNumber o (32 ∷ bytes)
takes_behind bytes None is = λ ns some h. none_first bytes is ns h
takes_behind bytes (Some x) is =
    let at = number_takes most (lit< tt) bytes x.0 x.1 (sym is) in
    ((at.some, omega (arith, at.within)), ap (λ rest. 32 ∷ rest) at.spelled, only_first bytes x is)

pub takes_first : (bytes rest : List ℕ) (o : Option (ℕ × List ℕ)) → bytes ≡ 32 ∷ rest → o ≡ digits_at most 0 rest → TakesNumber o bytes
takes_first bytes rest o front is = subst (TakesNumber o) (sym front) (takes_behind rest o is)

-- ---- one after another

-- These numbers were read, and this is left. Whatever numbers the bytes are, these are the first of them.
pub record IsRead (bytes numbers rest : List ℕ) : Type 0 where
  pub each : All IsNumber numbers
  pub front : bytes ≡ flat_map number_text numbers ++ rest
  pub only : (ns : List ℕ) → AreNumbers bytes ns → (more : List ℕ) × (ns ≡ numbers ++ more) × AreNumbers rest more

pub read_none : (bytes numbers : List ℕ) → numbers ≡ [] → IsRead bytes numbers bytes
read_none bytes numbers none = subst (λ ns. IsRead bytes ns bytes) (sym none) (let start : IsRead bytes [] bytes = record {
  each = All-nil IsNumber;
  front = refl;
  only = λ ns h. (ns, refl, h);
} in start)

pub read_more : (bytes numbers rest : List ℕ) (n : ℕ) (after now : List ℕ) → IsRead bytes numbers rest → TakesNumber (Some (n, after)) rest → now ≡ numbers ++ n ∷ [] → IsRead bytes now after
read_more bytes numbers rest n after now h takes is = subst (λ ns. IsRead bytes ns after) (sym is) (let more : IsRead bytes (numbers ++ n ∷ []) after = record {
  each = All-append IsNumber numbers (n ∷ []) h.each (All-cons IsNumber n [] takes.0 (All-nil IsNumber));
  front =
      h.front ∙ ap (λ bs. flat_map number_text numbers ++ bs) takes.1 ∙ sym (append_assoc (flat_map number_text numbers) (number_text n) after)
      ∙ ap (λ bs. (flat_map number_text numbers ++ bs) ++ after) (sym (append-nil (number_text n)))
      ∙ ap (λ bs. bs ++ after) (sym (flat_map-append number_text numbers (n ∷ [])));
  only = λ ns each.
      let before = h.only ns each in
      let first = takes.2 before.0 before.2 in
      (first.0, before.1 ∙ ap (λ bs. numbers ++ bs) first.1 ∙ sym (append_assoc numbers (n ∷ []) first.0), first.2);
} in more)

pub read_all : (bytes numbers rest : List ℕ) → IsRead bytes numbers rest → length rest ≡ 0 → AreNumbers bytes numbers
read_all bytes numbers [] h none = record { each = h.each; spelled = h.front ∙ append-nil (flat_map number_text numbers) }
read_all bytes numbers (byte ∷ rest) h none = absurd (omega arith)

pub read_stops : (bytes numbers rest : List ℕ) → IsRead bytes numbers rest → TakesNumber None rest → 0 < length rest → (ns : List ℕ) → ¬ AreNumbers bytes ns
read_stops bytes numbers rest h none some ns each = let before = h.only ns each in none before.0 some before.2

-- ---- in one way

pub one_reading : (bytes ns ms : List ℕ) → AreNumbers bytes ns → AreNumbers bytes ms → ns ≡ ms
one_reading bytes [] [] a b = refl
one_reading bytes [] (m ∷ ms) a b = absurd (let e : [] ≡ 32 ∷ (decimal m ++ flat_map number_text ms) = sym a.spelled ∙ b.spelled in cc)
one_reading bytes (n ∷ ns) [] a b = absurd (let e : [] ≡ 32 ∷ (decimal n ++ flat_map number_text ns) = sym b.spelled ∙ a.spelled in cc)
one_reading [] (n ∷ ns) (m ∷ ms) a b = absurd (let e : [] ≡ 32 ∷ (decimal m ++ flat_map number_text ms) = b.spelled in cc)
one_reading (byte ∷ bytes) (n ∷ ns) (m ∷ ms) a b =
    let space : byte ∷ bytes ≡ 32 ∷ (decimal n ++ flat_map number_text ns) = a.spelled in
    let is : byte ≡ 32 = cc in
    let one = first_is bytes n ns (subst (λ x. AreNumbers (x ∷ bytes) (n ∷ ns)) is a) in
    let two = first_is bytes m ms (subst (λ x. AreNumbers (x ∷ bytes) (m ∷ ms)) is b) in
    let parts = some_pair_parts n m (flat_map number_text ns) (flat_map number_text ms) (sym one.reads ∙ two.reads) in
    let rest = one_reading (flat_map number_text ns) ns ms one.others (subst (λ bs. AreNumbers bs ms) (sym parts.1) two.others) in
    let first = parts.0 in
    cc
