-- What a torn range, and a write that succeeds, leave of the bytes.
use Rattle.std.proofs.Common.{◌≡◌, ℕ, ◌+◌, ◌-◌, ◌≤◌, ◌<◌, List, [], ◌∷◌, ◌++◌, length, get_or, take, drop, refl, sym, ◌∙◌, ap, arith, length-append, append_assoc}
use Rattle.store_spec.proofs.Common.{IsTorn, drop-drop, drop_at, get_or-append_right, get_or-drop, get_or-take, length-take, overwritten, slice_range, take-append-drop, take-take, take_at}
use Rattle.std.proofs.lemmas.Slice.{between_is}

-- the same front gives the same shorter front
take-same : (a b : ℕ) (xs ys : List ℕ) → a ≤ b → take b xs ≡ take b ys → take a xs ≡ take a ys
take-same a b xs ys le same = sym (take-take a b xs le) ∙ ap (λ (zs : List ℕ). take a zs) same ∙ take-take a b ys le

-- the same rest gives the same shorter rest
drop-same : (a b : ℕ) (xs ys : List ℕ) → a ≤ b → drop a xs ≡ drop a ys → drop b xs ≡ drop b ys
drop-same a b xs ys le same =
    let far : a + (b - a) ≡ b = omega arith in
    ap (λ n. drop n xs) (sym far) ∙ sym (drop-drop (b - a) a xs) ∙ ap (λ (zs : List ℕ). drop (b - a) zs) same ∙ drop-drop (b - a) a ys ∙ ap (λ n. drop n ys) far

-- what a write has put there is read back
pub overwritten-range : (at : ℕ) (bytes old : List ℕ) → at ≤ length old → slice_range (overwritten at bytes old) at (at + length bytes) ≡ bytes
overwritten-range at bytes old le =
    let front : length (take at old ++ bytes) ≡ at + length bytes = omega (arith, length-append (take at old) bytes, length-take at old) in
    let start : length (take at old) ≡ at = omega (arith, length-take at old) in
    between_is (overwritten at bytes old) at (at + length bytes)
    ∙ ap (λ (xs : List ℕ). drop at xs) (take_at (take at old ++ bytes) (drop (at + length bytes) old) (at + length bytes) front)
    ∙ drop_at (take at old) bytes at start

-- a range that stays as it was is torn too
pub torn-same : (at n : ℕ) (bytes : List ℕ) → IsTorn at n bytes bytes
torn-same at n bytes = record { before = refl; behind = refl; no_shorter = omega arith; no_longer = omega arith }

-- a range that is torn again, in part
pub torn-again : (at n from k : ℕ) (first mid last : List ℕ) → at ≤ from → from + k ≤ at + n → IsTorn at n first mid → IsTorn from k mid last → IsTorn at n first last
torn-again at n from k first mid last begins ends one two = record {
  before = take-same at from last mid begins two.before ∙ one.before;
  behind = drop-same (from + k) (at + n) last mid ends two.behind ∙ one.behind;
  no_shorter = omega (arith, one.no_shorter, two.no_shorter);
  no_longer = omega (arith, one.no_longer, two.no_longer);
}

-- where the range lies within the size, the size stays
pub torn-size : (at n : ℕ) (old new : List ℕ) → at + n ≤ length old → IsTorn at n old new → length new ≡ length old
torn-size at n old new within torn = omega (arith, torn.no_shorter, torn.no_longer)

-- the bytes before the range stay
pub torn-before : (at n : ℕ) (old new : List ℕ) (i j : ℕ) → j ≤ at → IsTorn at n old new → slice_range new i j ≡ slice_range old i j
torn-before at n old new i j le torn =
    between_is new i j ∙ ap (λ (xs : List ℕ). drop i xs) (take-same j at new old le torn.before) ∙ sym (between_is old i j)

-- the bytes behind the range stay
pub torn-behind : (at n : ℕ) (old new : List ℕ) (i j : ℕ) → at + n ≤ i → IsTorn at n old new → slice_range new i j ≡ slice_range old i j
torn-behind at n old new i j le torn =
    ap (λ (xs : List ℕ). take (j - i) xs) (drop-same (at + n) i new old le torn.behind)

-- a byte before the range stays
pub torn-byte_before : (at n i : ℕ) (old new : List ℕ) → i < at → IsTorn at n old new → get_or new i 0 ≡ get_or old i 0
torn-byte_before at n i old new lt torn =
    sym (get_or-take at new i 0 lt) ∙ ap (λ (xs : List ℕ). get_or xs i 0) torn.before ∙ get_or-take at old i 0 lt

-- so does a byte behind it
pub torn-byte_behind : (at n i : ℕ) (old new : List ℕ) → at + n ≤ i → IsTorn at n old new → get_or new i 0 ≡ get_or old i 0
torn-byte_behind at n i old new le torn =
    let far : at + n + (i - (at + n)) ≡ i = omega arith in
    ap (λ k. get_or new k 0) (sym far) ∙ sym (get_or-drop (at + n) new (i - (at + n)) 0)
    ∙ ap (λ (xs : List ℕ). get_or xs (i - (at + n)) 0) torn.behind
    ∙ get_or-drop (at + n) old (i - (at + n)) 0 ∙ ap (λ k. get_or old k 0) far

-- a byte that was written is read back
pub overwritten-byte : (at x : ℕ) (old : List ℕ) → at ≤ length old → get_or (overwritten at (x ∷ []) old) at 0 ≡ x
overwritten-byte at x old le =
    let front : length (take at old) ≡ at = omega (arith, length-take at old) in
    let here : at - at ≡ 0 = omega arith in
    ap (λ (xs : List ℕ). get_or xs at 0) (append_assoc (take at old) (x ∷ []) (drop (at + 1) old))
    ∙ get_or-append_right (take at old) (x ∷ drop (at + 1) old) at at 0 front (omega arith)
    ∙ ap (λ k. get_or (x ∷ drop (at + 1) old) k 0) here

-- nothing written changes nothing
pub overwritten-nothing : (at : ℕ) (old : List ℕ) → overwritten at [] old ≡ old
overwritten-nothing at old =
    let here : at + 0 ≡ at = omega arith in
    append_assoc (take at old) [] (drop (at + 0) old) ∙ ap (λ k. take at old ++ drop k old) here ∙ take-append-drop at old

-- two writes, one behind the other, are one
pub overwritten-next : (at k : ℕ) (xs ys old : List ℕ) → at ≤ length old → length xs ≡ k → overwritten (at + k) ys (overwritten at xs old) ≡ overwritten at (xs ++ ys) old
overwritten-next at k xs ys old le long =
    let front : length (take at old ++ xs) ≡ at + k = omega (arith, length-append (take at old) xs, length-take at old) in
    let behind : at + length xs ≡ at + k = omega arith in
    let end : at + k + length ys ≡ at + length (xs ++ ys) = omega (arith, length-append xs ys) in
    let written : overwritten at xs old ≡ (take at old ++ xs) ++ drop (at + k) old = ap (λ j. take at old ++ xs ++ drop j old) behind in
    let rest : drop (at + k + length ys) (overwritten at xs old) ≡ drop (at + k + length ys) old =
    ap (drop (at + k + length ys)) written ∙ sym (drop-drop (length ys) (at + k) ((take at old ++ xs) ++ drop (at + k) old))
    ∙ ap (drop (length ys)) (drop_at (take at old ++ xs) (drop (at + k) old) (at + k) front) ∙ drop-drop (length ys) (at + k) old in
    ap (λ (zs : List ℕ). zs ++ ys ++ drop (at + k + length ys) (overwritten at xs old)) (ap (take (at + k)) written ∙ take_at (take at old ++ xs) (drop (at + k) old) (at + k) front)
    ∙ ap (λ (zs : List ℕ). (take at old ++ xs) ++ ys ++ zs) (rest ∙ ap (λ j. drop j old) end)
    ∙ ap (λ (zs : List ℕ). zs ++ drop (at + length (xs ++ ys)) old) (append_assoc (take at old) xs ys)

-- a write of what stands there changes nothing
pub overwritten-same : (at n : ℕ) (bytes old : List ℕ) → length bytes ≡ n → bytes ≡ slice_range old at (at + n) → overwritten at bytes old ≡ old
overwritten-same at n bytes old long same =
    let much : at + n - at ≡ n = omega arith in
    let end : at + length bytes ≡ at + n = omega arith in
    let here : bytes ≡ take n (drop at old) = same ∙ ap (λ k. take k (drop at old)) much in
    ap (λ k. take at old ++ bytes ++ drop k old) end ∙ ap (λ (xs : List ℕ). take at old ++ xs ++ drop (at + n) old) here
    ∙ append_assoc (take at old) (take n (drop at old)) (drop (at + n) old)
    ∙ ap (λ (xs : List ℕ). take at old ++ (take n (drop at old) ++ xs)) (ap (λ k. drop k old) (omega arith) ∙ sym (drop-drop n at old))
    ∙ ap (λ (xs : List ℕ). take at old ++ xs) (take-append-drop n (drop at old)) ∙ take-append-drop at old
