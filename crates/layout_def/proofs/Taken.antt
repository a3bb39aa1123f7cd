-- The greatest of the numbers that wait is taken off the end, and placed.
use Rattle.std.proofs.Common.{◌≡◌, ℕ, ◌+◌, ◌<◌, ◌≤◌, List, [], ◌∷◌, ◌++◌, length, get_or, set, take, drop, refl, sym, ap, ◌∙◌, subst, arith}
use Rattle.store_spec.proofs.Common.{HasRoom, IsFirstEmpty, IsNonDecreasing, get_or-take, get_or_push, laid_out, length-take, length_push, take-take, take_at}
use Rattle.layout_def.proofs.LaidOut.{next_finds, next_placed}

-- which number is taken, and what is left
pub record IsTaken (xs rest : List ℕ) (v : ℕ) : Type 0 where
  pub within : length rest < length xs
  pub stands : get_or xs (length rest) 0 ≡ v
  pub left : rest ≡ take (length rest) xs

pub taken : (xs left rest : List ℕ) (v : ℕ) → left ≡ take (length left) xs → left ≡ rest ++ v ∷ [] → IsTaken xs rest v
taken xs left rest v front e =
    let n = length rest in
    let size : length left ≡ n + 1 = ap length e ∙ length_push rest v in
    let short : length left ≤ length xs = let cut = ap length front ∙ length-take (length left) xs in omega arith in
    let within : n < length left = omega arith in
    record {
      within = omega arith;
      stands =
          sym (get_or-take (length left) xs n 0 within)
          ∙ ap (λ l. get_or l n 0) (sym front)
          ∙ ap (λ l. get_or l n 0) e
          ∙ get_or_push rest v 0 n refl;
      left =
          sym (take_at rest (v ∷ []) n refl)
          ∙ ap (take n) (sym e)
          ∙ ap (take n) front
          ∙ take-take n (length left) xs (omega arith);
    }

after_taken : (home : ℕ → ℕ) (count : ℕ) (xs left rest : List ℕ) (v : ℕ) → left ≡ rest ++ v ∷ [] → laid_out home count (drop (length left) xs) ≡ laid_out home count (drop (length rest + 1) xs)
after_taken home count xs left rest v e = ap (λ n. laid_out home count (drop n xs)) (ap length e ∙ length_push rest v)

-- it finds an empty cell
pub finds : (home : ℕ → ℕ) (homes count : ℕ) (xs left rest cells : List ℕ) (v : ℕ) → IsNonDecreasing xs → HasRoom home homes count xs → left ≡ take (length left) xs → left ≡ rest ++ v ∷ [] → cells ≡ laid_out home count (drop (length left) xs) → (p : ℕ) × IsFirstEmpty cells (home v) p
finds home homes count xs left rest cells v up h front e is =
    let t = taken xs left rest v front e in
    let found = next_finds home homes count xs (length rest) up h t.within in (
      found.0,
      subst (λ (c : List ℕ). IsFirstEmpty c (home v) found.0) (sym (is ∙ after_taken home count xs left rest v e))
          (subst (λ (w : ℕ). IsFirstEmpty (laid_out home count (drop (length rest + 1) xs)) (home w) found.0) t.stands found.1),
    )

-- it goes there
pub goes : (home : ℕ → ℕ) (count : ℕ) (xs left rest cells : List ℕ) (v p : ℕ) → left ≡ take (length left) xs → left ≡ rest ++ v ∷ [] → cells ≡ laid_out home count (drop (length left) xs) → IsFirstEmpty cells (home v) p → set cells p v ≡ laid_out home count (drop (length rest) xs)
goes home count xs left rest cells v p front e is first =
    let t = taken xs left rest v front e in
    let now = is ∙ after_taken home count xs left rest v e in
    let there = subst (λ (c : List ℕ). IsFirstEmpty c (home v) p) now first in
    ap (λ c. set c p v) now
    ∙ ap (λ w. set (laid_out home count (drop (length rest + 1) xs)) p w) (sym t.stands)
    ∙ sym (next_placed home count xs (length rest) p t.within
    (subst (λ (w : ℕ). IsFirstEmpty (laid_out home count (drop (length rest + 1) xs)) (home w) p) (sym t.stands) there))
