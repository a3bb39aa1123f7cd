-- A medium in its four parts: two banks and two gates.
use Rattle.std.proofs.Common.{◌≡◌, ℕ, ◌+◌, ◌-◌, ◌*◌, List, [], ◌∷◌, ◌++◌, length, get_or, take, drop, refl, sym, ◌∙◌, ap, arith, length-append, append_assoc}
use Rattle.store_spec.proofs.Common.{A, B, Bank, Election, IsOpen, bank_of, bank_size, drop-drop, drop_at, get_or-append_right, get_or-drop, length-drop, medium_size, open_gate, take-append-drop, take_at}

-- the bytes are two banks with this image, and open gates
pub record AreBoth (e : Election) (image bytes : List ℕ) : Type 0 where
  pub size : length bytes ≡ medium_size e
  pub banks : (bank : Bank) → bank_of e bank bytes ≡ image
  pub gates : (bank : Bank) → IsOpen e bank bytes

module _ (n : ℕ) (a b rest : List ℕ) (long_a : length a ≡ n) (long_b : length b ≡ n) where
  pub part_a : take n (a ++ b ++ rest) ≡ a
  part_a = ap (take n) (append_assoc a b rest) ∙ take_at a (b ++ rest) n long_a

  pub part_b : take n (drop n (a ++ b ++ rest)) ≡ b
  part_b = ap (λ (xs : List ℕ). take n (drop n xs)) (append_assoc a b rest) ∙ ap (take n) (drop_at a (b ++ rest) n long_a) ∙ take_at b rest n long_b

  part_behind : (i : ℕ) → get_or (a ++ b ++ rest) (2 * n + i) 0 ≡ get_or rest i 0
  part_behind i =
      let both : length (a ++ b) ≡ 2 * n = omega (arith, length-append a b) in
      let left : 2 * n + i - 2 * n ≡ i = omega arith in
      get_or-append_right (a ++ b) rest (2 * n) (2 * n + i) 0 both (omega arith) ∙ ap (λ k. get_or rest k 0) left

two : (xs : List ℕ) → length xs ≡ 2 → xs ≡ get_or xs 0 0 ∷ get_or xs 1 0 ∷ []
two [] long = absurd (omega arith)
two (x ∷ []) long = absurd (omega arith)
two (x ∷ y ∷ []) long = refl
two (x ∷ y ∷ z ∷ xs) long = absurd (omega arith)

pub bank_a : (e : Election) (bytes : List ℕ) → bank_of e A bytes ≡ take (bank_size e) bytes
bank_a e bytes = let n : 0 + bank_size e - 0 ≡ bank_size e = omega arith in ap (λ k. take k bytes) n

pub bank_b : (e : Election) (bytes : List ℕ) → bank_of e B bytes ≡ take (bank_size e) (drop (bank_size e) bytes)
bank_b e bytes = let n : bank_size e + bank_size e - bank_size e ≡ bank_size e = omega arith in ap (λ k. take k (drop (bank_size e) bytes)) n

-- two images of the size of a bank and open gates are such bytes
pub both_of : (e : Election) (image : List ℕ) → length image ≡ bank_size e → AreBoth e image (image ++ image ++ open_gate ∷ open_gate ∷ [])
both_of e image long =
    let n = bank_size e in
    let ends : List ℕ = open_gate ∷ open_gate ∷ [] in
    let bytes : List ℕ = image ++ image ++ ends in
    record {
      size = omega (arith, length-append (image ++ image) ends, length-append image image);
      banks = λ bank. elim bank as (λ (b : Bank). bank_of e b bytes ≡ image) [ A ↦ bank_a e bytes ∙ part_a n image image ends long long | B ↦ bank_b e bytes ∙ part_b n image image ends long long ];
      gates = λ bank. elim bank as (λ (b : Bank). IsOpen e b bytes) [
        | A ↦ (let k : 2 * n ≡ 2 * n + 0 = omega arith in ap (λ j. get_or bytes j 0) k ∙ part_behind n image image ends long long 0)
        | B ↦ part_behind n image image ends long long 1
      ];
    }

-- and no other bytes are
pub both_is : (e : Election) (image bytes : List ℕ) → AreBoth e image bytes → bytes ≡ image ++ image ++ open_gate ∷ open_gate ∷ []
both_is e image bytes both =
    let n = bank_size e in
    let rest = drop n (drop n bytes) in
    let a : take n bytes ≡ image = sym (bank_a e bytes) ∙ both.banks A in
    let b : take n (drop n bytes) ≡ image = sym (bank_b e bytes) ∙ both.banks B in
    let far : rest ≡ drop (n + n) bytes = drop-drop n n bytes in
    let long : length rest ≡ 2 = ap length far ∙ omega (arith, both.size, length-drop (n + n) bytes) in
    let first : get_or rest 0 0 ≡ open_gate =
    ap (λ (xs : List ℕ). get_or xs 0 0) far ∙ get_or-drop (n + n) bytes 0 0 ∙ ap (λ k. get_or bytes k 0) (omega arith) ∙ both.gates A in
    let second : get_or rest 1 0 ≡ open_gate =
    ap (λ (xs : List ℕ). get_or xs 1 0) far ∙ get_or-drop (n + n) bytes 1 0 ∙ ap (λ k. get_or bytes k 0) (omega arith) ∙ both.gates B in
    let ends : rest ≡ open_gate ∷ open_gate ∷ [] = two rest long ∙ ap (λ x. x ∷ get_or rest 1 0 ∷ []) first ∙ ap (λ y. open_gate ∷ y ∷ []) second in
    sym (take-append-drop n bytes) ∙ ap (λ (xs : List ℕ). xs ++ drop n bytes) a
    ∙ ap (λ (xs : List ℕ). image ++ xs) (sym (take-append-drop n (drop n bytes)) ∙ ap (λ (xs : List ℕ). xs ++ rest) b ∙ ap (λ (xs : List ℕ). image ++ xs) ends)
    ∙ sym (append_assoc image image (open_gate ∷ open_gate ∷ []))
