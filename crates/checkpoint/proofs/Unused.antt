-- An unused disk becomes the medium of the empty set.
use Rattle.std.proofs.Common.{◌≡◌, ℕ, ◌+◌, ◌*◌, ◌≤◌, ◌<◌, List, [], ◌∷◌, ◌++◌, length, get_or, drop, sym, ◌∙◌, ap, inl, inr, ⊎_elim, arith, length-append}
use Rattle.store_spec.proofs.Common.{A, B, Ballot, Bank, Election, HoldsSet, IsChosen, IsOpen, IsTorn, IsUnused, append-nil, bank_of, bank_size, cases_eq, drop_all, gate_place, image_of, length-drop, medium_of, medium_size, open_gate, overwritten}
use Rattle.crash_disk.proofs.TornBytes.{overwritten-next, torn-before, torn-byte_behind, torn-size}
use Rattle.checkpoint.proofs.Pages.{Fits}
use Rattle.checkpoint.specs.Unused.{IsUnusedOrHolds}
use Rattle.image_builder.proofs.MediumParts.{bank_a, bank_b, part_a, part_b}

-- while its banks are written it stays unused
pub unused_torn : (e : Election) (at k : ℕ) (old c : List ℕ) → at + k ≤ 2 * bank_size e → IsUnused e old → IsTorn at k old c → IsUnused e c
unused_torn e at k old c within unused torn =
    ⊎_elim
    (λ (short : length old < medium_size e). inl (omega (arith, torn.no_longer)))
    (λ (shut : (length old ≡ medium_size e) × (¬ IsOpen e A old) × (¬ IsOpen e B old)).
    let size : length c ≡ length old = let fits : at + k ≤ length old = omega (arith, shut.0) in torn-size at k old c fits torn in
    inr (
      size ∙ shut.0,
      λ opened. shut.1 (sym (torn-byte_behind at k (gate_place e A) old c (omega arith) torn) ∙ opened),
      λ opened. shut.2 (sym (torn-byte_behind at k (gate_place e B) old c (omega arith) torn) ∙ opened),
    ))
    unused

-- it has no more bytes than a medium
pub unused_small : (e : Election) (bytes : List ℕ) → IsUnused e bytes → length bytes ≤ medium_size e
unused_small e bytes unused = ⊎_elim (λ (short : length bytes < medium_size e). omega arith) (λ (shut : (length bytes ≡ medium_size e) × (¬ IsOpen e A bytes) × (¬ IsOpen e B bytes)). omega (arith, shut.0)) unused

no_bank : (e : Election) (c : List ℕ) (bank : Bank) → ¬ IsOpen e A c → ¬ IsOpen e B c → IsChosen e c bank → ⊥
no_bank e c A a b chosen = a chosen
no_bank e c B a b chosen = b chosen.1

-- it holds nothing
pub unused_holds : (e : Election) (c : List ℕ) → IsUnused e c → (set : List Ballot) → ¬ HoldsSet e c set
unused_holds e c unused set held =
    ⊎_elim
    (λ (short : length c < medium_size e). absurd (omega (arith, held.size)))
    (λ (shut : (length c ≡ medium_size e) × (¬ IsOpen e A c) × (¬ IsOpen e B c)). no_bank e c held.bank shut.1 shut.2 held.chosen)
    unused

module _ (e : Election) (ballots : List Ballot) (start : List ℕ) (fits : Fits e ballots) (small : length start ≤ medium_size e) where
  both_long : length (image_of e ballots ++ image_of e ballots) ≡ 2 * bank_size e
  both_long = omega (arith, length-append (image_of e ballots) (image_of e ballots), fits.long)

  no_longer : (c : List ℕ) → IsTorn (2 * bank_size e) 2 (overwritten 0 (image_of e ballots ++ image_of e ballots) start) c → length c ≤ medium_size e
  no_longer c torn =
      let both = image_of e ballots ++ image_of e ballots in
      let rest = drop (0 + length both) start in
      omega (arith, torn.no_longer, length-append both rest, length-drop (0 + length both) start, both_long, small)

  -- while the gates are opened it is unused still, or holds this set
  pub opening_holds : (c : List ℕ) → IsTorn (2 * bank_size e) 2 (overwritten 0 (image_of e ballots ++ image_of e ballots) start) c → IsUnusedOrHolds e ballots c
  opening_holds c torn =
      let size = bank_size e in
      let rest = drop (0 + length (image_of e ballots ++ image_of e ballots)) start in
      let mid = image_of e ballots ++ image_of e ballots ++ rest in
      let first : bank_of e A c ≡ image_of e ballots =
      torn-before (2 * size) 2 mid c 0 (0 + size) (omega arith) torn ∙ bank_a e mid ∙ part_a size (image_of e ballots) (image_of e ballots) rest fits.long fits.long in
      let second : bank_of e B c ≡ image_of e ballots =
      torn-before (2 * size) 2 mid c size (size + size) (omega arith) torn ∙ bank_b e mid ∙ part_b size (image_of e ballots) (image_of e ballots) rest fits.long fits.long in
      ⊎_elim
      (λ (whole : length c ≡ medium_size e).
      ⊎_elim
      (λ (a : get_or c (gate_place e A) 0 ≡ open_gate). inr (record {
        size = whole;
        bank = A;
        chosen = a;
        image = record { set = fits.set; within_limit = fits.within_limit; bytes = first };
      }))
      (λ (no_a : ¬ (get_or c (gate_place e A) 0 ≡ open_gate)).
      ⊎_elim
      (λ (b : get_or c (gate_place e B) 0 ≡ open_gate). inr (record {
        size = whole;
        bank = B;
        chosen = (no_a, b);
        image = record { set = fits.set; within_limit = fits.within_limit; bytes = second };
      }))
      (λ (no_b : ¬ (get_or c (gate_place e B) 0 ≡ open_gate)). inl (inr (whole, no_a, no_b)))
      (cases_eq (get_or c (gate_place e B) 0) open_gate))
      (cases_eq (get_or c (gate_place e A) 0) open_gate))
      (λ (other : ¬ (length c ≡ medium_size e)). inl (inl (omega (arith, no_longer c torn, other))))
      (cases_eq (length c) (medium_size e))

  -- and in the end it is the medium
  pub opened_medium : overwritten (2 * bank_size e) (open_gate ∷ open_gate ∷ []) (overwritten 0 (image_of e ballots ++ image_of e ballots) start) ≡ medium_of e ballots
  opened_medium =
      let both = image_of e ballots ++ image_of e ballots in
      let ends : List ℕ = open_gate ∷ open_gate ∷ [] in
      let none : drop (0 + length (both ++ ends)) start ≡ [] = drop_all (0 + length (both ++ ends)) start (omega (arith, length-append both ends, both_long)) in
      let from : 2 * bank_size e ≡ 0 + 2 * bank_size e = omega arith in
      ap (λ k. overwritten k ends (overwritten 0 both start)) from
      ∙ overwritten-next 0 (2 * bank_size e) both ends start (omega arith) both_long
      ∙ ap (λ (xs : List ℕ). (both ++ ends) ++ xs) none ∙ append-nil (both ++ ends)
