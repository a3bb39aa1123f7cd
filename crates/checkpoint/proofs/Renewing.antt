-- What torn and written ranges leave of a medium, part by part.
use Rattle.std.proofs.Common.{◌≡◌, ℕ, ◌+◌, ◌*◌, ◌≤◌, List, [], ◌∷◌, length, get_or, Option, Some, sym, ◌∙◌, ap, subst, inl, inr, ⊎_elim, arith}
use Rattle.store_spec.proofs.Common.{A, B, Bank, Election, IsOpen, IsTorn, bank_of, bank_place, bank_size, closed_gate, gate_place, medium_size, open_gate, option_map, overwritten, slice_range}
use Rattle.crash_disk.proofs.TornBytes.{torn-before, torn-behind, torn-byte_before, torn-byte_behind, torn-size, overwritten-range, overwritten-byte}
use Rattle.crash_disk.specs.SeenIsImage.{overwritten-torn}
use Rattle.checkpoint.specs.Renewal.{KeepsOther, IsRenewed, IsHalfRenewed}

pub gate_within : (e : Election) (bank : Bank) → gate_place e bank + 1 ≤ medium_size e
gate_within e A = omega arith
gate_within e B = omega arith

pub bank_within : (e : Election) (bank : Bank) → bank_place e bank + bank_size e ≤ medium_size e
bank_within e A = omega arith
bank_within e B = omega arith

pub bank_ends : (e : Election) (bank : Bank) → bank_place e bank + bank_size e ≤ 2 * bank_size e
bank_ends e A = omega arith
bank_ends e B = omega arith

-- ---- a torn bank

pub torn_bank_keeps : (e : Election) (bank : Bank) (old c : List ℕ) → length old ≡ medium_size e → IsTorn (bank_place e bank) (bank_size e) old c → KeepsOther e bank old c
torn_bank_keeps e A old c long torn = record {
  size = torn-size 0 (bank_size e) old c (omega arith) torn;
  bytes = torn-behind 0 (bank_size e) old c (bank_size e) (bank_size e + bank_size e) (omega arith) torn;
  gate = torn-byte_behind 0 (bank_size e) (2 * bank_size e + 1) old c (omega arith) torn;
}
torn_bank_keeps e B old c long torn = record {
  size = torn-size (bank_size e) (bank_size e) old c (omega arith) torn;
  bytes = torn-before (bank_size e) (bank_size e) old c 0 (0 + bank_size e) (omega arith) torn;
  gate = torn-byte_behind (bank_size e) (bank_size e) (2 * bank_size e) old c (omega arith) torn;
}

pub torn_bank_gate : (e : Election) (bank : Bank) (old c : List ℕ) → IsTorn (bank_place e bank) (bank_size e) old c → get_or c (gate_place e bank) 0 ≡ get_or old (gate_place e bank) 0
torn_bank_gate e A old c torn = torn-byte_behind 0 (bank_size e) (2 * bank_size e) old c (omega arith) torn
torn_bank_gate e B old c torn = torn-byte_behind (bank_size e) (bank_size e) (2 * bank_size e + 1) old c (omega arith) torn

-- ---- a torn gate

pub torn_gate_keeps : (e : Election) (bank : Bank) (old c : List ℕ) → length old ≡ medium_size e → IsTorn (gate_place e bank) 1 old c → KeepsOther e bank old c
torn_gate_keeps e A old c long torn = record {
  size = torn-size (2 * bank_size e) 1 old c (omega arith) torn;
  bytes = torn-before (2 * bank_size e) 1 old c (bank_size e) (bank_size e + bank_size e) (omega arith) torn;
  gate = torn-byte_behind (2 * bank_size e) 1 (2 * bank_size e + 1) old c (omega arith) torn;
}
torn_gate_keeps e B old c long torn = record {
  size = torn-size (2 * bank_size e + 1) 1 old c (omega arith) torn;
  bytes = torn-before (2 * bank_size e + 1) 1 old c 0 (0 + bank_size e) (omega arith) torn;
  gate = torn-byte_before (2 * bank_size e + 1) 1 (2 * bank_size e) old c (omega arith) torn;
}

pub torn_gate_bank : (e : Election) (bank : Bank) (old c : List ℕ) → IsTorn (gate_place e bank) 1 old c → bank_of e bank c ≡ bank_of e bank old
torn_gate_bank e A old c torn = torn-before (2 * bank_size e) 1 old c 0 (0 + bank_size e) (omega arith) torn
torn_gate_bank e B old c torn = torn-before (2 * bank_size e + 1) 1 old c (bank_size e) (bank_size e + bank_size e) (omega arith) torn

-- ---- one change after another

pub keeps_on : (e : Election) (bank : Bank) (old mid new : List ℕ) → KeepsOther e bank old mid → KeepsOther e bank mid new → KeepsOther e bank old new
keeps_on e bank old mid new one two = record { size = two.size ∙ one.size; bytes = two.bytes ∙ one.bytes; gate = two.gate ∙ one.gate }

-- a bank that was written
module _ (e : Election) (bank : Bank) (image old : List ℕ) (long : length old ≡ medium_size e) (fits : length image ≡ bank_size e) where
  pub written_torn : IsTorn (bank_place e bank) (bank_size e) old (overwritten (bank_place e bank) image old)
  written_torn =
      let torn = overwritten-torn (bank_place e bank) image old (omega (arith, bank_within e bank)) in
      subst (λ n. IsTorn (bank_place e bank) n old (overwritten (bank_place e bank) image old)) fits torn

  pub written_bank : bank_of e bank (overwritten (bank_place e bank) image old) ≡ image
  written_bank =
      ap (λ n. slice_range (overwritten (bank_place e bank) image old) (bank_place e bank) (bank_place e bank + n)) (sym fits)
      ∙ overwritten-range (bank_place e bank) image old (omega (arith, bank_within e bank))

  pub written_keeps : KeepsOther e bank old (overwritten (bank_place e bank) image old)
  written_keeps = torn_bank_keeps e bank old (overwritten (bank_place e bank) image old) long written_torn

-- a gate that was written
module _ (e : Election) (bank : Bank) (x : ℕ) (old : List ℕ) (long : length old ≡ medium_size e) where
  pub gate_torn : IsTorn (gate_place e bank) 1 old (overwritten (gate_place e bank) (x ∷ []) old)
  gate_torn = overwritten-torn (gate_place e bank) (x ∷ []) old (omega (arith, gate_within e bank))

  pub gate_keeps : KeepsOther e bank old (overwritten (gate_place e bank) (x ∷ []) old)
  gate_keeps = torn_gate_keeps e bank old (overwritten (gate_place e bank) (x ∷ []) old) long gate_torn

  pub gate_is : get_or (overwritten (gate_place e bank) (x ∷ []) old) (gate_place e bank) 0 ≡ x
  gate_is = overwritten-byte (gate_place e bank) x old (omega (arith, gate_within e bank))

-- ---- a bank that is filled behind a closed gate

module _ (e : Election) (bank : Bank) (image old : List ℕ) (long : length old ≡ medium_size e) (fits : length image ≡ bank_size e) where
  -- the pages
  pub pages_half : (c : List ℕ) → ¬ IsOpen e bank old → IsTorn (bank_place e bank) (bank_size e) old c → IsHalfRenewed e bank image old c
  pages_half c shut torn = record {
    kept = torn_bank_keeps e bank old c long torn;
    whole = λ opened. absurd (shut (sym (torn_bank_gate e bank old c torn) ∙ opened));
  }

  -- the gate that is opened
  pub opening_half : (c : List ℕ) → IsTorn (gate_place e bank) 1 (overwritten (bank_place e bank) image old) c → IsHalfRenewed e bank image old c
  opening_half c torn =
      let mid = overwritten (bank_place e bank) image old in
      let kept = written_keeps e bank image old long fits in
      record {
        kept = keeps_on e bank old mid c kept (torn_gate_keeps e bank mid c (kept.size ∙ long) torn);
        whole = λ opened. inr (torn_gate_bank e bank mid c torn ∙ written_bank e bank image old long fits);
      }

  -- the bytes in the end
  pub filled : IsRenewed e bank image old (overwritten (gate_place e bank) (open_gate ∷ []) (overwritten (bank_place e bank) image old))
  filled =
      let mid = overwritten (bank_place e bank) image old in
      let kept = written_keeps e bank image old long fits in
      record {
        kept = keeps_on e bank old mid (overwritten (gate_place e bank) (open_gate ∷ []) mid) kept (gate_keeps e bank open_gate mid (kept.size ∙ long));
        bytes = torn_gate_bank e bank mid (overwritten (gate_place e bank) (open_gate ∷ []) mid) (gate_torn e bank open_gate mid (kept.size ∙ long)) ∙ written_bank e bank image old long fits;
        gate = gate_is e bank open_gate mid (kept.size ∙ long);
      }

-- ---- a bank whose open gate is closed before

module _ (e : Election) (bank : Bank) (image old : List ℕ) (long : length old ≡ medium_size e) where
  -- the gate that is closed
  pub closing_half : (c : List ℕ) → IsOpen e bank old → IsTorn (gate_place e bank) 1 old c → IsHalfRenewed e bank image old c
  closing_half c was torn = record {
    kept = torn_gate_keeps e bank old c long torn;
    whole = λ opened. inl (was, torn_gate_bank e bank old c torn);
  }

  pub closed_shut : ¬ IsOpen e bank (overwritten (gate_place e bank) (closed_gate ∷ []) old)
  closed_shut opened = let zero_is : closed_gate ≡ open_gate = sym (gate_is e bank closed_gate old long) ∙ opened in absurd (omega arith)

  pub closed_long : length (overwritten (gate_place e bank) (closed_gate ∷ []) old) ≡ medium_size e
  closed_long = (gate_keeps e bank closed_gate old long).size ∙ long

  -- what follows
  pub half_on : (c : List ℕ) → IsHalfRenewed e bank image (overwritten (gate_place e bank) (closed_gate ∷ []) old) c → IsHalfRenewed e bank image old c
  half_on c half = record {
    kept = keeps_on e bank old (overwritten (gate_place e bank) (closed_gate ∷ []) old) c (gate_keeps e bank closed_gate old long) half.kept;
    whole = λ opened. ⊎_elim (λ was. absurd (closed_shut was.0)) (λ new. inr new) (half.whole opened);
  }

  pub renewed_on : (c : List ℕ) → IsRenewed e bank image (overwritten (gate_place e bank) (closed_gate ∷ []) old) c → IsRenewed e bank image old c
  renewed_on c new = record {
    kept = keeps_on e bank old (overwritten (gate_place e bank) (closed_gate ∷ []) old) c (gate_keeps e bank closed_gate old long) new.kept;
    bytes = new.bytes;
    gate = new.gate;
  }

-- ---- where the bytes may not be told

-- a bank that was filled: written, settled, and its gate opened
pub filled_told : (e : Election) (bank : Bank) (image : List ℕ) (old mid settled now : Option (List ℕ)) → length image ≡ bank_size e
    → ((x : List ℕ) → old ≡ Some x → length x ≡ medium_size e)
    → mid ≡ option_map (overwritten (bank_place e bank) image) old → settled ≡ mid
    → now ≡ option_map (overwritten (gate_place e bank) (open_gate ∷ [])) settled
    → (x y : List ℕ) → old ≡ Some x → now ≡ Some y → IsRenewed e bank image x y
filled_told e bank image old mid settled now fits long written kept opened x y was is =
    let f : List ℕ → List ℕ = overwritten (gate_place e bank) (open_gate ∷ []) in
    let h : List ℕ → List ℕ = overwritten (bank_place e bank) image in
    let sees : Some y ≡ Some (f (h x)) = sym is ∙ opened ∙ ap (option_map f) (kept ∙ written ∙ ap (option_map h) was) in
    let bytes : f (h x) ≡ y = cc in
    subst (IsRenewed e bank image x) bytes (filled e bank image x (long x was) fits)

-- a gate that was closed, and then the bank filled
pub closed_told : (e : Election) (bank : Bank) (image : List ℕ) (old shut now : Option (List ℕ))
    → ((x : List ℕ) → old ≡ Some x → length x ≡ medium_size e)
    → shut ≡ option_map (overwritten (gate_place e bank) (closed_gate ∷ [])) old
    → ((x y : List ℕ) → shut ≡ Some x → now ≡ Some y → IsRenewed e bank image x y)
    → (x y : List ℕ) → old ≡ Some x → now ≡ Some y → IsRenewed e bank image x y
closed_told e bank image old shut now long closes renewed x y was is =
    renewed_on e bank image x (long x was) y (renewed (overwritten (gate_place e bank) (closed_gate ∷ []) x) y (closes ∙ ap (option_map (overwritten (gate_place e bank) (closed_gate ∷ []))) was) is)
