-- The medium of the set that was read from one bank, and the other bank and its gate.
use Rattle.std.proofs.Common.{Bool, true, false, ◌≡◌, ℕ, ◌+◌, ◌*◌, List, length, take, Option, Some, None, refl, sym, ◌∙◌, ap, subst, arith}
use Rattle.store_spec.proofs.Common.{A, B, Ballot, Bank, Election, IfSome, IsElection, IsOpen, IsTrue, bank_of, bank_place, bank_size, false≢true, gate_place, image_of, medium_of, other_bank}
use Rattle.std.proofs.lemmas.List.{take_more_same}
use Rattle.std.specs.Prelude.{◌↔◌}
use Rattle.audit_medium.specs.Audited.{DiffersAt, IsCanonical}
use Rattle.image_builder.proofs.Held.{image_fits}
use Rattle.image_builder.proofs.MediumParts.{AreBoth, bank_a, both_of}
use Rattle.recovery.proofs.Agreeing.{agreeing_medium, read_holds}
use Rattle.recovery.proofs.Paging.{differs_in_page, same_more}
use Rattle.recovery.specs.Canonical.{IsReadAs}
use Rattle.recovery.specs.Differing.{DiffersFirstAt, IsFirstDifference}

module _ (e : Election) (set : List Ballot) (election : IsElection e) (bytes : List ℕ) where
  -- the medium of the set has its image twice
  both : (bank : Bank) → IsReadAs e bytes bank set → AreBoth e (image_of e set) (medium_of e set)
  both bank read = both_of e (image_of e set) (image_fits e set election read.image.set read.image.within_limit)

  -- a bank that is the image is as the medium has it
  as_medium : (bank one : Bank) → IsReadAs e bytes bank set → bank_of e one bytes ≡ image_of e set → bank_of e one bytes ≡ bank_of e one (medium_of e set)
  as_medium bank one read is = is ∙ sym ((both bank read).banks one)

  first_bank : bank_of e A bytes ≡ bank_of e A (medium_of e set) → take (bank_size e) bytes ≡ take (bank_size e) (medium_of e set)
  first_bank same = sym (bank_a e bytes) ∙ same ∙ bank_a e (medium_of e set)

  -- what stands before the other bank is as the medium has it
  same_before : (bank : Bank) → IsReadAs e bytes bank set → take (bank_place e (other_bank bank)) bytes ≡ take (bank_place e (other_bank bank)) (medium_of e set)
  same_before A read = first_bank (as_medium A A read read.image.bytes)
  same_before B read = refl

  -- a byte of the other bank differs
  differs_in_bank : (bank : Bank) (at : ℕ) → IsReadAs e bytes bank set → DiffersFirstAt at (bank_of e (other_bank bank) bytes) (image_of e set)
      → DiffersFirstAt (bank_place e (other_bank bank) + at) bytes (medium_of e set)
  differs_in_bank bank at read differs =
      differs_in_page bytes (medium_of e set) (bank_place e (other_bank bank)) (bank_size e) at (same_before bank read)
      (subst (λ (xs : List ℕ). DiffersFirstAt at (bank_of e (other_bank bank) bytes) xs) (sym ((both bank read).banks (other_bank bank))) differs)

  -- both banks are as the medium has them
  same_banks : bank_of e A bytes ≡ bank_of e A (medium_of e set) → bank_of e B bytes ≡ bank_of e B (medium_of e set) → take (2 * bank_size e) bytes ≡ take (2 * bank_size e) (medium_of e set)
  same_banks a b =
      let twice : bank_size e + bank_size e ≡ 2 * bank_size e = omega arith in
      subst (λ k. take k bytes ≡ take k (medium_of e set)) twice (same_more bytes (medium_of e set) (bank_size e) (bank_size e) (first_bank a) b)

  -- the other bank is the image, and its gate is closed
  differs_at_gate : (bank : Bank) → IsReadAs e bytes bank set → bank_of e (other_bank bank) bytes ≡ image_of e set → ¬ IsOpen e (other_bank bank) bytes
      → DiffersFirstAt (gate_place e (other_bank bank)) bytes (medium_of e set)
  differs_at_gate A read agrees shut =
      let parts = both A read in
      let before = same_banks (as_medium A A read read.image.bytes) (as_medium A B read agrees) in
      record {
        before = take_more_same bytes (medium_of e set) (2 * bank_size e) 0 (omega (arith, read.from.size)) (omega (arith, parts.size)) before (read.from.chosen ∙ sym (parts.gates A));
        here = λ is. shut (is ∙ parts.gates B);
      }
  differs_at_gate B read agrees shut =
      let parts = both B read in
      record {
        before = same_banks (as_medium B A read agrees) (as_medium B B read read.image.bytes);
        here = λ is. shut (is ∙ parts.gates A);
      }

-- ---- where the bytes are told

module _ (e : Election) (set : List Ballot) (election : IsElection e) (bank other : Bank) (swap : other ≡ other_bank bank) (first : Option ℕ) where
  abbrev Agrees : Option (List ℕ) → Type 0
  Agrees seen = IfSome seen (λ bytes. IsFirstDifference (bank_of e other bytes) (image_of e set) first)

  abbrev Read : Option (List ℕ) → Type 0
  Read seen = (x : List ℕ) → seen ≡ Some x → IsReadAs e x bank set

  abbrev Gate : Bool → Option (List ℕ) → Type 0
  Gate open_too seen = (x : List ℕ) → seen ≡ Some x → IsTrue open_too ↔ IsOpen e (other_bank bank) x

  -- the other bank first differs so
  of_other : (bytes : List ℕ) (so : Option ℕ) → first ≡ so → IsFirstDifference (bank_of e other bytes) (image_of e set) first → IsFirstDifference (bank_of e (other_bank bank) bytes) (image_of e set) so
  of_other bytes so is agrees =
      subst (λ (o : Option ℕ). IsFirstDifference (bank_of e (other_bank bank) bytes) (image_of e set) o) is
      (subst (λ (b : Bank). IsFirstDifference (bank_of e b bytes) (image_of e set) first) swap agrees)

  -- it differs
  pub bank_told : (seen : Option (List ℕ)) (at place : ℕ) → first ≡ Some at → place ≡ bank_place e other → Read seen → Agrees seen → IfSome seen (λ bytes. DiffersAt e bytes (place + at))
  bank_told None at place is there read agrees = tt
  bank_told (Some bytes) at place is there read agrees =
      let begins : place ≡ bank_place e (other_bank bank) = there ∙ ap (λ (b : Bank). bank_place e b) swap in
      record {
        set = set;
        held = read_holds e set bank bytes (read bytes refl);
        first = subst (λ k. DiffersFirstAt (k + at) bytes (medium_of e set)) (sym begins) (differs_in_bank e set election bytes bank at (read bytes refl) (of_other bytes (Some at) is agrees));
      }

  -- it is the image, and its gate is open
  pub canonical_told : (seen : Option (List ℕ)) (open_too : Bool) (held : ℕ) → first ≡ None → open_too ≡ true → held ≡ length set → Read seen → Gate open_too seen → Agrees seen → IfSome seen (λ bytes. IsCanonical e bytes held)
  canonical_told None open_too held is opened count read gate agrees = tt
  canonical_told (Some bytes) open_too held is opened count read gate agrees = record {
    set = set;
    medium = agreeing_medium e set bank bytes (read bytes refl) ((gate bytes refl).0 opened) (of_other bytes None is agrees);
    count = sym count;
  }

  -- and its gate is closed
  pub gate_told : (seen : Option (List ℕ)) (open_too : Bool) (place : ℕ) → first ≡ None → open_too ≡ false → place ≡ gate_place e other → Read seen → Gate open_too seen → Agrees seen → IfSome seen (λ bytes. DiffersAt e bytes place)
  gate_told None open_too place is closed there read gate agrees = tt
  gate_told (Some bytes) open_too place is closed there read gate agrees =
      let shut = λ (opened : IsOpen e (other_bank bank) bytes). false≢true (sym closed ∙ (gate bytes refl).1 opened) in
      let stands : place ≡ gate_place e (other_bank bank) = there ∙ ap (λ (b : Bank). gate_place e b) swap in
      record {
        set = set;
        held = read_holds e set bank bytes (read bytes refl);
        first = subst (λ k. DiffersFirstAt k bytes (medium_of e set)) (sym stands) (differs_at_gate e set election bytes bank (read bytes refl) (of_other bytes None is agrees) shut);
      }
