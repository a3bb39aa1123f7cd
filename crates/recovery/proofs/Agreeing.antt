-- The other bank is made to agree with the one that is read.
use Rattle.std.proofs.Common.{◌≡◌, ℕ, List, Option, Some, get_or, sym, ◌∙◌, subst, ⊎_elim}
use Rattle.store_spec.proofs.Common.{A, B, Ballot, Bank, Election, Holds, HoldsSet, HoldsTheSame, IsElection, IsImageOf, IsMediumOf, IsOpen, bank_of, cases_eq, gate_place, image_of, open_gate, other_bank}
use Rattle.checkpoint.specs.Renewal.{IsRenewed, IsHalfRenewed}
use Rattle.image_builder.proofs.Held.{medium_parts, one_held, parts_medium}
use Rattle.image_builder.proofs.MediumParts.{AreBoth}
use Rattle.recovery.specs.Canonical.{IsReadAs, IsReadFrom}

module _ (e : Election) (set : List Ballot) where
  -- the bank that is read holds the set
  pub read_holds : (bank : Bank) (bytes : List ℕ) → IsReadAs e bytes bank set → HoldsSet e bytes set
  read_holds bank bytes read = record { size = read.from.size; bank = bank; chosen = read.from.chosen; image = read.image }

  same_image : (bank other : List ℕ) → IsImageOf e bank set → other ≡ bank → IsImageOf e other set
  same_image bank other image is = record { set = image.set; within_limit = image.within_limit; bytes = is ∙ image.bytes }

  made_image : (bank other : List ℕ) → IsImageOf e bank set → other ≡ image_of e set → IsImageOf e other set
  made_image bank other image is = record { set = image.set; within_limit = image.within_limit; bytes = is }

  -- the bank that is read, by its bytes
  pub read_as : (bank : Bank) (bytes made : List ℕ) → IsReadFrom e bytes bank → bank_of e bank bytes ≡ made → IsImageOf e made set → IsReadAs e bytes bank set
  read_as bank bytes made from is image = record { from = from; image = same_image made (bank_of e bank bytes) image is }

  -- while the other bank is renewed from it, the medium holds that set
  pub half_holds : (bank : Bank) (bytes c : List ℕ) → IsReadAs e bytes bank set → IsHalfRenewed e (other_bank bank) (image_of e set) bytes c → HoldsSet e c set
  half_holds A bytes c read half = record {
    size = half.kept.size ∙ read.from.size;
    bank = A;
    chosen = half.kept.gate ∙ read.from.chosen;
    image = same_image (bank_of e A bytes) (bank_of e A c) read.image half.kept.bytes;
  }
  half_holds B bytes c read half =
      let size = half.kept.size ∙ read.from.size in
      ⊎_elim
      (λ (opened : get_or c (gate_place e A) 0 ≡ open_gate).
      ⊎_elim
      (λ (was : IsOpen e A bytes × (bank_of e A c ≡ bank_of e A bytes)). absurd (read.from.chosen.0 was.0))
      (λ (now : bank_of e A c ≡ image_of e set). record { size = size; bank = A; chosen = opened; image = made_image (bank_of e B bytes) (bank_of e A c) read.image now })
      (half.whole opened))
      (λ (shut : ¬ (get_or c (gate_place e A) 0 ≡ open_gate)). record {
        size = size;
        bank = B;
        chosen = (shut, half.kept.gate ∙ read.from.chosen.1);
        image = same_image (bank_of e B bytes) (bank_of e B c) read.image half.kept.bytes;
      })
      (cases_eq (get_or c (gate_place e A) 0) open_gate)

  -- in the end it is that of the set
  pub renewed_medium : (bank : Bank) (bytes c : List ℕ) → IsReadAs e bytes bank set → IsRenewed e (other_bank bank) (image_of e set) bytes c → IsMediumOf e c set
  renewed_medium A bytes c read new = parts_medium e c set read.image.set read.image.within_limit (record {
    size = new.kept.size ∙ read.from.size;
    banks = λ bank. elim bank as (λ (b : Bank). bank_of e b c ≡ image_of e set) [ A ↦ new.kept.bytes ∙ read.image.bytes | B ↦ new.bytes ];
    gates = λ bank. elim bank as (λ (b : Bank). IsOpen e b c) [ A ↦ new.kept.gate ∙ read.from.chosen | B ↦ new.gate ];
  })
  renewed_medium B bytes c read new = parts_medium e c set read.image.set read.image.within_limit (record {
    size = new.kept.size ∙ read.from.size;
    banks = λ bank. elim bank as (λ (b : Bank). bank_of e b c ≡ image_of e set) [ A ↦ new.bytes | B ↦ new.kept.bytes ∙ read.image.bytes ];
    gates = λ bank. elim bank as (λ (b : Bank). IsOpen e b c) [ A ↦ new.gate | B ↦ new.kept.gate ∙ read.from.chosen.1 ];
  })

  -- and so it is where the other bank agrees already
  pub agreeing_medium : (bank : Bank) (bytes : List ℕ) → IsReadAs e bytes bank set → IsOpen e (other_bank bank) bytes → bank_of e (other_bank bank) bytes ≡ image_of e set → IsMediumOf e bytes set
  agreeing_medium A bytes read opened agrees = parts_medium e bytes set read.image.set read.image.within_limit (record {
    size = read.from.size;
    banks = λ bank. elim bank as (λ (b : Bank). bank_of e b bytes ≡ image_of e set) [ A ↦ read.image.bytes | B ↦ agrees ];
    gates = λ bank. elim bank as (λ (b : Bank). IsOpen e b bytes) [ A ↦ read.from.chosen | B ↦ opened ];
  })
  agreeing_medium B bytes read opened agrees = absurd (read.from.chosen.0 opened)

  -- it agrees in the medium of any set
  module _ (bank : Bank) (bytes : List ℕ) (election : IsElection e) (is : IsMediumOf e bytes set) where
    both : AreBoth e (image_of e set) bytes
    both = medium_parts e bytes set election is

    pub medium_open : IsOpen e (other_bank bank) bytes
    medium_open = both.gates (other_bank bank)

    pub medium_agrees : bank_of e (other_bank bank) bytes ≡ bank_of e bank bytes
    medium_agrees = both.banks (other_bank bank) ∙ sym (both.banks bank)

  -- what holds the set holds what the bytes hold
  pub holds_the_same : (bytes c : List ℕ) → IsElection e → HoldsSet e bytes set → HoldsSet e c set → HoldsTheSame e bytes c
  holds_the_same bytes c election one two held holds =
      let is : held ≡ Some set = one_held e bytes held (Some set) election holds one in
      subst (λ (h : Option (List Ballot)). Holds e c h) (sym is) two
