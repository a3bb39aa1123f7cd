-- Bytes are refused for one reason, and then they hold nothing.
use Rattle.std.proofs.Common.{◌≡◌, ℕ, List, length, refl, sym, ◌∙◌, ap, subst, ⊎_elim}
use Rattle.store_spec.proofs.Common.{A, B, Ballot, Bank, Election, HoldsSet, IsChosen, IsElection, IsImageOf, IsOpen, bank_of, medium_size}
use Rattle.std.specs.Prelude.{◌≢◌}
use Rattle.image_builder.proofs.Judged.{only_memory}
use Rattle.image_builder.proofs.FourTests.{one_wrong}
use Rattle.image_builder.proofs.Held.{one_bank}
use Rattle.image_builder.specs.Reading.{IsRefusedBank}
use Rattle.image_builder.specs.declared.read.ImageFault.{ImageFault}
use Rattle.image_builder.specs.declared.read.ImageFault.TheVariants as images
use Rattle.recovery.specs.Refused.{IsRefusedInBank, IsRefusedMedium}
use Rattle.recovery.specs.declared.fault.RecoverFault.{RecoverFault}
use Rattle.recovery.specs.declared.fault.RecoverFault.TheVariants.{NoStore, OtherElection, Damaged, DiskFault, Memory}

module _ (e : Election) (bytes : List ℕ) where
  -- both refusals are of one bank
  same_bank : (a b : ImageFault) → IsRefusedInBank e bytes a → (two : IsRefusedInBank e bytes b) → IsRefusedBank e (bank_of e two.bank bytes) a
  same_bank a b one two = subst (λ (bank : Bank). IsRefusedBank e (bank_of e bank bytes) a) (one_bank e bytes one.bank two.bank one.chosen two.chosen) one.refused

  -- with both gates closed no bank is read
  no_bank : (bank : Bank) → ¬ IsOpen e A bytes → ¬ IsOpen e B bytes → IsChosen e bytes bank → ⊥
  no_bank A a b chosen = a chosen
  no_bank B a b chosen = b chosen.1

  none_read : (bank : Bank) → length bytes ≡ medium_size e → IsChosen e bytes bank → IsRefusedMedium e bytes NoStore → ⊥
  none_read bank size chosen none = ⊎_elim (λ (other : length bytes ≢ medium_size e). other size) (λ (shut : (¬ IsOpen e A bytes) × (¬ IsOpen e B bytes)). no_bank bank shut.0 shut.1 chosen) none

pub one_refusal : (e : Election) (bytes : List ℕ) (a b : RecoverFault) → a ≢ DiskFault → a ≢ Memory → b ≢ DiskFault → b ≢ Memory → IsRefusedMedium e bytes a → IsRefusedMedium e bytes b → a ≡ b
one_refusal e bytes DiskFault b not_a nor_a not_b nor_b one two = absurd (not_a refl)
one_refusal e bytes Memory b not_a nor_a not_b nor_b one two = absurd (nor_a refl)
one_refusal e bytes a DiskFault not_a nor_a not_b nor_b one two = absurd (not_b refl)
one_refusal e bytes a Memory not_a nor_a not_b nor_b one two = absurd (nor_b refl)
one_refusal e bytes NoStore NoStore not_a nor_a not_b nor_b one two = refl
one_refusal e bytes NoStore (OtherElection header) not_a nor_a not_b nor_b one two = absurd (none_read e bytes two.bank two.size two.chosen one)
one_refusal e bytes NoStore (Damaged cell) not_a nor_a not_b nor_b one two = absurd (none_read e bytes two.bank two.size two.chosen one)
one_refusal e bytes (OtherElection header) NoStore not_a nor_a not_b nor_b one two = absurd (none_read e bytes one.bank one.size one.chosen two)
one_refusal e bytes (Damaged cell) NoStore not_a nor_a not_b nor_b one two = absurd (none_read e bytes one.bank one.size one.chosen two)
one_refusal e bytes (OtherElection x) (OtherElection y) not_a nor_a not_b nor_b one two =
    let first = same_bank e bytes (images.OtherElection x) (images.OtherElection y) one two in
    ap (λ (header : List ℕ). OtherElection header) (first.0 ∙ sym two.refused.0)
one_refusal e bytes (Damaged x) (Damaged y) not_a nor_a not_b nor_b one two =
    let first = same_bank e bytes (images.Damaged x) (images.Damaged y) one two in
    ap (λ (cell : ℕ). Damaged cell) (one_wrong e (bank_of e two.bank bytes) x y first.1 two.refused.1)
one_refusal e bytes (OtherElection x) (Damaged y) not_a nor_a not_b nor_b one two =
    let first = same_bank e bytes (images.OtherElection x) (images.Damaged y) one two in
    absurd (first.1 (first.0 ∙ two.refused.0))
one_refusal e bytes (Damaged x) (OtherElection y) not_a nor_a not_b nor_b one two =
    let first = same_bank e bytes (images.Damaged x) (images.OtherElection y) one two in
    absurd (two.refused.1 (two.refused.0 ∙ first.0))

module _ (e : Election) (bytes : List ℕ) (set : List Ballot) (held : HoldsSet e bytes set) where
  -- the bank that is read is refused for want of memory alone
  refused_bank : (why : ImageFault) → IsRefusedInBank e bytes why → why ≡ images.Memory
  refused_bank why one =
      let image = subst (λ (bank : Bank). IsImageOf e (bank_of e bank bytes) set) (one_bank e bytes held.bank one.bank held.chosen one.chosen) held.image in
      only_memory e (bank_of e one.bank bytes) set why image one.refused

pub refused_holds : (e : Election) (bytes : List ℕ) (fault : RecoverFault) → IsElection e → fault ≢ DiskFault → fault ≢ Memory → IsRefusedMedium e bytes fault → (set : List Ballot) → ¬ HoldsSet e bytes set
refused_holds e bytes NoStore election not nor refused set held = none_read e bytes held.bank held.size held.chosen refused
refused_holds e bytes (OtherElection header) election not nor refused set held = let no : images.OtherElection header ≡ images.Memory = refused_bank e bytes set held (images.OtherElection header) refused in let never : ⊥ = cc in never
refused_holds e bytes (Damaged cell) election not nor refused set held = let no : images.Damaged cell ≡ images.Memory = refused_bank e bytes set held (images.Damaged cell) refused in let never : ⊥ = cc in never
refused_holds e bytes DiskFault election not nor refused set held = absurd (not refl)
refused_holds e bytes Memory election not nor refused set held = absurd (nor refl)
