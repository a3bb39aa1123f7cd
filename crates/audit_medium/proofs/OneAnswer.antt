-- The bytes of a medium decide what an audit tells.
use Rattle.std.proofs.Common.{◌≡◌, ℕ, ◌<◌, ◌≤◌, List, length, Some, get_or, take, sym, ◌∙◌, ap, subst, arith, ⊎_elim}
use Rattle.store_spec.proofs.Common.{Ballot, Election, Err, HoldsSet, IsElection, IsMediumOf, Ok, Result, cases_lt, get_or-take, medium_of}
use Rattle.std.specs.Prelude.{◌≢◌, MatchResult}
use Rattle.audit_medium.specs.Audited.{DiffersAt, IsAudited, IsCanonical}
use Rattle.audit_medium.specs.declared.finding.Audit.{Audit}
use Rattle.audit_medium.specs.declared.finding.Audit.TheVariants.{Canonical, Differs}
use Rattle.image_builder.proofs.Held.{medium_holds, one_held}
use Rattle.recovery.proofs.Refusals.{one_refusal, refused_holds}
use Rattle.recovery.specs.Differing.{DiffersFirstAt}
use Rattle.recovery.specs.Refused.{IsRefusedMedium}
use Rattle.recovery.specs.declared.fault.RecoverFault.{RecoverFault}
use Rattle.recovery.specs.declared.fault.RecoverFault.TheVariants.{DiskFault, Memory}

-- no place of the same front differs
not_before : (xs ys : List ℕ) (i k : ℕ) → take k xs ≡ take k ys → get_or xs i 0 ≢ get_or ys i 0 → i < k → ⊥
not_before xs ys i k same differs lt = differs (sym (get_or-take k xs i 0 lt) ∙ ap (λ (zs : List ℕ). get_or zs i 0) same ∙ get_or-take k ys i 0 lt)

-- two lists differ first at one place
one_place : (xs ys : List ℕ) (a b : ℕ) → DiffersFirstAt a xs ys → DiffersFirstAt b xs ys → a ≡ b
one_place xs ys a b one two =
    ⊎_elim
    (λ (below : a < b). absurd (not_before xs ys a b two.before one.here below))
    (λ (le : b ≤ a).
    ⊎_elim
    (λ (below : b < a). absurd (not_before xs ys b a one.before two.here below))
    (λ (ge : a ≤ b). let same : a ≡ b = omega arith in same)
    (cases_lt b a))
    (cases_lt a b)

module _ (e : Election) (bytes : List ℕ) (election : IsElection e) where
  -- they hold one set
  one_held_set : (a b : List Ballot) → HoldsSet e bytes a → HoldsSet e bytes b → a ≡ b
  one_held_set a b one two = let same : Some a ≡ Some b = one_held e bytes (Some a) (Some b) election one two in cc

  -- told canonical, they are the medium of the set that they hold
  pub canonical_held : (set : List Ballot) (held : ℕ) → HoldsSet e bytes set → IsCanonical e bytes held → IsMediumOf e bytes set
  canonical_held set held holds one = subst (λ (xs : List Ballot). IsMediumOf e bytes xs) (one_held_set one.set set (medium_holds e bytes one.set election one.medium) holds) one.medium

  -- told to differ, they are not
  pub differs_held : (set : List Ballot) (place : ℕ) → HoldsSet e bytes set → DiffersAt e bytes place → IsMediumOf e bytes set → ⊥
  differs_held set place holds one medium =
      let first = subst (λ (xs : List Ballot). DiffersFirstAt place bytes (medium_of e xs)) (one_held_set one.set set one.held holds) one.first in
      first.here (ap (λ (xs : List ℕ). get_or xs place 0) medium.bytes)

  one_count : (a b : ℕ) → IsCanonical e bytes a → IsCanonical e bytes b → a ≡ b
  one_count a b one two =
      sym one.count ∙ ap length (one_held_set one.set two.set (medium_holds e bytes one.set election one.medium) (medium_holds e bytes two.set election two.medium)) ∙ two.count

  one_difference : (a b : ℕ) → DiffersAt e bytes a → DiffersAt e bytes b → a ≡ b
  one_difference a b one two =
      one_place bytes (medium_of e two.set) a b (subst (λ (xs : List Ballot). DiffersFirstAt a bytes (medium_of e xs)) (one_held_set one.set two.set one.held two.held) one.first) two.first

  not_both : (a b : ℕ) → IsCanonical e bytes a → DiffersAt e bytes b → ⊥
  not_both a b one two = differs_held one.set b (medium_holds e bytes one.set election one.medium) two one.medium

  one_finding : (a b : Audit) → IsAudited e bytes a → IsAudited e bytes b → a ≡ b
  one_finding (Canonical a) (Canonical b) one two = ap (λ (n : ℕ). Canonical n) (one_count a b one two)
  one_finding (Canonical a) (Differs b) one two = absurd (not_both a b one two)
  one_finding (Differs a) (Canonical b) one two = absurd (not_both b a two one)
  one_finding (Differs a) (Differs b) one two = ap (λ (n : ℕ). Differs n) (one_difference a b one two)

  -- bytes of which an audit tells hold a set
  audited_holds : (a : Audit) → IsAudited e bytes a → (set : List Ballot) × HoldsSet e bytes set
  audited_holds (Canonical held) one = (one.set, medium_holds e bytes one.set election one.medium)
  audited_holds (Differs place) one = (one.set, one.held)

  not_refused : (a : Audit) (fault : RecoverFault) → fault ≢ DiskFault → fault ≢ Memory → IsAudited e bytes a → IsRefusedMedium e bytes fault → ⊥
  not_refused a fault not nor one refused = let held = audited_holds a one in refused_holds e bytes fault election not nor refused held.0 held.1

  pub one_answer : (a b : Result Audit RecoverFault) → a ≢ Err DiskFault → a ≢ Err Memory → b ≢ Err DiskFault → b ≢ Err Memory
      → MatchResult a (IsAudited e bytes) (IsRefusedMedium e bytes) → MatchResult b (IsAudited e bytes) (IsRefusedMedium e bytes) → a ≡ b
  one_answer (Ok a) (Ok b) not_a nor_a not_b nor_b one two = ap Ok (one_finding a b one two)
  one_answer (Ok a) (Err b) not_a nor_a not_b nor_b one two = absurd (not_refused a b (λ is. not_b (ap Err is)) (λ is. nor_b (ap Err is)) one two)
  one_answer (Err a) (Ok b) not_a nor_a not_b nor_b one two = absurd (not_refused b a (λ is. not_a (ap Err is)) (λ is. nor_a (ap Err is)) two one)
  one_answer (Err a) (Err b) not_a nor_a not_b nor_b one two =
      ap Err (one_refusal e bytes a b (λ is. not_a (ap Err is)) (λ is. nor_a (ap Err is)) (λ is. not_b (ap Err is)) (λ is. nor_b (ap Err is)) one two)
