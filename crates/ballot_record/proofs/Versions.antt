-- What goes with a version is the value of the first one or of the second.
use Rattle.std.proofs.Common.{◌≡◌, ◌≢◌, ℕ, ◌+◌, ◌-◌, ◌*◌, ◌^◌, ◌≤◌, ◌⊎◌, inl, inr, length, refl, sym, ap, subst, ◌∙◌, arith}
use Rattle.store_spec.proofs.Common.{Election, IsElection, MARK_SETS, cases_eq, cond-false, cond-true, eq-eqb, most_choices, ne_eqb, set_width}
use Rattle.std.proofs.Math.Nat.{mul-le-mul}
use Rattle.ballot_record.specs.Format.{IsSetWidth}
use Rattle.store_spec.specs.Election.{in_version, most_contests}

pub version_cases : (version first second : ℕ)
    → ((version ≡ 1) × (in_version version first second ≡ first)) ⊎ ((version ≢ 1) × (in_version version first second ≡ second))
unfolding in_version
version_cases version first second = elim (cases_eq version 1) [
  | inl one ↦ inl (one, cond-true _ _ _ (eq-eqb version 1 one))
  | inr later ↦ inr (later, cond-false _ _ _ (ne_eqb version 1 later))
]

-- what both values have
both : (P : ℕ → Type 0) (version first second : ℕ) → P first → P second → P (in_version version first second)
both P version first second holds_first holds_second = elim (version_cases version first second) [
  | inl is ↦ subst P (sym is.1) holds_first
  | inr is ↦ subst P (sym is.1) holds_second
]

pub known_width : (e : Election) → IsSetWidth (set_width e)
known_width e = both IsSetWidth e.version 4 8 (inl refl) (inr refl)

pub few_contests : (e : Election) → most_contests e ≤ MARK_SETS
few_contests e = both (λ n. n ≤ MARK_SETS) e.version 16 24 (omega arith) (omega arith)

pub contests_fit : (e : Election) → IsElection e → length e.contests ≤ MARK_SETS
contests_fit e election = omega (arith, few_contests e, election.few_contests)

-- there is more than one digit's choices, and a word has a bit for each
pub some_choices : (e : Election) → 9 ≤ most_choices e
some_choices e = both (λ n. 9 ≤ n) e.version 32 64 (omega arith) (omega arith)

pub few_choices : (e : Election) → most_choices e ≤ 64
few_choices e = both (λ n. n ≤ 64) e.version 32 64 (omega arith) (omega arith)

in_first : (e : Election) (first second : ℕ) → e.version ≡ 1 → in_version e.version first second ≡ first
in_first e first second one = elim (version_cases e.version first second) [ inl is ↦ is.1 | inr is ↦ absurd (is.0 one) ]

in_second : (e : Election) (first second : ℕ) → e.version ≢ 1 → in_version e.version first second ≡ second
in_second e first second later = elim (version_cases e.version first second) [ inl is ↦ absurd (later is.0) | inr is ↦ is.1 ]

-- a mark set of all choices takes the bytes that it has in a cell
pub set_room : (e : Election) → 256 ^ set_width e ≡ 2 ^ most_choices e
set_room e = elim (version_cases e.version 4 8) [
  | inl is ↦ ap (λ n. 256 ^ n) is.1 ∙ sym (ap (λ n. 2 ^ n) (in_first e 32 64 is.0))
  | inr is ↦ ap (λ n. 256 ^ n) is.1 ∙ sym (ap (λ n. 2 ^ n) (in_second e 32 64 is.0))
]

pub few_set_bytes : (e : Election) → set_width e ≤ 8
few_set_bytes e = both (λ n. n ≤ 8) e.version 4 8 (omega arith) (omega arith)

pub set_bytes_fit : (e : Election) → IsElection e → set_width e * length e.contests ≤ 8 * MARK_SETS
set_bytes_fit e election = mul-le-mul (few_set_bytes e) (contests_fit e election)

-- the line of the most groups of the most choices: 25 bytes in front, and so many for each group and its slash
pub longest : (e : Election) → 24 + (3 * most_choices e - 9) * most_contests e ≡ in_version e.version 1416 4416
longest e =
    let whole : ℕ → ℕ → ℕ = λ choices contests. 24 + (3 * choices - 9) * contests in
    elim (version_cases e.version 32 64) [
      | inl is ↦ ap (λ n. whole n (most_contests e)) is.1 ∙ ap (whole 32) (in_first e 16 24 is.0) ∙ sym (in_first e 1416 4416 is.0)
      | inr is ↦ ap (λ n. whole n (most_contests e)) is.1 ∙ ap (whole 64) (in_second e 16 24 is.0) ∙ sym (in_second e 1416 4416 is.0)
    ]

pub few_bytes : (e : Election) → in_version e.version 1416 4416 ≤ 4416
few_bytes e = both (λ n. n ≤ 4416) e.version 1416 4416 (omega arith) (omega arith)
