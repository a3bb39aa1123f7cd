-- What stands in a cell: nothing, a valid ballot, or other bytes.
use Rattle.std.proofs.Common.{◌≡◌, ℕ, zero, suc, ◌+◌, ◌-◌, ◌^◌, ◌<◌, ◌≤◌, ◌⊎◌, Bool, true, false, inl, inr, ⊎_elim, List, length, get_or, replicate, refl, sym, ap, subst, ◌∙◌, arith}
use Rattle.store_spec.proofs.Common.{Ballot, Election, IsCellOf, IsElection, IsValid, MARK_SETS, ballot_bytes, bytes_eq, bytes_eq-Decides, cases_eq, cases_lt, cell_size, choices_on, false≢true}
use Rattle.std.specs.Bool.{Decides}
use Rattle.ballot_record.proofs.FormatReading.{cell_again}
use Rattle.ballot_record.specs.Format.{ballot_at}
use Rattle.store_spec.specs.Ballot.{HasMarks}
use Rattle.store_spec.specs.Image.{IsEmptyCell}

-- of so many numbers each has P, or one has not
pub each_or_one : (P : ℕ → Type 0) → ((k : ℕ) → P k ⊎ (P k → ⊥)) → (n : ℕ) → ((k : ℕ) → k < n → P k) ⊎ ((k : ℕ) × (k < n) × (P k → ⊥))
each_or_one P tells zero = inl (λ k lt. absurd (omega arith))
each_or_one P tells (suc n) =
    elim (tells n) [
      | inr fails ↦ inr (n, omega arith, fails)
      | inl last ↦
          elim (each_or_one P tells n) [
            | inr one ↦ inr (one.0, omega (arith, one.1), one.2)
            | inl each ↦ inl (λ k lt. ⊎_elim (λ (less : k < n). each k less) (λ (more : n ≤ k). let same : n ≡ k = omega arith in subst P same last) (cases_lt k n))
          ]
    ]

told : (P : Type 0) (b : Bool) → Decides b P → P ⊎ (P → ⊥)
told P true tells = inl (tells.0 refl)
told P false tells = inr (λ is. false≢true (tells.1 is))

pub same_or_not : (xs ys : List ℕ) → (xs ≡ ys) ⊎ (xs ≡ ys → ⊥)
same_or_not xs ys = told (xs ≡ ys) (bytes_eq xs ys) (bytes_eq-Decides xs ys)

marks_or_not : (e : Election) (style : ℕ) (marks : List ℕ) → HasMarks e style marks ⊎ (HasMarks e style marks → ⊥)
marks_or_not e style marks =
    let Fits : ℕ → Type 0 = λ k. get_or marks k 0 < 2 ^ choices_on e style (k + 1) in
    let At : ℕ → ℕ → Type 0 = λ k place. get_or marks place 0 < 2 ^ choices_on e style k in
    elim (each_or_one Fits (λ k. elim (cases_lt (get_or marks k 0) (2 ^ choices_on e style (k + 1))) [ inl less ↦ inl less | inr more ↦ inr (λ less. omega arith) ]) MARK_SETS) [
      | inl each ↦ inl (λ k some few.
          let back : k - 1 + 1 ≡ k = omega arith in
          subst (λ (k' : ℕ). At k' (k - 1)) back (each (k - 1) (omega arith)))
      | inr one ↦ inr (λ has.
          let back : one.0 + 1 - 1 ≡ one.0 = omega arith in
          one.2 (subst (At (one.0 + 1)) back (has (one.0 + 1) (omega arith) (omega (arith, one.1)))))
    ]

pub valid_or_not : (e : Election) (b : Ballot) → IsValid e b ⊎ (IsValid e b → ⊥)
valid_or_not e b =
    elim (cases_lt 0 b.number) [
      | inr none ↦ inr (λ valid. omega (arith, valid.some_number))
      | inl some_number ↦ elim (cases_lt b.number (2 ^ 64)) [
        | inr long ↦ inr (λ valid. omega (arith, valid.short_number))
        | inl short_number ↦ elim (cases_lt 0 b.style) [
          | inr none ↦ inr (λ valid. omega (arith, valid.some_style))
          | inl some_style ↦ elim (cases_lt (length e.styles) b.style) [
            | inl unknown ↦ inr (λ valid. omega (arith, valid.known_style))
            | inr known ↦ elim (cases_eq (length b.marks) MARK_SETS) [
              | inr other ↦ inr (λ valid. other valid.every_set)
              | inl every ↦ elim (marks_or_not e b.style b.marks) [
                | inr not ↦ inr (λ valid. not valid.marked)
                | inl marked ↦ inl (record {
                  some_number = omega arith;
                  short_number = short_number;
                  some_style = omega arith;
                  known_style = known;
                  every_set = every;
                  marked = marked;
                })
              ]
            ]
          ]
        ]
      ]
    ]

-- the bytes of a cell are those of one ballot at most, which is read from them
pub held_or_not : (e : Election) (bytes : List ℕ) → IsElection e → ((b : Ballot) × IsCellOf e bytes b) ⊎ ((b : Ballot) → IsCellOf e bytes b → ⊥)
held_or_not e bytes election =
    let read = ballot_at e bytes in
    let only : (b : Ballot) → IsCellOf e bytes b → read ≡ b = λ b is. ap (ballot_at e) is.1 ∙ cell_again e b election is.0 in
    elim (valid_or_not e read) [
      | inr not ↦ inr (λ b is. not (subst (IsValid e) (sym (only b is)) is.0))
      | inl valid ↦ elim (same_or_not bytes (ballot_bytes e read)) [
        | inr other ↦ inr (λ b is. other (is.1 ∙ ap (ballot_bytes e) (sym (only b is))))
        | inl same ↦ inl (read, (valid, same))
      ]
    ]

pub empty_or_not : (e : Election) (bytes : List ℕ) → IsEmptyCell e bytes ⊎ (IsEmptyCell e bytes → ⊥)
empty_or_not e bytes = same_or_not bytes (replicate (cell_size e) 0)
