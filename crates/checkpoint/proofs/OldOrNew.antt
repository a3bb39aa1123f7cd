-- While both banks of a medium are renewed, bank B first, it holds the old set or the new one.
use Rattle.std.proofs.Common.{◌≡◌, ℕ, List, get_or, ◌∙◌, inl, inr, ⊎_elim, ◌⊎◌}
use Rattle.store_spec.proofs.Common.{A, B, Ballot, Bank, Election, HoldsSet, IsBallotSet, IsImageOf, IsMediumOf, IsOpen, IsWithinLimit, bank_of, cases_eq, gate_place, image_of, open_gate}
use Rattle.checkpoint.proofs.Pages.{Fits}
use Rattle.checkpoint.specs.Renewal.{IsRenewed, IsHalfRenewed}
use Rattle.image_builder.proofs.Held.{medium_parts}
use Rattle.image_builder.proofs.MediumParts.{AreBoth}

is_image : (e : Election) (ballots : List Ballot) (bank : List ℕ) → IsBallotSet e ballots → IsWithinLimit e ballots → bank ≡ image_of e ballots → IsImageOf e bank ballots
is_image e ballots bank set few is = record { set = set; within_limit = few; bytes = is }

module _ (e : Election) (old new : List Ballot) (bytes : List ℕ) (was : IsMediumOf e bytes old) (fits : Fits e new) where
  both : AreBoth e (image_of e old) bytes
  both = medium_parts e bytes old fits.election was

  -- bank B is renewed
  pub first_half : (c : List ℕ) → IsHalfRenewed e B (image_of e new) bytes c → HoldsSet e c old
  first_half c half = record {
    size = half.kept.size ∙ both.size;
    bank = A;
    chosen = half.kept.gate ∙ both.gates A;
    image = is_image e old (bank_of e A c) was.set was.within_limit (half.kept.bytes ∙ both.banks A);
  }

  -- and then bank A
  module _ (mid : List ℕ) (one : IsRenewed e B (image_of e new) bytes mid) where
    pub second_half : (c : List ℕ) → IsHalfRenewed e A (image_of e new) mid c → HoldsSet e c old ⊎ HoldsSet e c new
    second_half c half =
        let size = half.kept.size ∙ one.kept.size ∙ both.size in
        ⊎_elim
        (λ (opened : get_or c (gate_place e A) 0 ≡ open_gate).
        ⊎_elim
        (λ (same : IsOpen e A mid × (bank_of e A c ≡ bank_of e A mid)). inl (record {
          size = size;
          bank = A;
          chosen = opened;
          image = is_image e old (bank_of e A c) was.set was.within_limit (same.1 ∙ one.kept.bytes ∙ both.banks A);
        }))
        (λ (now : bank_of e A c ≡ image_of e new). inr (record {
          size = size;
          bank = A;
          chosen = opened;
          image = is_image e new (bank_of e A c) fits.set fits.within_limit now;
        }))
        (half.whole opened))
        (λ (shut : ¬ (get_or c (gate_place e A) 0 ≡ open_gate)). inr (record {
          size = size;
          bank = B;
          chosen = (shut, half.kept.gate ∙ one.gate);
          image = is_image e new (bank_of e B c) fits.set fits.within_limit (half.kept.bytes ∙ one.bytes);
        }))
        (cases_eq (get_or c (gate_place e A) 0) open_gate)

    -- in the end
    pub both_new : (end : List ℕ) → IsRenewed e A (image_of e new) mid end → AreBoth e (image_of e new) end
    both_new end two = record {
      size = two.kept.size ∙ one.kept.size ∙ both.size;
      banks = λ bank. elim bank as (λ (b : Bank). bank_of e b end ≡ image_of e new) [ A ↦ two.bytes | B ↦ two.kept.bytes ∙ one.bytes ];
      gates = λ bank. elim bank as (λ (b : Bank). IsOpen e b end) [ A ↦ two.gate | B ↦ two.kept.gate ∙ one.gate ];
    }
