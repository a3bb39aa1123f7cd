use Rattle.std.proofs.Common.{◌≡◌, ◌+◌, ◌^◌, inl, inr, get_or, set, ap, ◌∙◌, arith, get_or-set_other, get_or-set_same}
use Rattle.store_spec.proofs.Common.{bit_at, cases_eq}
use Rattle.std.proofs.lemmas.Nat.Bits.{bit_at-pow_other, bit_at-pow_same}
use Rattle.tally_export.proofs.counts.add_choice.Goals as goal

pub returns : goal.returns
returns c k within =
    let counts = c.args.counts.now in
    let choice = c.args.choice in
    let marked = get_or counts choice 0 + 1 in
    elim (cases_eq k choice) [
      | inl same ↦
          let is : get_or (set counts choice marked) k 0 ≡ marked =
          ap (λ k. get_or (set counts choice marked) k 0) same ∙ get_or-set_same counts choice marked 0 (omega arith) in
          let was : get_or counts k 0 ≡ get_or counts choice 0 = ap (λ k. get_or counts k 0) same in
          let bit : bit_at (2 ^ choice) k ≡ 1 = ap (bit_at (2 ^ choice)) same ∙ bit_at-pow_same choice in
          omega (arith, is, was, bit)
      | inr other ↦
          let is : get_or (set counts choice marked) k 0 ≡ get_or counts k 0 = get_or-set_other counts choice k marked 0 other in
          let bit : bit_at (2 ^ choice) k ≡ 0 = bit_at-pow_other choice k other in
          omega (arith, is, bit)
    ]
