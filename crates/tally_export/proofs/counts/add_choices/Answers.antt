use Rattle.std.proofs.Common.{◌≡◌, ◌≢◌, ℕ, ◌+◌, ◌*◌, ◌%◌, ◌^◌, ◌<◌, ◌≤◌, inl, inr, List, get_or, length, set, ap, ◌∙◌, arith, bit_and, get_or-set_other, get_or-set_same}
use Rattle.store_spec.proofs.Common.{bit_at, cases_eq}
use Rattle.std.proofs.lemmas.Nat.{and_le_l}
use Rattle.std.proofs.lemmas.Nat.Bits.{bit_at-trailing_zeros, bit_at_clear_other, bit_at_clear_same}
use Rattle.std.specs.Int.{bit_not, trailing_zeros}
use Rattle.ballot_record.specs.Record.{set_word}
use Rattle.layout_def.proofs.Marks.{fewer_marks, without_first}
use Rattle.tally_export.proofs.counts.add_choices.Goals as goal

one_counted : (counts : List ℕ) (marks c : ℕ) → length counts ≡ 64 → 0 < marks → marks < 2 ^ 64 → c < 64
    → get_or (set counts (trailing_zeros set_word marks) (get_or counts (trailing_zeros set_word marks) 0 + 1)) c 0 + bit_at
    (without_first marks) c ≡ get_or counts c 0 + bit_at marks c
one_counted counts marks c size some fits within =
    let first = bit_at-trailing_zeros set_word marks some fits in
    let place = trailing_zeros set_word marks in
    let counted = get_or counts place 0 + 1 in
    elim (cases_eq c place) [
      | inl here ↦
          let written : get_or (set counts place counted) c 0 ≡ counted =
          ap (λ k. get_or (set counts place counted) k 0) here ∙ get_or-set_same counts place counted 0
          (omega (arith, size, first.0)) in
          let gone : bit_at (without_first marks) c ≡ 0 = ap (bit_at (without_first marks)) here
          ∙ bit_at_clear_same set_word marks place first.0 in
          let was : get_or counts c 0 ≡ get_or counts place 0 = ap (λ k. get_or counts k 0) here in
          let marked : bit_at marks c ≡ 1 = ap (bit_at marks) here ∙ first.1 in
          omega (arith, written, gone, was, marked)
      | inr other ↦
          let same : get_or (set counts place counted) c 0 ≡ get_or counts c 0 = get_or-set_other counts place c
          counted 0 other in
          let still : bit_at (without_first marks) c ≡ bit_at marks c = bit_at_clear_other set_word marks place first.0 c
          within other in
          omega (arith, same, still)
    ]

pub loop-rest-smaller : goal.loop-rest-smaller
loop-rest-smaller c = fewer_marks c.loop-rest.rest (omega arith) (omega (arith, c.loop-rest.auto.rest-fits))

pub loop-rest-preserved : goal.loop-rest-preserved
loop-rest-preserved c choice within =
    one_counted c.loop-rest.counts c.loop-rest.rest choice (c.loop-rest.auto.counts ∙ c.requires.each) (omega arith)
    (omega (arith, c.loop-rest.auto.rest-fits)) within
    ∙ c.loop-rest.invariant choice within
