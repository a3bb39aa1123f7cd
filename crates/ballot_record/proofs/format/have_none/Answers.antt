use Rattle.std.proofs.Common.{◌≡◌, inl, inr, get_or, refl, ap, subst, ◌∙◌, arith}
use Rattle.store_spec.proofs.Common.{cases_lt, eq-eqb, eqb-true}
use Rattle.std.proofs.lemmas.Nat.{le_or_l, le_or_r}
use Rattle.std.specs.Int.Bits.{bit_and, bit_or, or_zero_l}
use Rattle.ballot_record.proofs.format.have_none.Goals as goal

pub loop-place-init : goal.loop-place-init
loop-place-init c = (λ _ k before. absurd (omega arith), λ _. refl)

pub loop-place-preserved : goal.loop-place-preserved
loop-place-preserved c =
    let l = c.loop-place in
    let bytes = c.args.bytes.now in
    let barred = c.args.barred.now in
    let one = bit_and (get_or bytes l.place 0) (get_or barred l.place 0) in (
      λ none k before.
          elim (cases_lt k l.place) [
            | inl earlier ↦ l.invariant.0 (omega (arith, le_or_l l.marked one, none)) k earlier
            | inr this ↦
                let same : l.place ≡ k = omega arith in
                subst (λ k. bit_and (get_or bytes k 0) (get_or barred k 0) ≡ 0) same (omega (arith, le_or_r l.marked one, none))
          ],
      λ have.
          let before : l.marked ≡ 0 = l.invariant.1 (λ k earlier. have k (omega arith)) in
          ap (λ x. bit_or x one) before ∙ or_zero_l one ∙ have l.place (omega arith),
    )

pub returns : goal.returns
returns c = (
  λ none k within. c.loop-place.invariant.0 (eqb-true c.loop-place.marked 0 none) k (omega (arith, c.loop-place-test.false, within)),
  λ have. eq-eqb c.loop-place.marked 0 (c.loop-place.invariant.1 (λ k before. have k (omega arith))),
)
