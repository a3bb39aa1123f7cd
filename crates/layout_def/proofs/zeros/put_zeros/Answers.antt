use Rattle.std.proofs.Common.{◌≡◌, ◌++◌, ◌+◌, ◌-◌, List, ℕ, append_assoc, replicate, ap, ◌∙◌, arith}
use Rattle.store_spec.proofs.Common.{replicate-append-replicate, take-replicate}
use Rattle.layout_def.proofs.zeros.put_zeros.Goals as goal

pub loop-left-preserved : goal.loop-left-preserved
loop-left-preserved c =
    let words = c.args.words.now.items in
    let count = c.min-more.result in
    let put = c.args.count - c.loop-left.left in
    let zeros : List ℕ = replicate count 0 in
    record {
      within = omega (arith, c.loop-left.invariant.within);
      zeros =
          c.in_ok-extend_from_slice.ensures.items
          ∙ ap (λ (xs : List ℕ). c.loop-left.words.items ++ xs) (take-replicate count 250 0 (omega (arith, c.min-more.ensures)))
          ∙ ap (λ (xs : List ℕ). xs ++ zeros) c.loop-left.invariant.zeros
          ∙ append_assoc words (replicate put 0) zeros
          ∙ ap (λ (xs : List ℕ). words ++ xs) (replicate-append-replicate put count 0)
          ∙ ap (λ n. words ++ replicate n 0) (let sum : put + count ≡ c.args.count - (c.loop-left.left - count) = omega (arith, c.loop-left.invariant.within, c.min-more.ensures) in sum);
    }
