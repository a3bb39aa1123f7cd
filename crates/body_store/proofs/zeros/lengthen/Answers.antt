use Rattle.std.proofs.Common.{◌≡◌, ◌++◌, ◌+◌, ◌-◌, List, ℕ, append_assoc, length, length-append, replicate, ap, ◌∙◌, arith}
use Rattle.store_spec.proofs.Common.{length-replicate, replicate-append-replicate, take-replicate}
use Rattle.body_store.proofs.zeros.lengthen.Goals as goal

pub loop-bytes-preserved : goal.loop-bytes-preserved
loop-bytes-preserved c =
    let before = c.loop-bytes.bytes.items in
    let first = c.args.bytes.now.items in
    let k = length before - length first in
    let count = c.min-count.result in
    let zeros : List ℕ = replicate count 0 in
    let put : c.extend_from_slice.new.self.items ≡ before ++ zeros = c.in_ok-extend_from_slice.ensures.items ∙ ap (λ (xs : List ℕ). before ++ xs) (take-replicate count 2000 0 (omega (arith, c.min-count.ensures))) in
    let long : length c.extend_from_slice.new.self.items ≡ length before + count = ap length put ∙ length-append before zeros ∙ ap (λ n. length before + n) (length-replicate count 0) in
    record {
      within = omega (arith, long, c.min-count.ensures, c.loop-bytes-test.true);
      longer = omega (arith, long, c.loop-bytes.invariant.longer);
      zeros = put ∙ ap (λ (xs : List ℕ). xs ++ zeros) c.loop-bytes.invariant.zeros ∙ append_assoc first (replicate k 0) zeros
          ∙ ap (λ (xs : List ℕ). first ++ xs) (replicate-append-replicate k count 0)
          ∙ ap (λ n. first ++ replicate n 0) (let sum : k + count ≡ length c.extend_from_slice.new.self.items - length first = omega (arith, long, c.loop-bytes.invariant.longer) in sum);
    }
