use Rattle.std.proofs.Common.{◌≡◌, ℕ, suc, ◌-◌, ◌*◌, ◌^◌, ◌≤◌, ap, pow-suc, pow_pos, ◌∙◌, arith}
use Rattle.std.proofs.Math.Nat.{div-lt_iff_lt-mul}
use Rattle.ballot_record.proofs.record.marked_behind.Goals as goal

doubled : (choices : ℕ) → 1 ≤ choices → 2 ^ choices ≡ 2 * 2 ^ (choices - 1)
doubled choices some = let same : choices ≡ suc (choices - 1) = omega arith in ap (λ n. 2 ^ n) same ∙ pow-suc 2 (choices - 1) ∙ omega arith

pub returns : goal.returns
returns c =
    let set = c.args.set in
    let half = 2 ^ (c.args.choices - 1) in
    let twice = doubled c.args.choices c.requires.some in
    let below = div-lt_iff_lt-mul {k = half} {x = set} {y = 2} (pow_pos (c.args.choices - 1)) in (
      λ none. omega (arith, below.0 (omega (arith, none)), twice),
      λ less. omega (arith, below.1 (omega (arith, less, twice))),
    )
