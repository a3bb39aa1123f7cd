use Rattle.std.proofs.Common.{arith, refl}
use Rattle.store_spec.proofs.Common.{both_ways}
use Rattle.schedule_replay.proofs.Takings.{refused_base, took_base}
use Rattle.schedule_replay.proofs.script.Script.take_base.Goals as goal
use Rattle.schedule_replay.proofs.script.Script.take_base.Goals.{then-numbers-limit-via-then-numbers-limit, then-numbers-limit-via-else-numbers-limit+in_ok-are_distinct+then-not-branch}

pub returns-then-numbers-limit : goal.returns-then-numbers-limit
returns-then-numbers-limit c =
    refused_base c.args.election.now c.args.self.now c.args.numbers.now c.requires.stage
    (elim c.then-numbers-limit.branch [
      | then-numbers-limit-via-then-numbers-limit w ↦ λ good. omega (arith, w.if-numbers-limit.true, good.1)
      | then-numbers-limit-via-else-numbers-limit+in_ok-are_distinct+then-not-branch w ↦ λ good.
          both_ways w.in_ok-are_distinct.field-0 w.if-not-branch.true (w.in_ok-are_distinct.ensures.1 good.0)
    ])

pub returns : goal.returns
returns c =
    took_base c.args.election.now c.args.self.now _ c.args.numbers.now c.requires.stage refl c.in_ok-extend_from_slice.ensures.items refl refl
    (c.in_ok-are_distinct.ensures.0 c.if-not-branch.false) (omega arith) c.requires.read.each
