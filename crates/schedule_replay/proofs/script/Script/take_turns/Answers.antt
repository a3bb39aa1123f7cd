use Rattle.std.proofs.Common.{◌≡◌, ◌≤◌, ℕ, All, arith, length, subst, sym, refl}
use Rattle.store_spec.proofs.Common.{both_ways}
use Rattle.schedule_replay.proofs.Takings.{refused_turns, took_turns}
use Rattle.schedule_replay.proofs.script.Script.take_turns.Goals as goal

pub returns-then-not-are_at_most : goal.returns-then-not-are_at_most
returns-then-not-are_at_most c e =
    let numbers = c.args.numbers.now in
    let counted : c.len.result ≡ length c.args.self.now.lists.items = omega (arith, c.len.ensures) in
    refused_turns e c.args.self.now numbers c.requires.stage (λ each. both_ways c.are_at_most.result c.if-not-are_at_most.true
    (c.are_at_most.ensures.1 (subst (λ (n : ℕ). All (λ t. t ≤ n) numbers) (sym counted) each)))

pub returns : goal.returns
returns c e =
    let numbers = c.args.numbers.now in
    let counted : c.len.result ≡ length c.args.self.now.lists.items = omega (arith, c.len.ensures) in
    took_turns e c.args.self.now _ numbers c.requires.stage refl refl refl refl c.in_ok-push_turns.ensures c.requires.read.each
    (subst (λ (n : ℕ). All (λ t. t ≤ n) numbers) counted (c.are_at_most.ensures.0 c.if-not-are_at_most.false))
