use Rattle.std.proofs.Common.{ℕ, sym, subst, arith}
use Rattle.tally_export.proofs.OneMark.{one_mark}
use Rattle.tally_export.specs.Counted.{CountsSet}
use Rattle.tally_export.proofs.counts.Tally.count_set.Goals as goal

pub returns-then-set-eq0-2 : goal.returns-then-set-eq0-2
returns-then-set-eq0-2 c =
    let set = c.args.set in
    let one = one_mark set (omega arith) (omega arith) c.if-set-eq0-2.true in
    subst (λ (set : ℕ). CountsSet c.args.place c.args.allowed set c.args.self.now c.count_mark.new.self) (sym one) c.count_mark.ensures
