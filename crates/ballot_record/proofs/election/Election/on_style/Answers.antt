use Rattle.std.proofs.Common.{sym, arith}
use Rattle.ballot_record.proofs.OnStyle.{off_style_0, off_contest_0, past_styles, past_contests}
use Rattle.ballot_record.proofs.election.Election.on_style.Goals as goal
use Rattle.ballot_record.proofs.election.Election.on_style.Goals.{then-style-eq0-via-then-style-eq0, then-style-eq0-via-else-style-eq0+then-style-styles, then-style-eq0-via-else-style-eq0+else-style-styles+then-k-eq0, then-style-eq0-via-else-style-eq0+else-style-styles+else-k-eq0+then-k-contests}

pub returns-then-style-eq0-clause-on_style : goal.returns-then-style-eq0-clause-on_style
returns-then-style-eq0-clause-on_style c =
    let e = c.args.self.now in
    let s = c.args.style in
    let k = c.args.k in
    sym (elim c.then-style-eq0.branch [
      | then-style-eq0-via-then-style-eq0 w ↦ off_style_0 e s k (omega arith)
      | then-style-eq0-via-else-style-eq0+then-style-styles w ↦ past_styles e s k (omega arith)
      | then-style-eq0-via-else-style-eq0+else-style-styles+then-k-eq0 w ↦ off_contest_0 e s k (omega arith)
      | then-style-eq0-via-else-style-eq0+else-style-styles+else-k-eq0+then-k-contests w ↦ past_contests e s k w.contests.ensures.valid (omega arith) (omega arith) (omega arith)
    ])
