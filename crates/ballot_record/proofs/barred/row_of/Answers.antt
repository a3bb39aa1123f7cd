use Rattle.std.proofs.Common.{◌≡◌, ℕ, ◌+◌, ◌*◌, ap, subst₂, ◌∙◌, arith}
use Rattle.store_spec.proofs.Common.{set_width}
use Rattle.ballot_record.proofs.Barring.{sets_more}
use Rattle.ballot_record.specs.Barred.{BarsBehind}
use Rattle.ballot_record.proofs.barred.row_of.Goals as goal

pub loop-place-preserved : goal.loop-place-preserved
loop-place-preserved c =
    let l = c.loop-place in
    let e = c.args.election.now in
    let new = c.bar_behind.new.row in
    let place = l.place in
    let width = c.set_bytes-width.ensures.width in
    let from : 9 + c.set_bytes-width.result * place ≡ 9 + set_width e * place = ap (λ w. 9 + w * place) width in
    let offered = c.offered.ensures.offered c.args.style c.contests_on-contests.ensures.these in
    let Bars : ℕ → ℕ → Type 0 = λ choices width. BarsBehind choices width (9 + width * place) new in
    record {
      long = c.bar_behind.ensures.long;
      front = λ k early. c.bar_behind.ensures.before k (omega arith) ∙ l.invariant.front k early;
      sets = sets_more e c.args.style place l.row new (λ k before. c.bar_behind.ensures.before k (omega (arith, before, from)))
          (subst₂ Bars offered width c.bar_behind.ensures.barred) l.invariant.sets;
    }
