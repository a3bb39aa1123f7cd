use Rattle.std.proofs.Common.{◌-◌, ◌*◌, ◌≤◌, length, drop, take, sym, ap, subst, ◌∙◌, arith, mul-le-mul_right}
use Rattle.store_spec.proofs.Common.{ballot_bytes, flat_map, slice_range}
use Rattle.ballot_record.proofs.BallotListKept.{ends_within}
use Rattle.ballot_record.proofs.BallotLists.{cells_between_places}
use Rattle.ballot_record.specs.BallotList.{ListedBallots}
use Rattle.ballot_record.specs.BallotListKept.{list_seen}
use Rattle.ballot_record.proofs.list.BallotList.cells_between.Goals as goal

pub overflow_mul-result : goal.overflow_mul-result
overflow_mul-result c =
    let a = c.self.inside in
    let within = subst (λ (list : ListedBallots). c.args.end ≤ length list.ballots) (sym c.self.view_is) c.requires.within.1 in
    let fits = ends_within a c.args.end c.self.invariant within in
    omega (arith, mul-le-mul_right a.size c.requires.within.0, fits, ap length c.deref.ensures.value, c.deref.ensures.len)

pub overflow_mul-result-2 : goal.overflow_mul-result-2
overflow_mul-result-2 c =
    let a = c.self.inside in
    let within = subst (λ (list : ListedBallots). c.args.end ≤ length list.ballots) (sym c.self.view_is) c.requires.within.1 in
    let fits = ends_within a c.args.end c.self.invariant within in
    omega (arith, fits, ap length c.deref.ensures.value, c.deref.ensures.len)

pub slice_bounds-result-end : goal.slice_bounds-result-end
slice_bounds-result-end c =
    let a = c.self.inside in
    let within = subst (λ (list : ListedBallots). c.args.end ≤ length list.ballots) (sym c.self.view_is) c.requires.within.1 in
    let fits = ends_within a c.args.end c.self.invariant within in
    omega (arith, mul-le-mul_right a.size c.requires.within.0, fits, ap length c.deref.ensures.value, c.deref.ensures.len)

pub returns : goal.returns
returns c =
    let a = c.self.inside in
    let kept = c.self.invariant in
    let e = a.of.value in
    let from = c.args.from in
    let end = c.args.end in
    let within = subst (λ (list : ListedBallots). end ≤ length list.ballots) (sym c.self.view_is) c.requires.within.1 in
    record {
      cells =
          ap (λ bytes. take (end * a.size - from * a.size) (drop (from * a.size) bytes)) (c.deref.ensures.value ∙ kept.bytes)
          ∙ ap (λ size. take (end * size - from * size) (drop (from * size) (flat_map (ballot_bytes e) (list_seen a).ballots))) kept.width
          ∙ cells_between_places e (list_seen a).ballots from end kept.election kept.valid c.requires.within.0 within
          ∙ ap (λ (list : ListedBallots). flat_map (ballot_bytes list.election) (slice_range list.ballots from end)) c.self.view_is;
    }
