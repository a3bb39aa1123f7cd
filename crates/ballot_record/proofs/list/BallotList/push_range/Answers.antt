use Rattle.std.proofs.Common.{◌≡◌, ◌+◌, ◌-◌, length, refl, sym, ap, ◌∙◌, arith}
use Rattle.ballot_record.proofs.BallotListKept.{few_kept, put_range}
use Rattle.ballot_record.proofs.BallotLists.{length-ballots_at}
use Rattle.ballot_record.proofs.list.BallotList.push_range.Goals as goal
use Rattle.ballot_record.specs.BallotList.{ListedBallots}
use Rattle.ballot_record.specs.declared.list.BallotList.TheInside.{Inside}

pub prove-unreachable-requires : goal.prove-unreachable-requires
prove-unreachable-requires c =
    let a = c.self.inside in
    omega (arith, few_kept a c.len-long.result c.self.invariant (c.len-long.ensures ∙ a.bytes.ok.0), c.if-prove.true)

pub prove-unreachable-requires-2 : goal.prove-unreachable-requires-2
prove-unreachable-requires-2 c =
    let a = c.other.inside in
    omega (arith, few_kept a c.len-others.result c.other.invariant (c.len-others.ensures ∙ a.bytes.ok.0), c.if-prove-2.true)

pub overflow_add-self : goal.overflow_add-self
overflow_add-self c =
    let a = c.other.inside in
    let count : length c.args.other.now.ballots ≡ a.count = sym (ap (λ (list : ListedBallots). length list.ballots) c.other.view_is) ∙ length-ballots_at a.of.value a.count a.bytes.items in
    omega (arith, count)

pub invariant_of-self-2 : goal.invariant_of-self-2
invariant_of-self-2 c =
    let a = c.self.inside in
    let now : Inside = record { of = a.of; size = a.size; bytes = c.extend_from_slice.new.self; count = a.count + (c.args.end - c.args.from); places = a.places } in
    (put_range a now c.other.inside c.args.self.now c.args.other.now c.cells_between.result.now c.args.from c.args.end c.self.invariant c.self.view_is c.other.invariant c.other.view_is
    c.requires.election c.requires.within c.cells_between.ensures.cells refl refl refl refl c.in_ok-extend_from_slice.ensures.items c.in_ok-extend_from_slice.ensures.capacity).0

pub returns-clause-put : goal.returns-clause-put
returns-clause-put c =
    let a = c.self.inside in
    let now : Inside = record { of = a.of; size = a.size; bytes = c.extend_from_slice.new.self; count = a.count + (c.args.end - c.args.from); places = a.places } in
    (put_range a now c.other.inside c.args.self.now c.args.other.now c.cells_between.result.now c.args.from c.args.end c.self.invariant c.self.view_is c.other.invariant c.other.view_is
    c.requires.election c.requires.within c.cells_between.ensures.cells refl refl refl refl c.in_ok-extend_from_slice.ensures.items c.in_ok-extend_from_slice.ensures.capacity).1
