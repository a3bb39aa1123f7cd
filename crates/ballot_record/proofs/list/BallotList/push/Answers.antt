use Rattle.std.proofs.Common.{◌+◌, refl, sym, ap, subst, ◌∙◌, arith}
use Rattle.store_spec.proofs.Common.{Election, IsValid, ballot_bytes, cell_size, false≢true}
use Rattle.ballot_record.proofs.BallotListKept.{few_kept, put_behind, room_for_one}
use Rattle.ballot_record.proofs.list.BallotList.push.Goals as goal
use Rattle.ballot_record.specs.BallotList.{ListedBallots, with_more}
use Rattle.ballot_record.specs.Record.{ballot}
use Rattle.ballot_record.specs.declared.list.BallotList.TheInside.{Inside}

pub prove-unreachable-requires : goal.prove-unreachable-requires
prove-unreachable-requires c =
    let a = c.self.inside in
    omega (arith, few_kept a c.len-long.result c.self.invariant (c.len-long.ensures ∙ a.bytes.ok.0), c.if-prove.true)

pub returns-in_err-push_cell-clause-room : goal.returns-in_err-push_cell-clause-room
returns-in_err-push_cell-clause-room c some =
    let a = c.self.inside in
    let own = c.requires.election ∙ sym (ap (λ (list : ListedBallots). list.election) c.self.view_is) in
    let fits = room_for_one a c.args.self.now c.self.invariant c.self.view_is some in
    absurd (false≢true (c.in_err-push_cell.ensures.room (omega (arith, fits, ap cell_size own, a.bytes.ok.0))))

pub invariant_of-self-2 : goal.invariant_of-self-2
invariant_of-self-2 c =
    let a = c.self.inside in
    let e = c.args.election.now in
    let b = ballot c.args.cast.now in
    let own = c.requires.election ∙ sym (ap (λ (list : ListedBallots). list.election) c.self.view_is) in
    let now : Inside = record { of = a.of; size = a.size; bytes = c.push_cell.new.cells; count = a.count + 1; places = a.places } in
    (put_behind a now (ballot_bytes e b) b c.self.invariant (subst (λ (e : Election). IsValid e b) own c.requires.valid, ap (λ (e : Election). ballot_bytes e b) own)
    refl refl refl refl c.in_ok-push_cell.ensures.pushed c.in_ok-push_cell.ensures.capacity).0

pub returns-clause-pushed : goal.returns-clause-pushed
returns-clause-pushed c =
    let a = c.self.inside in
    let e = c.args.election.now in
    let b = ballot c.args.cast.now in
    let own = c.requires.election ∙ sym (ap (λ (list : ListedBallots). list.election) c.self.view_is) in
    let now : Inside = record { of = a.of; size = a.size; bytes = c.push_cell.new.cells; count = a.count + 1; places = a.places } in
    (put_behind a now (ballot_bytes e b) b c.self.invariant (subst (λ (e : Election). IsValid e b) own c.requires.valid, ap (λ (e : Election). ballot_bytes e b) own)
    refl refl refl refl c.in_ok-push_cell.ensures.pushed c.in_ok-push_cell.ensures.capacity).1
    ∙ ap (λ list. with_more list b) c.self.view_is
