use Rattle.std.proofs.Common.{◌+◌, length, refl, sym, ap, subst, ◌∙◌, arith}
use Rattle.store_spec.proofs.Common.{Election, IsCellOf, false≢true}
use Rattle.ballot_record.proofs.BallotListKept.{few_kept, put_behind, room_for_one}
use Rattle.ballot_record.proofs.CellFormat.{length-ballot_bytes}
use Rattle.ballot_record.proofs.list.BallotList.push_cell.Goals as goal
use Rattle.ballot_record.specs.BallotList.{ListedBallots, with_more}
use Rattle.ballot_record.specs.declared.list.BallotList.TheInside.{Inside}

pub prove-unreachable-requires : goal.prove-unreachable-requires
prove-unreachable-requires c =
    let a = c.self.inside in
    omega (arith, few_kept a c.len-long.result c.self.invariant (c.len-long.ensures ∙ a.bytes.ok.0), c.if-prove.true)

pub returns-in_err-extend_from_slice-clause-room : goal.returns-in_err-extend_from_slice-clause-room
returns-in_err-extend_from_slice-clause-room c some =
    let a = c.self.inside in
    let own = ap (λ (list : ListedBallots). list.election) c.self.view_is in
    let is = subst (λ (e : Election). IsCellOf e c.args.cell.now c.requires.0) (sym own) c.requires.1 in
    let fits = room_for_one a c.args.self.now c.self.invariant c.self.view_is some in
    let long = ap length is.1 ∙ length-ballot_bytes a.of.value c.requires.0 c.self.invariant.election is.0 in
    absurd (false≢true (c.in_err-extend_from_slice.ensures.succeeds (omega (arith, fits, long, a.bytes.ok.0))))

pub invariant_of-self-2 : goal.invariant_of-self-2
invariant_of-self-2 c =
    let a = c.self.inside in
    let own = ap (λ (list : ListedBallots). list.election) c.self.view_is in
    let is = subst (λ (e : Election). IsCellOf e c.args.cell.now c.requires.0) (sym own) c.requires.1 in
    let now : Inside = record { of = a.of; size = a.size; bytes = c.extend_from_slice.new.self; count = a.count + 1; places = a.places } in
    (put_behind a now c.args.cell.now c.requires.0 c.self.invariant is refl refl refl refl c.in_ok-extend_from_slice.ensures.items c.in_ok-extend_from_slice.ensures.capacity).0

pub returns-clause-pushed : goal.returns-clause-pushed
returns-clause-pushed c b cell =
    let a = c.self.inside in
    let own = ap (λ (list : ListedBallots). list.election) c.self.view_is in
    let is = subst (λ (e : Election). IsCellOf e c.args.cell.now b) (sym own) cell in
    let now : Inside = record { of = a.of; size = a.size; bytes = c.extend_from_slice.new.self; count = a.count + 1; places = a.places } in
    (put_behind a now c.args.cell.now b c.self.invariant is refl refl refl refl c.in_ok-extend_from_slice.ensures.items c.in_ok-extend_from_slice.ensures.capacity).1
    ∙ ap (λ list. with_more list b) c.self.view_is
