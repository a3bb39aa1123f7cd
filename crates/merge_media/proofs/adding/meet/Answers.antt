use Rattle.std.proofs.Common.{◌≡◌, ◌≢◌, ◌<◌, [], ◌∷◌, ◌++◌, Some, length, get_or, drop, sym, ap, subst, ◌∙◌, true≢false, arith}
use Rattle.store_spec.proofs.Common.{Ballot, Decides-eqb, Election, IsCellOf, ballot_bytes, numbers_of}
use Rattle.std.proofs.lemmas.Slice.Eq.{slice_eq-Decides}
use Rattle.ballot_record.proofs.BallotLists.{number_at_place}
use Rattle.ballot_record.proofs.BallotSets.{Ascend}
use Rattle.ballot_record.proofs.CellFormat.{same_ballot}
use Rattle.ballot_record.specs.BallotList.{ListedBallots}
use Rattle.merge_media.proofs.Ascending.{ascend_insert, ascend_right}
use Rattle.merge_media.proofs.Joining.{joined_disputed, joined_kept, joined_new}
use Rattle.merge_media.proofs.Running.{above_rest, below_after, next_kept}
use Rattle.merge_media.proofs.adding.meet.Goals as goal
use Rattle.merge_media.proofs.adding.meet.Goals.{then-next-len-via-then-next-len, then-next-len-via-else-next-len+then-number}
use Rattle.merge_media.specs.Union.{IsJoinedOf, least_with}

pub push_cell-requires : goal.push_cell-requires
push_cell-requires g c = (g.cast, subst (λ (e : Election). IsCellOf e c.args.cell.now g.cast) (sym c.requires.1.1.0) c.requires.0)

pub returns-then-next-len-clause-joined : goal.returns-then-next-len-clause-joined
returns-then-next-len-clause-joined g c set sets j =
    let kept = c.args.kept.now.ballots in
    let next = c.args.next in
    let s = g.cast in
    let out = c.args.out.now.ballots in
    let own : IsCellOf c.args.out.now.election c.args.cell.now s = subst (λ (e : Election). IsCellOf e c.args.cell.now s) (sym c.requires.1.1.0) c.requires.0 in
    let pushed : c.push_cell.new.self.ballots ≡ out ++ s ∷ [] = ap (λ (list : ListedBallots). list.ballots) (c.in_ok-push_cell.ensures.pushed s own) in
    let other : next < length kept → get_or (numbers_of kept) next 0 ≢ s.number = elim c.then-next-len.branch [
      | then-next-len-via-then-next-len w ↦ λ lt is. omega arith
      | then-next-len-via-else-next-len+then-number w ↦ λ lt is. omega arith
    ] in
    let above = above_rest kept next s.number c.requires.1.1.1.0 c.requires.1.1.1.1.1 (ascend_right out (drop next kept) j.ascending) other in
    subst (λ xs. IsJoinedOf ((set ++ s ∷ []) ∷ sets) (xs ++ drop next kept) c.args.dispute) (sym pushed)
    (joined_new set s sets out (drop next kept) c.requires.1.1.1.1.0 above c.args.dispute j)

pub returns-then-next-len-clause-ascending : goal.returns-then-next-len-clause-ascending
returns-then-next-len-clause-ascending g c up =
    let kept = c.args.kept.now.ballots in
    let next = c.args.next in
    let s = g.cast in
    let out = c.args.out.now.ballots in
    let own : IsCellOf c.args.out.now.election c.args.cell.now s = subst (λ (e : Election). IsCellOf e c.args.cell.now s) (sym c.requires.1.1.0) c.requires.0 in
    let pushed : c.push_cell.new.self.ballots ≡ out ++ s ∷ [] = ap (λ (list : ListedBallots). list.ballots) (c.in_ok-push_cell.ensures.pushed s own) in
    let other : next < length kept → get_or (numbers_of kept) next 0 ≢ s.number = elim c.then-next-len.branch [
      | then-next-len-via-then-next-len w ↦ λ lt is. omega arith
      | then-next-len-via-else-next-len+then-number w ↦ λ lt is. omega arith
    ] in
    let above = above_rest kept next s.number c.requires.1.1.1.0 c.requires.1.1.1.1.1 (ascend_right out (drop next kept) up) other in
    subst (λ xs. Ascend (xs ++ drop next kept)) (sym pushed) (ascend_insert s out (drop next kept) up c.requires.1.1.1.1.0 above)

pub returns-then-next-len-clause-below : goal.returns-then-next-len-clause-below
returns-then-next-len-clause-below g c =
    let s = g.cast in
    let own : IsCellOf c.args.out.now.election c.args.cell.now s = subst (λ (e : Election). IsCellOf e c.args.cell.now s) (sym c.requires.1.1.0) c.requires.0 in
    below_after c.args.out.now.ballots c.push_cell.new.self.ballots s c.requires.1.1.1.1.0
    (ap (λ (list : ListedBallots). list.ballots) (c.in_ok-push_cell.ensures.pushed s own))

pub returns-then-eq-clause-joined : goal.returns-then-eq-clause-joined
returns-then-eq-clause-joined g c set sets j =
    let kept = c.args.kept.now.ballots in
    let there = c.cell.ensures.cell in
    let is = slice_eq-Decides Decides-eqb _ _ _ c.eq.ensures in
    let same : there.0 ≡ g.cast = same_ballot c.args.kept.now.election there.0 g.cast c.cell.ensures.election there.2.0 c.requires.0.0
    (sym there.2.1 ∙ is.0 c.if-eq.true ∙ c.requires.0.1) in
    joined_kept set g.cast sets (c.args.out.now.ballots ++ drop c.args.next kept) c.args.dispute j
    (next_kept c.args.out.now.ballots kept c.args.next g.cast (there.1 ∙ ap Some same))

pub returns-clause-joined : goal.returns-clause-joined
returns-clause-joined g c set sets j =
    let kept = c.args.kept.now.ballots in
    let next = c.args.next in
    let e = c.args.kept.now.election in
    let s = g.cast in
    let there = c.cell.ensures.cell in
    let a = there.0 in
    let is = slice_eq-Decides Decides-eqb _ _ _ c.eq.ensures in
    let differ : a ≢ s = λ same. true≢false (sym (is.1 (there.2.1 ∙ ap (ballot_bytes e) same ∙ sym c.requires.0.1)) ∙ c.if-eq.false) in
    let same : a.number ≡ s.number = omega (arith, number_at_place kept next a there.1, c.requires.1.0) in
    subst (λ n. IsJoinedOf ((set ++ s ∷ []) ∷ sets) (c.args.out.now.ballots ++ drop next kept) (Some n)) (sym (c.least.ensures ∙ ap (least_with c.args.dispute) c.requires.1.0))
    (joined_disputed set s sets (c.args.out.now.ballots ++ drop next kept) a (next_kept c.args.out.now.ballots kept next a there.1) same differ c.args.dispute j)
