use Rattle.std.proofs.Common.{◌≡◌, refl, subst, inl, inr, arith, ⊎_elim}
use Rattle.store_spec.proofs.Common.{IsBallotSet, IsWithinLimit, disk_model}
use Rattle.outside_io.specs.Outside.{input, output}
use Rattle.run_outcome.specs.Status.{ended}
use Rattle.session_commands.specs.Session.{reported}
use Rattle.twin_commands.proofs.Pairing.{twin_ends}
use Rattle.twin_commands.proofs.twin.twin_with.Goals as goal
use Rattle.twin_commands.specs.Twin.{Continues}
use Rattle.twin_media.specs.declared.fault.PairFault.TheVariants.{FirstFault, SecondFault}

pub returns-in-Err : goal.returns-in-Err
returns-in-Err g c = inl (record {
  refuses = inl (
    c.in-Err.fault,
    c.status_of.ensures,
    record {
      refuses = c.in-Err.ensures.refused;
      unwritten = c.in-Err.ensures.unwritten;
      first_steady = λ other. c.in-Err.ensures.first_fault.steady (λ is. other (let same : c.in-Err.fault ≡ FirstFault = cc in same));
      second_steady = λ other. c.in-Err.ensures.second_fault.steady (λ is. other (let same : c.in-Err.fault ≡ SecondFault = cc in same));
    },
  );
  leaves = λ a b sees sees_two. inr (c.in-Err.ensures.any_moment a b sees sees_two);
  told = c.pair.ensures.first_told;
  other_told = c.pair.ensures.second_told;
  script = refl;
  nothing_written = refl;
  reported = c.requires.report;
})

pub returns-then-counts-ge-LAST_MADE : goal.returns-then-counts-ge-LAST_MADE
returns-then-counts-ge-LAST_MADE g c = inl (record {
  refuses = inr (inr (⊎_elim (λ one. inl (omega (arith, one, c.calls.ensures))) (λ two. inr (omega (arith, two, c.calls-2.ensures))) c.then-counts-ge-LAST_MADE.either));
  leaves = λ a b sees sees_two. inr (c.pair.ensures.any_moment a b sees sees_two);
  told = c.pair.ensures.first_told;
  other_told = c.pair.ensures.second_told;
  script = refl;
  nothing_written = refl;
  reported = c.requires.report;
})

pub returns : goal.returns
returns g c =
    let model = disk_model g.D.Disk.seen g.D.Disk.calls g.D.Disk.may_leave g.D.Disk.faults in
    let e = c.args.election.now in
    let made = c.in-Ok.made in
    let did = c.in-Ok.ensures in
    let a = ended c.on_both.result in
    let report = reported c.on_both.new.report in
    let old = input g.S.Source.left g.S.Source.faults c.args.script.now in
    let new = input g.S.Source.left g.S.Source.faults c.on_both.new.script in
    let sink = output g.K.Sink.taken g.K.Sink.faults c.args.out.now in
    let sunk = output g.K.Sink.taken g.K.Sink.faults c.on_both.new.out in
    twin_ends model e made.0.ballots made.1 a report old new sink sunk c.args.first.now c.pair.new.first c.on_both.new.first c.args.second.now c.pair.new.second c.on_both.new.second
    (subst (λ e. IsBallotSet e made.0.ballots) did.election did.stored.set) (subst (λ e. IsWithinLimit e made.0.ballots) did.election did.stored.within_limit)
    did.paired c.pair.ensures.first_told c.pair.ensures.second_told (did.first_fault.steady (λ is. cc)) (did.second_fault.steady (λ is. cc)) did.first_called did.second_called did.once_synced
    (subst (λ e. Continues model model e made.0.ballots made.1 a report old new sink sunk c.pair.new.first c.on_both.new.first c.pair.new.second c.on_both.new.second) did.election c.on_both.ensures)
