use Rattle.std.proofs.Common.{◌+◌, ◌∙◌, [], ap, subst, sym}
use Rattle.store_spec.proofs.Common.{Election, disk_model}
use Rattle.outside_io.specs.Outside.{output}
use Rattle.any_store.specs.Disks.{one_store}
use Rattle.any_store.specs.Disks.StoreDisks.{Alone}
use Rattle.any_store.proofs.Acknowledging.{medium_now}
use Rattle.phase_gate.proofs.Kept.{AreSomeMedia, media_after}
use Rattle.medium_tests.proofs.sessions.handle.Goals as goal
use Rattle.phase_gate.specs.Around.{around}
use Rattle.phase_gate.specs.Writing.{written_of}
use Rattle.body_store.specs.Contents.{Contents}
use Rattle.script_lines.specs.Line.{IsSaid}

pub lines-init : goal.lines-init
lines-init g c =
    let model = disk_model g.D.Disk.seen g.D.Disk.calls g.D.Disk.may_leave g.D.Disk.faults in
    let own = c.writing-session.ensures.election ∙ ap (λ (s : Contents). s.election) c.in_ok-closed.ensures in
    record {
      own = own;
      media = subst (λ e. AreSomeMedia (Alone model) e c.init.new.disk) (sym own) (
        [],
        medium_now model c.example-election.result [] c.args.disk.now c.init.new.disk c.in_ok-init.ensures.settled
            c.in_ok-init.ensures.medium,
      );
    }

pub line-requires-clause-said : goal.line-requires-clause-said
line-requires-clause-said g c = λ lives longer.
    subst (λ (e : Election). IsSaid e c.as_bytes-bytes.result.now c.read_said-said.result c.read_said-said.new.out) (sym c.lines.invariant.own)
    c.read_said-said.ensures

pub lines-preserved : goal.lines-preserved
lines-preserved g c =
    let model = disk_model g.D.Disk.seen g.D.Disk.calls g.D.Disk.may_leave g.D.Disk.faults in
    let before = around (output g.K.Sink.taken g.K.Sink.faults c.lines.out) c.lines.disk c.lines.report in
    let after = around (output g.K.Sink.taken g.K.Sink.faults c.line.new.out) c.line.new.disk c.line.new.report in
    record {
      own = c.in_ok-session.ensures.election ∙ c.lines.invariant.own;
      media = subst (λ e. AreSomeMedia (Alone model) e c.line.new.disk) (sym c.in_ok-session.ensures.election)
          (media_after (one_store model) (written_of c.lines.session.writing) c.lines.session.election (c.lines.at + 1)
          c.lines.session.state c.in_ok-session.session.state c.as_bytes-bytes.result.now before after
          c.in_ok-session.ensures.ends c.lines.invariant.media);
    }
