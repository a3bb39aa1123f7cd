use Rattle.std.proofs.Common.{ap, ◌∙◌, [], ◌∷◌}
use Rattle.store_spec.proofs.Common.{closed_gate, option_map, overwritten}
use Rattle.bank_medium.specs.Banks.{bank_named, gate_of}
use Rattle.checkpoint.proofs.Filling.{run_closing, run_filling}
use Rattle.checkpoint.proofs.Pages.{on_ok}
use Rattle.checkpoint.proofs.Renewing.{closed_told}
use Rattle.checkpoint.proofs.renewal.renew_bank.Goals as goal
use Rattle.checkpoint.specs.Renewal.{IsRenewed}
use Rattle.outside_io.specs.Told.{IfTold}

pub returns-in_err-close_gate-clause-any_moment : goal.returns-in_err-close_gate-clause-any_moment
returns-in_err-close_gate-clause-any_moment g c old sees =
    let e = c.args.election.now in
    run_closing g.D.Disk.calls g.D.Disk.may_leave e (bank_named c.args.bank) c.args.made.now old (c.requires.size old sees) c.args.disk.now c.close_gate.new.disk (c.requires.opened old sees) (c.close_gate.ensures.any_moment old sees)

pub returns-clause-any_moment : goal.returns-clause-any_moment
returns-clause-any_moment g c old sees =
    let e = c.args.election.now in
    let bank = bank_named c.args.bank in
    let image = c.args.made.now in
    let long = c.requires.size old sees in
    let closing = run_closing g.D.Disk.calls g.D.Disk.may_leave e bank image old long c.args.disk.now c.close_gate.new.disk (c.requires.opened old sees) (c.close_gate.ensures.any_moment old sees) in
    let sees_shut = c.in_ok-close_gate.ensures.written ∙ ap (option_map (overwritten (gate_of e c.args.bank) (closed_gate ∷ []))) sees in
    run_filling g.D.Disk.calls g.D.Disk.may_leave e bank image old long c.args.disk.now c.close_gate.new.disk c.fill_bank.new.disk closing (c.fill_bank.ensures.any_moment (overwritten (gate_of e c.args.bank) (closed_gate ∷ []) old) sees_shut)

pub returns-clause-renewed : goal.returns-clause-renewed
returns-clause-renewed g c =
    let e = c.args.election.now in
    let bank = bank_named c.args.bank in
    let image = c.args.made.now in
    on_ok (IfTold (g.D.Disk.seen c.close_gate.new.disk) (g.D.Disk.seen c.fill_bank.new.disk) (IsRenewed e bank image)) c.fill_bank.result c.fill_bank.ensures.renewed
    (λ filled. record {
      told = filled.told ∙ c.close_gate.ensures.calls.told;
      related = closed_told e bank image (g.D.Disk.seen c.args.disk.now) (g.D.Disk.seen c.close_gate.new.disk) (g.D.Disk.seen c.fill_bank.new.disk) c.requires.size c.in_ok-close_gate.ensures.written filled.related;
    })
