use Rattle.std.proofs.Common.{◌++◌, ◌∷◌, [], ap, sym, ◌∙◌}
use Rattle.any_store.proofs.Acknowledging.{on_err, on_ok}
use Rattle.phase_gate.proofs.session.acknowledge.Goals as goal

pub returns-then-is_err-2-clause-refused : goal.returns-then-is_err-2-clause-refused
returns-then-is_err-2-clause-refused g c =
    on_err c.acknowledge.result (sym c.if-is_err-2.ensures.value) c.acknowledge.ensures.failed

pub returns-clause-acknowledged : goal.returns-clause-acknowledged
returns-clause-acknowledged g c = (
  on_ok c.acknowledge.result (sym c.if-is_err-2.ensures.value) c.acknowledge.ensures.done,
  c.push_reserved.ensures.items ∙ ap (λ marks. marks ++ c.made.result ∷ []) c.reserve.ensures.items ∙ ap
      (λ calls. c.args.report.now.marks.items ++ calls ∷ []) c.made.ensures,
)
