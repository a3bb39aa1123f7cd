-- The laws of `large`: the bytes of a disk decide how it ends, but for faults and want of memory.
use Rattle.std.proofs.Common.{inl, inr, ⊎_elim, refl, arith, sym, subst, ◌∙◌}
use Rattle.store_spec.proofs.Common.{Election, summary_of}
use Rattle.large_options.specs.declared.options.Options.{Options}
use Rattle.run_outcome.proofs.Laws.{Laws}
use Rattle.run_outcome.specs.Row.{Content}
use Rattle.run_outcome.specs.Status.{IsDecided, ended_as}
use Rattle.run_outcome.specs.World.{IsSteady}
use Rattle.run_outcome.specs.declared.status.Status.{Status}
use Rattle.run_outcome.specs.declared.status.Status.TheVariants as status
use Rattle.script_lines.proofs.Saying.{within_limit}
use Rattle.script_lines.specs.Generated.{generated_text}
use Rattle.session_commands.proofs.SessionLaws.{SessionDecides, answer_decides, answer_settled, never_usage, one_session, settled_as}
use Rattle.session_commands.specs.Large.{large_row}
use Rattle.session_commands.specs.Session.{run_status}

-- its script is decided by the election and its options
abbrev pub LargeDecides : Options → Election → Content → Status → Type 0
LargeDecides o e content = SessionDecides e (generated_text e o.seed o.count o.tabs) content.disk

pub large_laws : (o : Options) → Laws (large_row o)
large_laws o = record {
  Cause = LargeDecides o;
  caused = λ model e a report before after content tells decided ends. ⊎_elim
      (λ none. absurd (subst IsDecided none.0 decided))
      (λ plays. answer_decides model summary_of e plays.answer a plays.source plays.rest _ _ (generated_text e o.seed o.count o.tabs) content.disk plays.script tells.disk decided plays.told plays.ends)
      ends;
  one = λ e content a b valid x y. one_session e (generated_text e o.seed o.count o.tabs) content.disk a b valid x y;
  settled = λ model e a report before after none ends. ⊎_elim
      (λ nothing. inr nothing.0)
      (λ plays.
      let steady : IsSteady plays.source.faults plays.rest.faults = record {
        same = plays.sure.1 ∙ sym plays.sure.0;
        below = let zero = plays.sure.0 in omega (arith, zero);
      } in
      settled_as a (ended_as run_status plays.answer) plays.told (answer_settled model summary_of e plays.answer plays.source plays.rest _ _ steady none.sink none.disk plays.ends))
      ends;
  served = λ e content a words valid options held decides.
      let text = generated_text e o.seed o.count o.tabs in
      one_session e text content.disk a status.Ok valid decides (inl (held, inl (refl, within_limit e o.seed o.count o.tabs valid options.is_seed.1 options.is_tabs)));
  no_usage = λ model e report before after ends. ⊎_elim (λ none. let clash = none.0 in cc) (λ plays. never_usage plays.answer plays.told) ends;
}
