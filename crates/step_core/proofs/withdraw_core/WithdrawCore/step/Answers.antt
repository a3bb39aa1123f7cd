use Rattle.std.proofs.Common.{◌<◌, List, ℕ, length, sym, subst, ◌∙◌}
use Rattle.store_spec.proofs.Common.{All-set, iff_false, with_items_is}
use Rattle.step_core.proofs.WithdrawCoreEnds.{core_alone}
use Rattle.step_core.proofs.WithdrawingLists.{steps_list}
use Rattle.step_core.proofs.WithdrawCoreSteps.{core_done_from, core_step_to, may_step, tab_within}
use Rattle.step_core.proofs.withdraw_core.WithdrawCore.step.Goals as goal
use Rattle.step_core.specs.WithdrawCore.{HasReplyRoom, MayStep, base_of, tab_of}
use Rattle.step_core.specs.WithdrawingInvariant.{IsWithdrawing}

pub make_step-requires-clause-may_step : goal.make_step-requires-clause-may_step
make_step-requires-clause-may_step c =
    let a = c.self.inside in
    let numbers = a.index.numbers.items in
    let lt : c.args.tab < length a.tabs.items = tab_within a c.args.self.now c.args.tab c.self.view_is c.requires in
    subst (λ (l : List ℕ). MayStep (base_of a.shape numbers) numbers l (tab_of c.index_mut.result.now)) (sym c.deref_mut.ensures.value)
    (may_step a.shape a.limit numbers a.words.items a.tabs.items c.args.tab c.index_mut.result.now c.self.invariant.cells lt (sym c.index_mut.ensures.value) c.self.invariant.phase)

pub invariant_of-self : goal.invariant_of-self
invariant_of-self c =
    let a = c.self.inside in
    let kept = c.self.invariant in
    let stored = with_items_is a.words c.make_step.new.words (c.make_step.auto.words ∙ c.deref_mut.ensures.len) in
    let s = core_step_to a c.args.self.now c.args.tab c.index_mut.result.now c.deref_mut.result.now c.make_step.new.words _ c.make_step.new.tab kept c.self.view_is c.requires (sym c.index_mut.ensures.value) c.deref_mut.ensures.value stored c.make_step.ensures.row in
    record {
      phase = s.keeps;
      cells = kept.cells;
      shape = kept.shape;
      index = kept.index;
      room = All-set HasReplyRoom a.tabs.items c.args.tab c.make_step.new.tab c.make_step.ensures.kept kept.room;
    }

pub returns : goal.returns
returns c =
    let a = c.self.inside in
    let kept = c.self.invariant in
    let stored = with_items_is a.words c.make_step.new.words (c.make_step.auto.words ∙ c.deref_mut.ensures.len) in
    let s = core_step_to a c.args.self.now c.args.tab c.index_mut.result.now c.deref_mut.result.now c.make_step.new.words _ c.make_step.new.tab kept c.self.view_is c.requires (sym c.index_mut.ensures.value) c.deref_mut.ensures.value stored c.make_step.ensures.row in
    record {
      at_rest = (
        λ e. absurd (let no : ⊥ = cc in no),
        λ done. absurd (iff_false c.is_done.ensures c.if-is_done.false
            (core_done_from a c.args.self.now c.args.tab c.index.result.now kept c.self.view_is c.requires (sym c.index.ensures) done)),
      );
      unchanged = λ e. absurd (let no : ⊥ = cc in no);
      row = λ e. s.row;
      falls = λ e. s.falls;
      lists = steps_list c.args.self.now c.args.tab _ (subst IsWithdrawing c.self.view_is kept.phase) s.row;
      alone = λ one e. absurd (let no : ⊥ = cc in no);
      invariant = s.keeps;
    }

pub returns-then-is_done-clause-alone : goal.returns-then-is_done-clause-alone
returns-then-is_done-clause-alone c = λ one e.
    core_alone c.self.inside c.args.self.now c.args.tab c.index.result.now c.self.invariant c.self.view_is c.requires (sym c.index.ensures) (c.is_done.ensures.0 c.if-is_done.true) one
