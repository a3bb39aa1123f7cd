use Rattle.std.proofs.Common.{◌≡◌, ℕ, List, length, refl, sym, ap, subst, arith}
use Rattle.store_spec.proofs.Common.{length-map, with_items, with_items_is}
use Rattle.step_core.proofs.CoreKept.{IsStepped, alone_seen, asks, falls_seen, invariant_seen, kept_seen, lists_seen, row_seen}
use Rattle.step_core.proofs.cast_core.CastCore.step.Goals as goal
use Rattle.step_core.proofs.cast_core.CastCore.step.Goals.{After-make_step}
use Rattle.step_core.specs.CastCore.{MayStep, tab_of}
use Rattle.step_core.specs.Casting.{Casting}
use Rattle.step_core.specs.Shape.{table_of}

pub make_step-requires-clause-may_step : goal.make_step-requires-clause-may_step
make_step-requires-clause-may_step c =
    let a = c.self.inside in
    let tabs = ap (λ (v : Casting). length v.tabs) c.self.view_is in
    subst (λ (ws : List ℕ). MayStep (table_of a.shape) ws (tab_of c.index_mut.result.now)) (sym c.deref_mut.ensures.value)
    (asks a c.self.invariant c.args.tab (omega (arith, c.requires, length-map a.tabs.items tab_of)) c.index_mut.result.now c.index_mut.ensures.value)

-- what `make_step` has left
stepped : (c : goal.After-make_step) → IsStepped c.self.inside c.index_mut.result.now c.make_step.result c.deref.result.now c.deref_mut.result.now c.make_step.new.words c.make_step.new.tab
stepped c = record {
  own_base = c.deref.ensures.value;
  own_words = c.deref_mut.ensures.value;
  unchanged = c.make_step.ensures.unchanged;
  row = c.make_step.ensures.row;
}

-- as many words as before
words_are : (c : goal.After-make_step) → (with_items c.self.inside.words c.make_step.new.words).items ≡ c.make_step.new.words
words_are c = with_items_is c.self.inside.words c.make_step.new.words (omega (arith, c.make_step.auto.words, c.deref_mut.ensures.len))

pub invariant_of-self : goal.invariant_of-self
invariant_of-self c =
    let at = (goal.at.invariant_of-self c).After-make_step in
    kept_seen c.self.inside c.self.invariant c.args.self.now c.self.view_is c.args.tab c.requires c.index_mut.result.now c.index_mut.ensures.value c.make_step.result _ _ _ c.make_step.new.tab (stepped at)
    c.make_step.new.words refl _ _ (words_are at) refl c.make_step.ensures.kept

pub returns-clause-row : goal.returns-clause-row
returns-clause-row c =
    let at = (goal.at.returns-clause-row c).After-make_step in
    row_seen c.self.inside c.self.invariant c.args.self.now c.self.view_is c.args.tab c.requires c.index_mut.result.now c.index_mut.ensures.value c.make_step.result _ _ _ c.make_step.new.tab (stepped at)
    _ (words_are at)

pub returns-clause-falls : goal.returns-clause-falls
returns-clause-falls c =
    let at = (goal.at.returns-clause-falls c).After-make_step in
    falls_seen c.self.inside c.self.invariant c.args.self.now c.self.view_is c.args.tab c.requires c.index_mut.result.now c.index_mut.ensures.value c.make_step.result _ _ _ c.make_step.new.tab (stepped at)
    _ (words_are at)

pub returns-clause-invariant : goal.returns-clause-invariant
returns-clause-invariant c =
    let at = (goal.at.returns-clause-invariant c).After-make_step in
    invariant_seen c.self.inside c.self.invariant c.args.self.now c.self.view_is c.args.tab c.requires c.index_mut.result.now c.index_mut.ensures.value c.make_step.result _ _ _ c.make_step.new.tab (stepped at)
    _ (words_are at)

pub returns-clause-lists : goal.returns-clause-lists
returns-clause-lists c =
    let at = (goal.at.returns-clause-lists c).After-make_step in
    lists_seen c.self.inside c.self.invariant c.args.self.now c.self.view_is c.args.tab c.requires c.index_mut.result.now c.index_mut.ensures.value c.make_step.result _ _ _ c.make_step.new.tab (stepped at)
    _ (words_are at)

pub returns-clause-alone : goal.returns-clause-alone
returns-clause-alone c = λ one e.
    let at = (goal.at.returns-clause-alone c).After-make_step in
    alone_seen c.self.inside c.self.invariant c.args.self.now c.self.view_is c.args.tab c.requires c.index_mut.result.now c.index_mut.ensures.value c.make_step.result _ _ _ c.make_step.new.tab (stepped at)
    _ (words_are at) one e (c.make_step.ensures.at_rest.0 e)
