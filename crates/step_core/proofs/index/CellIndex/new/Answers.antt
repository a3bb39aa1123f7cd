use Rattle.std.proofs.Common.{◌≡◌, ◌≢◌, length, subst, sym, ap, ◌∙◌, rules}
use Rattle.store_spec.proofs.Common.{All, All-permutation, AllPairs, Contains, length_permutation}
use Rattle.step_core.proofs.index.CellIndex.new.Goals as goal
use Rattle.layout_def.proofs.Ascending.{distinct-IsPermutation}

pub find_places-requires-clause-as_many : goal.find_places-requires-clause-as_many
find_places-requires-clause-as_many c =
    let many : length c.deref_mut.result.now ≡ length c.args.start.now = search rules in
    many ∙ sym (length_permutation _ _ c.in_ok-numbers.ensures.same) ∙ ap length (sym c.deref.ensures.value)

pub find_places-requires-clause-distinct : goal.find_places-requires-clause-distinct
find_places-requires-clause-distinct c =
    subst (AllPairs (λ a b. a ≢ b)) (sym c.deref.ensures.value) (distinct-IsPermutation _ _ c.in_ok-numbers.ensures.same c.requires.distinct)

pub find_places-requires-clause-some : goal.find_places-requires-clause-some
find_places-requires-clause-some c =
    subst (All (λ x. x ≢ 0)) (sym c.deref.ensures.value) (All-permutation (λ x. x ≢ 0) _ _ c.in_ok-numbers.ensures.same c.requires.some)

pub find_places-requires-clause-each : goal.find_places-requires-clause-each
find_places-requires-clause-each c =
    subst (All (Contains c.args.cells.now)) (sym c.deref.ensures.value) (All-permutation (Contains c.args.cells.now) _ _ c.in_ok-numbers.ensures.same c.requires.each)
