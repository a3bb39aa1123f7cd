use Rattle.std.proofs.Common.{◌≡◌, ◌↔◌, Bool, true, sym, subst}
use Rattle.store_spec.proofs.Common.{Contains}
use Rattle.std.proofs.lemmas.List.Sorted.{searched}
use Rattle.step_core.proofs.CoreSearch.{contains_from_search}
use Rattle.step_core.proofs.tabulator.contains.Goals as goal

pub returns : goal.returns
returns c =
    subst (λ (b : Bool). (b ≡ true) ↔ Contains c.args.sorted.now c.args.number) (sym c.is_ok.ensures.value)
    (contains_from_search _ _ _ (searched _ _ _ c.binary_search.ensures.position (λ i j le lt. c.requires i j 0 le lt)))
