use Rattle.std.proofs.Common.{[], ◌∷◌, ◌++◌, ◌∙◌, ℕ, List, ap, ap₂, map, sym, take}
use Rattle.store_spec.proofs.Common.{map_push}
use Rattle.phase_kind.proofs.Trays.{take_next}
use Rattle.phase_kind.proofs.several.order_of.Goals as goal

pub loop-index-preserved : goal.loop-index-preserved
loop-index-preserved g c =
    let goes : g.row.K-Item.Denot → ℕ = λ x. g.S.Spread.to c.args.spread.now (g.K.Kind.number x) in
    let list = g.K.Kind.items c.args.list.now in
    let index = c.loop-index.index in
    let placed = c.in_ok-place_of.ensures in
    c.in_ok-push.ensures.items
    ∙ ap₂ (λ (l : List ℕ) (p : ℕ). l ++ p ∷ []) c.loop-index.invariant placed.2
    ∙ sym (ap (map goes) (take_next list index placed.0 placed.1) ∙ map_push goes (take index list) placed.0)
