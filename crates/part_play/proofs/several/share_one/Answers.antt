use Rattle.std.proofs.Common.{All, Global, Vec, ℕ, length, map, subst, sym, zip}
use Rattle.store_spec.proofs.Common.{All-push}
use Rattle.part_play.proofs.Stages.{next_shared}
use Rattle.part_play.proofs.several.share_one.Goals as goal

pub returns-clause-shared : goal.returns-clause-shared
returns-clause-shared g c work so_far =
    let goes : g.row.K-Item.Denot → ℕ = λ x. g.S.Spread.to c.args.spread.now (g.K.Kind.number x) in
    let out = c.in_ok-row in
    next_shared goes (length c.args.stores.now) (λ (row : Vec g.row.K-List.Denot Global). map g.K.Kind.items row.items) (λ (order : Vec ℕ Global). order.items) work (g.K.Kind.items c.args.list.now) c.args.rows.now.items _ c.args.orders.now.items _ out.row out.order
    so_far c.in_ok-push_both.ensures.first c.in_ok-push_both.ensures.second out.ensures.lists out.ensures.order

pub returns-clause-is_of : goal.returns-clause-is_of
returns-clause-is_of g c so_far =
    let IsOf : Vec g.row.K-List.Denot Global → Type 0 = λ row. All (λ at. g.K.Kind.is_of at.0 at.1) (zip c.args.stores.now row.items) in
    let out = c.in_ok-row in
    subst (All IsOf) (sym c.in_ok-push_both.ensures.first) (All-push IsOf c.args.rows.now.items out.row so_far out.ensures.is_of)
