use Rattle.std.proofs.Common.{◌≡◌, ◌∙◌, Global, List, Vec, ap, arith, get_or, length, subst, sym, ℕ}
use Rattle.phase_kind.proofs.team.team_up.Goals as goal
use Rattle.phase_kind.specs.Team.{AreNamed}

pub new-requires-after_bounds : goal.new-requires-after_bounds
new-requires-after_bounds g c κs within =
    let orders = c.args.orders.now in
    let order = c.index-orders-len.result in
    let at : c.len.result ≡ length c.args.teams.now.items = omega (arith, c.len.ensures, c.args.teams.now.ok.0) in
    let order_is : order ≡ get_or orders (length c.args.teams.now.items) order = c.index-orders-len.is ∙ ap (λ (k : ℕ). get_or orders k order) at in
    subst (λ (o : List ℕ). AreNamed o c.args.row.items) (sym c.deref.ensures.value) (subst (λ (o : Vec ℕ Global). AreNamed o.items c.args.row.items) (sym order_is) (c.requires.named order))
