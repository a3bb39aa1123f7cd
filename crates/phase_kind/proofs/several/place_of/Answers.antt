use Rattle.std.proofs.Common.{ap, ◌∙◌}
use Rattle.phase_kind.proofs.Counts.{something_there}
use Rattle.phase_kind.proofs.several.place_of.Goals as goal

pub returns : goal.returns
returns g c =
    let at = something_there (g.K.Kind.items c.args.list.now) c.args.index c.requires in
    (at.0, at.1, c.place-place.ensures ∙ ap (g.S.Spread.to c.args.spread.now) (c.number.ensures at.0 at.1))
