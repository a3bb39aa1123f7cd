use Rattle.std.proofs.Common.{map, ap, ◌∙◌}
use Rattle.step_core.proofs.CoreKept.{mets_seen}
use Rattle.step_core.proofs.cast_core.CastCore.replies.Goals as goal
use Rattle.step_core.specs.CastCore.{met_of}

pub returns-clause-mets : goal.returns-clause-mets
returns-clause-mets c =
    ap (map met_of) c.replies.ensures
    ∙ mets_seen c.self.inside c.self.invariant c.args.self.now c.self.view_is c.args.tab c.requires c.index.result.now c.index.ensures
