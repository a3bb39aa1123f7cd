use Rattle.std.proofs.Common.{◌∙◌}
use Rattle.large_options.proofs.Parses.{values_found}
use Rattle.large_options.proofs.parsed.parsed.Goals as goal

pub unreachable-requires : goal.unreachable-requires
unreachable-requires c = c.in_default.not-OutOfMemory (c.kind.ensures ∙ c.in-Err.ensures.passes (values_found _ c.in_ok-command.ensures _ c.requires).0)

pub returns-in-Ok : goal.returns-in-Ok
returns-in-Ok c = (values_found _ c.in_ok-command.ensures _ c.requires).1 c.in-Ok.matches c.in-Ok.ensures.matches
