use Rattle.std.proofs.Common.{map, take, true}
use Rattle.store_spec.proofs.Common.{string_bytes}
use Rattle.run_command.proofs.command.are_media.Given as goal
use Rattle.run_outcome.specs.Row.{AreMediaIf}

-- the words before this one are those of media
abbrev pub invariant-words : goal.invariant-words
invariant-words l = AreMediaIf true l.medium (take l.at (map string_bytes l.words))
