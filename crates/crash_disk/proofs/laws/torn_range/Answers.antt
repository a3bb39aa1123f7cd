use Rattle.crash_disk.proofs.TornBytes.{torn-before, torn-behind, torn-byte_before, torn-byte_behind, torn-size}
use Rattle.crash_disk.proofs.laws.torn_range.Goals as goal

pub returns-clause-before : goal.returns-clause-before
returns-clause-before c at n i j old new = torn-before at n old new i j

pub returns-clause-behind : goal.returns-clause-behind
returns-clause-behind c at n i j old new = torn-behind at n old new i j

pub returns-clause-byte_before : goal.returns-clause-byte_before
returns-clause-byte_before c = torn-byte_before

pub returns-clause-byte_behind : goal.returns-clause-byte_behind
returns-clause-byte_behind c = torn-byte_behind

pub returns-clause-size : goal.returns-clause-size
returns-clause-size c = torn-size
