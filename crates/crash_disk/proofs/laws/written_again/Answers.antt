use Rattle.crash_disk.proofs.TornBytes.{overwritten-byte, overwritten-next, overwritten-same, overwritten-nothing}
use Rattle.crash_disk.proofs.laws.written_again.Goals as goal

pub returns-clause-byte : goal.returns-clause-byte
returns-clause-byte c = overwritten-byte

pub returns-clause-next : goal.returns-clause-next
returns-clause-next c = overwritten-next

pub returns-clause-same : goal.returns-clause-same
returns-clause-same c = overwritten-same

pub returns-clause-nothing : goal.returns-clause-nothing
returns-clause-nothing c = overwritten-nothing
