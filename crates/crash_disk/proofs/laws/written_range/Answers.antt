use Rattle.crash_disk.specs.SeenIsImage.{length-overwritten, overwritten-torn}
use Rattle.crash_disk.proofs.TornBytes.{overwritten-range}
use Rattle.crash_disk.proofs.laws.written_range.Goals as goal

pub returns-clause-read_back : goal.returns-clause-read_back
returns-clause-read_back c = overwritten-range

pub returns-clause-size : goal.returns-clause-size
returns-clause-size c = length-overwritten

pub returns-clause-torn : goal.returns-clause-torn
returns-clause-torn c = overwritten-torn
