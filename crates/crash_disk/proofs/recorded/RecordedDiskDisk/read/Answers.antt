use Rattle.std.proofs.Common.{length}
use Rattle.crash_disk.proofs.Elapsed.{read-images}
use Rattle.crash_disk.proofs.recorded.RecordedDiskDisk.read.Goals as goal

pub returns-clause-crash_images : goal.returns-clause-crash_images
returns-clause-crash_images g c = read-images c.args.self.now (record c.args.self.now { recording = c.read.new.self }) c.may_pass-passes.result c.args.at (length c.args.buf.now) c.read.ensures.noted
