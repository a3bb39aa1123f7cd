use Rattle.crash_disk.proofs.Elapsed.{size-images}
use Rattle.crash_disk.proofs.recorded.RecordedDiskDisk.size.Goals as goal

pub returns-clause-crash_images : goal.returns-clause-crash_images
returns-clause-crash_images g c = size-images c.args.self.now (record c.args.self.now { recording = c.size.new.self }) c.may_pass-passes.result c.size.ensures.noted
