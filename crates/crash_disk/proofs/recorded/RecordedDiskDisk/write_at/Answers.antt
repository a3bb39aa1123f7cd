use Rattle.std.proofs.Common.{◌<◌, length, rules}
use Rattle.store_spec.proofs.Common.{OnOk}
use Rattle.crash_disk.proofs.Elapsed.{write-unchanged, write-any, write-images}
use Rattle.crash_disk.proofs.recorded.RecordedDiskDisk.write_at.Given as given
use Rattle.crash_disk.proofs.recorded.RecordedDiskDisk.write_at.Goals as goal

room : (g : given.Over) (c : goal.After-write_at g) → OnOk c.write_at.result (c.args.self.now.recording.calls < c.args.self.now.recording.room.calls)
room g c = search rules

pub returns-clause-unchanged_crash_images : goal.returns-clause-unchanged_crash_images
returns-clause-unchanged_crash_images g c = write-unchanged c.args.self.now (record c.args.self.now { recording = c.write_at.new.self }) c.write_at.result c.args.at (length c.args.bytes.now) c.write_at.ensures.noted_failed

pub returns-clause-any_bytes : goal.returns-clause-any_bytes
returns-clause-any_bytes g c = write-any c.args.self.now (record c.args.self.now { recording = c.write_at.new.self }) c.write_at.result c.args.at c.args.bytes.now c.write_at.ensures.noted (room g c)

pub returns-clause-crash_images : goal.returns-clause-crash_images
returns-clause-crash_images g c = write-images c.args.self.now (record c.args.self.now { recording = c.write_at.new.self }) c.write_at.result c.args.at c.args.bytes.now (returns-clause-unchanged_crash_images g c) (returns-clause-any_bytes g c)
