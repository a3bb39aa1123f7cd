use Rattle.std.proofs.Common.{◌<◌, rules}
use Rattle.std.specs.Prelude.{is_ok, OnOk}
use Rattle.crash_disk.proofs.Elapsed.{sync-images, sync-inside, sync-settled, sync-unsettled}
use Rattle.crash_disk.specs.Calls.{plain_call}
use Rattle.crash_disk.specs.Notes.{Notes}
use Rattle.crash_disk.specs.declared.entry.DiskCall.TheVariants.{Sync}
use Rattle.crash_disk.proofs.recorded.RecordedDiskDisk.sync.Given as given
use Rattle.crash_disk.proofs.recorded.RecordedDiskDisk.sync.Goals as goal

noted : (g : given.Over) (c : goal.After-sync g) → Notes (plain_call Sync (is_ok c.sync.result)) c.args.self.now.recording c.sync.new.self
noted g c = search rules

room : (g : given.Over) (c : goal.After-sync g) → OnOk c.sync.result (c.args.self.now.recording.calls < c.args.self.now.recording.room.calls)
room g c = search rules

pub returns-clause-crash_images : goal.returns-clause-crash_images
returns-clause-crash_images g c = sync-images c.args.self.now (record c.args.self.now { recording = c.sync.new.self }) c.sync.result (noted g c) (room g c)

pub returns-clause-inside : goal.returns-clause-inside
returns-clause-inside g c = sync-inside c.args.self.now (record c.args.self.now { recording = c.sync.new.self }) c.sync.result (noted g c) (room g c)

pub returns-clause-settled : goal.returns-clause-settled
returns-clause-settled g c = sync-settled c.args.self.now (record c.args.self.now { recording = c.sync.new.self }) c.sync.result (noted g c) (room g c) c.sync.ensures.bytes

pub returns-clause-unsettled : goal.returns-clause-unsettled
returns-clause-unsettled g c = sync-unsettled c.args.self.now (record c.args.self.now { recording = c.sync.new.self }) c.sync.result (noted g c)
