use Rattle.std.proofs.Common.{arith}
use Rattle.crash_disk.proofs.Record.{noted-replayed, noted-begins, noted-stored}
use Rattle.crash_disk.proofs.recording.Recording.note.Goals as goal

pub invariant_of-self-clause-replayed : goal.invariant_of-self-clause-replayed
invariant_of-self-clause-replayed c =
    noted-replayed c.args.self.now.room.calls c.args.self.now.first.items c.args.self.now.written.items c.args.self.now.bytes.items c.args.self.now.entries.items c.add.new.entries.items c.args.call c.args.passed c.len.result c.add.ensures.items c.requires c.args.self.now.replayed

pub invariant_of-self-clause-begins : goal.invariant_of-self-clause-begins
invariant_of-self-clause-begins c =
    noted-begins c.args.self.now.room.calls c.args.self.now.first.items c.args.self.now.written.items c.args.self.now.bytes.items c.args.self.now.entries.items c.add.new.entries.items c.args.call c.args.passed c.len.result c.add.ensures.items c.requires c.args.self.now.begins

pub invariant_of-self-clause-stored : goal.invariant_of-self-clause-stored
invariant_of-self-clause-stored c =
    noted-stored c.args.self.now.room.calls c.args.self.now.first.items c.args.self.now.written.items c.args.self.now.bytes.items c.args.self.now.entries.items c.add.new.entries.items c.args.call c.args.passed c.len.result c.add.ensures.items c.requires (omega arith) c.args.self.now.stored
