use Rattle.std.proofs.Common.{◌≡◌, ◌<◌, ◌++◌, length, arith, rules, sym, ◌∙◌, true}
use Rattle.crash_disk.proofs.Record.{wrote-replayed, wrote-begins, wrote-stored, wrote-made}
use Rattle.crash_disk.proofs.Moments.{next_count-below}
use Rattle.crash_disk.specs.Calls.{with_one_more}
use Rattle.crash_disk.specs.declared.entry.DiskCall.TheVariants.{Write}
use Rattle.crash_disk.proofs.recording.Recording.put.Goals as goal

pub invariant_of-self-clause-replayed : goal.invariant_of-self-clause-replayed
invariant_of-self-clause-replayed c =
    let entries = c.args.self.now.entries.items in
    let written = c.args.self.now.written.items in
    let stores : c.extend_from_slice.new.self.items ≡ written ++ c.args.bytes.now = search rules in
    let fits : length entries < c.args.self.now.room.calls = omega (arith, c.args.self.now.recorded, c.requires.may_call) in
    let added : c.add.new.entries.items ≡ with_one_more c.args.self.now.room.calls entries (record { call = Write c.args.at (length c.args.bytes.now); passed = true; start = length written; count = length c.args.bytes.now }) = search rules in
    c.overwrite.ensures.items ∙ wrote-replayed c.args.self.now.room.calls c.args.at c.args.self.now.first.items written c.extend_from_slice.new.self.items c.args.bytes.now c.args.self.now.bytes.items entries c.add.new.entries.items stores fits added c.args.self.now.stored c.args.self.now.replayed

pub invariant_of-self-clause-begins : goal.invariant_of-self-clause-begins
invariant_of-self-clause-begins c =
    let entries = c.args.self.now.entries.items in
    let written = c.args.self.now.written.items in
    let stores : c.extend_from_slice.new.self.items ≡ written ++ c.args.bytes.now = search rules in
    let fits : length entries < c.args.self.now.room.calls = omega (arith, c.args.self.now.recorded, c.requires.may_call) in
    let added : c.add.new.entries.items ≡ with_one_more c.args.self.now.room.calls entries (record { call = Write c.args.at (length c.args.bytes.now); passed = true; start = length written; count = length c.args.bytes.now }) = search rules in
    wrote-begins c.args.self.now.room.calls c.args.at c.args.self.now.first.items written c.extend_from_slice.new.self.items c.args.bytes.now c.args.self.now.bytes.items entries c.add.new.entries.items stores fits added c.args.self.now.stored c.args.self.now.replayed c.requires.at c.args.self.now.begins

pub invariant_of-self-clause-stored : goal.invariant_of-self-clause-stored
invariant_of-self-clause-stored c =
    let entries = c.args.self.now.entries.items in
    let written = c.args.self.now.written.items in
    let stores : c.extend_from_slice.new.self.items ≡ written ++ c.args.bytes.now = search rules in
    let fits : length entries < c.args.self.now.room.calls = omega (arith, c.args.self.now.recorded, c.requires.may_call) in
    let added : c.add.new.entries.items ≡ with_one_more c.args.self.now.room.calls entries (record { call = Write c.args.at (length c.args.bytes.now); passed = true; start = length written; count = length c.args.bytes.now }) = search rules in
    wrote-stored c.args.self.now.room.calls c.args.at c.args.self.now.first.items written c.extend_from_slice.new.self.items c.args.bytes.now c.args.self.now.bytes.items entries c.add.new.entries.items stores fits added c.args.self.now.stored

pub returns-clause-noted : goal.returns-clause-noted
returns-clause-noted c =
    let entries = c.args.self.now.entries.items in
    let written = c.args.self.now.written.items in
    let stores : c.extend_from_slice.new.self.items ≡ written ++ c.args.bytes.now = search rules in
    let fits : length entries < c.args.self.now.room.calls = omega (arith, c.args.self.now.recorded, c.requires.may_call) in
    let added : c.add.new.entries.items ≡ with_one_more c.args.self.now.room.calls entries (record { call = Write c.args.at (length c.args.bytes.now); passed = true; start = length written; count = length c.args.bytes.now }) = search rules in
    record {
      first = search rules;
      room = search rules;
      calls = sym (next_count-below c.args.self.now.calls (omega arith));
      faults = search rules;
      never_falls = search rules;
      recorded = wrote-made c.args.self.now.room.calls c.args.at c.args.self.now.first.items written c.extend_from_slice.new.self.items c.args.bytes.now c.args.self.now.bytes.items entries c.add.new.entries.items stores fits added c.args.self.now.stored;
    }
