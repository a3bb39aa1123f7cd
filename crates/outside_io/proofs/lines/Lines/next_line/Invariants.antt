use Rattle.std.proofs.Common.{◌≡◌, true, ◌+◌, ◌-◌, length}
use Rattle.outside_io.specs.Stream.{GivesFront}
use Rattle.outside_io.specs.Told.{AsTold}
use Rattle.store_spec.specs.Input.{IsTooLong}
use Rattle.outside_io.proofs.Answered.{Alike}
use Rattle.outside_io.proofs.lines.Lines.next_line.Given as goal

-- what is kept and left looks like what was at the call
abbrev pub invariant-lines : goal.invariant-lines
invariant-lines g l = record {
  alike : Alike l.initial.self l.self (g.S.Source.left l.initial.source) (g.S.Source.left l.source);
  gives : AsTold g.S.Source.left l.initial.source l.source GivesFront;
  room : l.self.room ≡ l.initial.self.room;
  over : IsTooLong l.initial.self.text l.initial.self.room → IsTooLong l.self.text l.self.room;
  ended : l.self.ended ≡ l.initial.self.ended;
  first : l.self.ended ≡ true → (l.self ≡ l.initial.self) × (l.source ≡ l.initial.source);
  steady : g.S.Source.faults l.source ≡ g.S.Source.faults l.initial.source;
}

-- each turn but the last adds a byte, and there is no turn past the room
abbrev pub decreases-lines : goal.decreases-lines
decreases-lines g l = l.self.room + 1 - length l.self.text
