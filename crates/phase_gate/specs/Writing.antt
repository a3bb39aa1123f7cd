-- What a session writes of its replies.
use Rattle.std.specs.Prelude.{◌≡◌, ◌==◌, ℕ, List, false}
use Rattle.std.specs.List.{list_any}
use Rattle.phase_gate.specs.declared.fault.SessionFault.{SessionFault}
use Rattle.phase_gate.specs.declared.fault.SessionFault.TheVariants as session
use Rattle.phase_gate.specs.declared.writing.Writing.{Writing}
use Rattle.phase_gate.specs.declared.writing.Writing.TheVariants.{All, Summary}
use Rattle.store_spec.specs.Input.{line_end}
use Rattle.store_spec.specs.Session.{Effect}
use Rattle.store_spec.specs.Summary.{summary_of}
use Rattle.tally_export.specs.declared.fault.PutFault.{PutFault}
use Rattle.tally_export.specs.declared.fault.PutFault.TheVariants as put

-- what is written of a text
abbrev pub written_of : Writing → List ℕ → List ℕ
written_of All = λ text. text
written_of Summary = λ text. summary_of text

-- a part of a line: no byte of it is a line end
abbrev pub HasNoEnd : List ℕ → Type 0
HasNoEnd text = list_any (λ byte. byte == line_end) text ≡ false

-- what a line did, with what is written of its reply
abbrev pub as_written : Writing → Effect → Effect
as_written writing effect = record {
  reply = written_of writing effect.reply;
  acknowledged = effect.acknowledged;
  next = effect.next;
}

-- this is written of a line that did such a thing
abbrev pub WritesReply : Writing → (Effect → Type 0) → Effect → Type 0
WritesReply writing Did told = (effect : Effect) × Did effect × (told ≡ as_written writing effect)

-- a fault of a write, as one of a session
abbrev pub put_fault : PutFault → SessionFault
put_fault put.WriteFault = session.WriteFault
put_fault put.Memory = session.Memory
