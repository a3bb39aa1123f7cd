use Rattle.std.proofs.Common.{◌≡◌, List, ℕ, Option, Some, Result, Ok, refl, subst}
use Rattle.store_spec.proofs.Common.{Election, both_ways}
use Rattle.schedule_replay.proofs.Takings.{refused_word}
use Rattle.schedule_replay.specs.ReplayLine.{ReadsAsReplay}
use Rattle.schedule_replay.specs.Script.{ReadsLine, TakesLine, TakesRead, line_at}
use Rattle.schedule_replay.specs.Script.TakesLine.{reads}
use Rattle.schedule_replay.specs.declared.fault.Refusal.{Refusal}
use Rattle.schedule_replay.specs.declared.line.Word.{Word}
use Rattle.schedule_replay.specs.declared.script.Script.{Script}
use Rattle.schedule_replay.proofs.script.Script.take.Goals as goal

-- a line was read as one of a word, and what becomes of that
taken_as : (result : Result (Unit {0}) Refusal) (e : Election) (line numbers given : List ℕ) (read : Option Word) (found word : Word) (old new : Script) → ReadsLine (Ok read) line numbers → read ≡ Some found → found ≡ word → given ≡ numbers
    → TakesRead result e (line_at word given) old new → TakesLine result e line old new
taken_as result e line numbers given read found word old new was some is same takes =
    let found_so = subst (λ (o : Option Word). ReadsLine (Ok o) line numbers) some was in
    reads (line_at word numbers) (subst (λ w. ReadsAsReplay line (line_at w numbers)) is found_so) (subst (λ (ns : List ℕ). TakesRead result e (line_at word ns) old new) same takes)

pub returns-then-not-allows : goal.returns-then-not-allows
returns-then-not-allows c =
    let e = c.args.election.now in
    let numbers = c.read_line.new.numbers.items in
    taken_as _ e c.args.line.now numbers numbers c.in_ok-word.field-0 c.in-Some.word c.in-Some.word c.args.self.now _ c.in_ok-word.ensures c.in-Some.is refl refl
    (refused_word e c.args.self.now (line_at c.in-Some.word numbers) (λ may. both_ways c.allows.result c.if-not-allows.true (c.allows.ensures.1 may)))

pub returns-in-Start : goal.returns-in-Start
returns-in-Start c =
    taken_as c.take_base.result c.args.election.now c.args.line.now c.read_line.new.numbers.items c.deref.result.now c.in_ok-word.field-0 c.in-Some.word _ c.args.self.now c.take_base.new.self c.in_ok-word.ensures c.in-Some.is c.in-Start.is c.deref.ensures.value c.take_base.ensures

pub returns-in-Cast : goal.returns-in-Cast
returns-in-Cast c =
    taken_as c.take_kind.result c.args.election.now c.args.line.now c.read_line.new.numbers.items c.deref-in-Cast.result.now c.in_ok-word.field-0 c.in-Some.word _ c.args.self.now c.take_kind.new.self c.in_ok-word.ensures c.in-Some.is c.in-Cast.is c.deref-in-Cast.ensures.value (c.take_kind.ensures c.args.election.now)

pub returns-in-Withdraw : goal.returns-in-Withdraw
returns-in-Withdraw c =
    taken_as c.take_kind-in-Withdraw.result c.args.election.now c.args.line.now c.read_line.new.numbers.items c.deref-in-Withdraw.result.now c.in_ok-word.field-0 c.in-Some.word _ c.args.self.now c.take_kind-in-Withdraw.new.self c.in_ok-word.ensures c.in-Some.is c.in-Withdraw.is c.deref-in-Withdraw.ensures.value (c.take_kind-in-Withdraw.ensures c.args.election.now)

pub returns-in-List : goal.returns-in-List
returns-in-List c =
    taken_as c.take_addition.result c.args.election.now c.args.line.now c.read_line.new.numbers.items c.deref-in-List.result.now c.in_ok-word.field-0 c.in-Some.word _ c.args.self.now c.take_addition.new.self c.in_ok-word.ensures c.in-Some.is c.in-List.is c.deref-in-List.ensures.value (c.take_addition.ensures c.args.election.now)

pub returns-in-Steps : goal.returns-in-Steps
returns-in-Steps c =
    taken_as c.take_turns.result c.args.election.now c.args.line.now c.read_line.new.numbers.items c.deref-in-Steps.result.now c.in_ok-word.field-0 c.in-Some.word _ c.args.self.now c.take_turns.new.self c.in_ok-word.ensures c.in-Some.is c.in-Steps.is c.deref-in-Steps.ensures.value (c.take_turns.ensures c.args.election.now)
