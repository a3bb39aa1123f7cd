use Rattle.std.proofs.Common.{Bool, List, ℕ, subst, sym}
use Rattle.store_spec.proofs.Common.{false≢true}
use Rattle.std.specs.Prelude.{MatchBool}
use Rattle.schedule_replay.proofs.Words.{no_numbers, no_form, reads_as}
use Rattle.schedule_replay.specs.ReplayLine.{AreNumbers, HasForm}
use Rattle.schedule_replay.proofs.line.read_line.Goals as goal
use Rattle.schedule_replay.proofs.line.read_line.Goals.{then-not-branch-via-then-not-branch, then-not-branch-via-else-not-branch+then-not-has_form}

pub returns : goal.returns
returns c =
    let rest = c.in-Some.rest.now in
    let numbers = c.read_numbers.new.numbers.items in
    let word = c.in-Some.word in
    let read = subst (λ (b : Bool). MatchBool b (AreNumbers rest numbers) ((ns : List ℕ) → ¬ AreNumbers rest ns)) c.if-not-branch.false c.in_ok-read_numbers.ensures in
    reads_as c.args.line.now rest numbers word c.in-Some.ensures read (subst (HasForm word) c.deref.ensures.value (c.has_form.ensures.0 c.if-not-has_form.false))

pub returns-then-not-branch : goal.returns-then-not-branch
returns-then-not-branch c =
    let line = c.args.line.now in
    let rest = c.in-Some.rest.now in
    let numbers = c.read_numbers.new.numbers.items in
    let word = c.in-Some.word in
    let Read : Bool → Type 0 = λ b. MatchBool b (AreNumbers rest numbers) ((ns : List ℕ) → ¬ AreNumbers rest ns) in
    elim c.then-not-branch.branch [
      | then-not-branch-via-then-not-branch w ↦ no_numbers line rest word c.in-Some.ensures (subst Read w.if-not-branch.true c.in_ok-read_numbers.ensures)
      | then-not-branch-via-else-not-branch+then-not-has_form w ↦
          no_form line rest numbers word c.in-Some.ensures (subst Read w.if-not-branch.false c.in_ok-read_numbers.ensures)
          (λ form. false≢true (let bad = w.has_form.ensures.1 (subst (HasForm word) (sym w.deref.ensures.value) form) in cc))
    ]
