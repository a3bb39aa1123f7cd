use Rattle.std.proofs.Common.{◌≡◌, ◌≢◌, ℕ, List, Option, None, Some, MatchOption, is_some, slice_index, sym, ◌∙◌, arith}
use Rattle.store_spec.proofs.Common.{All-contains, Ballot, Contains, HoldsExactly, IsValid, numbers_of}
use Rattle.ballot_record.proofs.BallotNumbers.{ballot_with}
use Rattle.layout_def.proofs.OrderedCells.{contains_from_place, place_within}
use Rattle.phase_find.proofs.Held.{absent, present}
use Rattle.phase_find.proofs.running.holds.Goals as goal
use Rattle.phase_find.specs.Present.{is_present}

pub returns-then-number-eq0 : goal.returns-then-number-eq0
returns-then-number-eq0 c =
    sym (absent c.args.closed.now.ballots c.args.number
    (λ held.
    let with = ballot_with c.args.closed.now.ballots c.args.number held in
    let valid = All-contains (IsValid c.args.closed.now.election) c.args.closed.now.ballots with.0
    c.cells-cells.ensures.stored.set.valid with.1 in
    absurd (omega (arith, valid.some_number, with.2, c.if-number-eq0.true))))

-- a number is found in the cells just where a ballot has it
found : (cells : List ℕ) (ballots : List Ballot) (number : ℕ) (place : Option ℕ) → number ≢ 0
    → HoldsExactly cells (numbers_of ballots)
    → MatchOption place (¬ Contains cells number) (λ place. slice_index cells place ≡ number)
    → is_some place ≡ is_present ballots number
found cells ballots number None some exactly nowhere =
    sym (absent ballots number (λ held. nowhere (exactly.each number held)))
found cells ballots number (Some place) some exactly there =
    let within = place_within cells place (λ empty. some (sym there ∙ empty)) in
    sym (present ballots number (exactly.only number some (contains_from_place cells number place within there)))

pub returns : goal.returns
returns c =
    c.is_some.ensures ∙ found c.cells-cells.result.now c.args.closed.now.ballots c.args.number c.place_of.result
    c.if-number-eq0.false c.cells-cells.ensures.layout.exactly c.place_of.ensures
