use Rattle.std.proofs.Common.{◌≡◌, ℕ, ◌+◌, ◌-◌, ◌<◌, ◌≤◌, List, ◌∷◌, [], ◌++◌, length, take, drop, refl, sym, ap, subst, subst₂, ◌∙◌, arith}
use Rattle.store_spec.proofs.Common.{Ballot, BeginsAnImage, Election, IsCellOf, IsElection, MayStand, cell_count, cell_size, false≢true, home_in, length_push, number_at}
use Rattle.ballot_record.proofs.BallotNumbers.{length-numbers_of}
use Rattle.ballot_record.proofs.CellFormat.{number_of_bytes}
use Rattle.image_builder.proofs.FirstCells.{Goes, ballot_next, wrong_next}
use Rattle.image_builder.proofs.Judged.{IsNext, first_next, one_is, up_to}
use Rattle.image_builder.proofs.Reaches.{reach_as}
use Rattle.image_builder.proofs.Wrong.{bad_bytes, misplaced, stands_at, stands_behind, too_many}
use Rattle.image_builder.proofs.cells.read_right_cell.Goals as goal
use Rattle.image_builder.proofs.cells.read_right_cell.Goals.{then-not-holds_ballot-via-then-not-holds_ballot, then-not-holds_ballot-via-else-not-holds_ballot+then-len-limit}
use Rattle.image_builder.specs.Cells.{AreFirst, IsRefusedAt, end_of, numbers_read, spelled_ballots}
use Rattle.image_builder.specs.declared.read.ImageFault.TheVariants.{Damaged}
use Rattle.image_builder.specs.Reaches.{IsReach}

-- the next cell is wrong, in every bank that goes on so
wrong_here : (e : Election) (numbers reaches bank bytes : List ℕ) (at : ℕ) → IsElection e → AreFirst e numbers reaches bank → at ≡ end_of e numbers → IsNext e numbers bank bytes 1
    → ((other : List ℕ) → Goes e numbers (spelled_ballots e numbers bank) bytes other → length numbers < cell_count e → ¬ BeginsAnImage e (length numbers + 1) other) → IsRefusedAt e (take (at + cell_size e) bank) (Damaged (length numbers))
wrong_here e numbers reaches bank bytes at election first begins is wrong =
    let room : length numbers < cell_count e = omega (arith, is.room) in
    subst (λ (front : List ℕ). IsRefusedAt e front (Damaged (length numbers))) (up_to e numbers bank bytes at begins is)
    (wrong_next e numbers reaches (spelled_ballots e numbers bank) bytes election first.cells (omega (arith, is.long)) room (λ other goes. wrong other goes room))

-- as many reaches as ballots
reach_each : (e : Election) (numbers reaches bank : List ℕ) → AreFirst e numbers reaches bank → length reaches ≡ length (spelled_ballots e numbers bank)
reach_each e numbers reaches bank first =
    omega (arith, first.cells.reached.count, ap length first.cells.same, length-numbers_of (spelled_ballots e numbers bank))

-- the number in front of a ballot's cell
number_is : (e : Election) (bytes : List ℕ) (b : Ballot) (number : ℕ) → IsCellOf e bytes b → number ≡ number_at bytes → number ≡ b.number
number_is e bytes b number is read = read ∙ ap number_at is.1 ∙ number_of_bytes e b is.0.short_number

pub reach_of-requires-clause-few : goal.reach_of-requires-clause-few
reach_of-requires-clause-few c =
    let e = c.args.election.now in
    let is = one_is e (numbers_read c.args.cells.now) c.args.cells.now.reaches.items c.args.bank.now c.args.at c.cell_bytes.result c.requires.read c.requires.at c.requires.whole c.requires.within c.cell_bytes.ensures.size in
    omega (arith, is.room, ap length c.deref.ensures.value)

pub push_reserved-requires : goal.push_reserved-requires
push_reserved-requires c =
    let is = one_is c.args.election.now (numbers_read c.args.cells.now) c.args.cells.now.reaches.items c.args.bank.now c.args.at c.cell_bytes.result c.requires.read c.requires.at c.requires.whole c.requires.within c.cell_bytes.ensures.size in
    omega (arith, is.room, c.requires.wide.numbers)

pub returns-then-not-holds_ballot-clause-refused : goal.returns-then-not-holds_ballot-clause-refused
returns-then-not-holds_ballot-clause-refused c _ =
    let e = c.args.election.now in
    let bank = c.args.bank.now in
    let at = c.args.at in
    let numbers = numbers_read c.args.cells.now in
    let reaches = c.args.cells.now.reaches.items in
    let ballots = spelled_ballots e numbers bank in
    let bytes = take (at + c.cell_bytes.result - at) (drop at bank) in
    let is = one_is e numbers reaches bank at c.cell_bytes.result c.requires.read c.requires.at c.requires.whole c.requires.within c.cell_bytes.ensures.size in
    let size : at + c.cell_bytes.result - at ≡ cell_size e = omega (arith, c.cell_bytes.ensures.size) in
    let whole : bytes ≡ take (cell_size e) (drop at bank) = ap (λ n. take n (drop at bank)) size in
    wrong_here e numbers reaches bank bytes at c.requires.election c.requires.read c.requires.at is
    (λ other goes room.
    elim c.then-not-holds_ballot.branch [
      | then-not-holds_ballot-via-then-not-holds_ballot w ↦
          bad_bytes e other (length numbers) numbers ballots c.requires.election room goes.read
          (λ empty. c.requires.some (sym whole ∙ sym goes.cell ∙ empty))
          (λ b valid same. false≢true (sym w.if-not-holds_ballot.true ∙ c.holds_ballot.ensures.held.1 (b, (valid, sym goes.cell ∙ same))))
      | then-not-holds_ballot-via-else-not-holds_ballot+then-len-limit w ↦
          let held = c.holds_ballot.ensures.held.0 w.if-not-holds_ballot.false in
          let full : e.limit ≤ length ballots = omega (arith, w.if-len-limit.true, w.limit.ensures.limit, w.len.ensures, reach_each e numbers reaches bank c.requires.read) in
          too_many e other (length numbers) numbers ballots held.0 c.requires.election room goes.read held.1.0 (goes.cell ∙ held.1.1) full
    ])

pub returns-in_default-clause-refused : goal.returns-in_default-clause-refused
returns-in_default-clause-refused c _ =
    let e = c.args.election.now in
    let bank = c.args.bank.now in
    let numbers = numbers_read c.args.cells.now in
    let reaches = c.args.cells.now.reaches.items in
    let bytes = take (c.args.at + c.cell_bytes.result - c.args.at) (drop c.args.at bank) in
    let is = one_is e numbers reaches bank c.args.at c.cell_bytes.result c.requires.read c.requires.at c.requires.whole c.requires.within c.cell_bytes.ensures.size in
    let held = c.holds_ballot.ensures.held.0 c.if-not-holds_ballot.false in
    let b = held.0 in
    let read = c.number_of-number.result in
    let number = number_is e bytes b read held.1 c.number_of-number.ensures in
    let may_not : ¬ MayStand (home_in e) numbers b.number (length numbers) = λ may.
    false≢true (c.in_default.ensures.stands.1 (stands_behind (home_in e) c.deref.result.now numbers read (length numbers) c.deref.ensures.value refl
    (subst (λ (n : ℕ). MayStand (home_in e) numbers n (length numbers)) (sym number) may))) in
    wrong_here e numbers reaches bank bytes c.args.at c.requires.election c.requires.read c.requires.at is
    (λ other goes room. misplaced e other (length numbers) numbers (spelled_ballots e numbers bank) b c.requires.election room goes.read held.1.0 (goes.cell ∙ held.1.1) may_not)

pub returns-clause-read : goal.returns-clause-read
returns-clause-read c _ =
    let e = c.args.election.now in
    let bank = c.args.bank.now in
    let numbers = numbers_read c.args.cells.now in
    let reaches = c.args.cells.now.reaches.items in
    let ballots = spelled_ballots e numbers bank in
    let bytes = take (c.args.at + c.cell_bytes.result - c.args.at) (drop c.args.at bank) in
    let is = one_is e numbers reaches bank c.args.at c.cell_bytes.result c.requires.read c.requires.at c.requires.whole c.requires.within c.cell_bytes.ensures.size in
    let held = c.holds_ballot.ensures.held.0 c.if-not-holds_ballot.false in
    let b = held.0 in
    let read = c.number_of-number.result in
    let number = number_is e bytes b read held.1 c.number_of-number.ensures in
    let from = c.in-Some.reach in
    let before = c.deref.result.now in
    let same = c.deref.ensures.value in
    let stands = stands_at (home_in e) before numbers read (length numbers) same refl (c.in-Some.ensures.stands.0 refl) in
    let reach = reach_as numbers before read from c.in-Some.ensures.reach same in
    let next = ballot_next e numbers reaches ballots b from bytes c.requires.election c.requires.read.cells (omega (arith, is.long)) held.1.0 held.1.1
    (subst (λ (n : ℕ). MayStand (home_in e) numbers n (length numbers)) number stands)
    (omega (arith, c.if-len-limit.false, c.limit.ensures.limit, c.len.ensures, reach_each e numbers reaches bank c.requires.read))
    (subst (λ (n : ℕ). IsReach numbers n (length numbers) from) number reach) in
    subst₂ (λ (ns rs : List ℕ). AreFirst e ns rs bank) (sym (c.push_reserved.ensures.items ∙ ap (λ n. numbers ++ n ∷ []) number)) (sym c.push_reserved-2.ensures.items)
    (first_next e numbers reaches bank bytes (numbers ++ b.number ∷ []) (reaches ++ from ∷ []) (ballots ++ b ∷ []) 1 c.requires.election c.requires.read is (omega (arith, c.requires.whole, c.requires.at)) (length_push numbers b.number) next)
