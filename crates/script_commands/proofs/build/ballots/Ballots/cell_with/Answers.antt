use Rattle.std.proofs.Common.{◌≡◌, ℕ, List, Some, sym, ◌∙◌, arith}
use Rattle.store_spec.proofs.Common.{Ballot, Election, IsCellOf, IsListing, cell_bytes, get_or_from_slice_get, length-map, numbers_of, slice_get, slice_get_within}
use Rattle.ballot_record.proofs.BallotLists.{number_at_place}
use Rattle.ballot_record.proofs.Lookups.{found_once}
use Rattle.body_store.proofs.Images.{cell_of_found, cell_of_none}
use Rattle.body_store.proofs.Lookups.{none_found}
use Rattle.script_commands.proofs.Index.{stands}
use Rattle.script_commands.proofs.build.ballots.Ballots.cell_with.Goals as goal

-- what was found has the bytes of its number's cell
cell_found : (e : Election) (ballots : List Ballot) (place number : ℕ) (bytes : List ℕ) → IsListing e ballots
    → slice_get (numbers_of ballots) place ≡ Some number → (b : Ballot) → slice_get ballots place ≡ Some b → IsCellOf e bytes b
    → bytes ≡ cell_bytes e ballots number
cell_found e ballots place number bytes listing numbered b there is =
    let its : b.number ≡ number = sym (number_at_place ballots place b there) ∙ get_or_from_slice_get (numbers_of ballots) place number 0 numbered in
    is.1 ∙ sym (cell_of_found e ballots number b (found_once ballots number b listing.distinct (stands ballots place b there) its))

pub cell-requires : goal.cell-requires
cell-requires c =
    let ballots = c.args.self.now.list.ballots in
    let within = slice_get_within (numbers_of ballots) c.in-Ok.place c.args.number c.in-Ok.ensures in
    omega (arith, within, length-map ballots (λ (b : Ballot). b.number))

pub returns-in-Ok-clause-cell : goal.returns-in-Ok-clause-cell
returns-in-Ok-clause-cell c =
    let list = c.args.self.now.list in
    let held = c.cell.ensures.cell in
    cell_found list.election list.ballots c.in-Ok.place c.args.number c.cell.result.now c.requires.sound.listing c.in-Ok.ensures held.0 held.1 held.2

pub returns-in-Err-clause-cell : goal.returns-in-Err-clause-cell
returns-in-Err-clause-cell c =
    let ballots = c.args.self.now.list.ballots in
    c.requires.empty ∙ sym (cell_of_none c.args.self.now.list.election ballots c.args.number (sym (none_found ballots c.args.number c.in-Err.ensures.0)))
