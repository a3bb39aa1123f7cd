-- The numbers in the cells of a store are those of its ballots.
use Rattle.std.proofs.Common.{◌≡◌, ℕ, ◌^◌, None, List, subst}
use Rattle.store_spec.proofs.Common.{Contains, HasRoom, ballot_of, cell_count, home_in, numbers_in, numbers_of}
use Rattle.ballot_record.proofs.BallotNumbers.{ballot_with}
use Rattle.ballot_record.proofs.Lookups.{missing_from}
use Rattle.body_store.proofs.BallotSets.{has_room, may_hold_set}
use Rattle.body_store.specs.Contents.{Contents, IsStored}
use Rattle.phase_insert.specs.CastPhase.{AreCastWordsOf}
use Rattle.word_rule.proofs.Stores.{from_cells}
use Rattle.word_rule.specs.Seats.{SharedWords}

pub room : (store : Contents) → IsStored store → HasRoom (home_in store.election) (2 ^ store.election.bits) (cell_count store.election) (numbers_of store.ballots)
room store h = has_room store.election store.ballots h.election (may_hold_set store.election store.ballots h.set h.within_limit)

-- a number with no ballot stands in no cell
pub not_in_words : (store : Contents) (words : SharedWords) → IsStored store → AreCastWordsOf store words → (number : ℕ) → ballot_of store.ballots number ≡ None → ¬ Contains (numbers_in words.base) number
not_in_words store words h are number none c =
    let there = from_cells store.election store.ballots (room store h) number (subst (λ (l : List ℕ). Contains (numbers_in l) number) are.of_store.held c) in
    let held = ballot_with store.ballots number there in
    missing_from store.ballots number none held.0 held.1 held.2
