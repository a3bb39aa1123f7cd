-- The numbers in the cells of a store are those of its ballots.
use Rattle.std.proofs.Common.{◌≡◌, ◌≢◌, ℕ, ◌^◌, ◌<◌, ◌≤◌, ⊎_elim, Option, None, Some, MatchOption, List, length, slice_index, ap, ◌∙◌, sym}
use Rattle.store_spec.proofs.Common.{Contains, HasRoom, cases_lt, cell_count, cells_of, get_or_default, get_or_past, home_in, numbers_of}
use Rattle.body_store.proofs.BallotSets.{has_room, may_hold_set, stored_layout}
use Rattle.body_store.specs.Contents.{Contents, IsStored}
use Rattle.phase_delete.specs.Stands.{StoodAt}
use Rattle.word_rule.specs.Seats.{SharedWords}
use Rattle.word_rule.specs.Stores.{AreWordsOf}

pub room : (store : Contents) → IsStored store → HasRoom (home_in store.election) (2 ^ store.election.bits) (cell_count store.election) (numbers_of store.ballots)
room store h = has_room store.election store.ballots h.election (may_hold_set store.election store.ballots h.set h.within_limit)

module _ (store : Contents) (words : SharedWords) (h : IsStored store) (are : AreWordsOf store.election store.ballots words) where
  -- a number that stands in a cell is that of a ballot
  held_at : (number place : ℕ) → number ≢ 0 → slice_index (cells_of store.election store.ballots) place ≡ number → Contains (numbers_of store.ballots) number
  held_at number place some there =
      let cells = cells_of store.election store.ballots in
      let within : place < length cells = ⊎_elim (λ lt. lt) (λ (past : length cells ≤ place). absurd (some (sym there ∙ get_or_past cells place 0 past))) (cases_lt place (length cells)) in
      (stored_layout store h).exactly.only number some (place, within, get_or_default cells place number 0 within ∙ there)

  -- the cell in which a number stands, and none where it has no ballot
  pub cell_at : (number : ℕ) (at : Option ℕ) → number ≢ 0 → MatchOption at (¬ Contains (cells_of store.election store.ballots) number) (λ place. slice_index (cells_of store.election store.ballots) place ≡ number)
      → MatchOption at (¬ Contains (numbers_of store.ballots) number) (StoodAt (record { base = store; words = words }) number)
  cell_at number None some found = λ c. found ((stored_layout store h).exactly.each number c)
  cell_at number (Some place) some found = record { held = held_at number place some found; seated = record { some = some; stands = ap (λ (l : List ℕ). slice_index l place) are.held ∙ found } }
