-- The measure of a tabulator falls at each of its steps.
use Rattle.std.proofs.Common.{ℕ, ◌<◌, ◌≤◌, inl, inr, refl, arith}
use Rattle.store_spec.proofs.Common.{Carrying, CastNote, CastRow, CastState, Falls, Probing, Ready, Rest, Table, cast_measure, claim_met, claim_passed, claim_won, claims_full, displaces, look_passes, look_ready, lost_passes, lost_ready, takes_empty}

-- what a step needs of its state: a claim word is left to try, the place is a cell, and the word seen is less than the
-- number and than any other word that is found there
abbrev pub IsSteady : Table → CastState → ℕ → Type 0
IsSteady t Rest found = Unit {0}
IsSteady t (Probing x k) found = k < t.claims
IsSteady t (Carrying v i) found = i < t.cells
IsSteady t (Ready v i s) found = (i < t.cells) × (s < v) × (s ≤ found)

pub measure_falls : (t : Table) (from : CastState) (word found left : ℕ) (new : CastState) (note : CastNote) → CastRow t from word found left new note → IsSteady t from found → Falls (cast_measure t new) (cast_measure t from)
measure_falls t from word found left new note (claim_won x k) h = inl (omega arith)
measure_falls t from word found left new note (claim_met x k) h = inl (omega arith)
measure_falls t from word found left new note (claim_passed x k f some other more) h = inl (omega arith)
measure_falls t from word found left new note (claims_full x k f some other last) h = inl (omega arith)
measure_falls t from word found left new note (look_passes v i f greater) h = inr (refl, inl (omega arith))
measure_falls t from word found left new note (look_ready v i f less) h = inr (refl, inr (refl, inl (omega arith)))
measure_falls t from word found left new note (takes_empty v i) h = inr (refl, inl (omega (arith, h.0)))
measure_falls t from word found left new note (displaces v i s some) h = inr (refl, inl (omega (arith, h.0)))
measure_falls t from word found left new note (lost_passes v i s f lost greater) h = inr (refl, inl (omega (arith, h.0)))
measure_falls t from word found left new note (lost_ready v i s f lost less) h = inr (refl, inr (refl, inl (omega (arith, h.1, h.2))))
