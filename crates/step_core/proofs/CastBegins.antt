-- The claim word at which a number began stays the same from step to step.
use Rattle.std.proofs.Common.{ℕ}
use Rattle.store_spec.proofs.Common.{CastNote, CastRow, CastState, Table, cast_act, claim_met, claim_passed, claim_won, claims_full, displaces, left_by, look_passes, look_ready, lost_passes, lost_ready, takes_empty, word_of}
use Rattle.step_core.specs.CastTables.{BeginsAt, LeadsTo}

begins_in : (t : Table) (from : CastState) (word f left : ℕ) (new : CastState) (note : CastNote) (first : ℕ) → CastRow t from word f left new note → BeginsAt t from first → BeginsAt t new first
begins_in t _ _ _ _ _ _ first (claim_won x k) h = tt
begins_in t _ _ _ _ _ _ first (claim_met x k) h = tt
begins_in t _ _ _ _ _ _ first (claim_passed x k f some other more) h = h
begins_in t _ _ _ _ _ _ first (claims_full x k f some other last) h = tt
begins_in t _ _ _ _ _ _ first (look_passes v i f greater) h = tt
begins_in t _ _ _ _ _ _ first (look_ready v i f lower) h = tt
begins_in t _ _ _ _ _ _ first (takes_empty v i) h = tt
begins_in t _ _ _ _ _ _ first (displaces v i s some) h = tt
begins_in t _ _ _ _ _ _ first (lost_passes v i s f lost greater) h = tt
begins_in t _ _ _ _ _ _ first (lost_ready v i s f lost lower) h = tt

pub begins_on : (t : Table) (from : CastState) (f : ℕ) (new : CastState) (note : CastNote) (first : ℕ) → LeadsTo t from f new note → BeginsAt t from first → BeginsAt t new first
begins_on t from f new note first leads h =
    let act = cast_act t from in
    begins_in t from (word_of act) f (left_by act f) new note first leads h
