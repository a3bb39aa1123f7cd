-- What each way of answering a ballot says of it.
use Rattle.std.proofs.Common.{◌≡◌, ℕ, None, sym, ap, ◌∙◌, refl, subst}
use Rattle.store_spec.proofs.Common.{Ballot, CastView, Contains, IsValid, ballot_of}
use Rattle.body_store.specs.Contents.{IsStored}
use Rattle.phase_insert.proofs.Compared.{compares_new, conflict_exactly, duplicate_exactly}
use Rattle.phase_kind.specs.Phase.{OpenPhase}
use Rattle.phase_insert.specs.Gains.{Gains, IsMet, IsNewTo, StepsFor}
use Rattle.phase_insert.specs.Replies.{IsReply}
use Rattle.phase_insert.specs.Tray.{AnotherHas}
use Rattle.phase_insert.specs.declared.reply.CastReply.{CastReply}
use Rattle.phase_insert.specs.declared.reply.CastReply.TheVariants.{Accepted, Duplicate, Conflict}
use Rattle.step_core.specs.Shape.{table_of}

pub as_duplicate : (phase : OpenPhase) (view : CastView) (b : Ballot) → IsStored phase.base → IsValid phase.base.election b → Contains phase.base.ballots b → IsReply phase view b Duplicate view
as_duplicate phase view b stored valid held = record { valid = valid; compares = held; duplicate = duplicate_exactly phase.base stored b Duplicate held; conflict = conflict_exactly phase.base stored b Duplicate held; gains = refl; steps = refl; new = λ other. absurd cc }

pub as_conflict : (phase : OpenPhase) (view : CastView) (b : Ballot) → IsStored phase.base → IsValid phase.base.election b → AnotherHas phase.base.ballots b → IsReply phase view b Conflict view
as_conflict phase view b stored valid another = record { valid = valid; compares = another; duplicate = duplicate_exactly phase.base stored b Conflict another; conflict = conflict_exactly phase.base stored b Conflict another; gains = refl; steps = refl; new = λ other. absurd cc }

-- the claim words were asked
pub as_asked : (phase : OpenPhase) (old now : CastView) (b : Ballot) (number : ℕ) (reply : CastReply) → number ≡ b.number → IsStored phase.base → IsValid phase.base.election b → IsMet reply → ballot_of phase.base.ballots number ≡ None → Gains phase.words.shape.claims old number reply now
    → StepsFor (table_of phase.words.shape) old number reply now → (reply ≡ Accepted → IsNewTo phase.words.shape.claims old number) → IsReply phase old b reply now
as_asked phase old now b number reply same stored valid met none gains steps new =
    let compares = compares_new phase.base.ballots b reply met (ap (ballot_of phase.base.ballots) (sym same) ∙ none) in
    record {
      valid = valid;
      compares = compares;
      gains = subst (λ (n : ℕ). Gains phase.words.shape.claims old n reply now) same gains;
      steps = subst (λ (n : ℕ). StepsFor (table_of phase.words.shape) old n reply now) same steps;
      duplicate = duplicate_exactly phase.base stored b reply compares;
      conflict = conflict_exactly phase.base stored b reply compares;
      new = λ accepted. subst (IsNewTo phase.words.shape.claims old) same (new accepted);
    }
