-- Why a medium is refused, as far as its bytes tell.
use Rattle.std.proofs.Common.{◌≡◌, ◌≢◌, ℕ, List, ap, refl, sym, ◌∙◌}
use Rattle.store_spec.proofs.Common.{Election, HoldsSome, IsElection}
use Rattle.medium_commands.specs.Refused.{refused_status}
use Rattle.recovery.proofs.Refusals.{one_refusal, refused_holds}
use Rattle.recovery.specs.Refused.{IsRefusedMedium}
use Rattle.recovery.specs.declared.fault.RecoverFault.{RecoverFault}
use Rattle.recovery.specs.declared.fault.RecoverFault.TheVariants as recover
use Rattle.run_outcome.specs.declared.status.Status.{Status}

-- a medium is refused with this status, for a reason that its bytes tell
pub record Refuses (e : Election) (bytes : List ℕ) (a : Status) : Type 0 where
  pub why : RecoverFault
  pub is : a ≡ refused_status why
  pub no_fault : why ≢ recover.DiskFault
  pub memory : why ≢ recover.Memory
  pub refused : IsRefusedMedium e bytes why

pub refuses : (e : Election) (bytes : List ℕ) (why : RecoverFault) → why ≢ recover.DiskFault → why ≢ recover.Memory → IsRefusedMedium e bytes why → Refuses e bytes (refused_status why)
refuses e bytes why not nor refused = record { why = why; is = refl; no_fault = not; memory = nor; refused = refused }

-- bytes that are refused hold nothing
pub not_both : (e : Election) (bytes : List ℕ) (a : Status) → IsElection e → HoldsSome e bytes → Refuses e bytes a → ⊥
not_both e bytes a valid holds refuses = refused_holds e bytes refuses.why valid refuses.no_fault refuses.memory refuses.refused holds.0 holds.1

pub one_refused : (e : Election) (bytes : List ℕ) (a b : Status) → Refuses e bytes a → Refuses e bytes b → a ≡ b
one_refused e bytes a b x y =
    x.is ∙ ap refused_status (one_refusal e bytes x.why y.why x.no_fault x.memory y.no_fault y.memory x.refused y.refused) ∙ sym y.is
