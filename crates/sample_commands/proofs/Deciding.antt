-- What the bytes of a medium that is only read decide.
use Rattle.std.proofs.Common.{◌≡◌, ℕ, List, Some}
use Rattle.store_spec.proofs.Common.{DiskModel, Election}
use Rattle.medium_commands.proofs.Refusing.{Refuses, refuses}
use Rattle.recovery.specs.Refused.{IsRefusedMedium}
use Rattle.recovery.specs.declared.fault.RecoverFault.TheVariants as recover
use Rattle.run_outcome.proofs.Laws.{at_told}
use Rattle.run_outcome.specs.Status.{IsDecided}
use Rattle.run_outcome.specs.declared.status.Status.{Status}
use Rattle.run_outcome.specs.declared.status.Status.TheVariants as status
use Rattle.sample_commands.specs.Looked.{ShowsNone}

pub none_decides : {D : Type 0} (model : DiskModel D) (e : Election) (a : Status) (before after : D) (bytes : List ℕ) → model.seen before ≡ Some bytes → IsDecided a → ShowsNone model e a before after → Refuses e bytes a
none_decides model e status.NoStore before after bytes is decided none =
    refuses e bytes recover.NoStore (λ is. cc) (λ is. cc) (at_told (model.seen before) bytes (λ x. IsRefusedMedium e x recover.NoStore) is none.why)
none_decides model e (status.OtherElection header) before after bytes is decided none =
    refuses e bytes (recover.OtherElection header) (λ is. cc) (λ is. cc) (at_told (model.seen before) bytes (λ x. IsRefusedMedium e x (recover.OtherElection header)) is none.why)
none_decides model e (status.Damaged cell) before after bytes is decided none =
    refuses e bytes (recover.Damaged cell) (λ is. cc) (λ is. cc) (at_told (model.seen before) bytes (λ x. IsRefusedMedium e x (recover.Damaged cell)) is none.why)
none_decides model e status.DiskFault before after bytes is decided none = absurd decided
none_decides model e status.Memory before after bytes is decided none = absurd decided
none_decides model e other before after bytes is decided none = absurd none
