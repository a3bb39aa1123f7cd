-- What a session does behind the line that tells how two disks were found.
use Rattle.std.proofs.Common.{◌≡◌, ℕ, List, [], length, Result, subst}
use Rattle.store_spec.proofs.Common.{Ballot, DiskModel, Election, State, begun}
use Rattle.outside_io.specs.Outside.{Input, Output}
use Rattle.phase_gate.specs.Around.{Around, with_rows}
use Rattle.any_store.specs.Disks.{one_store}
use Rattle.phase_gate.specs.Writing.{written_of}
use Rattle.phase_gate.specs.declared.writing.Writing.{Writing}
use Rattle.phase_gate.specs.declared.writing.Writing.TheVariants.{All}
use Rattle.session_run.specs.Ends.{GoesOn}
use Rattle.session_run.specs.declared.fault.RunFault.{RunFault}
use Rattle.twin_commands.specs.Twin.{around_disk}

pub goes_from : {S K D : Type 0} (model : DiskModel D) (e own : Election) (set : List Ballot) (t : Writing) (s : State) (answer : Result (Unit {0}) RunFault) (old new : Input S) (mid : Output K) (disk : D) (marks : List ℕ) (rows : List (List ℕ)) (held : ℕ) (after : Around K D)
    → t ≡ All → own ≡ e → s ≡ begun set → marks ≡ [] → rows ≡ [] → held ≡ length set
    → GoesOn (one_store model) (written_of t) own s answer old new (with_rows (around_disk mid disk marks held) rows) after
    → GoesOn (one_store model) (λ text. text) e (begun set) answer old new (around_disk mid disk [] (length set)) after
goes_from model e own set t s answer old new mid disk marks rows held after writing same state none no_rows count goes =
    subst (λ held. GoesOn (one_store model) (λ text. text) e (begun set) answer old new (around_disk mid disk [] held) after) count
    (subst (λ rows. GoesOn (one_store model) (λ text. text) e (begun set) answer old new (with_rows (around_disk mid disk [] held) rows) after) no_rows
    (subst (λ marks. GoesOn (one_store model) (λ text. text) e (begun set) answer old new (with_rows (around_disk mid disk marks held) rows) after) none
    (subst (λ s. GoesOn (one_store model) (λ text. text) e s answer old new (with_rows (around_disk mid disk marks held) rows) after) state
    (subst (λ e. GoesOn (one_store model) (λ text. text) e s answer old new (with_rows (around_disk mid disk marks held) rows) after) same
    (subst (λ t. GoesOn (one_store model) (written_of t) own s answer old new (with_rows (around_disk mid disk marks held) rows) after) writing goes)))))
