-- A session begins on a disk that is the medium of a set, and was synced.
use Rattle.std.proofs.Common.{◌≡◌, [], length, refl, sym, ◌∙◌, subst, arith}
use Rattle.store_spec.proofs.Common.{AddsNoCrashImage, DiskModel, HoldsTheSame, IfSome, IsElection, IsMediumOf, IsSettled, begun}
use Rattle.std.proofs.lemmas.Option.{IfSome_then}
use Rattle.body_store.specs.Contents.{Contents, IsStored}
use Rattle.crash_disk.proofs.Moments.{le-next_count, next_count-below, settled-only, started, synced_first}
use Rattle.image_builder.proofs.Held.{medium_holds}
use Rattle.outside_io.specs.Outside.{Output}
use Rattle.any_store.specs.Checkpointed.{IsMediumNow}
use Rattle.any_store.specs.Disks.{one_store}
use Rattle.session_run.proofs.Beginning.{has_begun}
use Rattle.session_run.specs.Ends.{HasBegun}
use Rattle.std.specs.Option.{is_some}
use Rattle.twin_commands.specs.Twin.{around_disk}

pub synced_begins : {K T : Type 0} (model : DiskModel T) (store : Contents) (sink : Output K) (start mid : T) → IsElection store.election → IsStored store → IsMediumNow model store.election store.ballots start
    → model.seen mid ≡ model.seen start → is_some (model.seen mid) ≡ is_some (model.seen start) → IsSettled model.seen model.calls model.may_leave mid → AddsNoCrashImage model.calls model.may_leave start mid → model.faults mid ≡ model.faults start
    → HasBegun (one_store model) store.election store.ballots (begun store.ballots) (around_disk sink start [] (length store.ballots)) (around_disk sink mid [] (length store.ballots))
synced_begins model store sink start mid election stored medium same told settled adds steady =
    let e = store.election in
    let set = store.ballots in
    has_begun model e store (begun set) (around_disk sink start [] (length set)) mid (length set)
    (IfSome_then (model.seen start) medium.medium (λ x is. medium_holds e x set election is)) refl stored refl refl refl told
    (record { settled = settled; medium = subst (λ o. IfSome o (λ bytes. IsMediumOf e bytes set)) (sym same) medium.medium })
    (omega (arith, adds.counted, le-next_count (model.calls start))) steady
    (λ below. let next = adds.counted ∙ next_count-below (model.calls start) (omega (arith, below, adds.counted, le-next_count (model.calls start))) in omega (arith, next))
    (λ bytes sees. synced_first model.calls model.may_leave start mid mid (HoldsTheSame e bytes) adds
    (started model.calls model.may_leave mid (HoldsTheSame e bytes) (λ c left.
    let is : c ≡ bytes = settled-only model.calls model.may_leave model.seen mid bytes c settled (same ∙ sees) left in
    subst (HoldsTheSame e bytes) (sym is) (λ held holds. holds))))
