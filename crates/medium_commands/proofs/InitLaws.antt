-- The laws of `init`: the bytes of a disk decide how it ends, but for faults and want of memory.
use Rattle.std.proofs.Common.{◌≡◌, ℕ, ◌<◌, List, length, Some, ◌⊎◌, ⊎_elim, inl, inr, refl, sym, ◌∙◌, ap, arith}
use Rattle.store_spec.proofs.Common.{A, B, DiskModel, Election, IsOpen, IsUnused, medium_size}
use Rattle.checkpoint.specs.Unused.{IsInitRefused}
use Rattle.checkpoint.specs.declared.fresh.InitFault.TheVariants as faults
use Rattle.medium_commands.specs.Init.{InitEnds, init_row}
use Rattle.outside_io.specs.Outside.{Output}
use Rattle.run_outcome.proofs.Laws.{Laws, at_told, not_risen}
use Rattle.run_outcome.specs.Row.{NothingFailed}
use Rattle.run_outcome.specs.Status.{IsDecided}
use Rattle.run_outcome.specs.World.{World}
use Rattle.run_outcome.specs.declared.status.Status.{Status}
use Rattle.run_outcome.specs.declared.status.Status.TheVariants as status

abbrev pub InitDecides : Election → List ℕ → Status → Type 0
InitDecides e bytes status.Ok = IsUnused e bytes
InitDecides e bytes status.Exists = IsInitRefused e bytes faults.Exists
InitDecides e bytes (status.WrongSize size) = IsInitRefused e bytes (faults.WrongSize size)
InitDecides e bytes other = ⊥

init_decides : {K D : Type 0} (model : DiskModel D) (e : Election) (a : Status) (old new : Output K) (before after : D) (bytes : List ℕ) → model.seen before ≡ Some bytes
    → IsDecided a → InitEnds model e a old new before after → InitDecides e bytes a
init_decides model e status.Ok old new before after bytes is decided ends = at_told (model.seen before) bytes (IsUnused e) is ends.leaves.0.unused
init_decides model e status.Exists old new before after bytes is decided ends =
    at_told (model.seen before) bytes (λ bytes. IsInitRefused e bytes faults.Exists) is ends.leaves.0.why
init_decides model e (status.WrongSize size) old new before after bytes is decided ends =
    at_told (model.seen before) bytes (λ bytes. IsInitRefused e bytes (faults.WrongSize size)) is ends.leaves.0.why
init_decides model e status.DiskFault old new before after bytes is decided ends = absurd decided
init_decides model e status.WriteFault old new before after bytes is decided ends = absurd decided
init_decides model e status.Memory old new before after bytes is decided ends = absurd decided
init_decides model e other old new before after bytes is decided ends = ends.leaves

-- a disk is unused, or a store, or has too many bytes
not_used : (e : Election) (bytes : List ℕ) → IsUnused e bytes → length bytes ≡ medium_size e → ¬ (IsOpen e A bytes ⊎ IsOpen e B bytes)
not_used e bytes unused size gate = ⊎_elim
    (λ less. omega arith)
    (λ closed. ⊎_elim (λ a. closed.1 a) (λ b. closed.2 b) gate)
    unused

not_large : (e : Election) (bytes : List ℕ) → IsUnused e bytes → ¬ (medium_size e < length bytes)
not_large e bytes unused more = ⊎_elim (λ less. omega arith) (λ closed. omega (arith, closed.0)) unused

pub one_init : (e : Election) (bytes : List ℕ) (a b : Status) → InitDecides e bytes a → InitDecides e bytes b → a ≡ b
one_init e bytes status.Ok status.Ok x y = refl
one_init e bytes status.Ok status.Exists x y = absurd (not_used e bytes x y.0 y.1)
one_init e bytes status.Ok (status.WrongSize n) x y = absurd (not_large e bytes x (omega (arith, y.0, y.1)))
one_init e bytes status.Exists status.Ok x y = absurd (not_used e bytes y x.0 x.1)
one_init e bytes status.Exists status.Exists x y = refl
one_init e bytes status.Exists (status.WrongSize n) x y = absurd (omega (arith, x.0, y.0, y.1))
one_init e bytes (status.WrongSize m) status.Ok x y = absurd (not_large e bytes y (omega (arith, x.0, x.1)))
one_init e bytes (status.WrongSize m) status.Exists x y = absurd (omega (arith, y.0, x.0, x.1))
one_init e bytes (status.WrongSize m) (status.WrongSize n) x y = ap status.WrongSize (x.0 ∙ sym y.0)
one_init e bytes a b x y = absurd (assumption (x, y))

init_settled : {S K D : Type 0} (model : DiskModel D) (e : Election) (a : Status) (before after : World S K D) → NothingFailed model init_row.touches before after
    → InitEnds model e a before.streams.sink after.streams.sink before.disk after.disk → IsDecided a ⊎ (a ≡ status.Memory)
init_settled model e status.DiskFault before after none ends = absurd (not_risen (model.faults before.disk) (model.faults after.disk) none.disk ends.leaves.0)
init_settled model e status.WriteFault before after none ends = absurd (not_risen before.streams.sink.faults after.streams.sink.faults none.sink ends.leaves.2)
init_settled model e (status.ReadFault which) before after none ends = absurd ends.leaves
init_settled model e (status.OtherDiskFault index) before after none ends = absurd ends.leaves
init_settled model e status.Memory before after none ends = inr refl
init_settled model e other before after none ends = inl tt

pub init_laws : Laws init_row
init_laws = record {
  Cause = λ e content. InitDecides e content.disk;
  caused = λ model e a report before after content tells decided ends.
      init_decides model e a before.streams.sink after.streams.sink before.disk after.disk content.disk tells.disk decided ends;
  one = λ e content a b valid x y. one_init e content.disk a b x y;
  settled = λ model e a report before after none ends. init_settled model e a before after none ends;
  served = λ e content a words valid none unused decides. one_init e content.disk a status.Ok decides unused;
  no_usage = λ model e report before after ends. ends.leaves;
}
