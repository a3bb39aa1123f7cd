-- The laws of `sample`: the bytes of a disk decide how it ends, but for faults and want of memory.
use Rattle.std.proofs.Common.{◌≡◌, ◌⊎◌, ℕ, List, Some, inl, inr, ⊎_elim, refl, sym, ◌∙◌}
use Rattle.store_spec.proofs.Common.{DiskModel, Election, HoldsSet, HoldsSome, IsElection}
use Rattle.medium_commands.proofs.Refusing.{Refuses, not_both, one_refused}
use Rattle.outside_io.specs.Outside.{Output}
use Rattle.run_outcome.proofs.Laws.{Laws, at_told, not_risen}
use Rattle.run_outcome.specs.Row.{NothingFailed}
use Rattle.run_outcome.specs.Status.{IsDecided}
use Rattle.run_outcome.specs.World.{World}
use Rattle.run_outcome.specs.declared.status.Status.{Status}
use Rattle.run_outcome.specs.declared.status.Status.TheVariants as status
use Rattle.sample_commands.proofs.Deciding.{none_decides}
use Rattle.sample_commands.specs.Sample.{SampleWrites, sample_row}
use Rattle.sample_commands.specs.declared.asked.Asked.{Asked}

-- the status that bytes decide, and why
abbrev pub SampleDecides : Election → List ℕ → Status → Type 0
SampleDecides e bytes a = ((a ≡ status.Ok) × HoldsSome e bytes) ⊎ Refuses e bytes a

sample_decides : {K D : Type 0} (model : DiskModel D) (e : Election) (asked : Asked) (a : Status) (old new : Output K) (before after : D) (bytes : List ℕ) → model.seen before ≡ Some bytes → IsDecided a
    → SampleWrites model e asked a old new before after → SampleDecides e bytes a
sample_decides model e asked status.Ok old new before after bytes is decided tells =
    let set = tells.0.set in
    inl (refl, (set, at_told (model.seen before) bytes (λ x. HoldsSet e x set) is tells.0.shows.held))
sample_decides model e asked status.WriteFault old new before after bytes is decided tells = absurd decided
sample_decides model e asked other old new before after bytes is decided tells = inr (none_decides model e other before after bytes is decided tells.0)

one_sample : (e : Election) (bytes : List ℕ) (a b : Status) → IsElection e → SampleDecides e bytes a → SampleDecides e bytes b → a ≡ b
one_sample e bytes a b valid x y = ⊎_elim
    (λ ok. ⊎_elim (λ other. ok.0 ∙ sym other.0) (λ refused. absurd (not_both e bytes b valid ok.1 refused)) y)
    (λ refused. ⊎_elim (λ ok. absurd (not_both e bytes a valid ok.1 refused)) (λ other. one_refused e bytes a b refused other) y)
    x

sample_settled : {S K D : Type 0} (model : DiskModel D) (e : Election) (asked : Asked) (a : Status) (before after : World S K D) → NothingFailed model (sample_row asked).touches before after
    → SampleWrites model e asked a before.streams.sink after.streams.sink before.disk after.disk → IsDecided a ⊎ (a ≡ status.Memory)
sample_settled model e asked status.DiskFault before after none tells = absurd (not_risen (model.faults before.disk) (model.faults after.disk) none.disk tells.0)
sample_settled model e asked status.WriteFault before after none tells = absurd (not_risen before.streams.sink.faults after.streams.sink.faults none.sink tells.1)
sample_settled model e asked (status.ReadFault which) before after none tells = absurd tells.0
sample_settled model e asked (status.OtherDiskFault index) before after none tells = absurd tells.0
sample_settled model e asked status.Memory before after none tells = inr refl
sample_settled model e asked other before after none tells = inl tt

pub sample_laws : (asked : Asked) → Laws (sample_row asked)
sample_laws asked = record {
  Cause = λ e content. SampleDecides e content.disk;
  caused = λ model e a report before after content tells decided ends.
      sample_decides model e asked a before.streams.sink after.streams.sink before.disk after.disk content.disk tells.disk decided ends.tells;
  one = λ e content a b valid x y. one_sample e content.disk a b valid x y;
  settled = λ model e a report before after none ends. sample_settled model e asked a before after none ends.tells;
  served = λ e content a words valid none held decides. one_sample e content.disk a status.Ok valid decides (inl (refl, held));
  no_usage = λ model e report before after ends. ends.tells.0;
}
