-- The laws of `compare`: a script and the bytes of a disk decide how it ends, but for faults and want of memory.
use Rattle.std.proofs.Common.{◌≡◌, ◌⊎◌, ℕ, ◌<◌, ◌≤◌, List, length, Some, inl, inr, ⊎_elim, refl, arith, sym, ◌∙◌}
use Rattle.store_spec.proofs.Common.{Ballot, DiskModel, Election, HoldsSet, HoldsSome, IsElection, script_limit}
use Rattle.medium_commands.proofs.Refusing.{Refuses, not_both, one_refused}
use Rattle.outside_io.proofs.Told.{told_at}
use Rattle.outside_io.specs.Outside.{Outside}
use Rattle.run_outcome.proofs.Laws.{Laws, at_told, not_risen}
use Rattle.run_outcome.specs.Row.{NothingFailed}
use Rattle.run_outcome.specs.Status.{IsDecided}
use Rattle.run_outcome.specs.World.{World}
use Rattle.run_outcome.specs.declared.status.Status.{Status}
use Rattle.run_outcome.specs.declared.status.Status.TheVariants as status
use Rattle.run_outcome.specs.declared.status.Which.TheVariants as which
use Rattle.sample_commands.proofs.Deciding.{none_decides}
use Rattle.sample_commands.specs.Compare.{ComparesLines, ComparesNone, LinesEnd, compare_row}
use Rattle.sample_commands.specs.declared.asked.Asked.{Asked}

-- the status that a script and a disk decide, and why
abbrev pub CompareDecides : Election → List ℕ → List ℕ → Status → Type 0
CompareDecides e text bytes a =
    ((a ≡ status.Ok) × HoldsSome e bytes × (length text ≤ script_limit))
    ⊎ (((a ≡ status.TooLong which.Script) × HoldsSome e bytes × (script_limit < length text)) ⊎ Refuses e bytes a)

lines_decide : {S K : Type 0} (e : Election) (sample : List Ballot) (a : Status) (before after : Outside S K) (text bytes : List ℕ) → before.script.left ≡ Some text → IsDecided a → HoldsSome e bytes → LinesEnd e sample a before after → CompareDecides e text bytes a
lines_decide e sample status.Ok before after text bytes told decided holds ends = inl (refl, holds, (told_at text told ends.0.read).1.0)
lines_decide e sample (status.TooLong which.Script) before after text bytes told decided holds ends = inr (inl (refl, holds, (told_at text told ends.0.read).1.0))
lines_decide e sample status.WriteFault before after text bytes told decided holds ends = absurd decided
lines_decide e sample status.Memory before after text bytes told decided holds ends = absurd decided
lines_decide e sample (status.ReadFault which) before after text bytes told decided holds ends = absurd decided
lines_decide e sample other before after text bytes told decided holds ends = absurd ends

one_compare : (e : Election) (text bytes : List ℕ) (a b : Status) → IsElection e → CompareDecides e text bytes a → CompareDecides e text bytes b → a ≡ b
one_compare e text bytes a b valid x y = ⊎_elim
    (λ ok. ⊎_elim
    (λ other. ok.0 ∙ sym other.0)
    (λ rest. ⊎_elim (λ long. absurd (omega (arith, ok.2, long.2))) (λ refuses. absurd (not_both e bytes b valid ok.1 refuses)) rest)
    y)
    (λ others. ⊎_elim
    (λ long. ⊎_elim
    (λ ok. absurd (omega (arith, ok.2, long.2)))
    (λ rest. ⊎_elim (λ too. long.0 ∙ sym too.0) (λ refuses. absurd (not_both e bytes b valid long.1 refuses)) rest)
    y)
    (λ refused. ⊎_elim
    (λ ok. absurd (not_both e bytes a valid ok.1 refused))
    (λ rest. ⊎_elim (λ long. absurd (not_both e bytes a valid long.1 refused)) (λ other. one_refused e bytes a b refused other) rest)
    y)
    others)
    x

none_settled : {S K D : Type 0} (model : DiskModel D) (e : Election) (asked : Asked) (a : Status) (before after : World S K D) → NothingFailed model (compare_row asked).touches before after
    → ComparesNone model e a before.streams after.streams before.disk after.disk → IsDecided a ⊎ (a ≡ status.Memory)
none_settled model e asked status.DiskFault before after none ends = absurd (not_risen (model.faults before.disk) (model.faults after.disk) none.disk ends.shows)
none_settled model e asked status.WriteFault before after none ends = absurd ends.shows
none_settled model e asked (status.ReadFault which) before after none ends = absurd ends.shows
none_settled model e asked (status.OtherDiskFault index) before after none ends = absurd ends.shows
none_settled model e asked status.Memory before after none ends = inr refl
none_settled model e asked other before after none ends = inl tt

some_settled : {S K D : Type 0} (model : DiskModel D) (e : Election) (asked : Asked) (a : Status) (before after : World S K D) → NothingFailed model (compare_row asked).touches before after
    → ComparesLines model e asked a before.streams after.streams before.disk after.disk → IsDecided a ⊎ (a ≡ status.Memory)
some_settled model e asked status.DiskFault before after none ends = absurd ends.ends
some_settled model e asked status.WriteFault before after none ends = absurd (not_risen before.streams.sink.faults after.streams.sink.faults none.sink ends.ends.1)
some_settled model e asked (status.ReadFault which.Script) before after none ends = absurd (not_risen before.streams.script.faults after.streams.script.faults none.script ends.ends.1)
some_settled model e asked (status.ReadFault which.Election) before after none ends = absurd ends.ends
some_settled model e asked (status.OtherDiskFault index) before after none ends = absurd ends.ends
some_settled model e asked status.Memory before after none ends = inr refl
some_settled model e asked other before after none ends = inl tt

pub compare_laws : (asked : Asked) → Laws (compare_row asked)
compare_laws asked = record {
  Cause = λ e content. CompareDecides e content.script content.disk;
  caused = λ model e a report before after content tells decided ends. ⊎_elim
      (λ none. inr (inr (none_decides model e a before.disk after.disk content.disk tells.disk decided none.shows)))
      (λ some. lines_decide e _ a before.streams after.streams content.script content.disk tells.script decided
      (some.set, at_told (model.seen before.disk) content.disk (λ x. HoldsSet e x some.set) tells.disk some.shows.held) some.ends)
      ends.tells;
  one = λ e content a b valid x y. one_compare e content.script content.disk a b valid x y;
  settled = λ model e a report before after none ends. ⊎_elim (none_settled model e asked a before after none) (some_settled model e asked a before after none) ends.tells;
  served = λ e content a words valid none has decides. one_compare e content.script content.disk a status.Ok valid decides (inl (refl, has.0, has.1));
  no_usage = λ model e report before after ends. ⊎_elim (λ none. none.shows) (λ some. some.ends) ends.tells;
}
