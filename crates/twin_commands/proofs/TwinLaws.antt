-- The laws of `twin`: a script and the bytes of two disks decide how it ends, but for faults and want of memory.
use Rattle.std.proofs.Common.{◌≡◌, ◌⊎◌, ℕ, ◌<◌, List, [], ◌∷◌, length, Some, Result, Ok, Err, inl, inr, ⊎_elim, refl, sym, ◌∙◌, subst}
use Rattle.store_spec.proofs.Common.{AllZip, Ballot, DiskModel, Effect, Election, IsElection, IsUnused, State, last_count}
use Rattle.any_store.specs.Disks.{one_store}
use Rattle.outside_io.specs.Outside.{Input, Output}
use Rattle.phase_gate.specs.Around.{Around}
use Rattle.run_outcome.proofs.Laws.{Laws, at_told, not_risen}
use Rattle.run_outcome.specs.Row.{Content, OfOne}
use Rattle.run_outcome.specs.Status.{IsDecided}
use Rattle.run_outcome.specs.World.{IsSteady, Reported, World}
use Rattle.run_outcome.specs.declared.status.Status.{Status}
use Rattle.run_outcome.specs.declared.status.Status.TheVariants as status
use Rattle.session_commands.proofs.SessionLaws.{ScriptDecides, handling_decides, handling_settled, never_usage, one_script, settled_as}
use Rattle.session_commands.specs.Session.{run_status}
use Rattle.session_run.specs.declared.fault.RunFault.{RunFault}
use Rattle.session_run.specs.declared.fault.RunFault.TheVariants as run
use Rattle.twin_commands.proofs.Refused.{HoldsPair, PairRefused, one_pair_refused, pair_not_refused}
use Rattle.twin_commands.specs.Twin.{IsWithoutMemory, TwinBlames, around_disk, TwinHasBegun, TwinNotBegun, NotPaired, WritesPart, TwinEnds, TwinHandles, pair_status, twin_row}
use Rattle.twin_media.specs.Pairing.{IsLostOrHolds, IsRefusedDisk}
use Rattle.twin_media.specs.declared.fault.DiskWhy.TheVariants.{TooLarge, OtherElection, Damaged}
use Rattle.twin_media.specs.declared.fault.PairFault.{PairFault}
use Rattle.twin_media.specs.declared.fault.PairFault.TheVariants as faults

-- ---- what decides

-- the two disks are refused, or the script decides
abbrev pub PairDecides : Election → List ℕ → List ℕ → List ℕ → Status → Type 0
PairDecides e text one two a = PairRefused e one two a ⊎ (HoldsPair e one two × ScriptDecides text a)

-- the status that a script and the bytes of both disks decide, and why
abbrev pub TwinDecides : Election → Content → Status → Type 0
TwinDecides e content a = (two : List ℕ) × (content.more ≡ two ∷ []) × PairDecides e content.script content.disk two a

one_pair : (e : Election) (text one two : List ℕ) (a b : Status) → IsElection e → PairDecides e text one two a → PairDecides e text one two b → a ≡ b
one_pair e text one two a b valid x y = ⊎_elim
    (λ (refused : PairRefused e one two a). ⊎_elim (λ too. one_pair_refused e one two valid a b refused too) (λ holds. absurd (pair_not_refused e one two a valid holds.0 refused)) y)
    (λ (holds : HoldsPair e one two × ScriptDecides text a). ⊎_elim (λ refused. absurd (pair_not_refused e one two b valid holds.0 refused)) (λ too. one_script text a b holds.1 too.1) y)
    x

pub one_twin : (e : Election) (content : Content) (a b : Status) → IsElection e → TwinDecides e content a → TwinDecides e content b → a ≡ b
one_twin e content a b valid x y =
    let only = x.1 in
    let too = y.1 in
    let same : x.0 ≡ y.0 = cc in
    one_pair e content.script content.disk y.0 a b valid (subst (λ two. PairDecides e content.script content.disk two a) same x.2) y.2

-- ---- faults are not decided

-- a failed call on both is no decided status
blames_undecided : {A B : Type 0} (m : DiskModel A) (n : DiskModel B) (one one_after : A) (two two_after : B) (a : Status) → IsDecided a → TwinBlames m n one one_after two two_after a → ⊥
blames_undecided m n one one_after two two_after status.DiskFault decided blames = decided
blames_undecided m n one one_after two two_after (status.OtherDiskFault index) decided blames = decided
blames_undecided m n one one_after two two_after status.Memory decided blames = decided
blames_undecided m n one one_after two two_after other decided blames = blames

blames_settled : {A B : Type 0} (m : DiskModel A) (n : DiskModel B) (one one_after : A) (two two_after : B) (a : Status) → IsSteady (m.faults one) (m.faults one_after) → IsSteady (n.faults two) (n.faults two_after)
    → TwinBlames m n one one_after two two_after a → a ≡ status.Memory
blames_settled m n one one_after two two_after status.DiskFault still other blames = absurd (not_risen (m.faults one) (m.faults one_after) still blames.0)
blames_settled m n one one_after two two_after (status.OtherDiskFault index) still other blames = absurd (not_risen (n.faults two) (n.faults two_after) other blames.1)
blames_settled m n one one_after two two_after status.Memory still other blames = refl
blames_settled m n one one_after two two_after any still other blames = absurd blames

-- ---- no pair

module _ {D : Type 0} (model : DiskModel D) (e : Election) (one one_after two two_after : D) (first second : List ℕ) (sees : model.seen one ≡ Some first) (sees_two : model.seen two ≡ Some second) where
  refused_decides : (fault : PairFault) → IsDecided (pair_status fault) → NotPaired model e fault one one_after two two_after → PairRefused e first second (pair_status fault)
  refused_decides (faults.First why) decided not = inl (why, refl, at_told (model.seen one) first (IsRefusedDisk e why) sees not.refuses.0)
  refused_decides (faults.Second why) decided not =
      inr (inl (at_told (model.seen one) first (IsLostOrHolds e) sees not.refuses.0, (why, refl, at_told (model.seen two) second (IsRefusedDisk e why) sees_two not.refuses.1)))
  refused_decides faults.BothLost decided not =
      inr (inr (refl, at_told (model.seen one) first (IsUnused e) sees not.refuses.0, at_told (model.seen two) second (IsUnused e) sees_two not.refuses.1))
  refused_decides faults.FirstFault decided not = absurd decided
  refused_decides faults.SecondFault decided not = absurd decided
  refused_decides faults.Memory decided not = absurd decided

  pub not_begun : {S K : Type 0} (a : Status) (report : Reported) (old new : Input S) (sink sunk : Output K) → IsDecided a → TwinNotBegun model e a report old new sink sunk one one_after two two_after → PairRefused e first second a
  not_begun a report old new sink sunk decided not = ⊎_elim
      (λ (no : (fault : PairFault) × (a ≡ pair_status fault) × NotPaired model e fault one one_after two two_after).
      subst (PairRefused e first second) (sym no.1) (refused_decides no.0 (subst IsDecided no.1 decided) no.2))
      (λ rest. ⊎_elim
      (λ (memory : IsWithoutMemory one one_after two two_after a). absurd (subst IsDecided memory.0 decided))
      (λ (blames : TwinBlames model model one one_after two two_after a). absurd (blames_undecided model model one one_after two two_after a decided blames))
      rest)
      not.refuses

-- ---- a session on both

module _ {S K A B : Type 0} (m : DiskModel A) (n : DiskModel B) (e : Election) (set : List Ballot) (report : Reported) (old new : Input S) (text : List ℕ) (told : old.left ≡ Some text) where
  handles_decides : (a : Status) (lines : List _) (effects : List Effect) (state : State) (answer : Result (Unit {0}) RunFault) (first first_after : Around K A) (second second_after : Around K B) → IsDecided a
      → TwinHandles m n e set lines effects state answer a old new first first_after second second_after → ScriptDecides text a
  handles_decides a lines effects state (Err run.DiskFault) first first_after second second_after decided ends =
      absurd (blames_undecided m n first.disk first_after.disk second.disk second_after.disk a decided ends.3)
  handles_decides a lines effects state (Ok done) first first_after second second_after decided ends =
      subst (ScriptDecides text) (sym ends.0) (handling_decides (one_store m) (λ text. text) e set lines effects state old new first first_after (Ok done) text told (subst IsDecided ends.0 decided) ends.1)
  handles_decides a lines effects state (Err other) first first_after second second_after decided ends =
      subst (ScriptDecides text) (sym ends.0) (handling_decides (one_store m) (λ text. text) e set lines effects state old new first first_after (Err other) text told (subst IsDecided ends.0 decided) ends.1)

  part_undecided : {D : Type 0} (model : DiskModel D) (paired : _) (a : Status) (sink sunk : Output K) (ready one_after other_ready two_after : D) → IsDecided a → WritesPart model model e set paired a report old new sink sunk ready one_after other_ready two_after → ⊥
  part_undecided model paired a sink sunk ready one_after other_ready two_after decided tells =
      subst IsDecided tells.failed decided

module _ {S K D : Type 0} (model : DiskModel D) (e : Election) (a : Status) (report : Reported) (old new : Input S) (sink sunk : Output K) (one one_after two two_after : D) where
  -- the script and the bytes of both disks tell how a session on both ended
  begun_decides : (text first second : List ℕ) → old.left ≡ Some text → model.seen one ≡ Some first → model.seen two ≡ Some second → IsDecided a → TwinHasBegun model e a report old new sink sunk one one_after two two_after → PairDecides e text first second a
  begun_decides text first second told sees sees_two decided begun = inr (
    (begun.set, (begun.paired, begun.are.found first second sees sees_two)),
    ⊎_elim
        (λ part. absurd (part_undecided model model e begun.set report old new text told model begun.paired a sink sunk begun.ready one_after begun.other_ready two_after decided part))
        (λ whole. handles_decides model model e begun.set report old new text told a whole.plays.lines whole.plays.effects whole.plays.state whole.plays.answer _ _ _ _ decided whole.plays.handles)
        begun.goes_on,
  )

  twin_decides : (text first second : List ℕ) → old.left ≡ Some text → model.seen one ≡ Some first → model.seen two ≡ Some second → IsDecided a → TwinEnds model e a report old new sink sunk one one_after two two_after → PairDecides e text first second a
  twin_decides text first second told sees sees_two decided ends = ⊎_elim
      (λ not. inl (not_begun model e one one_after two two_after first second sees sees_two a report old new sink sunk decided not))
      (λ begun. begun_decides text first second told sees sees_two decided begun)
      ends

  -- ---- where nothing failed

  module _ (script : IsSteady old.faults new.faults) (sunk_steady : IsSteady sink.faults sunk.faults) (first : IsSteady (model.faults one) (model.faults one_after)) (second : IsSteady (model.faults two) (model.faults two_after)) where
    pair_settled : (fault : PairFault) → NotPaired model e fault one one_after two two_after → IsDecided (pair_status fault) ⊎ (pair_status fault ≡ status.Memory)
    pair_settled (faults.First (TooLarge size)) not = inl tt
    pair_settled (faults.First (OtherElection header)) not = inl tt
    pair_settled (faults.First (Damaged cell)) not = inl tt
    pair_settled (faults.Second (TooLarge size)) not = inl tt
    pair_settled (faults.Second (OtherElection header)) not = inl tt
    pair_settled (faults.Second (Damaged cell)) not = inl tt
    pair_settled faults.BothLost not = inl tt
    pair_settled faults.FirstFault not = absurd (not_risen (model.faults one) (model.faults one_after) first not.refuses)
    pair_settled faults.SecondFault not = absurd (not_risen (model.faults two) (model.faults two_after) second not.refuses.1)
    pair_settled faults.Memory not = inr refl

    not_settled : TwinNotBegun model e a report old new sink sunk one one_after two two_after → IsDecided a ⊎ (a ≡ status.Memory)
    not_settled not = ⊎_elim
        (λ (no : (fault : PairFault) × (a ≡ pair_status fault) × NotPaired model e fault one one_after two two_after). settled_as a (pair_status no.0) no.1 (pair_settled no.0 no.2))
        (λ rest. inr (⊎_elim (λ (memory : IsWithoutMemory one one_after two two_after a). memory.0) (λ blames. blames_settled model model one one_after two two_after a first second blames) rest))
        not.refuses

    module _ (begun : TwinHasBegun model e a report old new sink sunk one one_after two two_after) where
      ready_steady : IsSteady (model.faults begun.ready) (model.faults one_after)
      ready_steady = record { same = first.same ∙ sym begun.are.first.no_fault; below = subst (λ n. n < last_count) (sym begun.are.first.no_fault) first.below }

      other_steady : IsSteady (model.faults begun.other_ready) (model.faults two_after)
      other_steady = record { same = second.same ∙ sym begun.are.second.no_fault; below = subst (λ n. n < last_count) (sym begun.are.second.no_fault) second.below }

      mid_steady : (mid : Output K) → mid.faults ≡ sink.faults → IsSteady mid.faults sunk.faults
      mid_steady mid same = subst (λ n. IsSteady n sunk.faults) (sym same) sunk_steady

      handles_settled : (mid : Output K) → mid.faults ≡ sink.faults → (lines : List _) (effects : List Effect) (state : State) (answer : Result (Unit {0}) RunFault) (marks others : List ℕ) (held count : ℕ)
          → TwinHandles model model e begun.set lines effects state answer a old new (around_disk mid begun.ready [] held) (around_disk sunk one_after marks count) (around_disk mid begun.other_ready [] held) (around_disk sunk two_after others count)
          → IsDecided a ⊎ (a ≡ status.Memory)
      handles_settled mid same lines effects state (Err run.DiskFault) marks others held count ends = inr (blames_settled model model begun.ready one_after begun.other_ready two_after a ready_steady other_steady ends.3)
      handles_settled mid same lines effects state (Ok done) marks others held count ends = settled_as a status.Ok ends.0 (inl tt)
      handles_settled mid same lines effects state (Err other) marks others held count ends = settled_as a (run_status other) ends.0
          (handling_settled (one_store model) (λ text. text) e begun.set lines effects state old new (around_disk mid begun.ready [] held) (around_disk sunk one_after marks count) (Err other) script (mid_steady mid same) (λ is. cc) ends.1)

      begun_settled : IsDecided a ⊎ (a ≡ status.Memory)
      begun_settled = ⊎_elim
          (λ part. absurd (not_risen sink.faults sunk.faults sunk_steady part.rose))
          (λ whole. handles_settled whole.mid whole.no_fault whole.plays.lines whole.plays.effects whole.plays.state whole.plays.answer report.marks whole.plays.marks (length begun.set) report.held whole.plays.handles)
          begun.goes_on

    twin_settled : TwinEnds model e a report old new sink sunk one one_after two two_after → IsDecided a ⊎ (a ≡ status.Memory)
    twin_settled ends = ⊎_elim not_settled begun_settled ends

-- ---- it never answers that the words form no command

is_status : (fault : PairFault) → status.Usage ≡ pair_status fault → ⊥
is_status (faults.First (TooLarge size)) is = cc
is_status (faults.First (OtherElection header)) is = cc
is_status (faults.First (Damaged cell)) is = cc
is_status (faults.Second (TooLarge size)) is = cc
is_status (faults.Second (OtherElection header)) is = cc
is_status (faults.Second (Damaged cell)) is = cc
is_status faults.BothLost is = cc
is_status faults.FirstFault is = cc
is_status faults.SecondFault is = cc
is_status faults.Memory is = cc

module _ {S K D : Type 0} (model : DiskModel D) (e : Election) (report : Reported) (old new : Input S) (sink sunk : Output K) (one one_after two two_after : D) where
  handles_no_usage : {A : Type 0} (m : DiskModel A) (set : List Ballot) (lines : List _) (effects : List Effect) (state : State) (answer : Result (Unit {0}) RunFault) (first first_after second second_after : Around K A)
      → TwinHandles m m e set lines effects state answer status.Usage old new first first_after second second_after → ⊥
  handles_no_usage m set lines effects state (Err run.DiskFault) first first_after second second_after ends = ends.3
  handles_no_usage m set lines effects state (Ok done) first first_after second second_after ends = never_usage (Ok done) ends.0
  handles_no_usage m set lines effects state (Err other) first first_after second second_after ends = never_usage (Err other) ends.0

  twin_no_usage : TwinEnds model e status.Usage report old new sink sunk one one_after two two_after → ⊥
  twin_no_usage ends = ⊎_elim
      (λ not. ⊎_elim (λ (no : (fault : PairFault) × (status.Usage ≡ pair_status fault) × NotPaired model e fault one one_after two two_after). is_status no.0 no.1)
      (λ rest. ⊎_elim (λ (memory : IsWithoutMemory one one_after two two_after status.Usage). let is = memory.0 in cc) (λ blames. blames) rest) not.refuses)
      (λ begun. ⊎_elim
      (λ part. let is = part.failed in cc)
      (λ whole. handles_no_usage model begun.set whole.plays.lines whole.plays.effects whole.plays.state whole.plays.answer _ _ _ _ whole.plays.handles)
      begun.goes_on)
      ends

-- ---- the second disk

module _ {S K D : Type 0} (model : DiskModel D) (e : Election) (a : Status) (report : Reported) (before after : World S K D) where
  abbrev Ends : D → D → Type 0
  Ends two two_after = TwinEnds model e a report before.streams.script after.streams.script before.streams.sink after.streams.sink before.disk after.disk two two_after

  second_decides : (content : Content) (others : List (List ℕ)) (more now : List D) → before.streams.script.left ≡ Some content.script → model.seen before.disk ≡ Some content.disk → content.more ≡ others
      → AllZip (λ disk told. model.seen disk ≡ Some told) more others → IsDecided a → OfOne Ends more now → TwinDecides e content a
  second_decides content (second ∷ []) (two ∷ []) (two_after ∷ []) told sees only each decided ends =
      (second, only, twin_decides model e a report before.streams.script after.streams.script before.streams.sink after.streams.sink before.disk after.disk two two_after content.script content.disk second told sees each.0 decided ends)
  second_decides content [] (two ∷ []) (two_after ∷ []) told sees only each decided ends = absurd each
  second_decides content (second ∷ x ∷ others) (two ∷ []) (two_after ∷ []) told sees only each decided ends = absurd each.1
  second_decides content others more now told sees only each decided ends = absurd (assumption ends)

  pub second_settled : (more now : List D) → IsSteady before.streams.script.faults after.streams.script.faults → IsSteady before.streams.sink.faults after.streams.sink.faults → IsSteady (model.faults before.disk) (model.faults after.disk)
      → AllZip (λ old new. IsSteady (model.faults old) (model.faults new)) more now → OfOne Ends more now → IsDecided a ⊎ (a ≡ status.Memory)
  second_settled (two ∷ []) (two_after ∷ []) script sink disk each ends =
      twin_settled model e a report before.streams.script after.streams.script before.streams.sink after.streams.sink before.disk after.disk two two_after script sink disk each.0 ends
  second_settled more now script sink disk each ends = absurd (assumption ends)

no_usage : {S K D : Type 0} (model : DiskModel D) (e : Election) (report : Reported) (before after : World S K D) (more now : List D) → OfOne (Ends model e status.Usage report before after) more now → ⊥
no_usage model e report before after (two ∷ []) (two_after ∷ []) ends =
    twin_no_usage model e report before.streams.script after.streams.script before.streams.sink after.streams.sink before.disk after.disk two two_after ends
no_usage model e report before after more now ends = absurd (assumption ends)

-- ---- the row

pub twin_laws : Laws twin_row
twin_laws = record {
  Cause = TwinDecides;
  caused = λ model e a report before after content tells decided ends.
      second_decides model e a report before after content content.more before.more after.more tells.script tells.disk refl tells.more decided ends;
  one = one_twin;
  settled = λ model e a report before after none ends. second_settled model e a report before after before.more after.more none.script none.sink none.disk none.more ends;
  served = λ e content a words valid one served decides.
      one_twin e content a status.Ok valid decides (served.0.0, served.0.1, inr (served.0.2, inl (refl, served.1)));
  no_usage = λ model e report before after ends. no_usage model e report before after before.more after.more ends;
}
