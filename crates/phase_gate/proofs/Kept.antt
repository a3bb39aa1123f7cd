-- What a line leaves of the disks.
use Rattle.std.proofs.Common.{ℕ, List, [], ◌∷◌, Ok, sym, subst}
use Rattle.store_spec.proofs.Common.{Ballot, Election, State}
use Rattle.phase_gate.specs.Around.{Around}
use Rattle.any_store.proofs.Each.{each_then}
use Rattle.any_store.specs.Disks.{StoreDisks, StoreModel}
use Rattle.any_store.specs.Checkpointed.{AreCheckpointed, AreMedia}
use Rattle.phase_gate.specs.Checkpointed.{Acknowledges}
use Rattle.phase_gate.specs.LineEnds.{LineEnds}

-- the disks are the media of some set
abbrev pub AreSomeMedia : {D : Type 0} → StoreDisks D → Election → D → Type 0
AreSomeMedia disks e now = (set : List Ballot) × AreMedia disks e set now

-- they are so once they were acknowledged
pub media_then : {D : Type 0} (disks : StoreDisks D) (e : Election) (set : List Ballot) (old new : D)
    → AreCheckpointed disks e set old new → AreMedia disks e set new
media_then disks e set old new done = each_then disks _ _ (λ model share one. one.now) done

pub media_kept : {D : Type 0} (disks : StoreDisks D) (e : Election) (sets : List (List Ballot)) (old new : D)
    (marks marks_now : List ℕ) → Acknowledges disks e sets old new marks marks_now → AreSomeMedia disks e old
    → AreSomeMedia disks e new
media_kept disks e [] old new marks marks_now (same, left) media = subst (AreSomeMedia disks e) (sym same) media
media_kept disks e (set ∷ []) old new marks marks_now (done, marked) media =
    (set, media_then disks e set old new done)
media_kept disks e (set ∷ next ∷ sets) old new marks marks_now not_both media = absurd not_both

-- and they still are when a line was handled
pub media_after : {K D : Type 0} (model : StoreModel D) (write : List ℕ → List ℕ) (e : Election) (n : ℕ)
    (s next : State) (bytes : List ℕ) (before after : Around K D)
    → LineEnds model write e n s bytes (Ok next) before after → AreSomeMedia model.disks e before.disk
    → AreSomeMedia model.disks e after.disk
media_after model write e n s next bytes before after ends media =
    media_kept model.disks e ends.effect.acknowledged before.disk after.disk before.marks after.marks
    ends.done.acknowledged media
