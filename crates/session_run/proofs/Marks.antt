-- A line makes a mark more, or none.
use Rattle.std.proofs.Common.{◌≡◌, ℕ, ◌≤◌, List, [], ◌∷◌, inl, inr, refl, sym, ◌∙◌, ap, subst, arith, ⊎_elim, Result, Ok, Err}
use Rattle.store_spec.proofs.Common.{All-append, All-nil, Ballot, Election, OnOk, State}
use Rattle.std.specs.Prelude.{All, slice_index_or}
use Rattle.any_store.proofs.Each.{each_both, each_then, first_then}
use Rattle.phase_gate.specs.Around.{Around}
use Rattle.phase_gate.specs.Beside.{IsOneMore}
use Rattle.phase_gate.specs.Checkpointed.{Acknowledges}
use Rattle.any_store.specs.Disks.{AreSteady, StoreDisks, StoreModel, first_of}
use Rattle.any_store.specs.Disks.StoreDisks.{Alone, Parted}
use Rattle.phase_gate.specs.LineEnds.{IsHalfWritten, LineEnds, state_left}
use Rattle.phase_gate.specs.declared.fault.SessionFault.{SessionFault}
use Rattle.phase_gate.specs.declared.fault.SessionFault.TheVariants.{DiskFault, WriteFault, Memory}
use Rattle.session_run.specs.History.{Stands, Stood}

module _ {D : Type 0} (disks : StoreDisks D) (e : Election) (old new : D) (marks now : List ℕ) where
  one_acknowledged : (sets : List (List Ballot)) → Acknowledges disks e sets old new marks now → IsOneMore marks now
  one_acknowledged [] none = inl none.1
  one_acknowledged (set ∷ []) one = inr ((first_of disks).calls new, one.1)
  one_acknowledged (set ∷ next ∷ sets) none = absurd none

module _ {K D : Type 0} (model : StoreModel D) (write : List ℕ → List ℕ) (e : Election) (n : ℕ) (s : State) (bytes : List ℕ) (before after : Around K D) where
  pub one_more : (r : Result State SessionFault) → LineEnds model write e n s bytes r before after → IsOneMore before.marks after.marks
  one_more (Ok next) done = one_acknowledged model.disks e before.disk after.disk before.marks after.marks done.effect.acknowledged done.done.acknowledged
  one_more (Err DiskFault) failed = inl failed.marks
  one_more (Err WriteFault) half = one_acknowledged model.disks e before.disk after.disk before.marks after.marks half.0.effect.acknowledged half.0.done.acknowledged
  one_more (Err Memory) either =
      ⊎_elim
      (λ (same : after ≡ before). inl (ap (λ a. a.marks) same))
      (λ (half : IsHalfWritten model write e n s bytes before after × (after.sink.faults ≡ before.sink.faults)).
      one_acknowledged model.disks e before.disk after.disk before.marks after.marks half.0.effect.acknowledged half.0.done.acknowledged)
      either

-- ---- no call failed

later_all : (k n : ℕ) (marks : List ℕ) → k ≤ n → All (λ mark. mark ≤ k) marks → All (λ mark. mark ≤ n) marks
later_all k n marks le all = λ i d within. omega (arith, le, all i d within)

only : (n : ℕ) → All (λ mark. mark ≤ n) (n ∷ [])
only n = λ i d within.
    let first : i ≡ 0 = omega (arith, within) in
    subst (λ i. slice_index_or (n ∷ []) i d ≤ n) (sym first) (omega arith)

module _ {D : Type 0} (disks : StoreDisks D) where
  steady_now : (now : D) → AreSteady disks now now
  steady_now now = all disks
    where
      all : (disks : StoreDisks D) → AreSteady disks now now
      all (Alone model) = refl
      all (Parted more models parts) = λ i within. refl

  pub stands_now : (now : D) (marks : List ℕ) → All (λ mark. mark ≤ (first_of disks).calls now) marks → Stands disks now now marks
  stands_now now marks all = record { steady = steady_now now; marked = all }

  pub stands_first : (now : D) (marks : List ℕ) → marks ≡ [] → Stands disks now now marks
  stands_first now marks none = stands_now now marks (subst (All (λ mark. mark ≤ (first_of disks).calls now)) (sym none) (All-nil (λ mark. mark ≤ (first_of disks).calls now)))

  pub stands_on : (start mid now : D) (marks more : List ℕ) → Stands disks start mid marks → Stands disks mid now more → Stands disks start now more
  stands_on start mid now marks more one two = record {
    steady = each_both disks _ _ _ (λ model share a b. b ∙ a) one.steady two.steady;
    marked = two.marked;
  }

  -- a line that was handled, or half told
  stands_acknowledged : (e : Election) (old new : D) (marks now : List ℕ) → All (λ mark. mark ≤ (first_of disks).calls old) marks → (sets : List (List Ballot)) → Acknowledges disks e sets old new marks now → Stands disks old new now
  stands_acknowledged e old new marks now all [] none =
      subst (λ (d : D). Stands disks old d now) (sym none.0) (subst (Stands disks old old) (sym none.1) (stands_now old marks all))
  stands_acknowledged e old new marks now all (set ∷ []) one =
      let calls = (first_of disks).calls in
      let later : calls old ≤ calls new = first_then disks _ (λ model. model.calls old ≤ model.calls new) (λ model share did. did.later) one.0 in
      record {
        steady = each_then disks _ _ (λ model share did. did.no_fault) one.0;
        marked = subst (All (λ mark. mark ≤ calls new)) (sym one.1) (All-append (λ mark. mark ≤ calls new) marks (calls new ∷ []) (later_all (calls old) (calls new) marks later all) (only (calls new)));
      }
  stands_acknowledged e old new marks now all (set ∷ next ∷ sets) none = absurd none

  -- and then another run
  pub stood_on : (leads_to : D → D → Type 0) → ((a b c : D) → leads_to a b → leads_to b c → leads_to a c) → (start old now : D) (marks more : List ℕ)
      → leads_to start old → Stands disks start old marks → Stood disks leads_to old now more → Stood disks leads_to start now more
  stood_on leads_to on start old now marks more leads stands stood = record {
    mid = stood.mid;
    before = on start old stood.mid leads stood.before;
    stands = stands_on start old stood.mid marks more stands stood.stands;
    after = stood.after;
  }

  pub stood_now : (leads_to : D → D → Type 0) → ((d : D) → leads_to d d) → (start now : D) (marks : List ℕ) → leads_to start now → Stands disks start now marks → Stood disks leads_to start now marks
  stood_now leads_to itself start now marks leads stands = record { mid = now; before = leads; stands = stands; after = itself now }

module _ {K D : Type 0} (model : StoreModel D) (write : List ℕ → List ℕ) (e : Election) (n : ℕ) (s : State) (bytes : List ℕ) (before after : Around K D) (all : All (λ mark. mark ≤ (first_of model.disks).calls before.disk) before.marks) where
  pub handled : (r : Result State SessionFault) → LineEnds model write e n s bytes r before after → OnOk r (Stands model.disks before.disk after.disk after.marks)
  handled (Ok next) done = stands_acknowledged model.disks e before.disk after.disk before.marks after.marks all done.effect.acknowledged done.done.acknowledged
  handled (Err why) ends = tt

  half : IsHalfWritten model write e n s bytes before after → Stands model.disks before.disk after.disk after.marks
  half told = stands_acknowledged model.disks e before.disk after.disk before.marks after.marks all told.effect.acknowledged told.done.acknowledged

  module _ (leads_to : D → D → Type 0) (itself : (d : D) → leads_to d d) (leads : leads_to before.disk after.disk) where
    still : Stands model.disks before.disk after.disk after.marks → Stood model.disks leads_to before.disk after.disk after.marks
    still stands = record { mid = after.disk; before = leads; stands = stands; after = itself after.disk }

    unmade : after.marks ≡ before.marks → Stood model.disks leads_to before.disk after.disk after.marks
    unmade same = record {
      mid = before.disk;
      before = itself before.disk;
      stands = subst (Stands model.disks before.disk before.disk) (sym same) (stands_now model.disks before.disk before.marks all);
      after = leads;
    }

    pub line_stood : (r : Result State SessionFault) → LineEnds model write e n s bytes r before after → Stood model.disks leads_to before.disk after.disk after.marks
    line_stood (Ok next) done = still (handled (Ok next) done)
    line_stood (Err DiskFault) failed = unmade failed.marks
    line_stood (Err WriteFault) told = still (half told.0)
    line_stood (Err Memory) either = ⊎_elim (λ (same : after ≡ before). unmade (ap (λ a. a.marks) same)) (λ (told : IsHalfWritten model write e n s bytes before after × (after.sink.faults ≡ before.sink.faults)). still (half told.0)) either

-- what holds where a session goes on
pub on_left : {S : Type 0} (state : S → State) (P : Type 0) (r : Result S SessionFault) → OnOk (state_left state r) P → OnOk r P
on_left state P (Ok session) p = p
on_left state P (Err fault) p = tt
