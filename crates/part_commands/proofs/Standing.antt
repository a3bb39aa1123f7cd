-- Which share a stop leaves of a part.
use Rattle.std.proofs.Common.{◌≡◌, ◌⊎◌, ◌≤◌, ◌+◌, ⊎_elim, ℕ, zero, suc, List, [], ◌∷◌, ◌++◌, append-nil, length, map, Option, None, Some, Result, Ok, Err, inl, inr, refl, sym, ap, subst, arith}
use Rattle.store_spec.proofs.Common.{AllZip-long, AnswersBy, Ballot, Casts, Checkpoint, Close, Closed, Closes, DiskModel, DoesBy, Effect, Election, Finds, HoldsAcknowledged, Phase, PlaysBy, ScriptLine, State, Withdraws, acknowledged_in, cases_Bool, of_parts, share, slice_get}
use Rattle.std.specs.Prelude.{if◌then◌else◌, Bool, false, true}
use Rattle.any_store.specs.Disks.{AcknowledgesNothing}
use Rattle.outside_io.specs.Outside.{Input, Output}
use Rattle.part_commands.proofs.Lifting.{one_along, one_back}
use Rattle.part_commands.specs.Part.{IsSeenFrom, PartsHaveBegun, disk_of, part_model}
use Rattle.part_commands.specs.Standing.{LosesNoShare}
use Rattle.parted_store.specs.Slots.{along, models_of, slot_model}
use Rattle.partition_store.specs.Parted.{bits_of}
use Rattle.recovery.specs.ReadsOnly.{WritesNothing}
use Rattle.run_outcome.specs.World.{Reported, nothing_reported}
use Rattle.run_outcome.specs.declared.status.Status.{Status}
use Rattle.session_commands.specs.Session.{with_report}
use Rattle.session_run.specs.Ends.{ComesNext, HandlingEnds, IsInterrupted}
use Rattle.session_run.specs.Ends.ComesNext.{to_end, to_line}
use Rattle.session_run.specs.History.{HoldsOne, LosesNothing, Wrote, column}
use Rattle.session_run.specs.declared.fault.RunFault.{RunFault}
use Rattle.session_run.specs.declared.fault.RunFault.TheVariants as run
use Rattle.store_spec.specs.Session as session

-- ---- what a line acknowledges

closes_none : (bits : ℕ) (e : Election) → AcknowledgesNothing (of_parts bits e)
closes_none bits e = record {
  casting = λ set lists effect does. ap (λ x. x.acknowledged) does.is;
  withdrawing = λ set lists effect does. ap (λ x. x.acknowledged) does.is;
}

module _ (closes : Closes) (none : AcknowledgesNothing closes) (e : Election) (n : ℕ) (s : State) (effect : Effect) where
  -- nothing, or the set that is held
  form_acknowledges : (line : ScriptLine) (phase : Phase) → DoesBy closes e n s line phase effect → (effect.acknowledged ≡ []) ⊎ (effect.acknowledged ≡ s.set ∷ [])
  form_acknowledges Close (Casts lists) does = inl (none.casting s.set lists effect does)
  form_acknowledges Close (Withdraws lists) does = inl (none.withdrawing s.set lists effect does)
  form_acknowledges Close (Finds lists) does = inl (ap (λ x. x.acknowledged) does.is)
  form_acknowledges Checkpoint Closed does = inr (ap (λ x. x.acknowledged) does)
  form_acknowledges line phase does = inl (grind arith)

  line_acknowledges : (line : Option (List ℕ)) → AnswersBy closes e n s line effect → (effect.acknowledged ≡ []) ⊎ (effect.acknowledged ≡ s.set ∷ [])
  line_acknowledges None answers = inl (ap (λ x. x.acknowledged) answers)
  line_acknowledges (Some bytes) answers = ⊎_elim
      (λ malformed. inl (ap (λ x. x.acknowledged) malformed.1))
      (λ says. form_acknowledges says.0 s.phase says.2)
      answers

-- ---- the disks from which on the parts are seen

-- at these places what stands in the one list, and elsewhere what stands in the other
abbrev mixed : {X : Type 0} → (ℕ → Bool) → List X → List X → List X
mixed here (x ∷ start) (y ∷ looked) = (if here 0 then x else y) ∷ mixed (λ k. here (suc k)) start looked
mixed here start looked = looked

mixed_size : {X : Type 0} (here : ℕ → Bool) (start looked : List X) → length looked ≡ length start → length (mixed here start looked) ≡ length start
mixed_size here [] looked same = same
mixed_size here (x ∷ start) [] same = same
mixed_size here (x ∷ start) (y ∷ looked) same = ap suc (mixed_size (λ k. here (suc k)) start looked (omega (arith, same)))

mixed_here : {X : Type 0} (here : ℕ → Bool) (start looked : List X) (k : ℕ) → length looked ≡ length start → here k ≡ true → slice_get (mixed here start looked) k ≡ slice_get start k
mixed_here here [] [] k same is = refl
mixed_here here [] (y ∷ looked) k same is = absurd (omega (arith, same))
mixed_here here (x ∷ start) [] k same is = absurd (omega (arith, same))
mixed_here {X} here (x ∷ start) (y ∷ looked) zero same is = ap (λ (b : Bool). Some (if b then x else y)) is
mixed_here here (x ∷ start) (y ∷ looked) (suc k) same is = mixed_here (λ k. here (suc k)) start looked k (omega (arith, same)) is

mixed_elsewhere : {X : Type 0} (here : ℕ → Bool) (start looked : List X) (k : ℕ) → here k ≡ false → slice_get (mixed here start looked) k ≡ slice_get looked k
mixed_elsewhere here [] looked k not = refl
mixed_elsewhere here (x ∷ start) [] k not = refl
mixed_elsewhere {X} here (x ∷ start) (y ∷ looked) zero not = ap (λ (b : Bool). Some (if b then x else y)) not
mixed_elsewhere here (x ∷ start) (y ∷ looked) (suc k) not = mixed_elsewhere (λ k. here (suc k)) start looked k not

module _ {D : Type 0} (parts : ℕ → Bool) (start looked : D × List D) (size : length looked.1 ≡ length start.1) where
  -- the disks of these parts as at the start, and the others as the looks left them
  abbrev from : D × List D
  from = (if parts 0 then start.0 else looked.0, mixed (λ k. parts (suc k)) start.1 looked.1)

  there : (part : ℕ) → parts part ≡ true → disk_of from part ≡ disk_of start part
  there zero is = ap (λ (b : Bool). Some (if b then start.0 else looked.0)) is
  there (suc k) is = mixed_here (λ k. parts (suc k)) start.1 looked.1 k size is

  elsewhere : (part : ℕ) → parts part ≡ false → disk_of from part ≡ disk_of looked part
  elsewhere zero not = ap (λ (b : Bool). Some (if b then start.0 else looked.0)) not
  elsewhere (suc k) not = mixed_elsewhere (λ k. parts (suc k)) start.1 looked.1 k not

  seen : (model : DiskModel D) (e : Election) (bits : ℕ) (set : List Ballot)
      → ((part : ℕ) → part ≤ length start.1 → parts part ≡ true → HoldsOne (models_of model model part) e (share bits part set) start) → IsSeenFrom model e bits set start looked from
  seen model e bits set holds = record {
    size = mixed_size (λ k. parts (suc k)) start.1 looked.1 size;
    each = λ part few. ⊎_elim
        (λ (is : parts part ≡ true). inr (there part is, holds part few is))
        (λ (not : parts part ≡ false). inl (elsewhere part not))
        (cases_Bool (parts part));
  }

-- ---- from the same disk on the same is lost

module _ {S X : Type 0} (model : DiskModel X) (at : S → X) (e : Election) (set : List Ballot) (start from after : S) (marks : List ℕ) (acknowledged tried : List (List Ballot)) (same : at from ≡ at start) where
  from_same : LosesNothing (along model at) e set from after marks acknowledged tried → LosesNothing (along model at) e set start after marks acknowledged tried
  from_same loses one below =
      subst (λ (x : X). HoldsAcknowledged e (model.may_leave (at after)) (model.calls x) set marks acknowledged tried (model.calls (at after))) same
      (loses (one_along model at e set from (subst (λ (x : X). HoldsOne model e set x) (sym same) (one_back model at e set start one))) below)

module _ {D : Type 0} (model : DiskModel D) (e : Election) (set : List Ballot) (start from after : D × List D) (marks : List ℕ) (acknowledged tried : List (List Ballot)) where
  from_start : (part : ℕ) → disk_of from part ≡ disk_of start part → LosesNothing (models_of model model part) e set from after marks acknowledged tried → LosesNothing (models_of model model part) e set start after marks acknowledged tried
  from_start zero same loses =
      let is : from.0 ≡ start.0 = cc in
      from_same model (λ (disks : D × List D). disks.0) e set start from after marks acknowledged tried is loses
  from_start (suc k) same loses = from_same (slot_model model) (λ (disks : D × List D). slice_get disks.1 k) e set start from after marks acknowledged tried same loses

-- ---- how the handling ended

module _ {D : Type 0} (model : DiskModel D) (e : Election) (set : List Ballot) (report : Reported) (from after : D × List D) (more : ℕ) (effects : List Effect) (state : State) where
  -- of each part nothing is lost
  abbrev Loses : List (List Ballot) → List (List Ballot) → Type 0
  Loses sets tried = (part : ℕ) → part ≤ more
      → LosesNothing (models_of model model part) e (share (bits_of more) part set) from after (column report.marks report.others part) (map (share (bits_of more) part) sets) (map (share (bits_of more) part) tried)

  -- what was acknowledged last, or tried in vain
  pub record Ended : Type 0 where
    pub last : List (List Ballot)
    pub tried : List (List Ballot)
    pub at_most : (last ++ tried ≡ []) ⊎ (last ++ tried ≡ state.set ∷ [])
    pub loses : Loses (acknowledged_in effects ++ last) tried

  module _ {S K : Type 0} (lines : List (Option (List ℕ))) (old new : Input S) (sink sunk : Output K) where
    abbrev DidWrite : List ℕ → List (List Ballot) → Type 0
    DidWrite rest sets = Wrote (part_model model more) (λ text. text) e set effects rest sets (with_report sink from nothing_reported) (with_report sunk after report)

    did_write : (rest : List ℕ) (sets : List (List Ballot)) → (sets ≡ []) ⊎ (sets ≡ state.set ∷ []) → DidWrite rest sets → Ended
    did_write rest sets is wrote = record {
      last = sets;
      tried = [];
      at_most = subst (λ (all : List (List Ballot)). (all ≡ []) ⊎ (all ≡ state.set ∷ [])) (sym (append-nil sets)) is;
      loses = λ part few. (wrote.acknowledged.1 part few).crashes;
    }

    comes_next : (reply : List ℕ) (sets : List (List Ballot)) (held : ℕ) → ComesNext (of_parts (bits_of more) e) e lines state old new reply sets held → (sets ≡ []) ⊎ (sets ≡ state.set ∷ [])
    comes_next reply sets held (to_line line effect read answers says is count) =
        subst (λ (all : List (List Ballot)). (all ≡ []) ⊎ (all ≡ state.set ∷ [])) (sym is)
        (line_acknowledges (of_parts (bits_of more) e) (closes_none (bits_of more) e) e (length lines + 1) state effect line answers)
    comes_next reply sets held (to_end read says is count) = inl is

    interrupted : IsInterrupted (part_model model more) (λ text. text) e set lines effects state old new (with_report sink from nothing_reported) (with_report sunk after report) → Ended
    interrupted cut = did_write _ cut.more (comes_next cut.reply cut.more report.held cut.next) cut.wrote

    ended : (answer : Result (Unit {0}) RunFault)
        → HandlingEnds (part_model model more) (λ text. text) e set lines effects state answer old new (with_report sink from nothing_reported) (with_report sunk after report) → Ended
    ended (Ok done) ends = did_write _ [] (inl refl) ends.1
    ended (Err run.TooLong) ends = did_write [] [] (inl refl) ends.1
    ended (Err run.ReadFault) ends = did_write [] [] (inl refl) ends.1
    ended (Err run.DiskFault) ends = record {
      last = [];
      tried = state.set ∷ [];
      at_most = inr refl;
      loses = subst (λ (sets : List (List Ballot)). Loses sets (state.set ∷ [])) (sym (append-nil (acknowledged_in effects))) (λ part few. (ends.0.tried.1 part few).crashes);
    }
    ended (Err run.WriteFault) ends = interrupted ends.0
    ended (Err run.Memory) ends = ⊎_elim (λ none. did_write [] [] (inl refl) none.1) interrupted ends.0
    ended (Err other) ends = absurd ends

-- ---- the law

module _ {S K D : Type 0} (model : DiskModel D) (e : Election) (status : Status) (report : Reported) (old new : Input S) (sink sunk : Output K) (one after : D) (more now : List D) where
  pub none_lost : (begun : PartsHaveBegun model e status report old new sink sunk one after more now) (parts : ℕ → Bool)
      → ((part : ℕ) → part ≤ length more → parts part ≡ true → HoldsOne (models_of model model part) e (share (bits_of (length more)) part begun.set) (one, more)) → LosesNoShare model e begun.set report one after more now parts
  none_lost begun parts holds =
      let bits = bits_of (length more) in
      let start : D × List D = (one, more) in
      let size = AllZip-long (WritesNothing model.seen model.calls model.may_leave) more begun.looked.1 begun.others_read in
      let moment = from parts start begun.looked size in
      let is = begun.goes_on moment (seen parts start begun.looked size model e bits begun.set holds) in
      let b = is.0 in
      let end : Ended model e begun.set report moment (after, now) (length more) b.effects b.state =
      subst (λ (set : List Ballot). Ended model e set report moment (after, now) (length more) b.effects b.state) is.1
      (ended model e b.set report moment (after, now) (length more) b.effects b.state b.lines old new sink sunk begun.answer b.ends) in
      record {
        lines = b.lines;
        effects = b.effects;
        state = b.state;
        plays = subst (λ (set : List Ballot). PlaysBy (of_parts bits e) e 1 (session.begun set) b.lines b.effects b.state) is.1 b.plays;
        last = end.last;
        tried = end.tried;
        at_most = end.at_most;
        each = λ part few sure. from_start model e (share bits part begun.set) start moment (after, now) (column report.marks report.others part)
            (map (share bits part) (acknowledged_in b.effects ++ end.last)) (map (share bits part) end.tried) part (there parts start begun.looked size part sure) (end.loses part few);
      }
