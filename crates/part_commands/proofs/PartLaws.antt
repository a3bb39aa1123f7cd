-- The laws of `part`: a script and the bytes of all media decide how it ends, but for faults and want of memory.
use Rattle.std.proofs.Common.{◌≡◌, ◌≢◌, ◌⊎◌, ◌+◌, ◌<◌, ◌≤◌, ℕ, zero, suc, List, [], ◌∷◌, length, get_or, map, Some, Result, Ok, Err, inl, inr, ⊎_elim, refl, sym, ap, subst, ◌∙◌, arith}
use Rattle.store_spec.proofs.Common.{All-contains, AllZip, AllZip-long, Ballot, Contains, DiskModel, Election, HoldsSet, IfSome, IsElection, Rose, cases_lt, eqb-true, filter_passes, get_or-map-range_with_len, length-map-range_with_len, numbers_of, part_of, range_with_len, share}
use Rattle.std.specs.List.{slice_get}
use Rattle.std.specs.Prelude.{◌==◌}
use Rattle.ballot_record.proofs.BallotNumbers.{ballot_with}
use Rattle.medium_commands.proofs.Several.{MediaDecide, Tell, all_as, all_told, further_told, one_of_media, one_told, zip_at}
use Rattle.medium_commands.specs.Refused.{refused_status}
use Rattle.outside_io.specs.Outside.{Input, Output}
use Rattle.part_commands.specs.Part.{AreOwn, IsStatusOf, PartEnds, PartsHaveBegun, disk_status, open_status, part_model, part_row}
use Rattle.parted_store.specs.Slots.{models_of, seen_in, slot_count}
use Rattle.partition_store.specs.Foreign.{IsForeignIn, IsLeast, IsMisplaced}
use Rattle.partition_store.specs.Opening.{IsAgainst, RoseAt}
use Rattle.partition_store.specs.Parted.{BelongsTo, bits_of}
use Rattle.partition_store.specs.declared.fault.PartFault.{PartFault}
use Rattle.partition_store.specs.declared.fault.PartFault.TheVariants as faults
use Rattle.recovery.specs.Faults.{medium_fault}
use Rattle.recovery.specs.ReadsOnly.{WritesNothing}
use Rattle.recovery.specs.declared.fault.MediumWhy.{MediumWhy}
use Rattle.recovery.specs.declared.fault.MediumWhy.TheVariants as media
use Rattle.run_outcome.proofs.Laws.{Laws, at_told, not_risen}
use Rattle.run_outcome.specs.Row.{Content}
use Rattle.run_outcome.specs.Status.{IsDecided, ended_as}
use Rattle.run_outcome.specs.World.{IsSteady, Reported, nothing_reported}
use Rattle.run_outcome.specs.declared.status.Status.{Status}
use Rattle.run_outcome.specs.declared.status.Status.TheVariants as status
use Rattle.session_commands.proofs.SessionLaws.{ScriptDecides, handling_decides, handling_settled, never_usage, one_script, settled_as}
use Rattle.session_commands.specs.Session.{run_status, with_report}
use Rattle.session_run.specs.Ends.{BegunWith}
use Rattle.session_run.specs.declared.fault.RunFault.{RunFault}
use Rattle.session_run.specs.declared.fault.RunFault.TheVariants as run

-- ---- a number of another part

module _ (bits : ℕ) where
  -- a number of a set whose ballots belong to a part
  in_part : (part : ℕ) (set : List Ballot) (number : ℕ) → BelongsTo bits part set → Contains (numbers_of set) number → part_of bits number ≡ part
  in_part part set number own among =
      let b = ballot_with set number among in
      ap (λ n. part_of bits n) (sym b.2) ∙ All-contains (λ (b : Ballot). part_of bits b.number ≡ part) set b.0 own b.1

  one_least : (part : ℕ) (IsAmong : ℕ → Type 0) (m n : ℕ) → IsLeast bits part IsAmong m → IsLeast bits part IsAmong n → m ≡ n
  one_least part IsAmong m n x y = let low = x.least n y.among y.foreign in let high = y.least m x.among x.foreign in omega (arith, low, high)

  module _ (sets : List (List Ballot)) where
    not_own : (index number : ℕ) → IsMisplaced bits sets index number → BelongsTo bits index (get_or sets index []) → ⊥
    not_own index number one own = one.least.foreign (in_part index (get_or sets index []) number own one.least.among)

    one_index : (i j m n : ℕ) → IsMisplaced bits sets i m → IsMisplaced bits sets j n → i ≡ j
    one_index i j m n x y = ⊎_elim
        (λ (less : i < j). absurd (not_own i m x (y.earlier i less)))
        (λ (not : j ≤ i). ⊎_elim
        (λ (less : j < i). absurd (not_own j n y (x.earlier j less)))
        (λ (nor : i ≤ j). omega (arith, not, nor))
        (cases_lt j i))
        (cases_lt i j)

    one_misplaced : (i j m n : ℕ) → IsMisplaced bits sets i m → IsMisplaced bits sets j n → status.Misplaced i m ≡ status.Misplaced j n
    one_misplaced i j m n x y =
        let here = one_index i j m n x y in
        let least : IsForeignIn bits j (get_or sets j []) (Some m) = subst (λ k. IsForeignIn bits k (get_or sets k []) (Some m)) here x.least in
        ap (λ (k : ℕ). status.Misplaced k m) here
        ∙ ap (λ (number : ℕ). status.Misplaced j number) (one_least j (Contains (numbers_of (get_or sets j []))) m n least y.least)

-- ---- one cause

-- the status that the sets of all media and a script decide: a number stands in another part than its own, or the script
-- decides
abbrev pub SetsDecide : ℕ → List ℕ → Status → List (List Ballot) → Type 0
SetsDecide bits text a sets =
    ((index : ℕ) × (number : ℕ) × (a ≡ status.Misplaced index number) × IsMisplaced bits sets index number)
    ⊎ (AreOwn bits sets × ScriptDecides text a)

pub one_of_sets : (bits : ℕ) (text : List ℕ) (a b : Status) (sets : List (List Ballot)) → SetsDecide bits text a sets → SetsDecide bits text b sets → a ≡ b
one_of_sets bits text a b sets x y = ⊎_elim
    (λ one. ⊎_elim
    (λ too. one.2 ∙ one_misplaced bits sets one.0 too.0 one.1 too.1 one.3 too.3 ∙ sym too.2)
    (λ own. absurd (not_own bits sets one.0 one.1 one.3 (own.0 one.0 one.3.within)))
    y)
    (λ own. ⊎_elim
    (λ one. absurd (not_own bits sets one.0 one.1 one.3 (own.0 one.0 one.3.within)))
    (λ too. one_script text a b own.1 too.1)
    y)
    x

-- the status that a script and the bytes of all media decide, and why
abbrev pub PartDecides : Election → Content → Status → Type 0
PartDecides e content a = MediaDecide e content a (SetsDecide (bits_of (length content.more)) content.script a)

pub one_part : (e : Election) (content : Content) (a b : Status) → IsElection e → PartDecides e content a → PartDecides e content b → a ≡ b
one_part e content a b valid x y =
    let bits = bits_of (length content.more) in
    one_of_media e content valid a b (SetsDecide bits content.script a) (SetsDecide bits content.script b) (one_of_sets bits content.script a b) x y

-- ---- the shares of a set

-- so many of them, from a part on
abbrev shares_from : ℕ → ℕ → ℕ → List Ballot → List (List Ballot)
shares_from bits first count set = map (λ part. share bits part set) (range_with_len first count)

pub share_own : (bits part : ℕ) (set : List Ballot) → BelongsTo bits part (share bits part set)
share_own bits part set k d lt =
    let here = get_or (share bits part set) k d in
    eqb-true (part_of bits here.number) part (filter_passes (λ (b : Ballot). part_of bits b.number == part) set k d lt)

shares_own : (bits count : ℕ) (set : List Ballot) → AreOwn bits (shares_from bits 0 count set)
shares_own bits count set part lt =
    let within : part < count = omega (arith, lt, length-map-range_with_len (λ part. share bits part set) 0 count) in
    let is = get_or-map-range_with_len (λ part. share bits part set) 0 count part part [] within (omega arith) in
    subst (BelongsTo bits part) (sym is) (share_own bits part set)

-- ---- the disks as the looks left them

abbrev Reads : {D : Type 0} → DiskModel D → D → D → Type 0
Reads model old new = WritesNothing model.seen model.calls model.may_leave old new

-- from them on the session is seen
pub from_looks : {S K D : Type 0} (model : DiskModel D) (e : Election) (a : Status) (report : Reported) (old new : Input S) (sink sunk : Output K) (one after : D) (more now : List D)
    → (begun : PartsHaveBegun model e a report old new sink sunk one after more now)
    → BegunWith (part_model model (length more)) (λ text. text) e begun.set begun.answer old new (with_report sink begun.looked nothing_reported) (with_report sunk (after, now) report)
from_looks model e a report old new sink sunk one after more now begun =
    begun.goes_on begun.looked (record { size = AllZip-long (Reads model) more begun.looked.1 begun.others_read; each = λ part le. inl refl })

-- ---- what the media tell

module _ {D : Type 0} (model : DiskModel D) (e : Election) where
  -- each of them holds its share, where looks that wrote nothing left it so
  each_share : (bits first : ℕ) (set : List Ballot) (disks looked : List D) (bytes : List (List ℕ)) → AllZip (Reads model) disks looked → Tell model disks bytes
      → ((k part : ℕ) → k < length disks → part ≡ first + k → IfSome (seen_in model.seen (slice_get looked k)) (λ x. HoldsSet e x (share bits part set))) → AllZip (HoldsSet e) bytes (shares_from bits first (length disks) set)
  each_share bits first set [] [] [] reads tell held = tt
  each_share bits first set [] [] (told ∷ bytes) reads tell held = absurd tell
  each_share bits first set [] (now ∷ looked) bytes reads tell held = absurd reads
  each_share bits first set (disk ∷ disks) [] bytes reads tell held = absurd reads
  each_share bits first set (disk ∷ disks) (now ∷ looked) [] reads tell held = absurd tell
  each_share bits first set (disk ∷ disks) (now ∷ looked) (told ∷ bytes) reads tell held = (
    at_told (model.seen now) told (λ x. HoldsSet e x (share bits first set)) (reads.0.same_bytes ∙ tell.0) (held 0 first (omega arith) (omega arith)),
    each_share bits (first + 1) set disks looked bytes reads.1 tell.1 (λ k part lt is. held (suc k) part (omega (arith, lt)) (omega (arith, is))),
  )

  module _ (one after : D) (more now : List D) (content : Content) (is : model.seen one ≡ Some content.disk) (tell : Tell model more content.more) where
    abbrev bits : ℕ
    bits = bits_of (length more)

    abbrev Decides : Status → Type 0
    Decides a = MediaDecide e content a (SetsDecide bits content.script a)

    pub against_decides : (fault : PartFault) → IsDecided (open_status fault) → IsAgainst model model e one after more now fault → Decides (open_status fault)
    against_decides (faults.First why) decided against = inl (one_told model e one more content is tell why against.0.0)
    against_decides (faults.Other index why) decided against =
        let stops = against.2 in
        let at : index ≡ stops.place + 1 = stops.refused.0 in
        inr (inl (further_told model e one more content is tell now against.0.0 index why against.0.1 stops at stops.refused.2.0))
    against_decides (faults.Misplaced index number) decided against =
        inr (inr (all_told model e one more content is tell (SetsDecide bits content.script (status.Misplaced index number)) against.0 against.1 against.2.held against.2.each (inl (index, number, refl, against.3))))
    against_decides (faults.DiskFault zero) decided against = absurd decided
    against_decides (faults.DiskFault (suc place)) decided against = absurd decided
    against_decides faults.Memory decided against = absurd decided

    module _ {S K : Type 0} (a : Status) (report : Reported) (old new : Input S) (sink sunk : Output K) (told : old.left ≡ Some content.script) (decided : IsDecided a) where
      -- a session that ended with a decided status
      answer_decides : (answer : Result (Unit {0}) RunFault) → IsStatusOf model answer a one after more now
          → (IsDecided (ended_as run_status answer) → ScriptDecides content.script (ended_as run_status answer)) → ScriptDecides content.script a
      answer_decides (Err run.DiskFault) ended script = absurd (not_decided ended.0 (subst IsDecided ended.1 decided)) where
        not_decided : (part : ℕ) → IsDecided (disk_status part) → ⊥
        not_decided zero never = never
        not_decided (suc place) never = never
      answer_decides (Ok done) ended script = subst (ScriptDecides content.script) (sym ended) (script (subst IsDecided ended decided))
      answer_decides (Err other) ended script = subst (ScriptDecides content.script) (sym ended) (script (subst IsDecided ended decided))

      begun_decides : PartsHaveBegun model e a report old new sink sunk one after more now → Decides a
      begun_decides begun =
          let began = (from_looks model e a report old new sink sunk one after more now begun).0 in
          let first = at_told (model.seen begun.looked.0) content.disk (λ x. HoldsSet e x (share bits 0 began.set)) (begun.reads.same_bytes ∙ is) (began.held 0 (omega arith)) in
          let rest = each_share bits 1 began.set more begun.looked.1 content.more begun.others_read tell (λ k part lt at.
          let next : suc k ≡ part = omega (arith, at) in
          subst (λ n. IfSome (seen_in model.seen (slice_get begun.looked.1 k)) (λ x. HoldsSet e x (share bits n began.set))) next (began.held (suc k) (omega (arith, lt)))) in
          let script = answer_decides begun.answer begun.is (λ sure.
          handling_decides (part_model model (length more)) (λ text. text) e began.set began.lines began.effects began.state old new
          (with_report sink begun.looked nothing_reported) (with_report sunk (after, now) report) begun.answer content.script told sure began.ends) in
          inr (inr (record {
            set = share bits 0 began.set;
            sets = shares_from bits 1 (length more) began.set;
            held = first;
            each = rest;
            so = inr (shares_own bits (suc (length more)) began.set, script);
          }))

      pub part_decides : PartEnds model e a report old new sink sunk one after more now → PartDecides e content a
      part_decides ends =
          let size = AllZip-long (λ disk bytes. model.seen disk ≡ Some bytes) more content.more tell in
          subst (λ n. MediaDecide e content a (SetsDecide (bits_of n) content.script a)) (sym size) (⊎_elim
          (λ not. subst Decides (sym not.is) (against_decides not.fault (subst IsDecided not.is decided) not.against))
          begun_decides
          ends)

-- ---- no fault where no count rose

module _ {D : Type 0} (model : DiskModel D) where
  abbrev Steady : D → D → Type 0
  Steady old new = IsSteady (model.faults old) (model.faults new)

  none_risen : (more now : List D) (place : ℕ) → AllZip Steady more now → Rose (slot_count model.faults (slice_get more place)) (slot_count model.faults (slice_get now place)) → ⊥
  none_risen [] [] place still rose = let less = rose (omega arith) in omega (arith, less)
  none_risen [] (new ∷ now) place still rose = still
  none_risen (old ∷ more) [] place still rose = still
  none_risen (old ∷ more) (new ∷ now) zero still rose = not_risen (model.faults old) (model.faults new) still.0 rose
  none_risen (old ∷ more) (new ∷ now) (suc place) still rose = none_risen more now place still.1 rose

  module _ (e : Election) (one after : D) (more now : List D) (still : Steady one after) (others : AllZip Steady more now) where
    none_at : (part : ℕ) → RoseAt model model one after more now part → ⊥
    none_at zero rose = not_risen (model.faults one) (model.faults after) still rose
    none_at (suc place) rose = not_risen (model.faults rose.0) (model.faults rose.1) (zip_at Steady more now place rose.0 rose.1 others rose.2 rose.3) rose.4

    refused_settled : (why : MediumWhy) → IsDecided (refused_status (medium_fault why))
    refused_settled media.NoStore = tt
    refused_settled (media.OtherElection header) = tt
    refused_settled (media.Damaged cell) = tt

    pub against_settled : (fault : PartFault) → IsAgainst model model e one after more now fault → IsDecided (open_status fault) ⊎ (open_status fault ≡ status.Memory)
    against_settled (faults.First why) against = inl (refused_settled why)
    against_settled (faults.Other index why) against = inl tt
    against_settled (faults.Misplaced index number) against = inl tt
    against_settled (faults.DiskFault index) against = absurd (none_at index against.0)
    against_settled faults.Memory against = inr refl

    module _ {S K : Type 0} (a : Status) (report : Reported) (old new : Input S) (sink sunk : Output K) where
      answer_settled : (answer : Result (Unit {0}) RunFault) → IsStatusOf model answer a one after more now
          → (answer ≢ Err run.DiskFault → IsDecided (ended_as run_status answer) ⊎ (ended_as run_status answer ≡ status.Memory)) → IsDecided a ⊎ (a ≡ status.Memory)
      answer_settled (Err run.DiskFault) ended settled = absurd (failed ended.0 ended.2.blamed.rose) where
        failed : (part : ℕ) → Rose ((models_of model model part).faults (one, more)) ((models_of model model part).faults (after, now)) → ⊥
        failed zero rose = not_risen (model.faults one) (model.faults after) still rose
        failed (suc place) rose = none_risen more now place others rose
      answer_settled (Ok done) ended settled = settled_as a status.Ok ended (inl tt)
      answer_settled (Err other) ended settled = settled_as a (run_status other) ended (settled (λ is. cc))

      part_settled : IsSteady old.faults new.faults → IsSteady sink.faults sunk.faults → PartEnds model e a report old new sink sunk one after more now → IsDecided a ⊎ (a ≡ status.Memory)
      part_settled script taken ends = ⊎_elim
          (λ not. settled_as a (open_status not.fault) not.is (against_settled not.fault not.against))
          (λ begun.
          let began = (from_looks model e a report old new sink sunk one after more now begun).0 in
          answer_settled begun.answer begun.is (λ other.
          handling_settled (part_model model (length more)) (λ text. text) e began.set began.lines began.effects began.state old new
          (with_report sink begun.looked nothing_reported) (with_report sunk (after, now) report) begun.answer script taken other began.ends))
          ends

-- ---- it never answers that the words form no command

is_status : (fault : PartFault) → status.Usage ≡ open_status fault → ⊥
is_status (faults.First media.NoStore) is = cc
is_status (faults.First (media.OtherElection header)) is = cc
is_status (faults.First (media.Damaged cell)) is = cc
is_status (faults.Other index why) is = cc
is_status (faults.Misplaced index number) is = cc
is_status (faults.DiskFault zero) is = cc
is_status (faults.DiskFault (suc place)) is = cc
is_status faults.Memory is = cc

module _ {D : Type 0} (model : DiskModel D) (one after : D) (more now : List D) where
  answer_no_usage : (answer : Result (Unit {0}) RunFault) → IsStatusOf model answer status.Usage one after more now → ⊥
  answer_no_usage (Err run.DiskFault) ended = is_status (faults.DiskFault ended.0) ended.1
  answer_no_usage (Ok done) ended = never_usage (Ok done) ended
  answer_no_usage (Err other) ended = never_usage (Err other) ended

-- ---- the row

pub part_laws : Laws part_row
part_laws = record {
  Cause = PartDecides;
  caused = λ model e a report before after content tells decided ends.
      part_decides model e before.disk after.disk before.more after.more content tells.disk tells.more a report before.streams.script after.streams.script before.streams.sink after.streams.sink tells.script decided ends;
  one = one_part;
  settled = λ model e a report before after none ends.
      part_settled model e before.disk after.disk before.more after.more none.disk none.more a report before.streams.script after.streams.script before.streams.sink after.streams.sink none.script none.sink ends;
  served = λ e content a words valid parts opens decides.
      one_part e content a status.Ok valid decides (inr (inr (all_as opens.media (λ sets own. inr (own, inl (refl, opens.script))))));
  no_usage = λ model e report before after ends. ⊎_elim
      (λ not. is_status not.fault not.is)
      (λ begun. answer_no_usage model before.disk after.disk before.more after.more begun.answer begun.is)
      ends;
}
