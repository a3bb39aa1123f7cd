-- What the next run makes of parts that were left with shares of two sets.
use Rattle.std.proofs.Common.{◌≡◌, ◌⊎◌, ◌≤◌, ◌<◌, ◌+◌, ⊎_elim, ℕ, zero, suc, List, [], ◌∷◌, get_or, length, Some, inl, inr, refl, sym, ap, subst, ◌∙◌, arith}
use Rattle.store_spec.proofs.Common.{AllZip, AllZip-long, Ballot, DiskModel, Election, HoldsSet, IfSome, IsElection, get_or_from_slice_get, script_limit, share, slice_get}
use Rattle.image_builder.proofs.Held.{one_held}
use Rattle.medium_commands.proofs.Several.{Tell, all_as, one_of_media}
use Rattle.medium_commands.specs.Several.{MediaHold}
use Rattle.outside_io.specs.Outside.{Input, Output}
use Rattle.part_commands.proofs.PartLaws.{SetsDecide, against_decides, against_settled, from_looks, one_of_sets, one_part, part_decides, part_laws, share_own}
use Rattle.part_commands.proofs.Together.{stands}
use Rattle.part_commands.specs.Part.{AreOwn, PartsHaveBegun, PartsNotBegun, open_status}
use Rattle.part_commands.specs.Standing.{BeginsOfTwo, HoldsShare, HoldsShareOf, RunsOnTwo}
use Rattle.parted_store.specs.Slots.{models_of, seen_in}
use Rattle.partition_store.proofs.SideBySide.{zip_to}
use Rattle.partition_store.specs.Opening.{IsAgainst}
use Rattle.partition_store.specs.Parted.{BelongsTo, bits_of}
use Rattle.partition_store.specs.declared.fault.PartFault.{PartFault}
use Rattle.partition_store.specs.declared.fault.PartFault.TheVariants as faults
use Rattle.recovery.specs.ReadsOnly.{WritesNothing}
use Rattle.recovery.specs.declared.fault.MediumWhy.TheVariants as media
use Rattle.run_outcome.proofs.Laws.{at_told}
use Rattle.run_outcome.specs.Row.{Content}
use Rattle.run_outcome.specs.Status.{IsDecided}
use Rattle.run_outcome.specs.World.{Reported, World}
use Rattle.run_outcome.specs.declared.status.Status.{Status}
use Rattle.run_outcome.specs.declared.status.Status.TheVariants as status

-- ---- all media hold sets whose ballots belong there

-- the bytes hold such a set
pub record HoldsOwn (e : Election) (bits part : ℕ) (bytes : List ℕ) : Type 0 where
  pub own : List Ballot
  pub held : HoldsSet e bytes own
  pub belongs : BelongsTo bits part own

-- the sets that further media hold, from this part on
pub record AllOwn (e : Election) (bits first : ℕ) (bytes : List (List ℕ)) : Type 0 where
  pub sets : List (List Ballot)
  pub held : AllZip (HoldsSet e) bytes sets
  pub belong : (k part : ℕ) → k < length sets → part ≡ first + k → BelongsTo bits part (get_or sets k [])

all_own : (e : Election) (bits first : ℕ) (bytes : List (List ℕ)) → ((k part : ℕ) → k < length bytes → part ≡ first + k → HoldsOwn e bits part (get_or bytes k [])) → AllOwn e bits first bytes
all_own e bits first [] each = record { sets = []; held = tt; belong = λ k part lt is. absurd (omega (arith, lt)) }
all_own e bits first (told ∷ bytes) each =
    let rest = all_own e bits (first + 1) bytes (λ k part lt is. each (suc k) part (omega (arith, lt)) (omega (arith, is))) in
    let here = each 0 first (omega arith) (omega arith) in
    record { sets = here.own ∷ rest.sets; held = (here.held, rest.held); belong = belong_from bits first here.own rest.sets here.belongs rest.belong }
  where
    belong_from : (bits first : ℕ) (own : List Ballot) (sets : List (List Ballot)) → BelongsTo bits first own → ((k part : ℕ) → k < length sets → part ≡ first + 1 + k → BelongsTo bits part (get_or sets k []))
        → (k part : ℕ) → k < length (own ∷ sets) → part ≡ first + k → BelongsTo bits part (get_or (own ∷ sets) k [])
    belong_from bits first own sets here rest zero part lt is =
        let same : first ≡ part = omega (arith, is) in
        subst (λ (n : ℕ). BelongsTo bits n own) same here
    belong_from bits first own sets here rest (suc k) part lt is = rest k part (omega (arith, lt)) (omega (arith, is))

module _ (e : Election) (old other : List Ballot) (content : Content) (each : (part : ℕ) → part ≤ length content.more → HoldsShare e content part old ⊎ HoldsShare e content part other) where
  abbrev bits : ℕ
  bits = bits_of (length content.more)

  own_at : (part : ℕ) → part ≤ length content.more → HoldsOwn e bits part (get_or (content.disk ∷ content.more) part [])
  own_at part few = ⊎_elim
      (λ (holds : HoldsShare e content part old). record { own = share bits part old; held = holds; belongs = share_own bits part old })
      (λ (holds : HoldsShare e content part other). record { own = share bits part other; held = holds; belongs = share_own bits part other })
      (each part few)

  all_hold : MediaHold e content (AreOwn bits)
  all_hold =
      let first = own_at 0 (omega arith) in
      let rest = all_own e bits 1 content.more (λ k part lt is.
      let next : suc k ≡ part = omega (arith, is) in
      subst (λ (n : ℕ). HoldsOwn e bits n (get_or content.more k [])) next (own_at (suc k) (omega (arith, lt)))) in
      record { set = first.own; sets = rest.sets; held = first.held; each = rest.held; so = own first.own rest.sets first.belongs rest.belong }
    where
      own : (set : List Ballot) (sets : List (List Ballot)) → BelongsTo bits 0 set → ((k part : ℕ) → k < length sets → part ≡ 1 + k → BelongsTo bits part (get_or sets k [])) → AreOwn bits (set ∷ sets)
      own set sets first rest zero lt = first
      own set sets first rest (suc k) lt = rest k (suc k) (omega (arith, lt)) (omega arith)

-- ---- so they are opened

not_well : (fault : PartFault) → open_status fault ≡ status.Ok → ⊥
not_well (faults.First media.NoStore) is = cc
not_well (faults.First (media.OtherElection header)) is = cc
not_well (faults.First (media.Damaged cell)) is = cc
not_well (faults.Other index why) is = cc
not_well (faults.Misplaced index number) is = cc
not_well (faults.DiskFault zero) is = cc
not_well (faults.DiskFault (suc place)) is = cc
not_well faults.Memory is = cc

-- the same media, and an empty script
abbrev unscripted : Content → Content
unscripted content = record { script = []; disk = content.disk; more = content.more }

module _ {D : Type 0} (model : DiskModel D) (e : Election) (valid : IsElection e) (one after : D) (more now : List D) (content : Content) (is : model.seen one ≡ Some content.disk) (tell : Tell model more content.more) where
  size : length content.more ≡ length more
  size = AllZip-long (λ disk bytes. model.seen disk ≡ Some bytes) more content.more tell

  not_against : (fault : PartFault) → IsDecided (open_status fault) → IsAgainst model model e one after more now fault → MediaHold e content (AreOwn (bits_of (length content.more))) → ⊥
  not_against fault decided against all =
      let bits = bits_of (length more) in
      let bare = unscripted content in
      let none : length bare.script ≤ script_limit = omega arith in
      let holds : MediaHold e bare (AreOwn bits) = record { set = all.set; sets = all.sets; held = all.held; each = all.each; so = subst (λ (n : ℕ). AreOwn (bits_of n) (all.set ∷ all.sets)) size all.so } in
      not_well fault (one_of_media e bare valid (open_status fault) status.Ok (SetsDecide bits [] (open_status fault)) (SetsDecide bits [] status.Ok)
      (one_of_sets bits [] (open_status fault) status.Ok)
      (against_decides model e one after more now bare is tell fault decided against)
      (inr (inr (all_as holds (λ sets own. inr (own, inl (refl, none)))))))

  module _ {S K : Type 0} (a : Status) (report : Reported) (old_script new_script : Input S) (sink sunk : Output K) where
    module _ (begun : PartsHaveBegun model e a report old_script new_script sink sunk one after more now) where
      -- each part holds its share of the set with which the session began
      share_held : (part : ℕ) → part ≤ length content.more → HoldsShare e content part begun.set
      share_held part few =
          let began = from_looks model e a report old_script new_script sink sunk one after more now begun in
          subst (λ (set : List Ballot). HoldsShare e content part set) began.1
          (subst (λ (n : ℕ). HoldsSet e (get_or (content.disk ∷ content.more) part []) (share (bits_of n) part began.0.set)) (sym size)
          (at_part began.0.set began.0.held part (omega (arith, few, size))))
        where
          at_part : (set : List Ballot)
              → ((part : ℕ) → part ≤ length more → IfSome ((models_of model model part).seen begun.looked) (λ x. HoldsSet e x (share (bits_of (length more)) part set)))
              → (part : ℕ) → part ≤ length more → HoldsSet e (get_or (content.disk ∷ content.more) part []) (share (bits_of (length more)) part set)
          at_part set held zero few = at_told (model.seen begun.looked.0) content.disk (λ x. HoldsSet e x (share (bits_of (length more)) 0 set)) (begun.reads.same_bytes ∙ is) (held 0 few)
          at_part set held (suc k) few =
              let there = stands more k (omega (arith, few)) in
              let looked = zip_to (WritesNothing model.seen model.calls model.may_leave) more begun.looked.1 k there.0 begun.others_read there.1 in
              let told = zip_to (λ disk bytes. model.seen disk ≡ Some bytes) more content.more k there.0 tell there.1 in
              let sees : seen_in model.seen (slice_get begun.looked.1 k) ≡ Some told.0 = ap (seen_in model.seen) looked.1 ∙ looked.2.same_bytes ∙ told.2 in
              subst (λ (bytes : List ℕ). HoldsSet e bytes (share (bits_of (length more)) (suc k) set)) (sym (get_or_from_slice_get content.more k told.0 [] told.1))
              (at_told (seen_in model.seen (slice_get begun.looked.1 k)) told.0 (λ x. HoldsSet e x (share (bits_of (length more)) (suc k) set)) sees (held (suc k) few))

      -- so it is that of a set of which the medium held it
      share_is : (part : ℕ) → part ≤ length content.more → (set : List Ballot) → HoldsShare e content part set → HoldsShareOf e content part begun.set set
      share_is part few set holds =
          let bits = bits_of (length content.more) in
          let both : Some (share bits part begun.set) ≡ Some (share bits part set) = one_held e (get_or (content.disk ∷ content.more) part []) (Some (share bits part begun.set)) (Some (share bits part set)) valid (share_held part few) holds in
          let same : share bits part begun.set ≡ share bits part set = cc in
          (holds, same)

-- ---- the laws

module _ {S K D : Type 0} (model : DiskModel D) (e : Election) (old other : List Ballot) (content : Content) (a : Status) (report : Reported) (before after : World S K D) (valid : IsElection e) (runs : RunsOnTwo model e old other content a report before after) where
  -- it is not refused
  not_refused : PartsNotBegun model e a report before.streams.script after.streams.script before.streams.sink after.streams.sink before.disk after.disk before.more after.more → a ≡ status.Memory
  not_refused not = ⊎_elim
      (λ decided. absurd (not_against model e valid before.disk after.disk before.more after.more content runs.tells.disk runs.tells.more not.fault decided not.against (all_hold e old other content runs.each)))
      (λ memory. not.is ∙ memory)
      (against_settled model e before.disk after.disk before.more after.more runs.none_failed.disk runs.none_failed.more not.fault not.against)

  pub opened : BeginsOfTwo model e old other content a report before after ⊎ (a ≡ status.Memory)
  opened = ⊎_elim
      (λ not. inr (not_refused not))
      (λ begun. inl (record {
        begun = begun;
        each = λ part few. ⊎_elim
            (λ holds. inl (is begun part few old holds))
            (λ holds. inr (is begun part few other holds))
            (runs.each part few);
      }))
      runs.ends
    where
      is : (begun : PartsHaveBegun model e a report before.streams.script after.streams.script before.streams.sink after.streams.sink before.disk after.disk before.more after.more)
          → (part : ℕ) → part ≤ length content.more → (set : List Ballot) → HoldsShare e content part set → HoldsShareOf e content part begun.set set
      is = share_is model e valid before.disk after.disk before.more after.more content runs.tells.disk runs.tells.more a report before.streams.script after.streams.script before.streams.sink after.streams.sink

  pub ends_well : length content.script ≤ script_limit → (a ≡ status.Ok) ⊎ (a ≡ status.Memory)
  ends_well short = ⊎_elim
      (λ decided. inl (one_part e content a status.Ok valid
      (part_decides model e before.disk after.disk before.more after.more content runs.tells.disk runs.tells.more a report before.streams.script after.streams.script before.streams.sink after.streams.sink runs.tells.script decided runs.ends)
      (inr (inr (all_as (all_hold e old other content runs.each) (λ sets own. inr (own, inl (refl, short))))))))
      inr
      (part_laws.settled model e a report before after runs.none_failed runs.ends)
