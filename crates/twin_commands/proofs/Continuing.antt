-- What becomes of two disks that were made one.
use Rattle.std.proofs.Common.{◌≡◌, ◌≢◌, ◌⊎◌, ℕ, ◌+◌, ◌<◌, ◌≤◌, List, [], map, length, Option, Some, None, Result, Err, zero, suc, inl, inr, ⊎_elim, refl, sym, ◌∙◌, ap, subst, arith}
use Rattle.store_spec.proofs.Common.{AddsNoCrashImage, Ballot, DiskModel, Election, ForSome, HoldsSet, IfSome, IsElection, IsMediumOf, LeavesOnly, Rose, after_calls, begun, is_some, last_count}
use Rattle.std.specs.Prelude.{◌↔◌}
use Rattle.body_store.specs.Contents.{Contents, IsStored}
use Rattle.crash_disk.proofs.Moments.{next_count-below, one_call, settled-only}
use Rattle.image_builder.proofs.Held.{medium_holds}
use Rattle.outside_io.proofs.Told.{told_holds}
use Rattle.outside_io.specs.Outside.{Input, Output}
use Rattle.outside_io.specs.Stream.{TakesSome}
use Rattle.phase_gate.specs.Around.{with_rows}
use Rattle.any_store.specs.Beside.{calls_beside}
use Rattle.any_store.specs.Checkpointed.{IsMediumNow}
use Rattle.any_store.specs.Disks.{one_store}
use Rattle.any_store.specs.Disks.StoreDisks.{Alone}
use Rattle.run_outcome.specs.Status.{ended_as}
use Rattle.run_outcome.specs.World.{Reported, nothing_reported}
use Rattle.run_outcome.specs.declared.status.Status.{Status}
use Rattle.session_commands.specs.Session.{run_status}
use Rattle.session_run.proofs.Marks.{stands_first, stood_now}
use Rattle.session_run.specs.Ends.{GoesOn, HandlingEnds, HasBegun}
use Rattle.session_run.specs.History.{Acknowledged, Stood}
use Rattle.session_run.specs.declared.fault.RunFault.{RunFault}
use Rattle.session_run.specs.declared.fault.RunFault.TheVariants as run
use Rattle.twin_commands.proofs.Beginning.{synced_begins}
use Rattle.twin_commands.proofs.Both.{Begins, IsTwin, below, both, both_lead, first_counts, second_counts}
use Rattle.twin_commands.specs.Twin.{Continues, FailsBoth, FailsSync, IsBlame, IsReady, IsSynced, SyncsAndGoesOn, WritesPart, TwinBlames, TwinPlays, WentOn, around_disk, paired_text}
use Rattle.twin_commands.proofs.Playing.{first_apart, second_apart, twin_plays}
use Rattle.twin_media.specs.declared.pairing.Paired.{Paired}
use Rattle.twin_media.proofs.Apart.{first-apart, second-apart}
use Rattle.twin_media.specs.Leads.{SideLeads, TwinFails}
use Rattle.twin_media.specs.State.{TwinState}

-- of two disks, the one that is not the first
the_second : (o : Option ℕ) → o ≢ None → ForSome o (λ disk. disk ≤ 1) → o ≢ Some 0 → o ≡ Some 1
the_second None some few not = absurd (some refl)
the_second (Some zero) some few not = absurd (not refl)
the_second (Some (suc k)) some few not = let is : k ≡ 0 = let le = few (suc k) refl in omega (arith, le) in ap (λ k. Some (suc k)) is

-- no moment up to the first of three states changed
past_on : {D : Type 0} (model : DiskModel D) (leads_to : D → D → Type 0) (old mid new : D) → SideLeads model leads_to old mid → SideLeads model leads_to mid new
    → model.calls new < last_count → (k : ℕ) → k ≤ after_calls (model.calls old) → (c : List ℕ) → model.may_leave new k c ↔ model.may_leave old k c
past_on model leads_to old mid new one two below k le c =
    let before = one.past (omega (arith, below, two.later)) k le c in
    let after = two.past below k (omega (arith, le, one.later)) c in
    (λ left. before.0 (after.0 left), λ left. after.1 (before.1 left))

module _ {A B T : Type 0} (m : DiskModel A) (one_leads : A → A → Type 0) (n : DiskModel B) (two_leads : B → B → Type 0) (view : T → TwinState A B) (twins : IsTwin m one_leads n two_leads view) (start now : T)
    (begins : Begins m one_leads n two_leads view start) (leads : both_lead m one_leads n two_leads view start now) where
  -- a call failed, and so one of the disks did
  pub blames_of : (a : Status) → Rose (view start).faults (view now).faults → (view start).faults ≡ 0 → ForSome (view now).failed (λ disk. disk ≤ 1) → IsBlame (m.calls (view now).first) (n.calls (view now).second) (view now).failed a
      → TwinBlames m n (view start).first (view now).first (view start).second (view now).second a
  blames_of a rose none_yet few blame =
      let P : Status → Type 0 = λ a. TwinBlames m n (view start).first (view now).first (view start).second (view now).second a in
      let failed : (view now).failed ≢ None = λ none. let same = leads.no_fault none in let low = begins.few in let more = rose (omega (arith, same, none_yet, low)) in absurd (omega (arith, same, more, none_yet)) in
      ⊎_elim
      (λ memory. subst P (sym memory.0) memory.1)
      (λ fault.
      ⊎_elim
      (λ first. subst P (sym first.0) (⊎_elim (λ rose. rose) (λ end. absurd (fault.0 end)) (leads.first_failed begins.none first.1), leads.first_alone begins.none first.1))
      (λ second.
      let is = the_second (view now).failed failed few second.1 in
      subst P (sym second.0) (refl, ⊎_elim (λ rose. rose) (λ end. absurd (fault.1 end)) (leads.second_failed begins.none is), leads.second_alone begins.none is))
      fault.2)
      blame

  module _ (e : Election) (set : List Ballot) (election : IsElection e) (medium : IfSome (m.seen (view start).first) (λ bytes. IsMediumOf e bytes set)) (ends : ((view now).failed ≡ None) ⊎ TwinFails (view start) (view now))
      (adds : AddsNoCrashImage (both m one_leads n two_leads view).calls (both m one_leads n two_leads view).may_leave start now) where
    -- the sync of both failed: each holds what it held
    run_both : (bytes : List ℕ) → m.seen (view start).first ≡ Some bytes → LeavesOnly (both m one_leads n two_leads view).calls (both m one_leads n two_leads view).may_leave start now (λ image. HoldsSet e image set)
    run_both bytes sees =
        one_call (both m one_leads n two_leads view).calls (both m one_leads n two_leads view).may_leave start now (λ image. HoldsSet e image set)
        (λ c left.
        let is : c ≡ bytes = settled-only (both m one_leads n two_leads view).calls (both m one_leads n two_leads view).may_leave (both m one_leads n two_leads view).seen start bytes c begins.settled sees left in
        subst (λ x. HoldsSet e x set) (sym is) (medium_holds e bytes set election (told_holds (λ x. IsMediumOf e x set) bytes sees medium)))
        adds

    pub first_held : (bytes : List ℕ) → m.seen (view start).first ≡ Some bytes → LeavesOnly m.calls m.may_leave (view start).first (view now).first (λ image. HoldsSet e image set)
    first_held bytes sees =
        first-apart m one_leads n two_leads view start now (λ image. HoldsSet e image set) (sym begins.calls) (twins.counted now).first_counted
        (λ _. below m one_leads n two_leads view twins start now begins leads ends) leads.first (run_both bytes sees)

    pub second_held : (bytes : List ℕ) → n.seen (view start).second ≡ Some bytes → LeavesOnly n.calls n.may_leave (view start).second (view now).second (λ image. HoldsSet e image set)
    second_held bytes sees =
        second-apart m one_leads n two_leads view start now (λ image. HoldsSet e image set) (omega (arith, begins.calls, begins.first_begun, begins.second_begun)) (omega (arith, begins.second_begun)) leads.first_begun leads.second_begun (twins.counted now).second_counted
        (λ _. below m one_leads n two_leads view twins start now begins leads ends) leads.second (run_both bytes (begins.alike ∙ sees))

  -- ---- all of it

  module _ (store : Contents) (stored : IsStored store) (election : IsElection store.election) (first_medium : IsMediumNow m store.election store.ballots (view start).first) (second_medium : IsMediumNow n store.election store.ballots (view start).second)
      (alike : (view now).failed ≡ None → m.seen (view now).first ≡ n.seen (view now).second) (zero_faults : (view start).faults ≡ 0) (few : ForSome (view now).failed (λ disk. disk ≤ 1)) where
    medium_both : IsMediumNow (both m one_leads n two_leads view) store.election store.ballots start
    medium_both = record { settled = begins.settled; medium = first_medium.medium }

    first_ready : IsReady m store.election store.ballots (view start).first (view start).first (view now).first
    first_ready = record { medium = first_medium; told = refl; told_after = leads.first.told; no_fault = refl; past = leads.first.past }

    second_ready : IsReady n store.election store.ballots (view start).second (view start).second (view now).second
    second_ready = record { medium = second_medium; told = refl; told_after = leads.second.told; no_fault = refl; past = leads.second.past }

    module _ {S K : Type 0} (paired : Paired) (a : Status) (report : Reported) (old new : Input S) (sink sunk : Output K) (answer : Result (Unit {0}) RunFault)
        (fails : answer ≡ Err run.DiskFault → TwinFails (view start) (view now))
        (blame : answer ≡ Err run.DiskFault → IsBlame (m.calls (view now).first) (n.calls (view now).second) (view now).failed a)
        (told : answer ≢ Err run.DiskFault → a ≡ ended_as run_status answer) where
      fails_both : (was : Reported) → was ≡ nothing_reported → answer ≡ Err run.DiskFault → FailsSync (both m one_leads n two_leads view) old new sink sunk was report start now
          → FailsBoth m n store.election store.ballots a report old new sink sunk (view start).first (view now).first (view start).second (view now).second
      fails_both was nothing is f = record {
        blames = blames_of a f.rose zero_faults few (blame is);
        told = leads.first.told;
        other_told = leads.second.told;
        first = first_held store.election store.ballots election first_medium.medium (inr (fails is)) f.images;
        second = second_held store.election store.ballots election first_medium.medium (inr (fails is)) f.images;
        script = f.script;
        nothing_written = f.nothing_written;
        reported = f.reported ∙ nothing;
      }

      module _ (s : SyncsAndGoesOn (both m one_leads n two_leads view) (both_lead m one_leads n two_leads view) store.election store.ballots paired answer (m.calls (view start).first, n.calls (view start).second) old new sink (with_rows (around_disk sunk now report.marks report.held) report.others) report start) where
        next : (view s.mid).calls ≡ (view start).calls + 1
        next = let few = begins.few in s.images.counted ∙ next_count-below (view start).calls (omega (arith, begins.calls, few))

        has : (mid : Output K) → HasBegun (one_store (both m one_leads n two_leads view)) store.election store.ballots (begun store.ballots) (around_disk mid start [] (length store.ballots)) (around_disk mid s.mid [] (length store.ballots))
        has mid = synced_begins (both m one_leads n two_leads view) store mid start s.mid election stored medium_both s.same_bytes (ap is_some s.same_bytes) s.settled s.images s.steady

        mid_none : (view s.mid).failed ≡ None
        mid_none = s.leads.none_failed s.steady ∙ begins.none

        -- the sync of both succeeded
        stood_mid : Stood (Alone (both m one_leads n two_leads view)) (both_lead m one_leads n two_leads view) s.mid s.mid []
        stood_mid = stood_now (Alone (both m one_leads n two_leads view)) (both_lead m one_leads n two_leads view) twins.itself s.mid s.mid [] (twins.itself s.mid) (stands_first (Alone (both m one_leads n two_leads view)) s.mid [] refl)

        first_synced : IsSynced m store.election store.ballots (view start).first (view s.mid).first (view now).first
        first_synced = record {
          called = let counts = first_counts m one_leads n two_leads view twins start s.mid begins s.leads (inl mid_none) mid_none in omega (arith, counts, next);
          stands = first_apart m one_leads n two_leads view twins start s.mid s.mid begins s.leads s.steady next s.leads (twins.alike s.mid) [] stood_mid store.election store.ballots [] [] (begun store.ballots) a old new sink sunk report.held report.others mid_none [] (has sink).acknowledged;
          later = let one = s.stood.before.first.later in let two = s.stood.after.first.later in omega (arith, one, two);
          faults = let one = s.stood.before.first.faults in let two = s.stood.after.first.faults in omega (arith, one, two);
          past = past_on m one_leads (view s.mid).first (view s.stood.mid).first (view now).first s.stood.before.first s.stood.after.first;
        }

        second_synced : IsSynced n store.election store.ballots (view start).second (view s.mid).second (view now).second
        second_synced = record {
          called = let counts = second_counts m one_leads n two_leads view twins start s.mid begins s.leads (inl mid_none) mid_none in omega (arith, counts, next);
          stands = second_apart m one_leads n two_leads view twins start s.mid s.mid begins s.leads s.steady next s.leads (twins.alike s.mid) [] stood_mid store.election store.ballots [] [] (begun store.ballots) a old new sink sunk report.held report.others mid_none [] (has sink).acknowledged;
          later = let one = s.stood.before.second.later in let two = s.stood.after.second.later in omega (arith, one, two);
          faults = let one = s.stood.before.second.faults in let two = s.stood.after.second.faults in omega (arith, one, two);
          past = past_on n two_leads (view s.mid).second (view s.stood.mid).second (view now).second s.stood.before.second s.stood.after.second;
        }

        plays : (mid : Output K) → GoesOn (one_store (both m one_leads n two_leads view)) (λ text. text) store.election (begun store.ballots) answer old new (around_disk mid s.mid [] (length store.ballots)) (with_rows (around_disk sunk now report.marks report.held) report.others)
            → TwinPlays m n store.election store.ballots a report old new mid sunk (view start).first (view now).first (view start).second (view now).second
        plays mid goes =
            let one = goes store.ballots (around_disk mid start [] (length store.ballots)) (has mid) in
            twin_plays m one_leads n two_leads view twins start s.mid now begins s.leads s.steady next leads alike report.marks s.stood
            store.election store.ballots a report old new mid sunk answer refl s.others fails told
            (λ is. blames_of a (subst (λ r. HandlingEnds (one_store (both m one_leads n two_leads view)) (λ text. text) store.election one.0.set one.0.lines one.0.effects one.0.state r old new (around_disk mid start [] (length store.ballots)) (with_rows (around_disk sunk now report.marks report.held) report.others)) is one.0.ends).0.rose zero_faults few (blame is))
            one

        cut : new ≡ old → now ≡ s.mid → report.marks ≡ [] → report.held ≡ length store.ballots → answer ≡ Err run.WriteFault → TakesSome sink.taken (paired_text paired) sunk.taken → Rose sink.faults sunk.faults
            → WritesPart m n store.election store.ballots paired a report old new sink sunk (view start).first (view now).first (view start).second (view now).second
        cut script there none count is part rose =
            let now_none : (view now).failed ≡ None = subst (λ t. (view t).failed ≡ None) (sym there) mid_none in
            let stood = subst (Stood (Alone (both m one_leads n two_leads view)) (both_lead m one_leads n two_leads view) s.mid now) none s.stood in
            let was = subst (λ t. Acknowledged (both m one_leads n two_leads view) store.election store.ballots [] start t []) (sym there) (has sink).acknowledged in
            record {
              script = script;
              part = part;
              failed = told (λ other. let clash = sym is ∙ other in cc) ∙ ap (ended_as run_status) is;
              rose = rose;
              marks = none;
              others = s.others ∙ ap (map (calls_beside (Some (m.calls (view start).first, n.calls (view start).second)))) none;
              held = count;
              first = first_apart m one_leads n two_leads view twins start s.mid now begins s.leads s.steady next leads alike [] stood store.election store.ballots [] [] (begun store.ballots) a old new sink sunk report.held report.others now_none [] was;
              second = second_apart m one_leads n two_leads view twins start s.mid now begins s.leads s.steady next leads alike [] stood store.election store.ballots [] [] (begun store.ballots) a old new sink sunk report.held report.others now_none [] was;
            }

        went_on : WentOn m n store.election store.ballots paired a report old new sink sunk (view start).first (view now).first (view start).second (view now).second
        went_on = record {
          begun = s.begun_is;
          first = first_ready;
          second = second_ready;
          synced = (view s.mid).first;
          other_synced = (view s.mid).second;
          first_synced = first_synced;
          second_synced = second_synced;
          goes_on = ⊎_elim
              (λ part. inl (cut part.0 part.1 part.2 part.3 part.4 part.5 part.6))
              (λ whole. inr (record { mid = whole.0; taken = whole.1; no_fault = whole.2; plays = plays whole.0 whole.3 }))
              s.goes_on;
        }

      pub continues : (was : Reported) → was ≡ nothing_reported
          → (((answer ≡ Err run.DiskFault) × FailsSync (both m one_leads n two_leads view) old new sink sunk was report start now)
          ⊎ SyncsAndGoesOn (both m one_leads n two_leads view) (both_lead m one_leads n two_leads view) store.election store.ballots paired answer (m.calls (view start).first, n.calls (view start).second) old new sink (with_rows (around_disk sunk now report.marks report.held) report.others) report start)
          → Continues m n store.election store.ballots paired a report old new sink sunk (view start).first (view now).first (view start).second (view now).second
      continues was nothing either = ⊎_elim (λ failed. inl (fails_both was nothing failed.0 failed.1)) (λ s. inr (went_on s)) either
