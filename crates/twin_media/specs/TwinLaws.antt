-- The laws of a disk over two disks. A type's members may cite no proofs of their own crate, so what proves these laws
-- stands here, and nothing else.
use Rattle.std.proofs.Common.{◌≡◌, ℕ, ◌+◌, ◌≤◌, min, List, Option, Some, None, refl, sym, ◌∙◌, ap, subst, inl, inr, arith, ⊎_elim}
use Rattle.std.specs.Prelude.{◌⊎◌, is_some, IsSome}
use Rattle.store_spec.specs.Fault.{last_count, Rose}
use Rattle.store_spec.specs.Disk.{DiskModel, after_calls, leaves_now}
use Rattle.twin_media.specs.State.{TwinState, twin_leaves}
use Rattle.twin_media.specs.Leads.{SideLeads, IsBlamed, TwinFails, TwinLeads}

none-or-some : (failed : Option ℕ) → (failed ≡ None) ⊎ IsSome failed
none-or-some None = inl refl
none-or-some (Some n) = inr refl

none-or-some-not : (failed : Option ℕ) → failed ≡ None → IsSome failed → ⊥
none-or-some-not failed none some = grind arith

-- ---- one of the two disks

module _ {D : Type 0} (disk : DiskModel D) (leads_to : D → D → Type 0) where
  pub side-itself : ((d : D) → leads_to d d) → (d : D) → SideLeads disk leads_to d d
  side-itself itself d = record {
    leads = itself d;
    later = omega arith;
    past = λ lt m le c. (λ left. left, λ left. left);
    faults = omega arith;
    told = refl;
  }

  pub side-on : ((old mid new : D) → leads_to old mid → leads_to mid new → leads_to old new) → (old mid new : D) → SideLeads disk leads_to old mid → SideLeads disk leads_to mid new → SideLeads disk leads_to old new
  side-on on old mid new one two = record {
    leads = on old mid new one.leads two.leads;
    later = omega (arith, one.later, two.later);
    past = λ lt m le c.
        let before = one.past (omega (arith, two.later)) m le c in
        let after = two.past lt m (omega (arith, one.later)) c in
        (λ left. before.0 (after.0 left), λ left. after.1 (before.1 left));
    faults = omega (arith, one.faults, two.faults);
    told = two.told ∙ one.told;
  }

-- ---- both disks

module _ {A B : Type 0} (first : DiskModel A) (first_leads : A → A → Type 0) (second : DiskModel B) (second_leads : B → B → Type 0) where
  pub twin-itself : ((a : A) → first_leads a a) → ((b : B) → second_leads b b) → (twin : TwinState A B) → TwinLeads first first_leads second second_leads twin twin
  twin-itself first_itself second_itself twin = record {
    same_first = refl;
    same_second = refl;
    first_begun = refl;
    second_begun = refl;
    first = side-itself first first_leads first_itself twin.first;
    second = side-itself second second_leads second_itself twin.second;
    stays = λ failed. (refl, refl, refl);
    later = omega arith;
    no_fault = λ none. refl;
    none_failed = λ same. refl;
    steady = λ none. (refl, refl);
    passed = omega arith;
    counts = λ below. below;
    first_failed = λ none some. absurd (cc);
    second_failed = λ none some. absurd (cc);
    first_alone = λ none some. absurd (cc);
    second_alone = λ none some. absurd (cc);
  }

  -- a state in which none failed came from one in which none failed
  pub none-before : (old new : TwinState A B) → TwinLeads first first_leads second second_leads old new → new.failed ≡ None → old.failed ≡ None
  none-before old new leads none =
      ⊎_elim
      (λ (before : old.failed ≡ None). before)
      (λ (failed : IsSome old.failed).
      let same : new.failed ≡ old.failed = (leads.stays failed).2 in
      absurd (none-or-some-not old.failed (sym same ∙ none) failed))
      (none-or-some old.failed)

  pub twin-on : ((old mid new : A) → first_leads old mid → first_leads mid new → first_leads old new) → ((old mid new : B) → second_leads old mid → second_leads mid new → second_leads old new) → (old mid new : TwinState A B) → TwinLeads first first_leads second second_leads old mid → TwinLeads first first_leads second second_leads mid new → TwinLeads first first_leads second second_leads old new
  twin-on first_on second_on old mid new one two =
      let failed-on : IsSome old.failed → IsSome mid.failed = λ failed. subst (λ f. IsSome f) (sym (one.stays failed).2) failed in
      record {
        same_first = two.same_first ∙ one.same_first;
        same_second = two.same_second ∙ one.same_second;
        first_begun = two.first_begun ∙ one.first_begun;
        second_begun = two.second_begun ∙ one.second_begun;
        first = side-on first first_leads first_on old.first mid.first new.first one.first two.first;
        second = side-on second second_leads second_on old.second mid.second new.second one.second two.second;
        stays = λ failed. ((two.stays (failed-on failed)).0 ∙ (one.stays failed).0, (two.stays (failed-on failed)).1 ∙ (one.stays failed).1, (two.stays (failed-on failed)).2 ∙ (one.stays failed).2);
        later = omega (arith, one.later, two.later);
        no_fault = λ none. two.no_fault none ∙ one.no_fault (none-before mid new two none);
        none_failed = λ same.
            let after : new.faults ≡ mid.faults = omega (arith, one.later, two.later) in
            let before : mid.faults ≡ old.faults = omega (arith, one.later, two.later) in
            two.none_failed after ∙ one.none_failed before;
        steady = λ none. let before = none-before mid new two none in ((two.steady none).0 ∙ (one.steady before).0, (two.steady none).1 ∙ (one.steady before).1);
        passed = omega (arith, one.passed, two.passed);
        counts = λ below. two.counts (one.counts below);
        first_failed = λ none some.
            ⊎_elim
            (λ (passed : mid.failed ≡ None). subst (λ n. Rose n (first.faults new.first) ⊎ (last_count ≤ first.calls new.first + 2)) (one.steady passed).0 (two.first_failed passed some))
            (λ (failed : IsSome mid.failed). subst (λ d. IsBlamed first old.first d) (sym (two.stays failed).0) (one.first_failed none (sym (two.stays failed).2 ∙ some)))
            (none-or-some mid.failed);
        second_failed = λ none some.
            ⊎_elim
            (λ (passed : mid.failed ≡ None). subst (λ n. Rose n (second.faults new.second) ⊎ (last_count ≤ second.calls new.second + 2)) (one.steady passed).1 (two.second_failed passed some))
            (λ (failed : IsSome mid.failed). subst (λ d. IsBlamed second old.second d) (sym (two.stays failed).1) (one.second_failed none (sym (two.stays failed).2 ∙ some)))
            (none-or-some mid.failed);
        first_alone = λ none some.
            ⊎_elim
            (λ (passed : mid.failed ≡ None). two.first_alone passed some ∙ (one.steady passed).1)
            (λ (failed : IsSome mid.failed). ap second.faults (two.stays failed).1 ∙ one.first_alone none (sym (two.stays failed).2 ∙ some))
            (none-or-some mid.failed);
        second_alone = λ none some.
            ⊎_elim
            (λ (passed : mid.failed ≡ None). two.second_alone passed some ∙ (one.steady passed).0)
            (λ (failed : IsSome mid.failed). ap first.faults (two.stays failed).0 ∙ one.second_alone none (sym (two.stays failed).2 ∙ some))
            (none-or-some mid.failed);
      }

  -- a call that failed behind calls of which none did
  pub twin-fails : (old mid new : TwinState A B) → TwinLeads first first_leads second second_leads old mid → mid.faults ≡ old.faults → TwinFails mid new → TwinFails old new
  twin-fails old mid new leads same fails none = fails (leads.none_failed same ∙ none)

-- ---- what is seen, and what a crash leaves

module _ {A B : Type 0} (first_calls : A → ℕ) (first_leaves : A → ℕ → List ℕ → Type 0) (second_calls : B → ℕ) (second_leaves : B → ℕ → List ℕ → Type 0) where
  -- what a crash now leaves of the first disk it leaves of the twin
  pub twin-image : (twin : TwinState A B) (c : List ℕ) → first_calls twin.first ≤ twin.calls → leaves_now first_calls first_leaves twin.first c → twin_leaves first_calls first_leaves second_calls second_leaves twin (after_calls twin.calls) c
  twin-image twin c le left =
      let now : after_calls (first_calls twin.first) ≡ min (after_calls twin.calls) (after_calls (first_calls twin.first)) = omega arith in
      inr (inl (subst (λ m. first_leaves twin.first m c) now left))

  -- a twin that does not tell its bytes has no crash images
  pub twin-told : (twin : TwinState A B) (first_seen : A → Option (List ℕ)) (second_seen : B → Option (List ℕ)) → is_some (first_seen twin.first) ≡ is_some (second_seen twin.second) → ((m : ℕ) (c : List ℕ) → first_leaves twin.first m c → IsSome (first_seen twin.first)) → ((m : ℕ) (c : List ℕ) → second_leaves twin.second m c → IsSome (second_seen twin.second)) → (m : ℕ) (c : List ℕ) → twin_leaves first_calls first_leaves second_calls second_leaves twin m c → IsSome (first_seen twin.first)
  twin-told twin first_seen second_seen told first_told second_told m c left =
      ⊎_elim
      (λ before. first_told _ c before)
      (λ now. ⊎_elim (λ one. first_told _ c one) (λ two. told ∙ second_told _ c two) now)
      left
