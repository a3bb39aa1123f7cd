-- What a run on a twin does to each of the two disks by itself.
use Rattle.std.proofs.Common.{◌≡◌, ℕ, ◌+◌, ◌-◌, ◌≤◌, ◌<◌, min, List, inl, inr, subst, arith}
use Rattle.store_spec.proofs.Common.{DiskModel, LeavesOnly, after_calls, last_count}
use Rattle.twin_media.specs.State.{TwinState, second_moment, twin_leaves}
use Rattle.twin_media.specs.Leads.{SideLeads}

module _ {A B T : Type 0} (one : DiskModel A) (one_leads : A → A → Type 0) (two : DiskModel B) (two_leads : B → B → Type 0) (view : T → TwinState A B) where
  abbrev calls : T → ℕ
  calls t = (view t).calls

  abbrev leaves : T → ℕ → List ℕ → Type 0
  leaves t = twin_leaves one.calls one.may_leave two.calls two.may_leave (view t)

  -- an image of either disk is one of the twin
  pub first-left : (t : T) (m : ℕ) (c : List ℕ) → m ≤ after_calls (one.calls (view t).first) → one.may_leave (view t).first m c → leaves t m c
  first-left t m c le left =
      let is : m ≡ min m (after_calls (one.calls (view t).first)) = omega arith in
      inr (inl (subst (λ k. one.may_leave (view t).first k c) is left))

  pub second-left : (t : T) (m k : ℕ) (c : List ℕ) → k ≤ after_calls (two.calls (view t).second) → second_moment (view t) m ≡ k → two.may_leave (view t).second k c → leaves t m c
  second-left t m k c le at left =
      let is : k ≡ min (second_moment (view t) m) (after_calls (two.calls (view t).second)) = omega arith in
      inr (inr (subst (λ j. two.may_leave (view t).second j c) is left))

  -- The first disk. Where the twin's count stands at its last value and the disk's does not, nothing is known.
  pub first-apart : (old new : T) (P : List ℕ → Type 0) → one.calls (view old).first ≡ calls old → one.calls (view new).first ≤ calls new → (one.calls (view new).first < last_count → calls new < last_count) → SideLeads one one_leads (view old).first (view new).first → LeavesOnly calls leaves old new P → LeavesOnly one.calls one.may_leave (view old).first (view new).first P
  first-apart old new P begins ends counts side run = record {
    later = side.later;
    past = side.past;
    each = λ lt m from to c left. run.each (counts lt) m (omega arith) (omega arith) c (first-left new m c to left);
    now = λ c left.
        let is : after_calls (one.calls (view new).first) ≡ min (after_calls (calls new)) (after_calls (one.calls (view new).first)) = omega arith in
        run.now c (inr (inl (subst (λ k. one.may_leave (view new).first k c) is left)));
  }

  -- and the second
  pub second-apart : (old new : T) (P : List ℕ → Type 0) → two.calls (view old).second + (view old).first_begun ≡ calls old + (view old).second_begun → (view old).second_begun ≤ two.calls (view old).second → (view new).first_begun ≡ (view old).first_begun → (view new).second_begun ≡ (view old).second_begun → two.calls (view new).second + (view new).first_begun ≤ calls new + (view new).second_begun → (two.calls (view new).second < last_count → calls new < last_count) → SideLeads two two_leads (view old).second (view new).second → LeavesOnly calls leaves old new P → LeavesOnly two.calls two.may_leave (view old).second (view new).second P
  second-apart old new P begins begun same_first same_second ends counts side run = record {
    later = side.later;
    past = side.past;
    each = λ lt k from to c left.
        let m : ℕ = k - after_calls (view old).second_begun + after_calls (view old).first_begun in
        let at : second_moment (view new) m ≡ k = omega arith in
        run.each (counts lt) m (omega arith) (omega arith) c (second-left new m k c to at left);
    now = λ c left.
        let is : after_calls (two.calls (view new).second) ≡ min (second_moment (view new) (after_calls (calls new))) (after_calls (two.calls (view new).second)) = omega arith in
        run.now c (inr (inr (subst (λ k. two.may_leave (view new).second k c) is left)));
  }
