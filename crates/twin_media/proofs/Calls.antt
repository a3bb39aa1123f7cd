-- What a call on a disk over two disks leaves of it, from what the calls on the two disks leave of them.
use Rattle.std.proofs.Common.{◌≡◌, ℕ, ◌+◌, ◌≤◌, ◌<◌, min, List, refl, sym, ◌∙◌, subst, inl, inr, arith, ⊎_elim}
use Rattle.std.specs.Prelude.{◌↔◌, ◌⊎◌, None, Result, Ok, Err, MatchResult, IsErr, OnOk, OnErr}
use Rattle.store_spec.specs.Fault.{last_count, next_count}
use Rattle.store_spec.specs.Disk.{after_calls, inside_next, leaves_now, torn_from, LeavesAtMost, LeavesExactly, KeepsCrashImages, AddsNoCrashImage, TearsAtMost, TearsExactly}
use Rattle.crash_disk.proofs.Moments.{le-next_count, next_count-below}
use Rattle.crash_disk.proofs.TornBytes.{torn-same}
use Rattle.twin_media.specs.Counts.{AreCounted}
use Rattle.twin_media.specs.State.{TwinState, second_moment, twin_leaves}

-- ---- one of the two disks, at a call of the twin

-- It made the call or did not, and a crash inside the twin's call or after it may leave of it one of these images.
pub record Steps {D : Type 0} (calls : D → ℕ) (leaves : D → ℕ → List ℕ → Type 0) (images : List ℕ → Type 0) (old new : D) : Type 0 where
  pub no_fewer : calls old ≤ calls new
  pub one_more : calls new ≤ calls old + 1
  pub past : (m : ℕ) → m ≤ after_calls (calls old) → (c : List ℕ) → leaves new m c ↔ leaves old m c
  pub inside : (c : List ℕ) → leaves new (min (inside_next (calls old)) (after_calls (calls new))) c → images c
  pub after : (c : List ℕ) → leaves_now calls leaves new c → images c

-- and may leave each of these
pub record StepsTo {D : Type 0} (calls : D → ℕ) (leaves : D → ℕ → List ℕ → Type 0) (images : List ℕ → Type 0) (old new : D) : Type 0 where
  pub inside : (c : List ℕ) → images c → leaves new (min (inside_next (calls old)) (after_calls (calls new))) c
  pub after : (c : List ℕ) → images c → leaves_now calls leaves new c

module _ {D : Type 0} (calls : D → ℕ) (leaves : D → ℕ → List ℕ → Type 0) where
  -- the same images at an equal moment
  moved : (d : D) (m k : ℕ) (c : List ℕ) → m ≡ k → leaves d m c → leaves d k c
  moved d m k c is left = subst (λ t. leaves d t c) is left

  -- it made the call
  pub steps-called : (old mid new : D) (images : List ℕ → Type 0) → mid ≡ old → calls old < last_count → LeavesAtMost calls leaves images mid new → Steps calls leaves images old new
  steps-called old mid new images same lt call =
      let here : LeavesAtMost calls leaves images old new = subst (λ d. LeavesAtMost calls leaves images d new) same call in
      let next : calls new ≡ calls old + 1 = here.counted ∙ next_count-below (calls old) lt in
      record {
        no_fewer = omega arith;
        one_more = omega arith;
        past = here.past lt;
        inside = λ c left. here.inside lt c (moved new (min (inside_next (calls old)) (after_calls (calls new))) (inside_next (calls old)) c (omega arith) left);
        after = here.after;
      }

  -- it did not
  pub steps-stayed : (old new : D) → new ≡ old → Steps calls leaves (leaves_now calls leaves old) old new
  steps-stayed old new same = subst (λ d. Steps calls leaves (leaves_now calls leaves old) old d) (sym same) (record {
    no_fewer = omega arith;
    one_more = omega arith;
    past = λ m le c. (λ left. left, λ left. left);
    inside = λ c left. moved old (min (inside_next (calls old)) (after_calls (calls old))) (after_calls (calls old)) c (omega arith) left;
    after = λ c left. left;
  })

  pub steps-weaker : (old new : D) (images more : List ℕ → Type 0) → ((c : List ℕ) → images c → more c) → Steps calls leaves images old new → Steps calls leaves more old new
  steps-weaker old new images more h steps = record {
    no_fewer = steps.no_fewer;
    one_more = steps.one_more;
    past = steps.past;
    inside = λ c left. h c (steps.inside c left);
    after = λ c left. h c (steps.after c left);
  }

  pub steps-to-called : (old mid new : D) (images : List ℕ → Type 0) → mid ≡ old → calls old < last_count → LeavesExactly calls leaves images mid new → StepsTo calls leaves images old new
  steps-to-called old mid new images same lt call =
      let here : LeavesExactly calls leaves images old new = subst (λ d. LeavesExactly calls leaves images d new) same call in
      let next : calls new ≡ calls old + 1 = here.at_most.counted ∙ next_count-below (calls old) lt in
      record {
        inside = λ c left. moved new (inside_next (calls old)) (min (inside_next (calls old)) (after_calls (calls new))) c (omega arith) (here.inside lt c left);
        after = here.after;
      }

  -- a call that adds no image, and one that keeps them
  pub steps-same : (old mid new : D) → mid ≡ old → calls old < last_count → AddsNoCrashImage calls leaves mid new → Steps calls leaves (leaves_now calls leaves old) old new
  steps-same old mid new same lt call = steps-called old old new (leaves_now calls leaves old) refl lt (subst (λ d. AddsNoCrashImage calls leaves d new) same call)

  pub to-same : (old mid new : D) → mid ≡ old → calls old < last_count → KeepsCrashImages calls leaves mid new → StepsTo calls leaves (leaves_now calls leaves old) old new
  to-same old mid new same lt call = steps-to-called old old new (leaves_now calls leaves old) refl lt (subst (λ d. KeepsCrashImages calls leaves d new) same call)

  module _ (at n : ℕ) where
    -- a write, and one that succeeded
    pub steps-torn : (old mid new : D) → mid ≡ old → calls old < last_count → TearsAtMost calls leaves at n mid new → Steps calls leaves (torn_from at n (leaves_now calls leaves old)) old new
    steps-torn old mid new same lt call = steps-called old old new (torn_from at n (leaves_now calls leaves old)) refl lt (subst (λ d. TearsAtMost calls leaves at n d new) same call)

    pub to-torn : (old mid new : D) → mid ≡ old → calls old < last_count → TearsExactly calls leaves at n mid new → StepsTo calls leaves (torn_from at n (leaves_now calls leaves old)) old new
    to-torn old mid new same lt call = steps-to-called old old new (torn_from at n (leaves_now calls leaves old)) refl lt (subst (λ d. TearsExactly calls leaves at n d new) same call)

    -- a write that succeeded, seen at an equal later state
    pub exactly-to : (mid new later : D) → later ≡ new → TearsExactly calls leaves at n mid new → TearsExactly calls leaves at n mid later
    exactly-to mid new later same call = subst (λ d. TearsExactly calls leaves at n mid d) (sym same) call

    -- a disk that was not called
    pub stayed-torn : (old new : D) → new ≡ old → Steps calls leaves (torn_from at n (leaves_now calls leaves old)) old new
    stayed-torn old new same = steps-weaker old new (leaves_now calls leaves old) (torn_from at n (leaves_now calls leaves old)) (λ c left. (c, left, torn-same at n c)) (steps-stayed old new same)

-- ---- answers

pub on-err : {T E : Type 0} (result : Result T E) (P : Type 0) → P → OnErr result P
on-err (Ok x) P p = tt
on-err (Err e) P p = p

-- where the count of faults handed on a failure, the call failed
pub failed-outcome : {T E F : Type 0} (outcome : Result T E) (result : Result T F) (error : F) (P : Type 0) → MatchResult outcome (λ value. result ≡ Ok value) (λ e. IsErr result) → result ≡ Err error → OnErr outcome P → P
failed-outcome (Ok x) result error P same is p = absurd (cc)
failed-outcome (Err e) result error P same is p = p

-- and where it handed on a value, the call gave it
pub passed-outcome : {T E F : Type 0} (outcome : Result T E) (result : Result T F) (value : T) (P : Type 0) → MatchResult outcome (λ v. result ≡ Ok v) (λ e. IsErr result) → result ≡ Ok value → OnOk outcome P → P
passed-outcome (Ok x) result value P same is p = p
passed-outcome (Err e) result value P same is p = absurd (grind arith)

-- ---- the twin

-- A call of the twin after none failed: the counts of before and after.
pub record IsOneCall {A B : Type 0} (first_calls : A → ℕ) (second_calls : B → ℕ) (old new : TwinState A B) : Type 0 where
  pub same_first : new.first_begun ≡ old.first_begun
  pub same_second : new.second_begun ≡ old.second_begun
  pub begun : old.first_begun ≤ old.passed
  pub all_passed : old.calls ≡ old.passed
  pub first_passed : first_calls old.first ≡ old.passed
  pub second_passed : second_calls old.second + old.first_begun ≡ old.passed + old.second_begun
  pub below : old.calls < last_count
  pub counted : new.calls ≡ next_count old.calls
  pub passed : old.passed ≤ new.passed

pub one-call : {A B : Type 0} (first_calls : A → ℕ) (second_calls : B → ℕ) (old new : TwinState A B) → AreCounted old.failed (first_calls old.first) (second_calls old.second) old.first_begun old.second_begun old.passed old.calls → old.failed ≡ None → first_calls old.first < last_count → new.first_begun ≡ old.first_begun → new.second_begun ≡ old.second_begun → new.calls ≡ next_count old.calls → old.passed ≤ new.passed → IsOneCall first_calls second_calls old new
one-call first_calls second_calls old new counts none lt same_first same_second counted passed =
    let all : old.calls ≡ old.passed = counts.all_passed none in
    record {
      same_first = same_first;
      same_second = same_second;
      begun = counts.begun;
      all_passed = all;
      first_passed = omega arith;
      second_passed = omega arith;
      below = omega arith;
      counted = counted;
      passed = passed;
    }

module _ {A B T : Type 0} (first_calls : A → ℕ) (first_leaves : A → ℕ → List ℕ → Type 0) (second_calls : B → ℕ) (second_leaves : B → ℕ → List ℕ → Type 0) (view : T → TwinState A B) where
  abbrev calls : T → ℕ
  calls t = (view t).calls

  abbrev leaves : T → ℕ → List ℕ → Type 0
  leaves t = twin_leaves first_calls first_leaves second_calls second_leaves (view t)

  -- the next count of calls
  next-calls : (old new : T) → IsOneCall first_calls second_calls (view old) (view new) → calls new ≡ calls old + 1
  next-calls old new one = one.counted ∙ next_count-below (calls old) one.below

  -- no moment up to the call changes
  past-to : (old new : T) (images : List ℕ → Type 0) → IsOneCall first_calls second_calls (view old) (view new) → Steps first_calls first_leaves images (view old).first (view new).first → Steps second_calls second_leaves images (view old).second (view new).second → (m : ℕ) → m ≤ after_calls (calls old) → (c : List ℕ) → leaves new m c → leaves old m c
  past-to old new images one a b m le c left =
      ⊎_elim
      (λ before. inl (moved first_calls first_leaves (view old).first m (min m (after_calls (view old).passed)) c (omega arith) ((a.past m (omega arith) c).0 (moved first_calls first_leaves (view new).first (min m (after_calls (view new).passed)) m c (omega arith) before))))
      (λ now. ⊎_elim
      (λ first. inr (inl (moved first_calls first_leaves (view old).first m (min m (after_calls (first_calls (view old).first))) c (omega arith) ((a.past m (omega arith) c).0 (moved first_calls first_leaves (view new).first (min m (after_calls (first_calls (view new).first))) m c (omega arith) first)))))
      (λ second.
      let k = second_moment (view old) m in
      inr (inr (moved second_calls second_leaves (view old).second k (min k (after_calls (second_calls (view old).second))) c (omega arith) ((b.past k (omega arith) c).0 (moved second_calls second_leaves (view new).second (min (second_moment (view new) m) (after_calls (second_calls (view new).second))) k c (omega arith) second)))))
      now)
      left

  past-from : (old new : T) (images : List ℕ → Type 0) → IsOneCall first_calls second_calls (view old) (view new) → Steps first_calls first_leaves images (view old).first (view new).first → Steps second_calls second_leaves images (view old).second (view new).second → (m : ℕ) → m ≤ after_calls (calls old) → (c : List ℕ) → leaves old m c → leaves new m c
  past-from old new images one a b m le c left =
      ⊎_elim
      (λ before. inl (moved first_calls first_leaves (view new).first m (min m (after_calls (view new).passed)) c (omega arith) ((a.past m (omega arith) c).1 (moved first_calls first_leaves (view old).first (min m (after_calls (view old).passed)) m c (omega arith) before))))
      (λ now. ⊎_elim
      (λ first. inr (inl (moved first_calls first_leaves (view new).first m (min m (after_calls (first_calls (view new).first))) c (omega arith) ((a.past m (omega arith) c).1 (moved first_calls first_leaves (view old).first (min m (after_calls (first_calls (view old).first))) m c (omega arith) first)))))
      (λ second.
      let k = second_moment (view old) m in
      inr (inr (moved second_calls second_leaves (view new).second k (min (second_moment (view new) m) (after_calls (second_calls (view new).second))) c (omega arith) ((b.past k (omega arith) c).1 (moved second_calls second_leaves (view old).second (min k (after_calls (second_calls (view old).second))) k c (omega arith) second)))))
      now)
      left

  -- what a crash leaves after a call, from what it leaves of each disk
  pub at-most : (old new : T) (images : List ℕ → Type 0) → IsOneCall first_calls second_calls (view old) (view new) → ((view new).passed ≡ (view old).passed) ⊎ ((view new).passed ≡ first_calls (view new).first) → Steps first_calls first_leaves images (view old).first (view new).first → Steps second_calls second_leaves images (view old).second (view new).second → ((c : List ℕ) → leaves_now first_calls first_leaves (view old).first c → images c) → LeavesAtMost calls leaves images old new
  at-most old new images one stands a b start =
      let next : calls new ≡ calls old + 1 = next-calls old new one in
      record {
        counted = one.counted;
        past = λ lt m le c. (past-to old new images one a b m le c, past-from old new images one a b m le c);
        inside = λ lt c left.
            ⊎_elim
            (λ before. ⊎_elim
            (λ (same : (view new).passed ≡ (view old).passed). start c ((a.past (after_calls (first_calls (view old).first)) (omega arith) c).0 (moved first_calls first_leaves (view new).first (min (inside_next (calls old)) (after_calls (view new).passed)) (after_calls (first_calls (view old).first)) c (omega arith) before)))
            (λ (all : (view new).passed ≡ first_calls (view new).first). a.inside c (moved first_calls first_leaves (view new).first (min (inside_next (calls old)) (after_calls (view new).passed)) (min (inside_next (first_calls (view old).first)) (after_calls (first_calls (view new).first))) c (omega arith) before))
            stands)
            (λ now. ⊎_elim
            (λ first. a.inside c (moved first_calls first_leaves (view new).first (min (inside_next (calls old)) (after_calls (first_calls (view new).first))) (min (inside_next (first_calls (view old).first)) (after_calls (first_calls (view new).first))) c (omega arith) first))
            (λ second. b.inside c (moved second_calls second_leaves (view new).second (min (second_moment (view new) (inside_next (calls old))) (after_calls (second_calls (view new).second))) (min (inside_next (second_calls (view old).second)) (after_calls (second_calls (view new).second))) c (omega arith) second))
            now)
            left;
        after = λ c left.
            ⊎_elim
            (λ before. ⊎_elim
            (λ (same : (view new).passed ≡ (view old).passed). start c ((a.past (after_calls (first_calls (view old).first)) (omega arith) c).0 (moved first_calls first_leaves (view new).first (min (after_calls (calls new)) (after_calls (view new).passed)) (after_calls (first_calls (view old).first)) c (omega arith) before)))
            (λ (all : (view new).passed ≡ first_calls (view new).first). a.after c (moved first_calls first_leaves (view new).first (min (after_calls (calls new)) (after_calls (view new).passed)) (after_calls (first_calls (view new).first)) c (omega arith) before))
            stands)
            (λ now. ⊎_elim
            (λ first. a.after c (moved first_calls first_leaves (view new).first (min (after_calls (calls new)) (after_calls (first_calls (view new).first))) (after_calls (first_calls (view new).first)) c (omega arith) first))
            (λ second. b.after c (moved second_calls second_leaves (view new).second (min (second_moment (view new) (after_calls (calls new))) (after_calls (second_calls (view new).second))) (after_calls (second_calls (view new).second)) c (omega arith) second))
            now)
            left;
      }

  -- what a crash now leaves of the first disk, or of the second, it leaves of the twin
  pub first-image : (old : T) → first_calls (view old).first ≡ calls old → (c : List ℕ) → leaves_now first_calls first_leaves (view old).first c → leaves_now calls leaves old c
  first-image old is c left = inr (inl (moved first_calls first_leaves (view old).first (after_calls (first_calls (view old).first)) (min (after_calls (calls old)) (after_calls (first_calls (view old).first))) c (omega arith) left))

  pub second-image : (old new : T) → IsOneCall first_calls second_calls (view old) (view new) → (c : List ℕ) → leaves_now second_calls second_leaves (view old).second c → leaves_now calls leaves old c
  second-image old new one c left = inr (inr (moved second_calls second_leaves (view old).second (after_calls (second_calls (view old).second)) (min (second_moment (view old) (after_calls (calls old))) (after_calls (second_calls (view old).second))) c (omega arith) left))

  -- and it leaves nothing else
  pub image-of : (old new : T) → IsOneCall first_calls second_calls (view old) (view new) → (c : List ℕ) → leaves_now calls leaves old c → leaves_now first_calls first_leaves (view old).first c ⊎ leaves_now second_calls second_leaves (view old).second c
  image-of old new one c left =
      ⊎_elim
      (λ before. inl (moved first_calls first_leaves (view old).first (min (after_calls (calls old)) (after_calls (view old).passed)) (after_calls (first_calls (view old).first)) c (omega arith) before))
      (λ now. ⊎_elim
      (λ first. inl (moved first_calls first_leaves (view old).first (min (after_calls (calls old)) (after_calls (first_calls (view old).first))) (after_calls (first_calls (view old).first)) c (omega arith) first))
      (λ second. inr (moved second_calls second_leaves (view old).second (min (second_moment (view old) (after_calls (calls old))) (after_calls (second_calls (view old).second))) (after_calls (second_calls (view old).second)) c (omega arith) second))
      now)
      left

  -- an image that a crash inside the call, or after it, leaves of one disk, it leaves of the twin
  first-inside : (old new : T) (images : List ℕ → Type 0) → IsOneCall first_calls second_calls (view old) (view new) → StepsTo first_calls first_leaves images (view old).first (view new).first → first_calls (view new).first ≤ first_calls (view old).first + 1 → (c : List ℕ) → images c → leaves new (inside_next (calls old)) c × leaves_now calls leaves new c
  first-inside old new images one a le c left =
      let next : calls new ≡ calls old + 1 = next-calls old new one in
      (inr (inl (moved first_calls first_leaves (view new).first (min (inside_next (first_calls (view old).first)) (after_calls (first_calls (view new).first))) (min (inside_next (calls old)) (after_calls (first_calls (view new).first))) c (omega arith) (a.inside c left))), inr (inl (moved first_calls first_leaves (view new).first (after_calls (first_calls (view new).first)) (min (after_calls (calls new)) (after_calls (first_calls (view new).first))) c (omega arith) (a.after c left))))

  second-inside : (old new : T) (images : List ℕ → Type 0) → IsOneCall first_calls second_calls (view old) (view new) → StepsTo second_calls second_leaves images (view old).second (view new).second → second_calls (view new).second ≤ second_calls (view old).second + 1 → (c : List ℕ) → images c → leaves new (inside_next (calls old)) c × leaves_now calls leaves new c
  second-inside old new images one b le c left =
      let next : calls new ≡ calls old + 1 = next-calls old new one in
      (inr (inr (moved second_calls second_leaves (view new).second (min (inside_next (second_calls (view old).second)) (after_calls (second_calls (view new).second))) (min (second_moment (view new) (inside_next (calls old))) (after_calls (second_calls (view new).second))) c (omega arith) (b.inside c left))), inr (inr (moved second_calls second_leaves (view new).second (after_calls (second_calls (view new).second)) (min (second_moment (view new) (after_calls (calls new))) (after_calls (second_calls (view new).second))) c (omega arith) (b.after c left))))

  -- what was left of the first disk before a call that failed is left still
  first-before : (old new : T) (images : List ℕ → Type 0) → IsOneCall first_calls second_calls (view old) (view new) → (view new).passed ≡ (view old).passed → Steps first_calls first_leaves images (view old).first (view new).first → (c : List ℕ) → leaves_now first_calls first_leaves (view old).first c → leaves new (inside_next (calls old)) c × leaves_now calls leaves new c
  first-before old new images one same a c left =
      let next : calls new ≡ calls old + 1 = next-calls old new one in
      let now : first_leaves (view new).first (after_calls (first_calls (view old).first)) c = (a.past (after_calls (first_calls (view old).first)) (omega arith) c).1 left in
      (inl (moved first_calls first_leaves (view new).first (after_calls (first_calls (view old).first)) (min (inside_next (calls old)) (after_calls (view new).passed)) c (omega arith) now), inl (moved first_calls first_leaves (view new).first (after_calls (first_calls (view old).first)) (min (after_calls (calls new)) (after_calls (view new).passed)) c (omega arith) now))

  -- ---- calls

  -- a call that failed on one of the disks, and adds no image to either, keeps those of the twin
  pub failed-keeps : (old new : T) → IsOneCall first_calls second_calls (view old) (view new) → (view new).passed ≡ (view old).passed → Steps first_calls first_leaves (leaves_now first_calls first_leaves (view old).first) (view old).first (view new).first → Steps second_calls second_leaves (leaves_now second_calls second_leaves (view old).second) (view old).second (view new).second → StepsTo second_calls second_leaves (leaves_now second_calls second_leaves (view old).second) (view old).second (view new).second → KeepsCrashImages calls leaves old new
  failed-keeps old new one same a b to =
      let one_first : first_calls (view old).first ≡ calls old = omega arith in
      let images : List ℕ → Type 0 = leaves_now calls leaves old in
      let here = λ (c : List ℕ) (left : images c). ⊎_elim
      (λ first. first-before old new (leaves_now first_calls first_leaves (view old).first) one same a c first)
      (λ second. second-inside old new (leaves_now second_calls second_leaves (view old).second) one to b.one_more c second)
      (image-of old new one c left) in
      record {
        at_most = at-most old new images one (inl same)
            (steps-weaker first_calls first_leaves (view old).first (view new).first (leaves_now first_calls first_leaves (view old).first) images (first-image old one_first) a)
            (steps-weaker second_calls second_leaves (view old).second (view new).second (leaves_now second_calls second_leaves (view old).second) images (second-image old new one) b)
            (first-image old one_first);
        inside = λ lt c left. (here c left).0;
        after = λ c left. (here c left).1;
      }

  module _ (at n : ℕ) where
    -- the torn images of either disk are torn images of the twin
    torn-first : (old : T) → first_calls (view old).first ≡ calls old → (c : List ℕ) → torn_from at n (leaves_now first_calls first_leaves (view old).first) c → torn_from at n (leaves_now calls leaves old) c
    torn-first old is c left = (left.0, first-image old is left.0 left.1, left.2)

    torn-second : (old new : T) → IsOneCall first_calls second_calls (view old) (view new) → (c : List ℕ) → torn_from at n (leaves_now second_calls second_leaves (view old).second) c → torn_from at n (leaves_now calls leaves old) c
    torn-second old new one c left = (left.0, second-image old new one left.0 left.1, left.2)

    -- a write, whatever came of it
    pub write-tears : (old new : T) → IsOneCall first_calls second_calls (view old) (view new) → ((view new).passed ≡ (view old).passed) ⊎ ((view new).passed ≡ first_calls (view new).first) → Steps first_calls first_leaves (torn_from at n (leaves_now first_calls first_leaves (view old).first)) (view old).first (view new).first → Steps second_calls second_leaves (torn_from at n (leaves_now second_calls second_leaves (view old).second)) (view old).second (view new).second → TearsAtMost calls leaves at n old new
    write-tears old new one stands a b =
        let one_first : first_calls (view old).first ≡ calls old = omega arith in
        let images : List ℕ → Type 0 = torn_from at n (leaves_now calls leaves old) in
        at-most old new images one stands
        (steps-weaker first_calls first_leaves (view old).first (view new).first (torn_from at n (leaves_now first_calls first_leaves (view old).first)) images (torn-first old one_first) a)
        (steps-weaker second_calls second_leaves (view old).second (view new).second (torn_from at n (leaves_now second_calls second_leaves (view old).second)) images (torn-second old new one) b)
        (λ c left. (c, first-image old one_first c left, torn-same at n c))

    -- a write that succeeded on both disks
    pub write-exactly : (old new : T) → IsOneCall first_calls second_calls (view old) (view new) → ((view new).passed ≡ (view old).passed) ⊎ ((view new).passed ≡ first_calls (view new).first) → Steps first_calls first_leaves (torn_from at n (leaves_now first_calls first_leaves (view old).first)) (view old).first (view new).first → Steps second_calls second_leaves (torn_from at n (leaves_now second_calls second_leaves (view old).second)) (view old).second (view new).second → StepsTo first_calls first_leaves (torn_from at n (leaves_now first_calls first_leaves (view old).first)) (view old).first (view new).first → StepsTo second_calls second_leaves (torn_from at n (leaves_now second_calls second_leaves (view old).second)) (view old).second (view new).second → TearsExactly calls leaves at n old new
    write-exactly old new one stands a b a_to b_to =
        let here = λ (c : List ℕ) (left : torn_from at n (leaves_now calls leaves old) c). ⊎_elim
        (λ first. first-inside old new (torn_from at n (leaves_now first_calls first_leaves (view old).first)) one a_to a.one_more c (left.0, first, left.2))
        (λ second. second-inside old new (torn_from at n (leaves_now second_calls second_leaves (view old).second)) one b_to b.one_more c (left.0, second, left.2))
        (image-of old new one left.0 left.1) in
        record {
          at_most = write-tears old new one stands a b;
          inside = λ lt c left. (here c left).0;
          after = λ c left. (here c left).1;
        }

  -- ---- a call that was refused

  -- from its count of calls on, each moment is like each other
  later-same : (old : T) (m k : ℕ) → (view old).passed ≤ calls old → first_calls (view old).first ≤ calls old → second_calls (view old).second + (view old).first_begun ≤ calls old + (view old).second_begun → after_calls (calls old) ≤ m → after_calls (calls old) ≤ k → (c : List ℕ) → leaves old m c → leaves old k c
  later-same old m k passed first second from to c left =
      ⊎_elim
      (λ before. inl (moved first_calls first_leaves (view old).first (min m (after_calls (view old).passed)) (min k (after_calls (view old).passed)) c (omega arith) before))
      (λ now. ⊎_elim
      (λ one. inr (inl (moved first_calls first_leaves (view old).first (min m (after_calls (first_calls (view old).first))) (min k (after_calls (first_calls (view old).first))) c (omega arith) one)))
      (λ two. inr (inr (moved second_calls second_leaves (view old).second (min (second_moment (view old) m) (after_calls (second_calls (view old).second))) (min (second_moment (view old) k) (after_calls (second_calls (view old).second))) c (omega arith) two)))
      now)
      left

  same-leaves : (old new : T) → (view new).first ≡ (view old).first → (view new).second ≡ (view old).second → (view new).first_begun ≡ (view old).first_begun → (view new).second_begun ≡ (view old).second_begun → (view new).passed ≡ (view old).passed → (m : ℕ) (c : List ℕ) → leaves new m c ↔ leaves old m c
  same-leaves old new first second first_begun second_begun passed m c = (λ left. simp (first, second, first_begun, second_begun, passed) at left, λ left. simp (first, second, first_begun, second_begun, passed) left)

  pub refused-adds : (old new : T) (images : List ℕ → Type 0) → AreCounted (view old).failed (first_calls (view old).first) (second_calls (view old).second) (view old).first_begun (view old).second_begun (view old).passed (calls old) → (view new).first ≡ (view old).first → (view new).second ≡ (view old).second → (view new).first_begun ≡ (view old).first_begun → (view new).second_begun ≡ (view old).second_begun → (view new).passed ≡ (view old).passed → calls new ≡ next_count (calls old) → ((c : List ℕ) → leaves_now calls leaves old c → images c) → LeavesAtMost calls leaves images old new
  refused-adds old new images counts first second first_begun second_begun passed counted start =
      let more : calls old ≤ calls new = omega (arith, counted, le-next_count (calls old)) in
      let before : (view old).passed ≤ calls old = omega arith in
      record {
        counted = counted;
        past = λ lt m le c. same-leaves old new first second first_begun second_begun passed m c;
        inside = λ lt c left. start c (later-same old (inside_next (calls old)) (after_calls (calls old)) before counts.first_counted counts.second_counted (omega arith) (omega arith) c ((same-leaves old new first second first_begun second_begun passed (inside_next (calls old)) c).0 left));
        after = λ c left. start c (later-same old (after_calls (calls new)) (after_calls (calls old)) before counts.first_counted counts.second_counted (omega arith) (omega arith) c ((same-leaves old new first second first_begun second_begun passed (after_calls (calls new)) c).0 left));
      }
