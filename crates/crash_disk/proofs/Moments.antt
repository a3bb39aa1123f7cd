-- How runs of disk calls go on. A proof about a layer cites these at each call, and looks at no bytes.
use Rattle.std.proofs.Common.{◌≡◌, ℕ, ◌+◌, ◌≤◌, ◌<◌, List, sym, ◌∙◌, subst, inl, inr, arith, ⊎_elim}
use Rattle.store_spec.proofs.Common.{AddsNoCrashImage, IsSettled, IsTorn, LeavesOnly, LeavesOnlyOnceSynced, Some, SyncsFirst, TearsAtMost, after_calls, cases_lt, cond-true, last_count, leaves_now, lt-ltb, nat_lt, nat_tests, next_count}
use Rattle.std.specs.Prelude.{Option}
use Rattle.store_spec.specs.Disk.{inside_next, torn_from, LeavesAtMost, LeavesTorn, EachCrashImage}
use Rattle.crash_disk.proofs.TornBytes.{torn-same, torn-again}

-- a count never falls
pub le-next_count : (n : ℕ) → n ≤ next_count n
le-next_count n = grind (arith, nat_tests)

-- it rises by one at most
pub next_count-le : (n : ℕ) → next_count n ≤ n + 1
next_count-le n = grind (arith, nat_tests)

-- below its last value it rises by one
pub next_count-below : (n : ℕ) → n < last_count → next_count n ≡ n + 1
next_count-below n lt = cond-true (nat_lt n last_count) (n + 1) n (lt-ltb n last_count lt)

module _ {D : Type 0} (calls : D → ℕ) (may_leave : D → ℕ → List ℕ → Type 0) where
  -- ---- runs

  -- before the first call
  pub started : (disk : D) (P : List ℕ → Type 0) → ((c : List ℕ) → leaves_now calls may_leave disk c → P c) → LeavesOnly calls may_leave disk disk P
  started disk P here = record {
    later = omega arith;
    past = λ _ m le c. (λ left. left, λ left. left);
    each = λ _ m from to c left.
        let now : m ≡ after_calls (calls disk) = omega arith in
        here c (subst (λ t. may_leave disk t c) now left);
    now = here;
  }

  -- one call more, where each image that it may leave has P
  pub goes_on : (old mid new : D) (P images : List ℕ → Type 0) → LeavesOnly calls may_leave old mid P → LeavesAtMost calls may_leave images mid new → ((c : List ℕ) → images c → P c) → LeavesOnly calls may_leave old new P
  goes_on old mid new P images so_far call here =
      let more : calls mid ≤ calls new = omega (arith, call.counted, le-next_count (calls mid)) in
      record {
        later = omega (arith, so_far.later);
        past = λ lt m le c.
            let so = so_far.past (omega arith) m le c in
            let step = call.past (omega arith) m (omega (arith, so_far.later)) c in
            (λ left. so.0 (step.0 left), λ left. step.1 (so.1 left));
        each = λ lt m from to c left.
            let early : calls mid < last_count = omega arith in
            let next : calls new ≡ calls mid + 1 = call.counted ∙ next_count-below (calls mid) early in
            ⊎_elim
            (λ (before : m < after_calls (calls mid) + 1). so_far.each early m from (omega arith) c ((call.past early m (omega arith) c).0 left))
            (λ (later : after_calls (calls mid) + 1 ≤ m).
            ⊎_elim
            (λ (inside : m < inside_next (calls mid) + 1).
            let is : m ≡ inside_next (calls mid) = omega arith in
            here c (call.inside early c (subst (λ t. may_leave new t c) is left)))
            (λ (after : inside_next (calls mid) + 1 ≤ m).
            let is : m ≡ after_calls (calls new) = omega arith in
            here c (call.after c (subst (λ t. may_leave new t c) is left)))
            (cases_lt m (inside_next (calls mid) + 1)))
            (cases_lt m (after_calls (calls mid) + 1));
        now = λ c left. here c (call.after c left);
      }

  -- one call more that leaves the images as they are: a `size`, a `read` or a `sync`, whatever it answers
  pub goes_on_same : (old mid new : D) (P : List ℕ → Type 0) → LeavesOnly calls may_leave old mid P → AddsNoCrashImage calls may_leave mid new → LeavesOnly calls may_leave old new P
  goes_on_same old mid new P so_far call = goes_on old mid new P (leaves_now calls may_leave mid) so_far call so_far.now

  -- two runs, one after the other
  pub joined : (old mid new : D) (P : List ℕ → Type 0) → LeavesOnly calls may_leave old mid P → LeavesOnly calls may_leave mid new P → LeavesOnly calls may_leave old new P
  joined old mid new P one two = record {
    later = omega (arith, one.later, two.later);
    past = λ lt m le c.
        let first = one.past (omega (arith, two.later)) m le c in
        let second = two.past lt m (omega (arith, one.later)) c in
        (λ left. first.0 (second.0 left), λ left. second.1 (first.1 left));
    each = λ lt m from to c left.
        ⊎_elim
        (λ (before : m < after_calls (calls mid)). one.each (omega (arith, two.later)) m from (omega arith) c ((two.past lt m (omega arith) c).0 left))
        (λ (after : after_calls (calls mid) ≤ m). two.each lt m after to c left)
        (cases_lt m (after_calls (calls mid)));
    now = two.now;
  }

  -- what has P has Q
  pub weaker : (old new : D) (P Q : List ℕ → Type 0) → ((c : List ℕ) → P c → Q c) → LeavesOnly calls may_leave old new P → LeavesOnly calls may_leave old new Q
  weaker old new P Q h run = record {
    later = run.later;
    past = run.past;
    each = λ lt m from to c left. h c (run.each lt m from to c left);
    now = λ c left. h c (run.now c left);
  }

  -- ---- runs that begin with a sync

  -- a sync that succeeds, and what follows
  pub synced_first : (old mid new : D) (P : List ℕ → Type 0) → AddsNoCrashImage calls may_leave old mid → LeavesOnly calls may_leave mid new P → LeavesOnlyOnceSynced calls may_leave old new P
  synced_first old mid new P sync run =
      let more : calls old ≤ calls mid = omega (arith, sync.counted, le-next_count (calls old)) in
      let next : calls mid < last_count → calls mid ≡ calls old + 1 = λ lt. sync.counted ∙ next_count-below (calls old) (omega arith) in
      record {
        later = omega (arith, run.later);
        past = λ lt m le c.
            let early : calls mid < last_count = omega (arith, run.later) in
            let first = sync.past (omega arith) m le c in
            let second = run.past lt m (omega (arith, next early)) c in
            (λ left. first.0 (second.0 left), λ left. second.1 (first.1 left));
        before = λ lt m from to c left.
            let early : calls mid < last_count = omega (arith, run.later) in
            let here = (run.past lt m (omega (arith, next early)) c).0 left in
            ⊎_elim
            (λ (inside : inside_next (calls old) ≤ m).
            let is : m ≡ inside_next (calls old) = omega arith in
            sync.inside (omega arith) c (subst (λ t. may_leave mid t c) is here))
            (λ (now : m < inside_next (calls old)).
            let is : m ≡ after_calls (calls old) = omega arith in
            subst (λ t. may_leave old t c) is ((sync.past (omega arith) m (omega arith) c).0 here))
            (⊎_elim inr inl (cases_lt m (inside_next (calls old))));
        each = λ lt m from to c left.
            let early : calls mid < last_count = omega (arith, run.later) in
            run.each lt m (omega (arith, next early)) to c left;
        now = run.now;
      }

  -- what each image of the start has, and each one from the sync on, all of them have
  pub once_synced : (old new : D) (P Q : List ℕ → Type 0) → ((c : List ℕ) → leaves_now calls may_leave old c → P c) → ((c : List ℕ) → Q c → P c) → LeavesOnlyOnceSynced calls may_leave old new Q → LeavesOnly calls may_leave old new P
  once_synced old new P Q start more run = record {
    later = run.later;
    past = run.past;
    each = λ lt m from to c left.
        ⊎_elim
        (λ (before : m < inside_next (calls old) + 1). start c (run.before lt m from (omega arith) c left))
        (λ (after : inside_next (calls old) + 1 ≤ m). more c (run.each lt m (omega arith) to c left))
        (cases_lt m (inside_next (calls old) + 1));
    now = λ c left. more c (run.now c left);
  }

  -- a run of one call, which leaves the images as they are
  pub one_call : (old new : D) (P : List ℕ → Type 0) → ((c : List ℕ) → leaves_now calls may_leave old c → P c) → AddsNoCrashImage calls may_leave old new → LeavesOnly calls may_leave old new P
  one_call old new P start call = goes_on_same old old new P (started old P start) call

  -- what each image of the start has, and each one from the sync on, all of them have, also where the sync fails
  pub syncs_first : (old new : D) (P Q : List ℕ → Type 0) → ((c : List ℕ) → leaves_now calls may_leave old c → P c) → ((c : List ℕ) → Q c → P c) → SyncsFirst calls may_leave old new Q → LeavesOnly calls may_leave old new P
  syncs_first old new P Q start more run = ⊎_elim (λ synced. once_synced old new P Q start more synced) (λ failed. one_call old new P start failed.at_most) run

  -- what has P has Q
  pub once_weaker : (old new : D) (P Q : List ℕ → Type 0) → ((c : List ℕ) → P c → Q c) → LeavesOnlyOnceSynced calls may_leave old new P → LeavesOnlyOnceSynced calls may_leave old new Q
  once_weaker old new P Q more run = record {
    later = run.later;
    past = run.past;
    before = run.before;
    each = λ lt m from to c left. more c (run.each lt m from to c left);
    now = λ c left. more c (run.now c left);
  }

  pub syncs_weaker : (old new : D) (P Q : List ℕ → Type 0) → ((c : List ℕ) → P c → Q c) → SyncsFirst calls may_leave old new P → SyncsFirst calls may_leave old new Q
  syncs_weaker old new P Q more run = ⊎_elim (λ synced. inl (once_weaker old new P Q more synced)) (λ failed. inr failed) run

  -- a run that begins with a sync, and what follows
  pub synced_then : (old mid new : D) (P Q : List ℕ → Type 0) → (calls mid < last_count → calls old < calls mid) → ((c : List ℕ) → P c → Q c)
      → LeavesOnlyOnceSynced calls may_leave old mid P → LeavesOnly calls may_leave mid new Q → LeavesOnlyOnceSynced calls may_leave old new Q
  synced_then old mid new P Q called more one two = record {
    later = omega (arith, one.later, two.later);
    past = λ lt m le c.
        let first = one.past (omega (arith, two.later)) m le c in
        let second = two.past lt m (omega (arith, one.later)) c in
        (λ left. first.0 (second.0 left), λ left. second.1 (first.1 left));
    before = λ lt m from to c left.
        let early : calls mid < last_count = omega (arith, two.later) in
        let on = called early in
        one.before early m from to c ((two.past lt m (omega arith) c).0 left);
    each = λ lt m from to c left.
        let early : calls mid < last_count = omega (arith, two.later) in
        ⊎_elim
        (λ (before : m < after_calls (calls mid)). more c (one.each early m from (omega arith) c ((two.past lt m (omega arith) c).0 left)))
        (λ (after : after_calls (calls mid) ≤ m). two.each lt m after to c left)
        (cases_lt m (after_calls (calls mid)));
    now = two.now;
  }

  -- ---- ranges of moments, for marks that were made on the way

  -- a range that ended before a run stays as it was
  pub range-kept : (old new : D) (P Q : List ℕ → Type 0) (from to : ℕ) → to ≤ after_calls (calls old) → LeavesOnly calls may_leave old new Q → calls new < last_count → EachCrashImage (may_leave old) from to P → EachCrashImage (may_leave new) from to P
  range-kept old new P Q from to ends run lt range m begins le c left = range m begins le c ((run.past lt m (omega arith) c).0 left)

  -- a range that goes on with a run
  pub range-more : (old new : D) (P : List ℕ → Type 0) (from : ℕ) → LeavesOnly calls may_leave old new P → calls new < last_count → EachCrashImage (may_leave old) from (after_calls (calls old)) P → EachCrashImage (may_leave new) from (after_calls (calls new)) P
  range-more old new P from run lt range m begins le c left =
      ⊎_elim
      (λ (before : m < after_calls (calls old)). range m begins (omega arith) c ((run.past lt m (omega arith) c).0 left))
      (λ (after : after_calls (calls old) ≤ m). run.each lt m after le c left)
      (cases_lt m (after_calls (calls old)))

  -- ---- written ranges

  -- after a write, in part of the range or in all of it
  pub torn-write : (at n from k : ℕ) (bytes : List ℕ) (mid : D) (c : List ℕ) → at ≤ from → from + k ≤ at + n → LeavesTorn calls may_leave at n bytes mid → torn_from from k (leaves_now calls may_leave mid) c → IsTorn at n bytes c
  torn-write at n from k bytes mid c begins ends torn left = torn-again at n from k bytes left.0 c begins ends (torn left.0 left.1) left.2

  -- one write more into a range
  pub goes_on_write : (at n from k : ℕ) (bytes : List ℕ) (old mid new : D) (P : List ℕ → Type 0) → LeavesOnly calls may_leave old mid P → LeavesTorn calls may_leave at n bytes mid → at ≤ from → from + k ≤ at + n → TearsAtMost calls may_leave from k mid new → ((c : List ℕ) → IsTorn at n bytes c → P c) → LeavesOnly calls may_leave old new P
  goes_on_write at n from k bytes old mid new P so_far torn begins ends call here =
      goes_on old mid new P (torn_from from k (leaves_now calls may_leave mid)) so_far call
      (λ c left. here c (torn-write at n from k bytes mid c begins ends torn left))

  -- and what it leaves now
  pub torn-after_write : (at n from k : ℕ) (bytes : List ℕ) (mid new : D) → LeavesTorn calls may_leave at n bytes mid → at ≤ from → from + k ≤ at + n → TearsAtMost calls may_leave from k mid new → LeavesTorn calls may_leave at n bytes new
  torn-after_write at n from k bytes mid new torn begins ends call c left = torn-write at n from k bytes mid c begins ends torn (call.after c left)

  -- a `size`, a `read` or a `sync` tears no more
  pub torn-after_same : (at n : ℕ) (bytes : List ℕ) (mid new : D) → LeavesTorn calls may_leave at n bytes mid → AddsNoCrashImage calls may_leave mid new → LeavesTorn calls may_leave at n bytes new
  torn-after_same at n bytes mid new torn call c left = torn c (call.after c left)

  -- ---- settled disks

  module _ (seen : D → Option (List ℕ)) where
    -- the only image is what a read gives
    pub settled-only : (disk : D) (bytes c : List ℕ) → IsSettled seen calls may_leave disk → seen disk ≡ Some bytes → leaves_now calls may_leave disk c → c ≡ bytes
    settled-only disk bytes c settled sees left = let same : seen disk ≡ Some c = (settled c).0 left in cc

    -- it is an image
    pub settled-image : (disk : D) (bytes : List ℕ) → IsSettled seen calls may_leave disk → seen disk ≡ Some bytes → leaves_now calls may_leave disk bytes
    settled-image disk bytes settled sees = (settled bytes).1 sees

    -- no range is torn, or any range, as that of the next write
    pub settled-torn : (at n : ℕ) (disk : D) (bytes : List ℕ) → IsSettled seen calls may_leave disk → seen disk ≡ Some bytes → LeavesTorn calls may_leave at n bytes disk
    settled-torn at n disk bytes settled sees c left = subst (IsTorn at n bytes) (sym (settled-only disk bytes c settled sees left)) (torn-same at n bytes)
