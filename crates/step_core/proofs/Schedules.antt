-- Whole schedules, whatever a step is.
use Rattle.std.proofs.Common.{◌≡◌, ℕ, List, [], ◌∷◌, ◌++◌, refl, subst}
use Rattle.step_core.specs.Schedule.{Follows}
use Rattle.step_core.specs.Schedule.Follows.{ended, goes, rests}

module _ {C : Type 0} (Steps : C → ℕ → C → Type 0) (IsDone : C → ℕ → Type 0) where
  abbrev Runs : C → List ℕ → C → Type 0
  Runs = Follows Steps IsDone

  -- ---- one place more

  pub follows_on : (a b c : C) (ids more : List ℕ) → Runs a ids b → Runs b more c → Runs a (ids ++ more) c
  follows_on _ _ c _ more (ended a) second = second
  follows_on _ _ c _ more (goes a next b id ids step run) second = goes a next c id (ids ++ more) step (follows_on next b c ids more run second)
  follows_on _ _ c _ more (rests a b id ids done run) second = rests a c id (ids ++ more) done (follows_on a b c ids more run second)

  pub steps_on : (c mid : C) (ids : List ℕ) (id : ℕ) (end : C) → Runs c ids mid → Steps mid id end → Runs c (ids ++ id ∷ []) end
  steps_on c mid ids id end run step = follows_on c mid end ids (id ∷ []) run (goes mid end end id [] step (ended end))

  pub rests_on : (c end : C) (ids : List ℕ) (id : ℕ) → Runs c ids end → IsDone end id → Runs c (ids ++ id ∷ []) end
  rests_on c end ids id run done = follows_on c end end ids (id ∷ []) run (rests end end id [] done (ended end))

  -- ---- what each step keeps

  module _ (Holds : C → Type 0) (keeps : (c : C) (id : ℕ) (next : C) → Holds c → Steps c id next → Holds next) where
    pub runs_keep : (c : C) (ids : List ℕ) (end : C) → Holds c → Runs c ids end → Holds end
    runs_keep _ _ _ h (ended c) = h
    runs_keep _ _ _ h (goes c next end id ids step run) = runs_keep next ids end (keeps c id next h step) run
    runs_keep _ _ _ h (rests c end id ids done run) = runs_keep c ids end h run

    -- ---- one run

    module _ (one_step : (c a b : C) (id : ℕ) → Holds c → Steps c id a → Steps c id b → a ≡ b) (busy : (c next : C) (id : ℕ) → Steps c id next → ¬ IsDone c id) where
      no_more : (c b : C) → Runs c [] b → c ≡ b
      no_more _ _ (ended c) = refl

      after_step : (c : C) (id : ℕ) (ids : List ℕ) (b : C) → Runs c (id ∷ ids) b → ¬ IsDone c id → (next : C) × Steps c id next × Runs next ids b
      after_step _ _ _ _ (goes c next end id ids step run) not_done = (next, step, run)
      after_step _ _ _ _ (rests c end id ids done run) not_done = absurd (not_done done)

      after_rest : (c : C) (id : ℕ) (ids : List ℕ) (b : C) → Runs c (id ∷ ids) b → IsDone c id → Runs c ids b
      after_rest _ _ _ _ (goes c next end id ids step run) done = absurd (busy c next id step done)
      after_rest _ _ _ _ (rests c end id ids also run) done = run

      pub one_run : (c : C) (ids : List ℕ) (a b : C) → Holds c → Runs c ids a → Runs c ids b → a ≡ b
      one_run _ _ _ b h (ended c) second = no_more c b second
      one_run _ _ _ b h (goes c next end id ids step run) second =
          let other = after_step c id ids b second (busy c next id step) in
          let same : other.0 ≡ next = one_step c other.0 next id h other.1 step in
          one_run next ids end b (keeps c id next h step) run (subst (λ (v : C). Runs v ids b) same other.2)
      one_run _ _ _ b h (rests c end id ids done run) second = one_run c ids end b h run (after_rest c id ids b second done)
