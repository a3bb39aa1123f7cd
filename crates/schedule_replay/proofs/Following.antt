-- Schedules that are followed, one step after another.
use Rattle.std.proofs.Common.{◌≡◌, ℕ, zero, suc, ◌+◌, ◌-◌, ◌<◌, ◌≤◌, List, [], ◌∷◌, ◌++◌, length, replicate, refl, sym, subst, arith}
use Rattle.store_spec.proofs.Common.{All, All-get_or, All-nil, All-push, All-weaker, IsNonDecreasing, append-nil, append_assoc, replicate-append-replicate}
use Rattle.std.proofs.lemmas.List.Sorted.{IsNonDecreasingBy-push, IsNonDecreasingBy-short}
use Rattle.schedule_replay.specs.Machine.{InTurn, StepsOn}
use Rattle.step_core.proofs.Schedules.{follows_on}
use Rattle.step_core.specs.Schedule.{Follows}
use Rattle.step_core.specs.Schedule.Follows.{ended, goes, rests}
use Rattle.step_core.specs.declared.act.Stepped.{Stepped}
use Rattle.step_core.specs.declared.act.Stepped.TheVariants as stepped

-- what a step of one of them tells, where it is made in `before`
pub record Tells {C : Type 0} (Steps : C → ℕ → C → Type 0) (IsDone : C → ℕ → Type 0) (told : Stepped) (before : C) (id : ℕ) (now : C) : Type 0 where
  pub at_rest : told ≡ stepped.AtRest → IsDone before id
  pub unchanged : told ≡ stepped.AtRest → now ≡ before
  pub row : told ≡ stepped.Step → Steps before id now

module _ {C : Type 0} (Steps : C → ℕ → C → Type 0) (IsDone : C → ℕ → Type 0) where
  one : (told : Stepped) (before : C) (id : ℕ) (now : C) → Tells Steps IsDone told before id now → Follows Steps IsDone before (id ∷ []) now
  one stepped.AtRest before id now h = subst (λ (c : C). Follows Steps IsDone before (id ∷ []) c) (sym (h.unchanged refl)) (rests before before id [] (h.at_rest refl) (ended before))
  one stepped.Step before id now h = goes before now now id [] (h.row refl) (ended now)

  pub one_more : (a before now : C) (ids : List ℕ) (id : ℕ) (told : Stepped) → Follows Steps IsDone a ids before → Tells Steps IsDone told before id now → Follows Steps IsDone a (ids ++ id ∷ []) now
  one_more a before now ids id told run h = follows_on Steps IsDone a before now ids (id ∷ []) run (one told before id now h)

  pub stays : (c : C) (id : ℕ) → StepsOn Steps IsDone c id c
  stays c id = (0, ended c)

  pub steps_again : (a before now : C) (id : ℕ) (told : Stepped) → StepsOn Steps IsDone a id before → Tells Steps IsDone told before id now → StepsOn Steps IsDone a id now
  steps_again a before now id told on h = (
    on.0 + 1,
    subst (λ ids. Follows Steps IsDone a ids now) (replicate-append-replicate on.0 1 id) (one_more a before now (replicate on.0 id) id told on.1 h),
  )

-- ---- in turn

ascending_on : (rounds : List ℕ) (id count : ℕ) → IsNonDecreasing rounds → All (λ r. r ≤ id) rounds → IsNonDecreasing (rounds ++ replicate count id) × All (λ r. r ≤ id) (rounds ++ replicate count id)
ascending_on rounds id zero rising below = subst (λ ids. IsNonDecreasing ids × All (λ r. r ≤ id) ids) (sym (append-nil rounds)) (rising, below)
ascending_on rounds id (suc count) rising below =
    let more = IsNonDecreasingBy-push (λ n. n) rounds id rising (λ d some. All-get_or (λ r. r ≤ id) rounds (length rounds - 1) d (omega arith) below) in
    let bounded = All-push (λ r. r ≤ id) rounds id below (omega arith) in
    subst (λ ids. IsNonDecreasing ids × All (λ r. r ≤ id) ids) (append_assoc rounds (id ∷ []) (replicate count id)) (ascending_on (rounds ++ id ∷ []) id count more bounded)

-- those before one of them have stepped in ascending order
pub record InTurnBefore {C : Type 0} (Steps : C → ℕ → C → Type 0) (IsDone : C → ℕ → Type 0) (id : ℕ) (a now : C) : Type 0 where
  pub rounds : List ℕ
  pub ascending : IsNonDecreasing rounds
  pub before : All (λ r. r < id) rounds
  pub follows : Follows Steps IsDone a rounds now

module _ {C : Type 0} (Steps : C → ℕ → C → Type 0) (IsDone : C → ℕ → Type 0) where
  pub nobody_yet : (c : C) → InTurnBefore Steps IsDone 0 c c
  nobody_yet c = record {
    rounds = [];
    ascending = IsNonDecreasingBy-short (λ n. n) [] (omega arith);
    before = All-nil (λ r. r < 0);
    follows = ended c;
  }

  pub next_in_turn : (id : ℕ) (a b c : C) → InTurnBefore Steps IsDone id a b → StepsOn Steps IsDone b id c → InTurnBefore Steps IsDone (id + 1) a c
  next_in_turn id a b c so_far on =
      let both = ascending_on so_far.rounds id on.0 so_far.ascending (All-weaker (λ r. r < id) (λ r. r ≤ id) (λ r less. omega arith) so_far.rounds so_far.before) in
      record {
        rounds = so_far.rounds ++ replicate on.0 id;
        ascending = both.0;
        before = All-weaker (λ r. r ≤ id) (λ r. r < id + 1) (λ r no_more. omega arith) (so_far.rounds ++ replicate on.0 id) both.1;
        follows = follows_on Steps IsDone a b c so_far.rounds (replicate on.0 id) so_far.follows on.1;
      }

  pub all_in_turn : (id : ℕ) (a b : C) → InTurnBefore Steps IsDone id a b → InTurn Steps IsDone a b
  all_in_turn id a b so_far = record { rounds = so_far.rounds; ascending = so_far.ascending; follows = so_far.follows }
