-- What one step of a phase does to the others, and schedules of a phase as those of a machine.
use Rattle.std.proofs.Common.{◌≡◌, ◌≢◌, ℕ, Option, Some, None, List, length, get_or, set, refl, sym, ap, ◌∙◌, subst, arith}
use Rattle.store_spec.proofs.Common.{IsSomeAnd, get_or-set_other, get_or_from_slice_get, length-set, slice_get, slice_get-get_or, slice_get_within}
use Rattle.schedule_replay.proofs.CastShort as cast_short
use Rattle.schedule_replay.proofs.WithdrawShort as withdraw_short
use Rattle.schedule_replay.specs.Machine.{IsShortCasting, IsShortWithdrawing}
use Rattle.step_core.specs.Casting as casting
use Rattle.step_core.specs.CastingInvariant as casting_kept
use Rattle.step_core.specs.Casting.{Casting}
use Rattle.step_core.specs.Withdrawing as withdrawing
use Rattle.step_core.specs.WithdrawingInvariant as withdrawing_kept
use Rattle.step_core.specs.Withdrawing.{Withdrawing}
use Rattle.step_core.specs.declared.act.Stepped.{Stepped}
use Rattle.step_core.specs.declared.act.Stepped.TheVariants as stepped

-- what holds of one place of a list holds there after another is set
kept_at : {X : Type 0} (P : X → Type 0) (xs : List X) (at id : ℕ) (x : X) → id ≢ at → IsSomeAnd (slice_get xs id) P → IsSomeAnd (slice_get (set xs at x) id) P
kept_at {X} P xs at id x other holds = found (slice_get xs id) refl holds
  where
    found : (o : Option X) → slice_get xs id ≡ o → IsSomeAnd o P → IsSomeAnd (slice_get (set xs at x) id) P
    found None is there = absurd there
    found (Some y) is there =
        let within = slice_get_within xs id y is in
        let same : get_or (set xs at x) id y ≡ y = get_or-set_other xs at id x y other ∙ get_or_from_slice_get xs id y y is in
        subst (λ (o : Option X). IsSomeAnd o P) (sym (slice_get-get_or (set xs at x) id y (omega (arith, length-set xs at x)) ∙ ap (λ (z : X). Some z) same)) there

-- ---- casting

module _ (c : Casting) (tab : ℕ) (now : Casting) where
  pub cast_others : (told : Stepped) → (told ≡ stepped.AtRest → now ≡ c) → (told ≡ stepped.Step → casting.Steps c tab now) → (id : ℕ) → id ≢ tab → casting.IsDoneAt c id → casting.IsDoneAt now id
  cast_others stepped.AtRest still row id other done = subst (λ (d : Casting). casting.IsDoneAt d id) (sym (still refl)) done
  cast_others stepped.Step still row id other done =
      let s = row refl in
      subst (λ (d : Casting). casting.IsDoneAt d id) (sym s.is) (kept_at casting.IsDone c.tabs tab id (casting.after_step c.base (casting.table_in c).claims s.tab s.new s.note) other done)

  pub cast_tabs : (told : Stepped) → (told ≡ stepped.AtRest → now ≡ c) → (told ≡ stepped.Step → casting.Steps c tab now) → length now.tabs ≡ length c.tabs
  cast_tabs stepped.AtRest still row = ap (λ (d : Casting). length d.tabs) (still refl)
  cast_tabs stepped.Step still row =
      let s = row refl in
      ap (λ (d : Casting). length d.tabs) s.is ∙ length-set c.tabs tab (casting.after_step c.base (casting.table_in c).claims s.tab s.new s.note)

  pub cast_sound : (told : Stepped) → (told ≡ stepped.AtRest → now ≡ c) → (told ≡ stepped.Step → casting.Steps c tab now) → IsShortCasting c → casting_kept.IsCasting now → IsShortCasting now
  cast_sound stepped.AtRest still row h holds = subst IsShortCasting (sym (still refl)) h
  cast_sound stepped.Step still row h holds = cast_short.step_short c tab now h (row refl) holds

-- ---- withdrawing

module _ (w : Withdrawing) (tab : ℕ) (now : Withdrawing) where
  pub withdraw_others : (told : Stepped) → (told ≡ stepped.AtRest → now ≡ w) → (told ≡ stepped.Step → withdrawing.Steps w tab now) → (id : ℕ) → id ≢ tab → withdrawing.IsDoneAt w id → withdrawing.IsDoneAt now id
  withdraw_others stepped.AtRest still row id other done = subst (λ (d : Withdrawing). withdrawing.IsDoneAt d id) (sym (still refl)) done
  withdraw_others stepped.Step still row id other done =
      let s = row refl in
      subst (λ (d : Withdrawing). withdrawing.IsDoneAt d id) (sym s.is) (kept_at withdrawing.IsDone w.tabs tab id (withdrawing.after_step w.held s.tab s.new s.note) other done)

  pub withdraw_tabs : (told : Stepped) → (told ≡ stepped.AtRest → now ≡ w) → (told ≡ stepped.Step → withdrawing.Steps w tab now) → length now.tabs ≡ length w.tabs
  withdraw_tabs stepped.AtRest still row = ap (λ (d : Withdrawing). length d.tabs) (still refl)
  withdraw_tabs stepped.Step still row =
      let s = row refl in
      ap (λ (d : Withdrawing). length d.tabs) s.is ∙ length-set w.tabs tab (withdrawing.after_step w.held s.tab s.new s.note)

  pub withdraw_sound : (told : Stepped) → (told ≡ stepped.AtRest → now ≡ w) → (told ≡ stepped.Step → withdrawing.Steps w tab now) → IsShortWithdrawing w → withdrawing_kept.IsWithdrawing now → IsShortWithdrawing now
  withdraw_sound stepped.AtRest still row h holds = subst IsShortWithdrawing (sym (still refl)) h
  withdraw_sound stepped.Step still row h holds = withdraw_short.step_short w tab now h (row refl) holds
