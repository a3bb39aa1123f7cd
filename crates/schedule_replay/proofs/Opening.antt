-- The phase of a script that is ready, and what a machine that plays it tells.
use Rattle.std.proofs.Common.{◌≡◌, ◌≢◌, ◌≤◌, ℕ, List, Result, Ok, Err, length, map, sym, ap, ◌∙◌, subst, arith}
use Rattle.store_spec.proofs.Common.{All, All-map, All-weaker, Election, IfOk, IsNumber, length-map, most_ballots}
use Rattle.schedule_replay.proofs.CastShort as cast_short
use Rattle.schedule_replay.proofs.Playing.{TellsCasting, TellsWithdrawing, cast_told, withdraw_told}
use Rattle.schedule_replay.proofs.WithdrawShort as withdraw_short
use Rattle.schedule_replay.specs.Machine.{IsShort, IsShortCasting, IsShortWithdrawing}
use Rattle.schedule_replay.specs.Replayed.{ReplaysCast, ReplaysWithdraw}
use Rattle.schedule_replay.specs.Runs.{IsScheduled}
use Rattle.schedule_replay.specs.Script.{MayBeOpened, lists_of}
use Rattle.schedule_replay.specs.declared.script.Script.{Script}
use Rattle.step_core.specs.Casting as casting
use Rattle.step_core.specs.CastingInvariant as casting_kept
use Rattle.step_core.specs.Casting.{Casting}
use Rattle.step_core.specs.Withdrawing as withdrawing
use Rattle.step_core.specs.WithdrawingInvariant as withdrawing_kept
use Rattle.step_core.specs.Withdrawing.{Withdrawing}

each_short : (numbers : List ℕ) → All IsNumber numbers → All IsShort numbers
each_short numbers h = All-weaker IsNumber IsShort (λ n is. is.1) numbers h

lists_short : {V : Type 0} (items : V → List ℕ) (lists : List V) → All (λ v. All IsNumber (items v)) lists → All (All IsShort) (map items lists)
lists_short items lists h = All-map (All IsShort) items lists (All-weaker (λ v. All IsNumber (items v)) (λ v. All IsShort (items v)) (λ v. each_short (items v)) lists h)

-- no number of a script is 0
pub each_some : (numbers : List ℕ) → All IsNumber numbers → All (λ x. x ≢ 0) numbers
each_some numbers h = All-weaker IsNumber (λ x. x ≢ 0) (λ n is zero. omega (arith, is.0, zero)) numbers h

pub lists_some : {V : Type 0} (items : V → List ℕ) (lists : List V) → All (λ v. All IsNumber (items v)) lists → All (λ v. All (λ x. x ≢ 0) (items v)) lists
lists_some items lists h = All-weaker (λ v. All IsNumber (items v)) (λ v. All (λ x. x ≢ 0) (items v)) (λ v. each_some (items v)) lists h

-- as many take part as there are lists
pub cast_counted : (e : Election) (script : Script) (core : Casting) → core ≡ casting.opened e.bits e.salt e.limit script.base.items (lists_of script) → length core.tabs ≡ length script.lists.items
cast_counted e script core is = ap (λ (c : Casting). length c.tabs) is ∙ simp length-map

pub withdraw_counted : (e : Election) (script : Script) (core : Withdrawing) → core ≡ withdrawing.opened e.bits e.salt e.limit script.base.items (lists_of script) → length core.tabs ≡ length script.lists.items
withdraw_counted e script core is = ap (λ (w : Withdrawing). length w.tabs) is ∙ simp length-map

-- the turns of a script are those of as many
pub turns_within : (e : Election) (script : Script) (turns : List ℕ) (tabs : ℕ) → MayBeOpened e script → turns ≡ script.schedule.items → tabs ≡ length script.lists.items → IsScheduled tabs turns
turns_within e script turns tabs ready same counted =
    subst (λ (n : ℕ). IsScheduled n turns) (sym counted) (subst (IsScheduled (length script.lists.items)) (sym same) ready.turns)

-- a phase that is opened under an election's parts is opened under the election
module _ {C : Type 0} (open_as : ℕ → ℕ → ℕ → List ℕ → List (List ℕ) → C) where
  pub opened_under : (e : Election) (script : Script) (bits salt limit : ℕ) (start : List ℕ) (core : C) → bits ≡ e.bits → salt ≡ e.salt → limit ≡ e.limit → start ≡ script.base.items → core ≡ open_as bits salt limit start (lists_of script) → core ≡ open_as e.bits e.salt e.limit script.base.items (lists_of script)
  opened_under e script bits salt limit start core b s l base is =
      is
      ∙ ap (λ n. open_as n salt limit start (lists_of script)) b
      ∙ ap (λ n. open_as e.bits n limit start (lists_of script)) s
      ∙ ap (λ n. open_as e.bits e.salt n start (lists_of script)) l
      ∙ ap (λ ns. open_as e.bits e.salt e.limit ns (lists_of script)) base

pub cast_opens : (e : Election) (script : Script) (core : Casting) → MayBeOpened e script → e.limit ≤ most_ballots → core ≡ casting.opened e.bits e.salt e.limit script.base.items (lists_of script) → casting_kept.IsCasting core → IsShortCasting core
cast_opens e script core ready few is holds =
    subst IsShortCasting (sym is) (cast_short.opened_short e.bits e.salt e.limit script.base.items (lists_of script) few (each_short script.base.items ready.base)
    (lists_short (λ list. list.items) script.lists.items ready.listed) (subst casting_kept.IsCasting is holds))

pub withdraw_opens : (e : Election) (script : Script) (core : Withdrawing) → MayBeOpened e script → e.limit ≤ most_ballots → core ≡ withdrawing.opened e.bits e.salt e.limit script.base.items (lists_of script) → withdrawing_kept.IsWithdrawing core → IsShortWithdrawing core
withdraw_opens e script core ready few is holds =
    subst IsShortWithdrawing (sym is) (withdraw_short.opened_short e.bits e.salt e.limit script.base.items (lists_of script) few (each_short script.base.items ready.base)
    (subst withdrawing_kept.IsWithdrawing is holds))

pub cast_replays : {A F : Type 0} (e : Election) (script : Script) (core : Casting) (schedule : List ℕ) (r : Result A F) (bytes : A → List ℕ) → schedule ≡ script.schedule.items → core ≡ casting.opened e.bits e.salt e.limit script.base.items (lists_of script) → IfOk r (λ text. TellsCasting core schedule (bytes text)) → IfOk r (λ text. ReplaysCast e script.base.items (lists_of script) script.schedule.items (bytes text))
cast_replays e script core schedule (Ok text) bytes turns is told =
    cast_told e script.base.items (lists_of script) core script.schedule.items (bytes text) is (subst (λ ts. TellsCasting core ts (bytes text)) turns told)
cast_replays e script core schedule (Err fault) bytes turns is told = tt

pub withdraw_replays : {A F : Type 0} (e : Election) (script : Script) (core : Withdrawing) (schedule : List ℕ) (r : Result A F) (bytes : A → List ℕ) → schedule ≡ script.schedule.items → core ≡ withdrawing.opened e.bits e.salt e.limit script.base.items (lists_of script) → IfOk r (λ text. TellsWithdrawing core schedule (bytes text)) → IfOk r (λ text. ReplaysWithdraw e script.base.items (lists_of script) script.schedule.items (bytes text))
withdraw_replays e script core schedule (Ok text) bytes turns is told =
    withdraw_told e script.base.items (lists_of script) core script.schedule.items (bytes text) is (subst (λ ts. TellsWithdrawing core ts (bytes text)) turns told)
withdraw_replays e script core schedule (Err fault) bytes turns is told = tt
