-- The states that a seat of withdrawing goes through for one number, and what its steps keep.
use Rattle.std.proofs.Common.{◌≡◌, ◌<◌, ℕ, refl, sym, ◌∙◌, subst, append-nil, arith}
use Rattle.store_spec.proofs.Common.{Chosen, Down, Falls, Owing, Up, WithdrawNote, WithdrawRow, WithdrawState, WithdrawView, began, emptied, found_candidate, found_lower_candidate, found_owed, kept_candidate, left_by, looked_higher, looked_lower, lost, refilled, walked_on, withdraw_act, withdraw_measure, withdraw_number, word_of}
use Rattle.std.specs.Bool.{⊤}
use Rattle.step_core.specs.WithdrawTables.{LeadsTo}
use Rattle.store_spec.specs.WithdrawStep.WithdrawState.{Rest}
use Rattle.word_rule.proofs.WithdrawRemoval.{goes_on}
use Rattle.word_rule.proofs.WithdrawWork.{IsBounded, stays_bounded, work_falls, work_left}
use Rattle.word_rule.specs.Chain.{Rows}
use Rattle.word_rule.specs.Chain.Rows.{one_more}
use Rattle.word_rule.specs.WithdrawRemoval.{IsRemoving}
use Rattle.word_rule.specs.WithdrawWords.{MakesRow}

-- it walks, or owes a removal
abbrev pub Walks : WithdrawState → Type 0
Walks Rest = ⊥
Walks (Chosen x place) = ⊤
Walks (Owing x bound) = ⊤
Walks (Up x bound place) = ⊥
Walks (Down x bound place c source) = ⊥

-- it owes a removal, or is done
abbrev pub Owes : WithdrawState → Type 0
Owes Rest = ⊤
Owes (Chosen x place) = ⊥
Owes (Owing x bound) = ⊤
Owes (Up x bound place) = ⊥
Owes (Down x bound place c source) = ⊥

-- it owes a removal, or looks for what fills the hole
abbrev pub Rises : WithdrawState → Type 0
Rises Rest = ⊥
Rises (Chosen x place) = ⊥
Rises (Owing x bound) = ⊤
Rises (Up x bound place) = ⊤
Rises (Down x bound place c source) = ⊤

-- it is on the way down to the hole, or owes a removal, or is done
abbrev pub Sinks : WithdrawState → Type 0
Sinks Rest = ⊤
Sinks (Chosen x place) = ⊥
Sinks (Owing x bound) = ⊤
Sinks (Up x bound place) = ⊥
Sinks (Down x bound place c source) = ⊤

-- what may follow a state
abbrev pub Follows : WithdrawState → WithdrawState → Type 0
Follows Rest new = ⊤
Follows (Chosen x place) new = Walks new
Follows (Owing x bound) new = Rises new
Follows (Up x bound place) new = Rises new
Follows (Down x bound place c source) new = Sinks new

follows_by : (home : ℕ → ℕ) (from : WithdrawState) (word found left : ℕ) (new : WithdrawState) (note : WithdrawNote) → WithdrawRow home from word found left new note → Follows from new
follows_by home _ _ _ _ _ _ (walked_on less) = tt
follows_by home _ _ _ _ _ _ (began stops) = tt
follows_by home _ _ _ _ _ _ found_owed = tt
follows_by home _ _ _ _ _ _ (looked_lower other) = tt
follows_by home _ _ _ _ _ _ (looked_higher misfit) = tt
follows_by home _ _ _ _ _ _ (found_candidate fits) = tt
follows_by home _ _ _ _ _ _ (found_lower_candidate above fits) = tt
follows_by home _ _ _ _ _ _ (kept_candidate above misfit) = tt
follows_by home _ _ _ _ _ _ emptied = tt
follows_by home _ _ _ _ _ _ (refilled some) = tt
follows_by home _ _ _ _ _ _ (lost other) = tt

-- a removal under way, by rows, in a state whose numbers are bounded
pub record IsUnderWay (home : ℕ → ℕ) (top cells : ℕ) (first : WithdrawView) (state : WithdrawState) (now : WithdrawView) : Type 0 where
  pub removing : IsRemoving top first now
  pub rows : Rows (MakesRow home) first now
  pub bounded : IsBounded top cells state

-- what a step keeps, and what is left after it
pub record HasMoved (home : ℕ → ℕ) (top cells : ℕ) (first : WithdrawView) (from new : WithdrawState) (now : WithdrawView) : Type 0 where
  pub way : IsUnderWay home top cells first new now
  pub falls : work_left top cells new < work_left top cells from
  pub follows : Follows from new

pub has_moved : (home : ℕ → ℕ) (top cells : ℕ) (first old now : WithdrawView) (from new : WithdrawState) (note : WithdrawNote) → IsUnderWay home top cells first from old → old.state ≡ from → now.state ≡ new → MakesRow home old note now → Falls (withdraw_measure cells new) (withdraw_measure cells from) → HasMoved home top cells first from new now
has_moved home top cells first old now from new note way old_is now_is row falls =
    let leads = subst (λ (s : WithdrawState). LeadsTo home from row.found s note) now_is
    (subst (λ (s : WithdrawState). LeadsTo home s row.found now.state note) old_is row.leads) in
    let still = stays_bounded home top cells from row.found new note leads falls way.bounded in
    record {
      way = record { removing = goes_on home top first old note now way.removing row; rows = one_more old now note way.rows row; bounded = still };
      falls = work_falls top cells new from still falls;
      follows = follows_by home from (word_of (withdraw_act from)) row.found (left_by (withdraw_act from) row.found) new note leads;
    }

-- a number that is chosen, to begin with
pub record HasChosen (cells : ℕ) (view : WithdrawView) (state : WithdrawState) : Type 0 where
  pub removing : IsRemoving (withdraw_number state) view view
  pub bounded : IsBounded (withdraw_number state) cells state
  pub walks : Walks state

pub has_chosen : (cells x place : ℕ) (view : WithdrawView) (state : WithdrawState) → state ≡ Chosen x place → view.state ≡ state → HasChosen cells view state
has_chosen cells x place view state is view_is =
    subst (HasChosen cells view) (sym is)
    (record {
      removing = subst (λ (s : WithdrawState). IsRemoving x view (record view { state = s })) (sym (view_is ∙ is)) (record { walks = refl; begun = sym (append-nil view.begun); gone = refl });
      bounded = omega arith;
      walks = tt;
    })
