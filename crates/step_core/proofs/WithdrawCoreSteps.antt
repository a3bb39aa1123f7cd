-- One step of a core is one step of the withdrawing phase that it stands for.
use Rattle.std.proofs.Common.{◌≡◌, ◌^◌, ℕ, ◌+◌, ◌<◌, List, length, get_or, set, map, Option, Some, refl, sym, ap, ◌∙◌, subst, arith}
use Rattle.store_spec.proofs.Common.{IsSomeAnd, cell_words, get_or-drop, get_or-map, home_of, layout_of, length-map, map-set, slice_get, slice_get-get_or, withdraw_act, word_of}
use Rattle.step_core.proofs.WithdrawReady.{may_find, sound_of, within_cells}
use Rattle.step_core.proofs.WithdrawingBase.{base_layout}
use Rattle.step_core.proofs.WithdrawingSteps.{steps_fall, steps_keep}
use Rattle.step_core.specs.WithdrawCore.{MayStep, Moves, TabSteps, base_of, tab_of}
use Rattle.step_core.specs.WithdrawCoreKept.{IsCoreKept, withdrawing_of}
use Rattle.step_core.specs.Withdrawing.{IsDone, IsDoneAt, Steps, Withdrawing, next_number}
use Rattle.step_core.specs.WithdrawingInvariant.{FallsAt, IsWithdrawer, IsWithdrawing, view_of}
use Rattle.step_core.specs.Withdrawing as phase
use Rattle.step_core.specs.declared.shape.Shape.{Shape}
use Rattle.step_core.specs.declared.withdraw_core.WithdrawCore.TheInside.{Inside}
use Rattle.step_core.specs.declared.withdrawer.Withdrawer.{Withdrawer}

-- the phase of some words and withdrawers
abbrev pub phase_of : Shape → ℕ → List ℕ → List ℕ → List Withdrawer → Withdrawing
phase_of shape limit held words tabs = record { bits = shape.order.bits; salt = shape.order.salt; limit = limit; held = held; words = words; tabs = map tab_of tabs }

module _ (shape : Shape) (limit : ℕ) (held words : List ℕ) (tabs : List Withdrawer) (id : ℕ) (tab : Withdrawer) (cells : shape.cells ≡ 2 ^ shape.order.bits + limit) (lt : id < length tabs) (at : get_or tabs id tab ≡ tab) (h : IsWithdrawing (phase_of shape limit held words tabs)) where
  abbrev w : Withdrawing
  w = phase_of shape limit held words tabs

  has : slice_get (map tab_of tabs) id ≡ Some (tab_of tab)
  has = slice_get-get_or (map tab_of tabs) id (tab_of tab) (omega (arith, length-map tabs tab_of)) ∙ ap Some (get_or-map tab_of tabs id tab (tab_of tab) lt ∙ ap tab_of at)

  has_view : slice_get (map view_of (map tab_of tabs)) id ≡ Some (view_of (tab_of tab))
  has_view =
      let within : id < length (map tab_of tabs) = omega (arith, length-map tabs tab_of) in
      slice_get-get_or (map view_of (map tab_of tabs)) id (view_of (tab_of tab)) (omega (arith, length-map (map tab_of tabs) view_of))
      ∙ ap Some (get_or-map view_of (map tab_of tabs) id (tab_of tab) (view_of (tab_of tab)) within ∙ ap view_of (get_or-map tab_of tabs id tab (tab_of tab) lt ∙ ap tab_of at))

  base_is : base_of shape held ≡ phase.base_in (phase_of shape limit held words tabs)
  base_is = ap (λ n. layout_of (home_of shape.order.bits shape.order.salt) n held) cells

  pub size_is : length (base_of shape held) ≡ shape.cells
  size_is = ap length base_is ∙ (base_layout shape.order.bits shape.order.salt limit held h.few_bits h.within_limit h.some h.distinct).size ∙ sym cells

  pub words_size : length words ≡ shape.cells + shape.cells
  words_size =
      let size : length words ≡ length (phase.base_in w) + length (phase.base_in w) = h.invariant.size in
      let one : length (phase.base_in w) ≡ shape.cells = ap length (sym base_is) ∙ size_is in
      omega arith

  pub done_at : IsDone (tab_of tab) → IsDoneAt (phase_of shape limit held words tabs) id
  done_at done = subst (λ (o : Option phase.Withdrawer). IsSomeAnd o IsDone) (sym has) done

  pub done_from : IsDoneAt (phase_of shape limit held words tabs) id → IsDone (tab_of tab)
  done_from done = subst (λ (o : Option phase.Withdrawer). IsSomeAnd o IsDone) has done

  pub may_step : MayStep (base_of shape held) held words (tab_of tab)
  may_step =
      let home = home_of shape.order.bits shape.order.salt in
      let base = phase.base_in w in
      let views = map view_of (map tab_of tabs) in
      let view = view_of (tab_of tab) in
      let sound = sound_of home base words views id view h.invariant has_view view.state refl in
      let own : IsWithdrawer held (tab_of tab) = subst (IsWithdrawer held) (get_or-map tab_of tabs id tab (tab_of tab) lt ∙ ap tab_of at) (h.tabs id (tab_of tab) (omega (arith, length-map tabs tab_of))) in
      subst (λ (l : List ℕ). MayStep l held words (tab_of tab)) (sym base_is) (let may : MayStep base held words (tab_of tab) = record {
        fits = within_cells home base (cell_words base words) views view.state sound;
        finds = λ moves. may_find home base words views id view h.invariant has_view view.state (get_or words (word_of (withdraw_act view.state)) 0) moves refl refl;
        flags = λ cell. let flag = sym (get_or-drop (length base) words cell 0) ∙ h.invariant.flags.counted cell in let once = h.invariant.flags.once (get_or base cell 0) in omega arith;
        some = h.some;
        next = own.next;
      } in may)

  pub core_steps : (words_now : List ℕ) (tab_now : Withdrawer) → TabSteps shape held words (tab_of tab) words_now (tab_of tab_now) → Steps (phase_of shape limit held words tabs) id (phase_of shape limit held words_now (set tabs id tab_now))
  core_steps words_now tab_now s =
      let base = phase.base_in w in
      let moves = subst (λ (l : List ℕ). Moves (home_of shape.order.bits shape.order.salt) l words (tab_of tab).state (next_number (tab_of tab).state (tab_of tab).left) words_now s.new s.note) base_is s.moves in
      record {
        tab = tab_of tab;
        acts = has;
        word = moves.word;
        left = moves.left;
        new = s.new;
        note = s.note;
        move = moves.move;
        is =
            ap (λ l. record { bits = shape.order.bits; salt = shape.order.salt; limit = limit; held = held; words = l; tabs = map tab_of (set tabs id tab_now) }) moves.put
            ∙ ap (λ l. record { bits = shape.order.bits; salt = shape.order.salt; limit = limit; held = held; words = set words moves.word moves.left; tabs = l }) (map-set tab_of tabs id tab_now ∙ ap (λ t. set (map tab_of tabs) id t) s.is);
      }

  pub core_keeps : (words_now : List ℕ) (tab_now : Withdrawer) → TabSteps shape held words (tab_of tab) words_now (tab_of tab_now) → IsWithdrawing (phase_of shape limit held words_now (set tabs id tab_now))
  core_keeps words_now tab_now s = steps_keep w id (phase_of shape limit held words_now (set tabs id tab_now)) h (core_steps words_now tab_now s)

  pub core_falls : (words_now : List ℕ) (tab_now : Withdrawer) → TabSteps shape held words (tab_of tab) words_now (tab_of tab_now) → FallsAt (phase_of shape limit held words tabs) id (phase_of shape limit held words_now (set tabs id tab_now))
  core_falls words_now tab_now s = steps_fall w id (phase_of shape limit held words_now (set tabs id tab_now)) h (core_steps words_now tab_now s)

-- ---- a core as it is kept

-- what a step of a core gives
pub record StepsTo (w : Withdrawing) (id : ℕ) (now : Withdrawing) : Type 0 where
  pub row : Steps w id now
  pub keeps : IsWithdrawing now
  pub falls : FallsAt w id now

pub core_step : (a : Inside) (id : ℕ) (tab : Withdrawer) (seen words_now : List ℕ) (tab_now : Withdrawer) → IsCoreKept a → id < length a.tabs.items → get_or a.tabs.items id tab ≡ tab → seen ≡ a.words.items → TabSteps a.shape a.index.numbers.items seen (tab_of tab) words_now (tab_of tab_now) → StepsTo (withdrawing_of a) id (phase_of a.shape a.limit a.index.numbers.items words_now (set a.tabs.items id tab_now))
core_step a id tab seen words_now tab_now kept lt at same row =
    let held = a.index.numbers.items in
    let own : TabSteps a.shape held a.words.items (tab_of tab) words_now (tab_of tab_now) = subst (λ (l : List ℕ). TabSteps a.shape held l (tab_of tab) words_now (tab_of tab_now)) same row in
    record {
      row = core_steps a.shape a.limit held a.words.items a.tabs.items id tab kept.cells lt at kept.phase words_now tab_now own;
      keeps = core_keeps a.shape a.limit held a.words.items a.tabs.items id tab kept.cells lt at kept.phase words_now tab_now own;
      falls = core_falls a.shape a.limit held a.words.items a.tabs.items id tab kept.cells lt at kept.phase words_now tab_now own;
    }

-- a withdrawer of the view is one of the core
pub tab_within : (a : Inside) (w : Withdrawing) (id : ℕ) → withdrawing_of a ≡ w → id < length w.tabs → id < length a.tabs.items
tab_within a w id is lt =
    let within : id < length (map tab_of a.tabs.items) = subst (λ (v : Withdrawing). id < length v.tabs) (sym is) lt in
    omega (arith, length-map a.tabs.items tab_of)

-- as the core's view tells it, with the words that are stored
pub core_step_to : (a : Inside) (w : Withdrawing) (id : ℕ) (tab : Withdrawer) (seen words_now stored : List ℕ) (tab_now : Withdrawer) → IsCoreKept a → withdrawing_of a ≡ w → id < length w.tabs → get_or a.tabs.items id tab ≡ tab → seen ≡ a.words.items → stored ≡ words_now → TabSteps a.shape a.index.numbers.items seen (tab_of tab) words_now (tab_of tab_now) → StepsTo w id (phase_of a.shape a.limit a.index.numbers.items stored (set a.tabs.items id tab_now))
core_step_to a w id tab seen words_now stored tab_now kept is lt at same put row =
    let within = tab_within a w id is lt in
    subst (λ (v : Withdrawing). StepsTo v id (phase_of a.shape a.limit a.index.numbers.items stored (set a.tabs.items id tab_now))) is
    (subst (λ (l : List ℕ). StepsTo (withdrawing_of a) id (phase_of a.shape a.limit a.index.numbers.items l (set a.tabs.items id tab_now))) (sym put)
    (core_step a id tab seen words_now tab_now kept within at same row))

pub core_done_from : (a : Inside) (w : Withdrawing) (id : ℕ) (tab : Withdrawer) → IsCoreKept a → withdrawing_of a ≡ w → id < length w.tabs → get_or a.tabs.items id tab ≡ tab → IsDoneAt w id → IsDone (tab_of tab)
core_done_from a w id tab kept is lt at done =
    done_from a.shape a.limit a.index.numbers.items a.words.items a.tabs.items id tab kept.cells (tab_within a w id is lt) at kept.phase (subst (λ (v : Withdrawing). IsDoneAt v id) (sym is) done)
