-- A core keeps what holds of it where one of its tabulators makes a step, or none.
use Rattle.std.proofs.Common.{◌≡◌, ◌↔◌, Bool, true, [], ℕ, ◌+◌, ◌-◌, ◌^◌, ◌<◌, Some, List, length, get_or, set, map, refl, sym, ap, ◌∙◌, subst, arith}
use Rattle.store_spec.proofs.Common.{All, All-map, All-set, Answer, Global, Table, Vec, get_or_from_slice_get, home_of, length-map, map-set, option_map_or, set-get_or, slice_get, slice_get_within}
use Rattle.std.proofs.lemmas.Option.{slice_get_read}
use Rattle.step_core.proofs.CastingEnds.{ends}
use Rattle.step_core.proofs.CastingLists.{steps_list}
use Rattle.step_core.proofs.CastingMeasure.{steps_fall}
use Rattle.step_core.proofs.CastingSteps.{steps_keep}
use Rattle.step_core.proofs.CoreSteps.{may_step}
use Rattle.step_core.proofs.CoreTabs.{mets_are}
use Rattle.step_core.proofs.Sets.{All-from_map, stands-map}
use Rattle.step_core.specs.CastCore.{HasReplyRoom, MayStep, TabSteps, met_of, tab_of}
use Rattle.step_core.specs.CastCoreKept.{IsCoreKept, casting_of}
use Rattle.step_core.specs.Casting.{Casting, HasEnded, IsDone, Steps, lists_in, mets_at, table_in}
use Rattle.step_core.specs.CastingInvariant.{FallsAt, IsCasting}
use Rattle.step_core.specs.Casting as casting
use Rattle.step_core.specs.Shape.{table_of}
use Rattle.step_core.specs.declared.act.Stepped.{Stepped}
use Rattle.step_core.specs.declared.act.Stepped.TheVariants.{AtRest, Step}
use Rattle.step_core.specs.declared.cast_core.CastCore.TheInside.{Inside}
use Rattle.step_core.specs.declared.tabulator.Tabulator.{Tabulator}

-- one tabulator by itself that is done is all of them
alone_done : (tabs : List casting.Tabulator) (id : ℕ) (tab : casting.Tabulator) → length tabs ≡ 1 → slice_get tabs id ≡ Some tab → IsDone tab → All IsDone tabs
alone_done tabs id tab one stands done k d within =
    let lt = slice_get_within tabs id tab stands in
    let same : k ≡ id = omega arith in
    subst IsDone (sym (ap (λ i. get_or tabs i d) same ∙ get_or_from_slice_get tabs id tab d stands)) done

-- the shape is the table of the phase
pub shape_is : (a : Inside) → IsCoreKept a → table_of a.shape ≡ table_in (casting_of a)
shape_is a h =
    let home = home_of a.shape.order.bits a.shape.order.salt in
    let table = λ (cells claims : ℕ). (let t : Table = record { home = home; cells = cells; claims = claims } in t) in
    let many : a.shape.claims ≡ (a.shape.claims + length a.base.items) - length a.base.items = omega arith in
    ap (λ n. table n a.shape.claims) h.cells ∙ ap (λ n. table (2 ^ a.shape.order.bits + (a.shape.claims + length a.base.items)) n) many

-- the phase with these words and this tabulator in place of one
abbrev pub with_step : Inside → ℕ → List ℕ → Tabulator → Casting
with_step a id words now = record (casting_of a) { words = words; tabs = map tab_of (set a.tabs.items id now) }

module _ (a : Inside) (h : IsCoreKept a) (id : ℕ) (within : id < length a.tabs.items) (tab : Tabulator) (is : tab ≡ get_or a.tabs.items id tab) where
  pub stands : slice_get (casting_of a).tabs id ≡ Some (tab_of tab)
  stands = stands-map tab_of a.tabs.items id tab (slice_get_read a.tabs.items (length a.tabs.items) id tab refl within is)

  pub asks : MayStep (table_of a.shape) a.words.items (tab_of tab)
  asks = subst (λ (t : Table). MayStep t a.words.items (tab_of tab)) (sym (shape_is a h)) (may_step (casting_of a) h.casting id (tab_of tab) stands)

  pub steps : (words : List ℕ) (now : Tabulator) → TabSteps (table_of a.shape) a.base.items a.words.items (tab_of tab) words (tab_of now) → Steps (casting_of a) id (with_step a id words now)
  steps words now s =
      let c = casting_of a in
      let t = subst (λ (t : Table). TabSteps t a.base.items a.words.items (tab_of tab) words (tab_of now)) (shape_is a h) s in
      let tabs : map tab_of (set a.tabs.items id now) ≡ set c.tabs id (tab_of now) = map-set tab_of a.tabs.items id now in
      record {
        tab = tab_of tab;
        acts = stands;
        word = t.word;
        left = t.left;
        new = t.new;
        note = t.note;
        row = t.row;
        is = ap (λ (ws : List ℕ). record c { words = ws; tabs = map tab_of (set a.tabs.items id now) }) t.put
            ∙ ap (λ ts. record c { words = set c.words t.word t.left; tabs = ts }) (tabs ∙ ap (set c.tabs id) t.is);
      }

  -- nothing changes where the tabulator is done
  pub with_none : (words : List ℕ) (now : Tabulator) → words ≡ a.words.items → now ≡ tab → with_step a id words now ≡ casting_of a
  with_none words now same_words same_tab =
      let c = casting_of a in
      let tabs : set a.tabs.items id now ≡ a.tabs.items = ap (set a.tabs.items id) (same_tab ∙ is) ∙ set-get_or a.tabs.items id tab in
      ap (λ (ws : List ℕ). record c { words = ws; tabs = map tab_of (set a.tabs.items id now) }) same_words
      ∙ ap (λ ts. record c { tabs = map tab_of ts }) tabs

  pub casting_after : (result : Stepped) (words : List ℕ) (now : Tabulator) → (result ≡ AtRest → (words ≡ a.words.items) × (now ≡ tab)) → (result ≡ Step → TabSteps (table_of a.shape) a.base.items a.words.items (tab_of tab) words (tab_of now)) → IsCasting (with_step a id words now)
  casting_after AtRest words now unchanged stepped = let same = unchanged refl in subst IsCasting (sym (with_none words now same.0 same.1)) h.casting
  casting_after Step words now unchanged stepped = steps_keep (casting_of a) id (with_step a id words now) h.casting (steps words now (stepped refl))

  pub lists_after : (result : Stepped) (words : List ℕ) (now : Tabulator) → (result ≡ AtRest → (words ≡ a.words.items) × (now ≡ tab)) → (result ≡ Step → TabSteps (table_of a.shape) a.base.items a.words.items (tab_of tab) words (tab_of now)) → lists_in (with_step a id words now) ≡ lists_in (casting_of a)
  lists_after AtRest words now unchanged stepped = let same = unchanged refl in ap lists_in (with_none words now same.0 same.1)
  lists_after Step words now unchanged stepped = steps_list (casting_of a) id (with_step a id words now) (steps words now (stepped refl))

  -- the core that is kept after it
  pub kept_after : (result : Stepped) (words : Vec ℕ Global) (tabs : Vec Tabulator Global) (now : Tabulator) → tabs.items ≡ set a.tabs.items id now → (result ≡ AtRest → (words.items ≡ a.words.items) × (now ≡ tab)) → (result ≡ Step → TabSteps (table_of a.shape) a.base.items a.words.items (tab_of tab) words.items (tab_of now)) → HasReplyRoom now → IsCoreKept (record { shape = a.shape; base = a.base; words = words; tabs = tabs })
  kept_after result words tabs now put unchanged stepped room = record {
    casting = subst (λ (ts : List Tabulator). IsCasting (record (casting_of a) { words = words.items; tabs = map tab_of ts })) (sym put) (casting_after result words.items now unchanged stepped);
    cells = h.cells;
    small = h.small;
    in_order = h.in_order;
    room = subst (All HasReplyRoom) (sym put) (All-set HasReplyRoom a.tabs.items id now room h.room);
  }

-- ---- as a caller sees it

-- what a step of the code has left of its words and its tabulator
pub record IsStepped (a : Inside) (tab : Tabulator) (result : Stepped) (base before words : List ℕ) (now : Tabulator) : Type 0 where
  pub own_base : base ≡ a.base.items
  pub own_words : before ≡ a.words.items
  pub unchanged : result ≡ AtRest → (words ≡ before) × (now ≡ tab)
  pub row : result ≡ Step → TabSteps (table_of a.shape) base before (tab_of tab) words (tab_of now)

module _ (a : Inside) (h : IsCoreKept a) (seen : Casting) (is_seen : casting_of a ≡ seen) (id : ℕ) (inside : id < length seen.tabs) (tab : Tabulator) (is : tab ≡ get_or a.tabs.items id tab) (result : Stepped) (base before words : List ℕ) (now : Tabulator) (s : IsStepped a tab result base before words now) (kept_words : List ℕ) (same : kept_words ≡ words) where
  pub within : id < length a.tabs.items
  within = omega (arith, ap (λ (c : Casting). length c.tabs) is_seen, length-map a.tabs.items tab_of)

  unchanged_now : result ≡ AtRest → (kept_words ≡ a.words.items) × (now ≡ tab)
  unchanged_now e = let none = s.unchanged e in (same ∙ none.0 ∙ s.own_words, none.1)

  stepped_now : result ≡ Step → TabSteps (table_of a.shape) a.base.items a.words.items (tab_of tab) kept_words (tab_of now)
  stepped_now e =
      subst (λ (ws : List ℕ). TabSteps (table_of a.shape) a.base.items a.words.items (tab_of tab) ws (tab_of now)) (sym same)
      (subst (λ (b : List ℕ). TabSteps (table_of a.shape) b a.words.items (tab_of tab) words (tab_of now)) s.own_base
      (subst (λ (ws : List ℕ). TabSteps (table_of a.shape) base ws (tab_of tab) words (tab_of now)) s.own_words (s.row e)))

  pub row_seen : result ≡ Step → Steps seen id (with_step a id kept_words now)
  row_seen e = subst (λ (c : Casting). Steps c id (with_step a id kept_words now)) is_seen (steps a h id within tab is kept_words now (stepped_now e))

  pub falls_seen : result ≡ Step → FallsAt seen id (with_step a id kept_words now)
  falls_seen e = steps_fall seen id (with_step a id kept_words now) (subst IsCasting is_seen h.casting) (row_seen e)

  pub invariant_seen : IsCasting (with_step a id kept_words now)
  invariant_seen = casting_after a h id within tab is result kept_words now unchanged_now stepped_now

  pub lists_seen : lists_in (with_step a id kept_words now) ≡ lists_in seen
  lists_seen = lists_after a h id within tab is result kept_words now unchanged_now stepped_now ∙ ap lists_in is_seen

  -- one that was alone, and is done
  pub alone_seen : length seen.tabs ≡ 1 → result ≡ AtRest → IsDone (tab_of tab) → HasEnded (with_step a id kept_words now)
  alone_seen one e done =
      let none = unchanged_now e in
      let all : All IsDone (casting_of a).tabs = alone_done (casting_of a).tabs id (tab_of tab) (ap (λ (c : Casting). length c.tabs) is_seen ∙ one) (stands a h id within tab is) done in
      subst HasEnded (sym (with_none a h id within tab is kept_words now none.0 none.1)) (ends (casting_of a) h.casting all)

  pub kept_seen : (words_vec : Vec ℕ Global) (tabs : Vec Tabulator Global) → words_vec.items ≡ kept_words → tabs.items ≡ set a.tabs.items id now → HasReplyRoom now → IsCoreKept (record { shape = a.shape; base = a.base; words = words_vec; tabs = tabs })
  kept_seen words_vec tabs words_are put room =
      kept_after a h id within tab is result words_vec tabs now put
      (λ e. let none = unchanged_now e in (words_are ∙ none.0, none.1))
      (λ e. subst (λ (ws : List ℕ). TabSteps (table_of a.shape) a.base.items a.words.items (tab_of tab) ws (tab_of now)) (sym words_are) (stepped_now e))
      room

-- ---- what a caller reads

pub mets_seen : (a : Inside) (h : IsCoreKept a) (seen : Casting) (is_seen : casting_of a ≡ seen) (id : ℕ) (inside : id < length seen.tabs) (tab : Tabulator) (is : tab ≡ get_or a.tabs.items id tab) → map met_of tab.replies.items ≡ mets_at seen id
mets_seen a h seen is_seen id inside tab is =
    let within : id < length a.tabs.items = omega (arith, ap (λ (c : Casting). length c.tabs) is_seen, length-map a.tabs.items tab_of) in
    let room : HasReplyRoom tab = subst HasReplyRoom (sym is) (h.room id tab within) in
    let few = room.no_more in
    subst (λ (c : Casting). map met_of tab.replies.items ≡ mets_at c id) is_seen
    (sym (mets_are tab.list.items tab.replies.items (omega (arith, tab.list.ok.0, tab.replies.ok.0)))
    ∙ ap (λ o. option_map_or (λ (t : casting.Tabulator). map (λ (x : Answer). x.met) t.answers) o []) (sym (stands a h id within tab is)))

pub done_seen : (a : Inside) (seen : Casting) (result : Bool) → casting_of a ≡ seen → (result ≡ true) ↔ All (λ tab. IsDone (tab_of tab)) a.tabs.items → (result ≡ true) ↔ All IsDone seen.tabs
done_seen a seen result is_seen h =
    subst (λ (c : Casting). (result ≡ true) ↔ All IsDone c.tabs) is_seen
    (λ e. All-map IsDone tab_of a.tabs.items (h.0 e), λ all. h.1 (All-from_map IsDone tab_of a.tabs.items all))
