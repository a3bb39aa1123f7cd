-- Changes of cells: as more cells are looked at, and as they are exchanged.
use Rattle.std.proofs.Common.{◌≡◌, ◌≢◌, ◌⊎◌, ℕ, ◌+◌, ◌<◌, ◌≤◌, ⊎_elim, inl, inr, List, ◌++◌, ◌∷◌, [], get_or, length, map, refl, set, suc, subst, sym, ap, ◌∙◌, ◌-◌, arith, drop, length-take, take}
use Rattle.store_spec.proofs.Common.{All, All-push, Contains, all_pairs_push, bit_at, cases_eq, cases_lt, ext_get_or, get_or-drop, get_or-set_other, get_or-set_same, get_or-take, get_or_default, length-set, length_push}
use Rattle.std.proofs.lemmas.Map.Made.{Contains-tail}
use Rattle.std.proofs.lemmas.Nat.Bits.{bit_at-zero}
use Rattle.layout_def.proofs.Keyed.{among_at, among_from, among_pushed, among_still}
use Rattle.layout_def.specs.Changes.{AreChanges, AreChangesUpTo, StandFrom}
use Rattle.layout_def.specs.declared.changes.CellChange.{CellChange}

-- ---- more cells

pub none_changed : (old new : List ℕ) → AreChangesUpTo old new 0 []
none_changed old new = record {
  each = λ k d lt. absurd (omega (arith, lt));
  every = λ cell lt. absurd (omega (arith, lt));
  rising = λ i j d lt within. absurd (omega (arith, within));
  few = omega arith;
}

-- cells that are the same bring none
pub same_on : (old new : List ℕ) (n m : ℕ) (changes : List CellChange) → n ≤ m
    → ((cell : ℕ) → n ≤ cell → cell < m → get_or old cell 0 ≡ get_or new cell 0)
    → AreChangesUpTo old new n changes → AreChangesUpTo old new m changes
same_on old new n m changes onward same h = record {
  each = λ k d lt. (let within : (get_or changes k d).cell < m = omega (arith, (h.each k d lt).0, onward) in within, (h.each k d lt).1);
  every = λ cell lt other.
      ⊎_elim
      (λ (early : cell < n). h.every cell early other)
      (λ (later : n ≤ cell). absurd (other (same cell later lt)))
      (cases_lt cell n);
  rising = h.rising;
  few = omega (arith, h.few, onward);
}

-- one more cell that changes
pub changed_on : (old new : List ℕ) (n number : ℕ) (changes : List CellChange) → get_or new n 0 ≡ number
    → AreChangesUpTo old new n changes → AreChangesUpTo old new (n + 1) (changes ++ record { cell = n; number = number } ∷ [])
changed_on old new n number changes is h =
    let last : CellChange = record { cell = n; number = number } in
    record {
      each = All-push (λ (change : CellChange). (change.cell < n + 1) × (get_or new change.cell 0 ≡ change.number)) changes last
          (λ k d lt. (let within : (get_or changes k d).cell < n + 1 = omega (arith, (h.each k d lt).0) in within, (h.each k d lt).1))
          (omega arith, is);
      every = λ cell lt other.
          ⊎_elim
          (λ (early : cell < n). among_still (λ (change : CellChange). change.cell) changes last cell (h.every cell early other))
          (λ (later : n ≤ cell).
          let here : n ≡ cell = omega (arith, later, lt) in
          subst (λ v. Contains (map (λ (change : CellChange). change.cell) (changes ++ last ∷ [])) v) here
          (among_pushed (λ (change : CellChange). change.cell) changes last))
          (cases_lt cell n);
      rising = all_pairs_push (λ (one other : CellChange). one.cell < other.cell) changes last h.rising (λ k d lt. (h.each k d lt).0);
      few = omega (arith, h.few, length_push changes last);
    }

-- of the cells of a block those before a place are noted, and those from there on that change are marked
pub record IsNotedTo (before after : List ℕ) (first count place others : ℕ) (changes : List CellChange) : Type 0 where
  pub noted : AreChangesUpTo before after (first + place) changes
  pub within : place ≤ count
  pub below : (k : ℕ) → k < place → bit_at others k ≡ 0
  pub marked : (k : ℕ) → place ≤ k → k < count → get_or before (first + k) 0 ≢ get_or after (first + k) 0 → bit_at others k ≡ 1

-- cells that are not marked bring none
unmarked_on : (before after : List ℕ) (first count place others to : ℕ) (changes : List CellChange)
    → IsNotedTo before after first count place others changes → place ≤ to → to ≤ count
    → ((k : ℕ) → place ≤ k → k < to → bit_at others k ≡ 0) → AreChangesUpTo before after (first + to) changes
unmarked_on before after first count place others to changes h onward inside none =
    same_on before after (first + place) (first + to) changes (omega arith)
    (λ cell from lt.
    let k = cell - first in
    let here : first + k ≡ cell = omega (arith, from) in
    ⊎_elim
    (λ same. same)
    (λ other.
    let bit = h.marked k (omega (arith, from)) (omega (arith, from, lt, inside))
    (λ e. other (subst (λ cell. get_or before cell 0 ≡ get_or after cell 0) here e)) in
    absurd (omega (arith, bit, none k (omega (arith, from)) (omega (arith, from, lt)))))
    (cases_eq (get_or before cell 0) (get_or after cell 0)))
    h.noted

-- the first marked one is noted
pub one_noted : (before after : List ℕ) (first count place others at rest : ℕ) (changes : List CellChange)
    → IsNotedTo before after first count place others changes → bit_at others at ≡ 1 → ((k : ℕ) → k < at → bit_at others k ≡ 0)
    → at < count → bit_at rest at ≡ 0 → ((k : ℕ) → k < 64 → k ≢ at → bit_at rest k ≡ bit_at others k) → count ≤ 64
    → IsNotedTo before after first count (at + 1) rest (changes ++ record { cell = first + at; number = get_or after (first + at) 0 } ∷ [])
one_noted before after first count place others at rest changes h is none inside gone same few =
    let onward : place ≤ at =
    ⊎_elim
    (λ (early : at < place). absurd (omega (arith, h.below at early, is)))
    (λ (later : place ≤ at). later)
    (cases_lt at place) in
    let next : first + at + 1 ≡ first + (at + 1) = omega arith in
    record {
      noted =
          subst (λ n. AreChangesUpTo before after n (changes ++ record { cell = first + at; number = get_or after (first + at) 0 } ∷ [])) next
          (changed_on before after (first + at) (get_or after (first + at) 0) changes refl
          (unmarked_on before after first count place others at changes h onward (omega (arith, inside)) (λ k _ lt. none k lt)));
      within = omega (arith, inside);
      below = λ k lt.
          ⊎_elim
          (λ (early : k < at). same k (omega (arith, early, inside, few)) (λ e. omega (arith, early, e)) ∙ none k early)
          (λ (later : at ≤ k).
          let here : at ≡ k = omega (arith, later, lt) in
          subst (λ k. bit_at rest k ≡ 0) here gone)
          (cases_lt k at);
      marked = λ k from lt other.
          same k (omega (arith, lt, few)) (λ e. omega (arith, from, e))
          ∙ h.marked k (omega (arith, onward, from)) lt other;
    }

-- where none is marked any more all are noted
pub all_noted : (before after : List ℕ) (first count place others : ℕ) (changes : List CellChange)
    → IsNotedTo before after first count place others changes → others ≡ 0 → AreChangesUpTo before after (first + count) changes
all_noted before after first count place others changes h none =
    unmarked_on before after first count place others count changes h h.within (omega arith)
    (λ k _ _. ap (λ others. bit_at others k) none ∙ bit_at-zero k)

-- ---- made

-- the cells once each change has put its number
abbrev pub changed_cells : List ℕ → List CellChange → List ℕ
changed_cells cells [] = cells
changed_cells cells (change ∷ changes) = changed_cells (set cells change.cell change.number) changes

pub changed_are : (new cells : List ℕ) (changes : List CellChange) → length cells ≡ length new
    → All (λ (change : CellChange). (change.cell < length new) × (get_or new change.cell 0 ≡ change.number)) changes
    → ((cell : ℕ) → cell < length new → get_or cells cell 0 ≢ get_or new cell 0 → Contains (map (λ (change : CellChange). change.cell) changes) cell)
    → changed_cells cells changes ≡ new
changed_are new cells [] long each every =
    ext_get_or 0 cells new long (λ cell lt.
    ⊎_elim
    (λ same. same)
    (λ other. absurd (omega (arith, (every cell (omega (arith, lt, long)) other).1)))
    (cases_eq (get_or cells cell 0) (get_or new cell 0)))
changed_are new cells (change ∷ changes) long each every =
    let none : CellChange = record { cell = 0; number = 0 } in
    let first = each 0 none (omega arith) in
    let now = set cells change.cell change.number in
    let put : get_or now change.cell 0 ≡ get_or new change.cell 0 =
    get_or-set_same cells change.cell change.number 0 (omega (arith, first.0, long)) ∙ sym first.1 in
    changed_are new now changes (length-set cells change.cell change.number ∙ long)
    (λ k d lt. each (suc k) d (omega (arith, lt)))
    (λ cell lt other.
    let apart : cell ≢ change.cell = λ here. other (subst (λ cell. get_or now cell 0 ≡ get_or new cell 0) (sym here) put) in
    Contains-tail change.cell (map (λ (change : CellChange). change.cell) changes) cell (λ here. apart (sym here))
    (every cell lt (λ same. other (get_or-set_other cells change.cell cell change.number 0 apart ∙ same))))

-- changes make the other cells
pub changes_make : (old new : List ℕ) (changes : List CellChange) → AreChanges old new changes → changed_cells old changes ≡ new
changes_make old new changes are = changed_are new old changes are.as_many are.up_to.each are.up_to.every

-- a part of a list stands where it was taken
pub part_stands : (xs : List ℕ) (at count : ℕ) → StandFrom at (take count (drop at xs)) xs
part_stands xs at count k lt =
    sym (get_or-take count (drop at xs) k 0 (omega (arith, lt, length-take count (drop at xs))) ∙ get_or-drop at xs k 0)

-- ---- exchanged

-- of some changes so many first ones are exchanged
pub record IsExchanged (old after : List ℕ) (was : List CellChange) (at : ℕ) (cells : List ℕ) (changes : List CellChange) : Type 0 where
  pub long : length cells ≡ length old
  pub as_many : length changes ≡ length was
  pub same_cells : (k : ℕ) (d : CellChange) → k < length was → (get_or changes k d).cell ≡ (get_or was k d).cell
  pub either : (cell : ℕ) → (get_or cells cell 0 ≡ get_or old cell 0) ⊎ (get_or cells cell 0 ≡ get_or after cell 0)
  pub put : (k : ℕ) (d : CellChange) → k < at → k < length was
      → get_or cells (get_or was k d).cell 0 ≡ get_or after (get_or was k d).cell 0
  pub kept : (k : ℕ) (d : CellChange) → k < at → k < length was → (get_or changes k d).number ≡ get_or old (get_or was k d).cell 0
  pub left : (k : ℕ) (d : CellChange) → at ≤ k → k < length was
      → get_or cells (get_or was k d).cell 0 ≡ get_or old (get_or was k d).cell 0
  pub rest : (k : ℕ) (d : CellChange) → at ≤ k → k < length was → get_or changes k d ≡ get_or was k d

pub none_exchanged : (old after : List ℕ) (was : List CellChange) → IsExchanged old after was 0 old was
none_exchanged old after was = record {
  long = refl;
  as_many = refl;
  same_cells = λ k d lt. refl;
  either = λ cell. inl refl;
  put = λ k d early lt. absurd (omega (arith, early));
  kept = λ k d early lt. absurd (omega (arith, early));
  left = λ k d later lt. refl;
  rest = λ k d later lt. refl;
}

-- one more
pub one_exchanged : (old after : List ℕ) (was : List CellChange) (at : ℕ) (cells : List ℕ) (changes : List CellChange)
    → AreChanges old after was → at < length was → IsExchanged old after was at cells changes
    → (d : CellChange)
    → let one = get_or changes at d in
    IsExchanged old after was (at + 1) (set cells one.cell one.number)
    (set changes at (record { cell = one.cell; number = get_or cells one.cell 0 }))
one_exchanged old after was at cells changes are within h d =
    let one = get_or changes at d in
    let same : one ≡ get_or was at d = h.rest at d (omega arith) within in
    let known = are.up_to.each at d within in
    let here : one.cell ≡ (get_or was at d).cell = ap (λ (change : CellChange). change.cell) same in
    let is : get_or after one.cell 0 ≡ one.number =
    subst (λ (change : CellChange). get_or after change.cell 0 ≡ change.number) (sym same) known.1 in
    let inside : one.cell < length cells = omega (arith, known.0, here, are.as_many, h.long) in
    let back : CellChange = record { cell = one.cell; number = get_or cells one.cell 0 } in
    let among : at < length changes = omega (arith, within, h.as_many) in
    record {
      long = length-set cells one.cell one.number ∙ h.long;
      as_many = length-set changes at back ∙ h.as_many;
      same_cells = λ k e lt.
          ⊎_elim
          (λ (now : k ≡ at).
          subst (λ k. (get_or (set changes at back) k e).cell ≡ (get_or was k e).cell) (sym now)
          (ap (λ (change : CellChange). change.cell) (get_or-set_same changes at back e among) ∙ here
          ∙ ap (λ (change : CellChange). change.cell) (get_or_default was at d e within)))
          (λ other. ap (λ (change : CellChange). change.cell) (get_or-set_other changes at k back e other) ∙ h.same_cells k e lt)
          (cases_eq k at);
      either = λ cell.
          ⊎_elim
          (λ (now : cell ≡ one.cell).
          inr (subst (λ cell. get_or (set cells one.cell one.number) cell 0 ≡ get_or after cell 0) (sym now)
          (get_or-set_same cells one.cell one.number 0 inside ∙ sym is)))
          (λ other.
          ⊎_elim
          (λ stays. inl (get_or-set_other cells one.cell cell one.number 0 other ∙ stays))
          (λ moved. inr (get_or-set_other cells one.cell cell one.number 0 other ∙ moved))
          (h.either cell))
          (cases_eq cell one.cell);
      put = λ k e early lt.
          ⊎_elim
          (λ (before : k < at).
          let below = are.up_to.rising k at e before within in
          get_or-set_other cells one.cell (get_or was k e).cell one.number 0
          (λ same_cell. let less : (get_or was k e).cell < (get_or was at e).cell = below in
          absurd (omega (arith, less, same_cell, here, ap (λ (change : CellChange). change.cell) (get_or_default was at d e within))))
          ∙ h.put k e before lt)
          (λ (now : at ≤ k).
          let last : at ≡ k = omega (arith, early, now) in
          let place : one.cell ≡ (get_or was k e).cell = here ∙ ap (λ (change : CellChange). change.cell) (get_or_default was at d e within) ∙ ap (λ k. (get_or was k e).cell) last in
          subst (λ cell. get_or (set cells one.cell one.number) cell 0 ≡ get_or after cell 0) place
          (get_or-set_same cells one.cell one.number 0 inside ∙ sym is))
          (cases_lt k at);
      kept = λ k e early lt.
          ⊎_elim
          (λ (before : k < at).
          ap (λ (change : CellChange). change.number) (get_or-set_other changes at k back e (λ same_place. absurd (omega (arith, before, same_place))))
          ∙ h.kept k e before lt)
          (λ (now : at ≤ k).
          let last : at ≡ k = omega (arith, early, now) in
          let place : one.cell ≡ (get_or was k e).cell = here ∙ ap (λ (change : CellChange). change.cell) (get_or_default was at d e within) ∙ ap (λ k. (get_or was k e).cell) last in
          ap (λ k. (get_or (set changes at back) k e).number) (sym last)
          ∙ ap (λ (change : CellChange). change.number) (get_or-set_same changes at back e among)
          ∙ ap (λ cell. get_or cells cell 0) place
          ∙ h.left k e now lt)
          (cases_lt k at);
      left = λ k e later lt.
          let above = are.up_to.rising at k e (omega (arith, later)) lt in
          get_or-set_other cells one.cell (get_or was k e).cell one.number 0
          (λ same_cell. let more : (get_or was at e).cell < (get_or was k e).cell = above in
          absurd (omega (arith, more, same_cell, here, ap (λ (change : CellChange). change.cell) (get_or_default was at d e within))))
          ∙ h.left k e (omega (arith, later)) lt;
      rest = λ k e later lt.
          get_or-set_other changes at k back e (λ same_place. absurd (omega (arith, later, same_place)))
          ∙ h.rest k e (omega (arith, later)) lt;
    }

-- all of them
pub all_exchanged : (old after : List ℕ) (was : List CellChange) (at : ℕ) (cells : List ℕ) (changes : List CellChange)
    → AreChanges old after was → length was ≤ at → IsExchanged old after was at cells changes
    → (cells ≡ after) × AreChanges after old changes
all_exchanged old after was at cells changes are whole h =
    let none : CellChange = record { cell = 0; number = 0 } in
    let key : CellChange → ℕ = λ change. change.cell in
    let same_cell : (k : ℕ) (d : CellChange) → k < length was → (get_or changes k d).cell ≡ (get_or was k d).cell = h.same_cells in (
      ext_get_or 0 cells after (omega (arith, h.long, are.as_many))
          (λ cell lt.
          ⊎_elim
          (λ (stays : get_or old cell 0 ≡ get_or after cell 0). ⊎_elim (λ was_so. was_so ∙ stays) (λ now_so. now_so) (h.either cell))
          (λ other.
          let there = among_at key was cell none (are.up_to.every cell (omega (arith, lt, h.long, are.as_many)) other) in
          subst (λ cell. get_or cells cell 0 ≡ get_or after cell 0) there.2 (h.put there.0 none (omega (arith, there.1, whole)) there.1))
          (cases_eq (get_or old cell 0) (get_or after cell 0))),
      record {
        as_many = sym are.as_many;
        up_to = record {
          each = λ k d lt.
              let within : k < length was = omega (arith, lt, h.as_many) in
              let same = h.same_cells k d within in (
                (let inside : (get_or changes k d).cell < length old = omega (arith, (are.up_to.each k d within).0, same, are.as_many) in inside),
                ap (λ cell. get_or old cell 0) same ∙ sym (h.kept k d (omega (arith, within, whole)) within),
              );
          every = λ cell lt other.
              let there = among_at key was cell none (are.up_to.every cell (omega (arith, lt, are.as_many)) (λ e. other (sym e))) in
              among_from key changes there.0 cell none (omega (arith, there.1, h.as_many)) (h.same_cells there.0 none there.1 ∙ there.2);
          rising = λ i j d lt within.
              let second : j < length was = omega (arith, within, h.as_many) in
              let first : i < length was = omega (arith, lt, second) in
              omega (arith, are.up_to.rising i j d lt second, h.same_cells i d first, h.same_cells j d second);
          few = omega (arith, are.up_to.few, h.as_many, are.as_many);
        };
      },
    )
