-- What waits in the lists of a phase.
use Rattle.std.proofs.Common.{◌≡◌, ℕ, zero, suc, ◌+◌, ◌-◌, ◌<◌, ◌≤◌, leb, List, [], ◌∷◌, ◌++◌, get_or, length, map, set, replicate, refl, sym, ap, subst, ◌∙◌, append_assoc, append-nil, arith}
use Rattle.store_spec.proofs.Common.{AllByRecursion, Answers, Ballot, Effect, Election, IsPermutation, IsPermutation-append_comm, IsPermutation-append_left, IsPermutation-append_right, IsPermutation-refl, IsPermutation-trans, Phase, Plays, State, acknowledged_in, cond-true, flat_map, in_phase, le-leb, length-set, queued, queues, refusal, replies, stays, taken_line, taken_lines, written}

-- the items of lists, list by list
abbrev pub items_of : {X : Type 0} → List (List X) → List X
items_of lists = flat_map (λ list. list) lists

-- empty lists have none
pub nothing_waits : {X : Type 0} (tabs : ℕ) → items_of (replicate {A = List X} tabs []) ≡ []
nothing_waits zero = refl
nothing_waits (suc tabs) = nothing_waits tabs

-- one more in one of the lists
one_more : {X : Type 0} (lists : List (List X)) (k : ℕ) (x : X) → k < length lists → IsPermutation (items_of lists ++ x ∷ []) (items_of (set lists k (get_or lists k [] ++ x ∷ [])))
one_more [] k x within = absurd (omega arith)
one_more (list ∷ lists) zero x within =
    subst (λ l. IsPermutation l ((list ++ x ∷ []) ++ items_of lists)) (sym (append_assoc list (items_of lists) (x ∷ [])))
    (subst (IsPermutation (list ++ (items_of lists ++ x ∷ []))) (sym (append_assoc list (x ∷ []) (items_of lists)))
    (IsPermutation-append_right list (items_of lists ++ x ∷ []) (x ∷ items_of lists) (IsPermutation-append_comm (items_of lists) (x ∷ []))))
one_more (list ∷ lists) (suc k) x within =
    subst (λ l. IsPermutation l (list ++ items_of (set lists k (get_or lists k [] ++ x ∷ [])))) (sym (append_assoc list (items_of lists) (x ∷ [])))
    (IsPermutation-append_right list (items_of lists ++ x ∷ []) (items_of (set lists k (get_or lists k [] ++ x ∷ []))) (one_more lists k x (omega arith)))

module _ {X : Type 0} (e : Election) (phase : List (List X) → Phase) (set : List Ballot) (tabs : ℕ) (line : ℕ → List ℕ) (tab : ℕ → ℕ) (item : ℕ → X) where
  -- this line has its item wait
  pub record Waits (i : ℕ) : Type 0 where
    pub some : 1 ≤ tab i
    pub within : tab i ≤ tabs
    pub only : (n : ℕ) (lists : List (List X)) (effect : Effect) → Answers e n (in_phase (phase lists) set) (taken_line (line i)) effect → effect ≡ queues n (in_phase (phase lists) set) phase lists (tab i) (item i)

  -- so all items wait, and nothing is replied
  pub record AllWait (before : List (List X)) (is : List ℕ) (effects : List Effect) (end : State) : Type 0 where
    pub lists : List (List X)
    pub all : IsPermutation (items_of before ++ map item is) (items_of lists)
    pub ends : end ≡ in_phase (phase lists) set
    pub silent : written effects ≡ []
    pub unacknowledged : acknowledged_in effects ≡ []

  -- where there is a list for each
  pub all_wait : (is : List ℕ) → AllByRecursion Waits is → (n : ℕ) (lists : List (List X)) → length lists ≡ tabs → (effects : List Effect) (end : State)
      → Plays e n (in_phase (phase lists) set) (taken_lines (map line is)) effects end → AllWait lists is effects end
  all_wait [] wait n lists all [] end plays = record {
    lists = lists;
    all = subst (λ l. IsPermutation l (items_of lists)) (sym (append-nil (items_of lists))) (IsPermutation-refl (items_of lists));
    ends = plays;
    silent = refl;
    unacknowledged = refl;
  }
  all_wait [] wait n lists all (effect ∷ effects) end plays = absurd plays
  all_wait (i ∷ is) wait n lists all [] end plays = absurd plays
  all_wait (i ∷ is) wait n lists all (effect ∷ effects) end plays =
      let within : tab i ≤ length lists = omega (arith, wait.0.within) in
      let more = queued lists (tab i) (item i) in
      let next = replies [] (in_phase (phase more) set) in
      let does : effect ≡ next =
      wait.0.only n lists effect plays.0 ∙ cond-true (leb (tab i) (length lists)) next (stays (in_phase (phase lists) set) (refusal n _)) (le-leb (tab i) (length lists) within) in
      let behind = subst (λ (effect : Effect). Plays e (n + 1) effect.next (taken_lines (map line is)) effects end) does plays.1 in
      let rest = all_wait is wait.1 (n + 1) more (length-set lists (tab i - 1) (get_or lists (tab i - 1) [] ++ item i ∷ []) ∙ all) effects end behind in
      record {
        lists = rest.lists;
        all = subst (λ l. IsPermutation l (items_of rest.lists)) (append_assoc (items_of lists) (item i ∷ []) (map item is))
            (IsPermutation-trans ((items_of lists ++ item i ∷ []) ++ map item is) (items_of more ++ map item is) (items_of rest.lists)
            (IsPermutation-append_left (map item is) (items_of lists ++ item i ∷ []) (items_of more) (one_more lists (tab i - 1) (item i) (omega (arith, wait.0.some))))
            rest.all);
        ends = rest.ends;
        silent = ap (λ (effect : Effect). effect.reply ++ written effects) does ∙ rest.silent;
        unacknowledged = ap (λ (effect : Effect). effect.acknowledged ++ acknowledged_in effects) does ∙ rest.unacknowledged;
      }
