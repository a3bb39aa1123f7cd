-- What workers have answered, item by item.
use Rattle.std.proofs.Common.{◌≡◌, ◌<◌, ◌++◌, ◌∙◌, [], ◌∷◌, ℕ, ◌-◌, All, List, ap, append-nil, append_assoc, arith, drop, get_or, length, map, refl, subst, sym}
use Rattle.store_spec.proofs.Common.{All-head, All-tail, get_or-zip, get_or_default, length-zip, map_push, zip}
use Rattle.phase_kind.proofs.Trays.{none_told, told_of}
use Rattle.phase_kind.specs.Phase.{OpenPhase}
use Rattle.phase_kind.specs.AnsweredItem.{AnsweredItem, answered_items}
use Rattle.phase_kind.specs.Worker.{HasFinished, WorkerView, worker_with}

-- nothing is left
none_left : {X : Type 0} (xs : List X) → length xs ≡ 0 → xs ≡ []
none_left [] none = refl
none_left (x ∷ xs) none = absurd (omega arith)

-- a new worker with its list
pub begun_with : {V I R : Type 0} (fresh view : V) (phase given : OpenPhase) (items list : List I) (replies : List R) (places : ℕ) → given ≡ phase → view ≡ fresh → items ≡ list → replies ≡ [] → places ≡ length list
    → record { phase = given; seat = view; room = places - length items; tray = answered_items items replies; waiting = drop (length replies) items } ≡ worker_with fresh phase list
begun_with {V} {I} {R} fresh view phase given items list replies places phase_is view_is items_are replies_are places_are =
    let made : OpenPhase → V → ℕ → List (AnsweredItem I R) → List I → WorkerView V I R = λ p v n t w. record { phase = p; seat = v; room = n; tray = t; waiting = w } in
    let room : places - length items ≡ 0 = omega (arith, places_are, ap length items_are) in
    let tray : answered_items items replies ≡ [] = ap (answered_items items) replies_are ∙ none_told items in
    let waiting : drop (length replies) items ≡ list = ap (λ (r : List R). drop (length r) items) replies_are ∙ items_are in
    ap (λ p. made p view (places - length items) (answered_items items replies) (drop (length replies) items)) phase_is
    ∙ ap (λ v. made phase v (places - length items) (answered_items items replies) (drop (length replies) items)) view_is
    ∙ ap (λ n. made phase fresh n (answered_items items replies) (drop (length replies) items)) room
    ∙ ap (λ t. made phase fresh 0 t (drop (length replies) items)) tray
    ∙ ap (made phase fresh 0 []) waiting

module _ {V I R : Type 0} (rests : V → Type 0) where
  -- The worker has answered the first of those that waited, and the others still wait.
  pub record IsUnderWay (before now : WorkerView V I R) : Type 0 where
    pub phase : now.phase ≡ before.phase
    pub at_rest : rests now.seat
    pub room : now.room ≡ before.room
    pub told : List (AnsweredItem I R)
    pub tray : now.tray ≡ before.tray ++ told
    pub items : before.waiting ≡ map (λ t. t.item) told ++ now.waiting

  pub not_begun : (worker : WorkerView V I R) → rests worker.seat → IsUnderWay worker worker
  not_begun worker at_rest = record {
    phase = refl;
    at_rest = at_rest;
    room = refl;
    told = [];
    tray = sym (append-nil worker.tray);
    items = refl;
  }

  -- one item more
  pub gone_on : (before worker now : WorkerView V I R) (item : I) (reply : R) → IsUnderWay before worker → now.phase ≡ worker.phase → rests now.seat → now.room ≡ worker.room → worker.waiting ≡ item ∷ now.waiting → now.tray ≡ worker.tray ++ told_of item reply ∷ []
      → IsUnderWay before now
  gone_on before worker now item reply h phase at_rest room waits is =
      let items = map (λ (t : AnsweredItem I R). t.item) h.told in
      record {
        phase = phase ∙ h.phase;
        at_rest = at_rest;
        room = room ∙ h.room;
        told = h.told ++ told_of item reply ∷ [];
        tray = is ∙ ap (λ l. l ++ told_of item reply ∷ []) h.tray ∙ append_assoc before.tray h.told (told_of item reply ∷ []);
        items =
            h.items
            ∙ ap (λ l. items ++ l) waits
            ∙ sym (ap (λ l. l ++ now.waiting) (map_push (λ (t : AnsweredItem I R). t.item) h.told (told_of item reply)) ∙ append_assoc items (item ∷ []) now.waiting);
      }

  -- none is left
  pub all_answered : (before now : WorkerView V I R) → IsUnderWay before now → length now.waiting ≡ 0 → HasFinished rests before now
  all_answered before now h none =
      let idle = none_left now.waiting none in
      let items = map (λ (t : AnsweredItem I R). t.item) h.told in
      record {
        phase = h.phase;
        at_rest = h.at_rest;
        room = h.room;
        told = h.told;
        tray = h.tray;
        items = sym (h.items ∙ ap (λ l. items ++ l) idle ∙ append-nil items);
        idle = idle;
      }

  -- the items of the trays are the lists with which the workers began
  pub trays_are_lists : (fresh : V) (phase : OpenPhase) (lists : List (List I)) (after : List (WorkerView V I R)) → length after ≡ length lists
      → All (λ at. HasFinished rests at.0 at.1) (zip (map (worker_with fresh phase) lists) after) → map (λ worker. map (λ t. t.item) worker.tray) after ≡ lists
  trays_are_lists fresh phase [] [] same each = refl
  trays_are_lists fresh phase [] (worker ∷ after) same each = absurd (omega arith)
  trays_are_lists fresh phase (list ∷ lists) [] same each = absurd (omega arith)
  trays_are_lists fresh phase (list ∷ lists) (worker ∷ after) same each =
      let Finished : WorkerView V I R × WorkerView V I R → Type 0 = λ at. HasFinished rests at.0 at.1 in
      let rest = zip (map (worker_with {V = V} {I = I} {R = R} fresh phase) lists) after in
      let first : HasFinished rests (worker_with fresh phase list) worker = All-head Finished (worker_with fresh phase list, worker) rest each in
      ap (λ x. x ∷ map (λ (w : WorkerView V I R). map (λ (t : AnsweredItem I R). t.item) w.tray) after) (ap (map (λ (t : AnsweredItem I R). t.item)) first.tray ∙ first.items)
      ∙ ap (λ l. list ∷ l) (trays_are_lists fresh phase lists after (omega (arith, same)) (All-tail Finished (worker_with fresh phase list, worker) rest each))

-- what holds of each worker before and after holds of all such pairs
pub at_both : {A : Type 0} (R : A → A → Type 0) (before after : List A) → length after ≡ length before → ((k : ℕ) (d : A) → k < length before → R (get_or before k d) (get_or after k d)) → All (λ at. R at.0 at.1) (zip before after)
at_both R before after as_many each k d within =
    let listed : k < length before = omega (arith, within, length-zip before after, as_many) in
    subst (λ p. R p.0 p.1) (sym (get_or-zip before after k d listed (omega (arith, listed, as_many))))
    (subst (λ a. R a (get_or after k d.1)) (get_or_default before k d.1 d.0 listed) (each k d.1 listed))
