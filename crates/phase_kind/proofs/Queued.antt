-- Items that join those that wait, of one worker and of all.
use Rattle.std.proofs.Common.{⊎_elim, ◌≡◌, ◌≢◌, ◌+◌, ◌≤◌, ◌<◌, ◌++◌, ◌∙◌, ℕ, [], ◌∷◌, All, List, Some, ap, append-nil, append_assoc, arith, get_or, length, length-append, refl, slice_get, slice_set, subst, sym, take, zip}
use Rattle.store_spec.proofs.Common.{cases_eq, get_or-set_other, get_or-set_same, get_or-zip, get_or_default, length-set, length-zip}
use Rattle.phase_kind.proofs.Trays.{take_next}
use Rattle.phase_kind.specs.Worker.{HasAnswered, HasFinished, HasQueued, WorkerView}
use Rattle.word_rule.proofs.AtPlaces.{at_one_place}

module _ {V I R : Type 0} where
  -- no item
  pub none_queued : (worker : WorkerView V I R) → HasQueued worker [] worker
  none_queued worker = record {
    phase = refl;
    seat = refl;
    room = omega arith;
    tray = refl;
    waiting = sym (append-nil worker.waiting);
  }

  -- a list up to one item more
  pub one_queued : (before worker now : WorkerView V I R) (list : List I) (place : ℕ) (item : I) → HasQueued before (take place list) worker → now.phase ≡ worker.phase → now.seat ≡ worker.seat → now.room + 1 ≡ worker.room → now.tray ≡ worker.tray → slice_get list place ≡ Some item
      → now.waiting ≡ worker.waiting ++ item ∷ [] → HasQueued before (take (place + 1) list) now
  one_queued before worker now list place item h phase seat room tray there waiting =
      let more = take_next list place item there in
      record {
        phase = phase ∙ h.phase;
        seat = seat ∙ h.seat;
        room = omega (arith, h.room, room, ap length more, length-append (take place list) (item ∷ []));
        tray = tray ∙ h.tray;
        waiting = waiting ∙ ap (λ l. l ++ item ∷ []) h.waiting ∙ append_assoc before.waiting (take place list) (item ∷ []) ∙ ap (λ l. before.waiting ++ l) (sym more);
      }

  -- who had nothing waiting and has answered all that was queued has answered the list
  pub queued_and_answered : (rests : V → Type 0) (before queued after : WorkerView V I R) (list : List I) → before.waiting ≡ [] → HasQueued before list queued → HasFinished rests queued after → HasAnswered rests before list after
  queued_and_answered rests before queued after list idle q h = record {
    phase = h.phase ∙ q.phase;
    at_rest = h.at_rest;
    room = omega (arith, h.room, q.room);
    told = h.told;
    tray = h.tray ∙ ap (λ l. l ++ h.told) q.tray;
    items = h.items ∙ q.waiting ∙ ap (λ l. l ++ list) idle;
    idle = h.idle;
  }

module _ {V I R L : Type 0} (items : L → List I) (before : List (WorkerView V I R)) (work : List L) where
  -- the lists of the workers before a place are queued, and the other workers are as they were
  pub record AreQueued (place : ℕ) (now : List (WorkerView V I R)) : Type 0 where
    pub as_many : length now ≡ length before
    pub done : (k : ℕ) (d : WorkerView V I R) (list : L) → k < place → k < length before → HasQueued (get_or before k d) (items (get_or work k list)) (get_or now k d)
    pub left : (k : ℕ) (d : WorkerView V I R) → place ≤ k → get_or now k d ≡ get_or before k d

  pub no_list : AreQueued 0 before
  no_list = record {
    as_many = refl;
    done = λ k d list less within. absurd (omega (arith, less));
    left = λ k d more. refl;
  }

  -- what holds of each worker and its list holds of a worker whose list is not queued yet
  pub holds_still : (P : WorkerView V I R × L → Type 0) (place : ℕ) (now : List (WorkerView V I R)) (was : WorkerView V I R) (list : L) → AreQueued place now → length before ≡ length work → All P (zip before work) → place < length before → list ≡ get_or work place list → P (get_or now place was, list)
  holds_still P place now was list h same all within is =
      subst (λ (x : L). P (get_or now place was, x)) (sym is)
      (subst (λ (w : WorkerView V I R). P (w, get_or work place list)) (sym (h.left place was (omega arith))) (at_one_place P before work place (was, list) same all within))

  -- lists of one store are of the store of each worker
  pub are_of : {B : Type 0} (is_of : B → L → Type 0) (base_of : WorkerView V I R → B) (base : B) → length before ≡ length work → All (λ worker. base_of worker ≡ base) before → All (is_of base) work → All (λ at. is_of (base_of at.0) at.1) (zip before work)
  are_of is_of base_of base same belong all k d within =
      let here : k < length before = omega (arith, within, length-zip before work) in
      let there : k < length work = omega (arith, here, same) in
      subst (λ (at : WorkerView V I R × L). is_of (base_of at.0) at.1) (sym (get_or-zip before work k d here there))
      (subst (λ b. is_of b (get_or work k d.1)) (sym (belong k d.0 here)) (all k d.1 there))

  -- one list more
  pub one_list : (place : ℕ) (now : List (WorkerView V I R)) (was worker : WorkerView V I R) (list : L) → AreQueued place now → place < length before → place < length work → list ≡ get_or work place list → HasQueued (get_or now place was) (items list) worker → AreQueued (place + 1) (slice_set now place worker)
  one_list place now was worker list h within listed is_list queued = record {
    as_many = length-set now place worker ∙ h.as_many;
    done = λ k d l less inside.
        ⊎_elim
        (λ (same : k ≡ place).
        let old : get_or now place was ≡ get_or before k d = h.left place was (omega arith) ∙ get_or_default before place was d within ∙ ap (λ n. get_or before n d) (sym same) in
        let its : list ≡ get_or work k l = is_list ∙ get_or_default work place list l listed ∙ ap (λ n. get_or work n l) (sym same) in
        let is : worker ≡ get_or (slice_set now place worker) k d = sym (ap (λ n. get_or (slice_set now place worker) n d) same ∙ get_or-set_same now place worker d (omega (arith, within, h.as_many))) in
        subst (λ (w : WorkerView V I R). HasQueued w (items (get_or work k l)) (get_or (slice_set now place worker) k d)) old
        (subst (λ (x : L). HasQueued (get_or now place was) (items x) (get_or (slice_set now place worker) k d)) its
        (subst (λ (w : WorkerView V I R). HasQueued (get_or now place was) (items list) w) is queued)))
        (λ (other : k ≢ place).
        subst (λ (w : WorkerView V I R). HasQueued (get_or before k d) (items (get_or work k l)) w) (sym (get_or-set_other now place k worker d other)) (h.done k d l (omega (arith, less, other)) inside))
        (cases_eq k place);
    left = λ k d more. get_or-set_other now place k worker d (λ e. absurd (omega (arith, e, more))) ∙ h.left k d (omega (arith, more));
  }
