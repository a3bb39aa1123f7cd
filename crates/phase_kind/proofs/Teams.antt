-- What a team has done, entry by entry of its order.
use Rattle.std.proofs.Common.{⊎_elim, ◌≡◌, ◌≢◌, ◌+◌, ◌≤◌, ◌<◌, ◌++◌, ◌∙◌, ℕ, zero, suc, All, List, [], ◌∷◌, Some, ap, append-nil, append_assoc, arith, drop, get_or, length, length-append, refl, slice_get, slice_set, subst, sym, take}
use Rattle.store_spec.proofs.Common.{All-tail, cases_eq, drop_all, get_or-map, get_or-set_other, get_or-set_same, get_or_from_slice_get, length-drop, length-map, length-set, map-set_same, none-some, same_Some, slice_get-get_or, slice_get_within, take_all}
use Rattle.std.proofs.lemmas.List.{drop_more}
use Rattle.phase_kind.proofs.Counts.{fewer_there, goes_below, goes_first, goes_past, next_elsewhere, next_there, something_there}
use Rattle.phase_kind.proofs.Listed.{IsUnderWay, all_answered, gone_on, not_begun}
use Rattle.phase_kind.proofs.Trays.{take_next, told_of}
use Rattle.phase_kind.specs.Phase.{OpenPhase}
use Rattle.phase_kind.specs.Team.{AnswersAt, AreNamed, GoesWithin, HasAnsweredNext, HasHandled, HaveFinished, IsTeam, TeamView, those_of}
use Rattle.phase_kind.specs.Worker.{HasFinished, WorkerView}

-- what stands elsewhere once a place is set
pub elsewhere : {X : Type 0} (xs : List X) (at place : ℕ) (x y : X) → place ≢ at → slice_get (slice_set xs at x) place ≡ Some y → slice_get xs place ≡ Some y
elsewhere xs at place x y other there =
    let within = slice_get_within (slice_set xs at x) place y there in
    slice_get-get_or xs place y (omega (arith, within, length-set xs at x))
    ∙ ap (λ z. Some z) (sym (get_or-set_other xs at place x y other) ∙ get_or_from_slice_get (slice_set xs at x) place y y there)

-- what stands at the place that is set
pub set_there : {X : Type 0} (xs : List X) (at place : ℕ) (x y : X) → place ≡ at → at < length xs → slice_get (slice_set xs at x) place ≡ Some y → y ≡ x
set_there xs at place x y same within there =
    sym (get_or_from_slice_get (slice_set xs at x) place y y there) ∙ ap (λ p. get_or (slice_set xs at x) p y) same ∙ get_or-set_same xs at x y within

module _ {V I R : Type 0} where
  -- a worker belongs to the phase at its place
  pub belongs_at : (phases : List OpenPhase) (team : List (WorkerView V I R)) (place : ℕ) (worker : WorkerView V I R) (phase : OpenPhase) → IsTeam phases team → place < length team → (get_or team place worker).phase ≡ get_or phases place phase
  belongs_at phases team place worker phase is within =
      sym (get_or-map (λ (w : WorkerView V I R). w.phase) team place worker phase within) ∙ ap (λ l. get_or l place phase) is

  -- there are as many phases
  pub as_many_phases : (phases : List OpenPhase) (team : List (WorkerView V I R)) → IsTeam phases team → length phases ≡ length team
  as_many_phases phases team is = sym (ap length is) ∙ length-map team (λ (w : WorkerView V I R). w.phase)

  -- a team stays one
  pub still_team : (phases : List OpenPhase) (team : List (WorkerView V I R)) (place : ℕ) (worker now : WorkerView V I R) → IsTeam phases team → now.phase ≡ (get_or team place worker).phase → IsTeam phases (slice_set team place now)
  still_team phases team place worker now is same = map-set_same (λ (w : WorkerView V I R). w.phase) team place now worker same ∙ is

module _ {V I R : Type 0} (rests : V → Type 0) where
  -- Each worker of a team is under way, and has answered as many items as the first entries of an order name it.
  pub record AreUnderWay (before : List (WorkerView V I R)) (order : List ℕ) (index : ℕ) (team : List (WorkerView V I R)) : Type 0 where
    pub as_many : length team ≡ length before
    pub each : (place : ℕ) (old now : WorkerView V I R) → slice_get before place ≡ Some old → slice_get team place ≡ Some now
        → IsUnderWay rests old now × (length now.waiting + length (those_of (λ p. p) place (take index order)) ≡ length old.waiting)

  -- no entry
  pub none_named : (team : List (WorkerView V I R)) (order : List ℕ) → All (λ worker. rests worker.seat) team → AreUnderWay team order 0 team
  none_named team order at_rest = record {
    as_many = refl;
    each = λ place old now was is.
        let same : old ≡ now = same_Some old now (sym was ∙ is) in
        let within = slice_get_within team place old was in
        let at = subst (λ (w : WorkerView V I R). rests w.seat) (get_or_from_slice_get team place old old was) (at_rest place old within) in (
          subst (λ (w : WorkerView V I R). IsUnderWay rests old w) same (not_begun rests old at),
          omega (arith, ap (λ (w : WorkerView V I R). length w.waiting) same),
        );
  }

  module _ (before team : List (WorkerView V I R)) (order : List ℕ) (index to : ℕ) (worker : WorkerView V I R) (h : AreUnderWay before order index team) (there : slice_get order index ≡ Some to) (within : to < length team) where
    found : slice_get team to ≡ Some (get_or team to worker)
    found = slice_get-get_or team to worker within

    -- an item waits with the worker that is named
    pub still_waits : AreNamed order before → 0 < length (get_or team to worker).waiting
    still_waits named =
        let old = get_or before to worker in
        let was = slice_get-get_or before to worker (omega (arith, within, h.as_many)) in
        omega (arith, (h.each to old (get_or team to worker) was found).1, named.each to old was, fewer_there (λ p. p) order index to to there refl)

    -- one entry more
    pub one_named : (x : I) (reply : R) (now : WorkerView V I R) → now.phase ≡ (get_or team to worker).phase → rests now.seat → now.room ≡ (get_or team to worker).room → (get_or team to worker).waiting ≡ x ∷ now.waiting → now.tray ≡ (get_or team to worker).tray ++ told_of x reply ∷ []
        → AreUnderWay before order (index + 1) (slice_set team to now)
    one_named x reply now phase at_rest room waits tray = record {
      as_many = length-set team to now ∙ h.as_many;
      each = λ place old new was at.
          ⊎_elim
          (λ (same : place ≡ to).
          let on = h.each to old (get_or team to worker) (ap (slice_get before) (sym same) ∙ was) found in
          let is : new ≡ now = set_there team to place now new same within at in
          let went = those_of (λ (p : ℕ). p) to (take index order) in (
            subst (λ (w : WorkerView V I R). IsUnderWay rests old w) {x = now} {y = new} (sym is) (gone_on rests old (get_or team to worker) now x reply on.0 phase at_rest room waits tray),
            omega (arith, on.1, ap length waits, ap (λ (w : WorkerView V I R). length w.waiting) is, ap (λ (p : ℕ). length (those_of (λ (q : ℕ). q) p (take (index + 1) order))) same, ap length (next_there (λ p. p) order index to to there refl), length-append went (to ∷ [])),
          ))
          (λ (other : place ≢ to).
          let on = h.each place old new was (elsewhere team to place now new other at) in (
            on.0,
            omega (arith, on.1, ap length (next_elsewhere (λ p. p) order index to place there (λ e. other (sym e)))),
          ))
          (cases_eq place to);
    }

  -- the whole order
  pub all_named : (before team : List (WorkerView V I R)) (order : List ℕ) (index : ℕ) → AreUnderWay before order index team → AreNamed order before → length order ≤ index → HaveFinished rests before team
  all_named before team order index h named all = record {
    as_many = h.as_many;
    each = λ place old now was is.
        let on = h.each place old now was is in
        all_answered rests old now on.0 (omega (arith, on.1, named.each place old was, ap (λ (l : List ℕ). length (those_of (λ (p : ℕ). p) place l)) (take_all index order all)));
  }

  -- nothing waits any more
  pub all_idle : (before after : List (WorkerView V I R)) → HaveFinished rests before after → All (λ worker. worker.waiting ≡ []) after
  all_idle before after finished k d within =
      let old = something_there before k (omega (arith, within, finished.as_many)) in
      (finished.each k old.0 (get_or after k d) old.1 (slice_get-get_or after k d within)).idle

  -- a team of one worker
  module _ (before after : WorkerView V I R) where
    pub alone_has : HaveFinished rests (before ∷ []) (after ∷ []) → HasFinished rests before after
    alone_has have = have.each 0 before after refl refl

    pub alone_have : HasFinished rests before after → HaveFinished rests (before ∷ []) (after ∷ [])
    alone_have has = record {
      as_many = refl;
      each = λ place old now was is. at place old now was is;
    }
      where
        at : (place : ℕ) (old now : WorkerView V I R) → slice_get (before ∷ []) place ≡ Some old → slice_get (after ∷ []) place ≡ Some now → HasFinished rests old now
        at zero old now was is =
            subst (λ (w : WorkerView V I R). HasFinished rests w now) {x = before} {y = old} (same_Some before old was)
            (subst (λ (w : WorkerView V I R). HasFinished rests before w) {x = after} {y = now} (same_Some after now is) has)
        at (suc place) old now was is = absurd (none-some old was)

-- ---- a team and its order

-- what stands first in the rest of a list
first_of_rest : {X : Type 0} (xs rest : List X) (index : ℕ) (x : X) → drop index xs ≡ x ∷ rest → (slice_get xs index ≡ Some x) × (drop (index + 1) xs ≡ rest)
first_of_rest xs rest index x is =
    let within : index < length xs = omega (arith, ap length is, length-drop index xs) in
    let both : get_or xs index x ∷ drop (index + 1) xs ≡ x ∷ rest = sym (drop_more xs index x within) ∙ is in
    let here : get_or xs index x ≡ x = cc in
    let behind : drop (index + 1) xs ≡ rest = cc in
    (slice_get-get_or xs index x within ∙ ap (λ y. Some y) here, behind)

-- the next entry names a place
pub next_within : (order : List ℕ) (places index to : ℕ) → GoesWithin (λ p. p) places (drop index order) → slice_get order index ≡ Some to → to < places
next_within order places index to within there =
    let lt = slice_get_within order index to there in
    let ahead : drop index order ≡ to ∷ drop (index + 1) order = drop_more order index to lt ∙ ap (λ t. t ∷ drop (index + 1) order) (get_or_from_slice_get order index to to there) in
    goes_below (λ p. p) places (drop index order) 0 to to within (ap (λ (l : List ℕ). slice_get l 0) ahead) refl

module _ {V I R : Type 0} where
  -- the next entry names a worker with whom an item waits
  module _ (order : List ℕ) (workers : List (WorkerView V I R)) (index to : ℕ) (named : AreNamed (drop index order) workers) (there : slice_get order index ≡ Some to) where
    pub named_ahead : drop index order ≡ to ∷ drop (index + 1) order
    named_ahead = drop_more order index to (slice_get_within order index to there) ∙ ap (λ t. t ∷ drop (index + 1) order) (get_or_from_slice_get order index to to there)

    first : slice_get (drop index order) 0 ≡ Some to
    first = ap (λ (l : List ℕ). slice_get l 0) named_ahead

    pub named_within : to < length workers
    named_within = next_within order (length workers) index to named.within there

    pub named_waits : (worker : WorkerView V I R) → 0 < length (get_or workers to worker).waiting
    named_waits worker = omega (arith, named.each to (get_or workers to worker) (slice_get-get_or workers to worker named_within), fewer_there (λ p. p) (drop index order) 0 to to first refl)

    -- once it has answered, the entries behind it name the workers
    pub still_named : (worker now : WorkerView V I R) (item : I) → (get_or workers to worker).waiting ≡ item ∷ now.waiting → AreNamed (drop (index + 1) order) (slice_set workers to now)
    still_named worker now item waits =
        let rest = drop (index + 1) order in
        let all : AreNamed (to ∷ rest) workers = subst (λ (l : List ℕ). AreNamed l workers) named_ahead named in
        record {
          within = subst (λ (n : ℕ). GoesWithin (λ (p : ℕ). p) n rest) (sym (length-set workers to now)) (All-tail (λ p. p < length workers) to rest all.within);
          each = λ place new at.
              ⊎_elim
              (λ (same : place ≡ to).
              let is : new ≡ now = set_there workers to place now new same named_within at in
              omega (arith, all.each to (get_or workers to worker) (slice_get-get_or workers to worker named_within), ap length waits, ap (λ (w : WorkerView V I R). length w.waiting) is, ap (λ (p : ℕ). length (those_of (λ (q : ℕ). q) p rest)) same, ap length (goes_first (λ (q : ℕ). q) to to rest refl)))
              (λ (other : place ≢ to).
              omega (arith, all.each place new (elsewhere workers to place now new other at), ap length (goes_past (λ (q : ℕ). q) to place rest (λ e. other (sym e)))))
              (cases_eq place to);
        }

module _ {V I R : Type 0} (rests : V → Type 0) where
  -- the worker at a place is another one now
  pub answered_at : (before : List (WorkerView V I R)) (place : ℕ) (worker now : WorkerView V I R) (item : I) (reply : R) → place < length before → now.phase ≡ (get_or before place worker).phase → rests now.seat → now.room ≡ (get_or before place worker).room
      → (get_or before place worker).waiting ≡ item ∷ now.waiting → now.tray ≡ (get_or before place worker).tray ++ told_of item reply ∷ [] → AnswersAt rests place before (slice_set before place now)
  answered_at before place worker now item reply within phase at_rest room waits tray = record {
    old = get_or before place worker;
    now = now;
    item = item;
    reply = reply;
    there = slice_get-get_or before place worker within;
    put = refl;
    phase = phase;
    at_rest = at_rest;
    room = room;
    waits = waits;
    tray = tray;
  }

  -- a team of these phases stays one
  pub team_stays : (phases : List OpenPhase) (team now : TeamView V I R) → IsTeam phases team.workers → HasAnsweredNext rests team now → IsTeam phases now.workers
  team_stays phases team now is next =
      let a = next.answers in
      let old_is : get_or team.workers next.place a.old ≡ a.old = get_or_from_slice_get team.workers next.place a.old a.old a.there in
      subst (IsTeam phases) (sym a.put) (still_team phases team.workers next.place a.old a.now is (a.phase ∙ ap (λ (w : WorkerView V I R). w.phase) (sym old_is)))

  -- the first entries that were ahead are handled
  pub record HasHandledFirst (before : TeamView V I R) (count : ℕ) (team : TeamView V I R) : Type 0 where
    pub handled : team.handled ≡ before.handled ++ take count before.ahead
    pub ahead : team.ahead ≡ drop count before.ahead
    pub under_way : AreUnderWay rests before.workers before.ahead count team.workers

  pub none_handled : (team : TeamView V I R) → All (λ worker. rests worker.seat) team.workers → HasHandledFirst team 0 team
  none_handled team at_rest = record {
    handled = sym (append-nil team.handled);
    ahead = refl;
    under_way = none_named rests team.workers team.ahead at_rest;
  }

  pub one_handled : (before team now : TeamView V I R) (count : ℕ) → HasHandledFirst before count team → HasAnsweredNext rests team now → HasHandledFirst before (count + 1) now
  one_handled before team now count first next =
      let a = next.answers in
      let all = before.ahead in
      let rest = first_of_rest all now.ahead count next.place (sym first.ahead ∙ next.ahead) in
      let old_is : get_or team.workers next.place a.old ≡ a.old = get_or_from_slice_get team.workers next.place a.old a.old a.there in
      let within : next.place < length team.workers = slice_get_within team.workers next.place a.old a.there in
      record {
        handled = next.handled ∙ ap (λ l. l ++ next.place ∷ []) first.handled ∙ append_assoc before.handled (take count all) (next.place ∷ [])
            ∙ ap (λ l. before.handled ++ l) (sym (take_next all count next.place rest.0));
        ahead = sym rest.1;
        under_way = subst (AreUnderWay rests before.workers all (count + 1)) (sym a.put)
            (one_named rests before.workers team.workers all count next.place a.old first.under_way rest.0 within a.item a.reply a.now
            (a.phase ∙ ap (λ (w : WorkerView V I R). w.phase) (sym old_is)) a.at_rest (a.room ∙ ap (λ (w : WorkerView V I R). w.room) (sym old_is))
            (ap (λ (w : WorkerView V I R). w.waiting) old_is ∙ a.waits) (a.tray ∙ ap (λ (w : WorkerView V I R). w.tray ++ told_of a.item a.reply ∷ []) (sym old_is)));
      }

  pub all_handled : (before team : TeamView V I R) (count : ℕ) → HasHandledFirst before count team → AreNamed before.ahead before.workers → length before.ahead ≤ count → HasHandled rests before team
  all_handled before team count first named all = record {
    in_order = first.handled ∙ ap (λ l. before.handled ++ l) (take_all count before.ahead all);
    done = first.ahead ∙ drop_all count before.ahead all;
    finished = all_named rests before.workers team.workers before.ahead count first.under_way named all;
  }
