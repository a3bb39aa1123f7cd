-- Items beside their replies.
use Rattle.std.proofs.Common.{◌≡◌, zero, suc, ◌+◌, ◌<◌, ◌≤◌, List, [], ◌∷◌, ◌++◌, Some, append-nil, drop, get_or, length, map, take, refl, sym, ap, ap₂, ◌∙◌, subst, arith, ℕ}
use Rattle.store_spec.proofs.Common.{All, All-cons, All-head, All-nil, All-tail, drop_all, get_or_from_slice_get, length-drop, length-map, map_push, none-some, same_Some, slice_get-map, slice_get_within, take_more, zip}
use Rattle.std.specs.List.{slice_get}
use Rattle.std.specs.Option.{option_map}
use Rattle.phase_kind.specs.Phase.{OpenPhase}
use Rattle.phase_kind.specs.AnsweredItem.{AnsweredItem, answered_items}

-- ---- two lists side by side

-- each has one element more
pub zip_more : {X Y : Type 0} (xs : List X) (ys : List Y) (x : X) (y : Y) → length ys ≡ length xs → zip (xs ++ x ∷ []) (ys ++ y ∷ []) ≡ zip xs ys ++ (x, y) ∷ []
zip_more [] [] x y same = refl
zip_more [] (b ∷ ys) x y same = absurd (omega arith)
zip_more (a ∷ xs) [] x y same = absurd (omega arith)
zip_more (a ∷ xs) (b ∷ ys) x y same = ap (λ l. (a, b) ∷ l) (zip_more xs ys x y (omega arith))

-- nothing stands beside nothing
pub zip_none : {X Y : Type 0} (xs : List X) → zip {X = Y} xs [] ≡ []
zip_none [] = refl
zip_none (x ∷ xs) = refl

-- one element more comes beside what stands there
pub zip_onto : {X Y : Type 0} (xs : List X) (ys : List Y) (x : X) (y : Y) → slice_get xs (length ys) ≡ Some x → zip xs (ys ++ y ∷ []) ≡ zip xs ys ++ (x, y) ∷ []
zip_onto [] ys x y there = absurd (none-some x there)
zip_onto (a ∷ xs) [] x y there = ap₂ (λ b l. (b, y) ∷ l) (same_Some a x there) (zip_none xs)
zip_onto (a ∷ xs) (b ∷ ys) x y there = ap (λ l. (a, b) ∷ l) (zip_onto xs ys x y there)

-- one element more comes before what stands there
pub zip_under : {X Y : Type 0} (xs : List X) (ys : List Y) (x : X) (y : Y) → slice_get ys (length xs) ≡ Some y → zip (xs ++ x ∷ []) ys ≡ zip xs ys ++ (x, y) ∷ []
zip_under xs [] x y there = absurd (none-some y there)
zip_under [] (b ∷ ys) x y there = ap (λ z. (x, z) ∷ []) (same_Some b y there)
zip_under (a ∷ xs) (b ∷ ys) x y there = ap (λ l. (a, b) ∷ l) (zip_under xs ys x y there)

-- the first elements of rows
pub firsts_of-zip : {X Y : Type 0} (xs : List X) (ys : List Y) → length ys ≡ length xs → map (λ p. p.0) (zip xs ys) ≡ xs
firsts_of-zip [] ys same = refl
firsts_of-zip (x ∷ xs) [] same = absurd (omega arith)
firsts_of-zip (x ∷ xs) (y ∷ ys) same = ap (λ l. x ∷ l) (firsts_of-zip xs ys (omega arith))

-- and the second ones
pub seconds_of-zip : {X Y : Type 0} (xs : List X) (ys : List Y) → length ys ≡ length xs → map (λ p. p.1) (zip xs ys) ≡ ys
seconds_of-zip [] [] same = refl
seconds_of-zip [] (y ∷ ys) same = absurd (omega arith)
seconds_of-zip (x ∷ xs) [] same = absurd (omega arith)
seconds_of-zip (x ∷ xs) (y ∷ ys) same = ap (λ l. y ∷ l) (seconds_of-zip xs ys (omega arith))

pub take_next : {X : Type 0} (xs : List X) (place : ℕ) (x : X) → slice_get xs place ≡ Some x → take (place + 1) xs ≡ take place xs ++ x ∷ []
take_next xs place x there = take_more xs place x (slice_get_within xs place x there) ∙ ap (λ y. take place xs ++ y ∷ []) (get_or_from_slice_get xs place x x there)

-- ---- trays

module _ {I R : Type 0} where
  abbrev pub told_of : I → R → AnsweredItem I R
  told_of item reply = record { item = item; reply = reply }

  abbrev paired : I × R → AnsweredItem I R
  paired row = told_of row.0 row.1

  -- nothing is told where there is no reply
  pub none_told : (items : List I) → answered_items {R = R} items [] ≡ []
  none_told items = ap (map paired) (zip_none items)

  -- the items that have replies, and those behind them
  pub items_told : (items : List I) (replies : List R) → length replies ≤ length items → items ≡ map (λ t. t.item) (answered_items items replies) ++ drop (length replies) items
  items_told [] [] few = refl
  items_told [] (r ∷ replies) few = absurd (omega arith)
  items_told (x ∷ items) [] few = refl
  items_told (x ∷ items) (r ∷ replies) few = ap (λ l. x ∷ l) (items_told items replies (omega arith))

  pub replies_told : (items : List I) (replies : List R) → length replies ≤ length items → map (λ t. t.reply) (answered_items items replies) ≡ replies
  replies_told [] [] few = refl
  replies_told [] (r ∷ replies) few = absurd (omega arith)
  replies_told (x ∷ items) [] few = refl
  replies_told (x ∷ items) (r ∷ replies) few = ap (λ l. r ∷ l) (replies_told items replies (omega arith))

  -- where nothing waits, there is a reply to each item
  pub none_waits : (items : List I) (replies : List R) → length replies ≤ length items → drop (length replies) items ≡ [] → length items ≡ length replies
  none_waits items replies few none = omega (arith, few, ap length none, length-drop (length replies) items)

  -- what tells of a tray does so whatever waits
  pub still_told : (items more : List I) (replies : List R) → length replies ≤ length items → answered_items (items ++ more) replies ≡ answered_items items replies
  still_told [] more [] few = none_told more
  still_told [] more (r ∷ replies) few = absurd (omega arith)
  still_told (x ∷ items) more [] few = refl
  still_told (x ∷ items) more (r ∷ replies) few = ap (λ l. told_of x r ∷ l) (still_told items more replies (omega arith))

  -- the first that waits is there
  pub first_there : (items : List I) (replies : List R) → 0 < length (drop (length replies) items) → (x : I) × (slice_get items (length replies) ≡ Some x)
  first_there [] [] some = absurd (omega arith)
  first_there [] (r ∷ replies) some = absurd (omega arith)
  first_there (x ∷ items) [] some = (x, refl)
  first_there (x ∷ items) (r ∷ replies) some = first_there items replies some

  -- it is answered
  pub first_told : (items : List I) (replies : List R) (item : I) (reply : R) → slice_get items (length replies) ≡ Some item → answered_items items (replies ++ reply ∷ []) ≡ answered_items items replies ++ told_of item reply ∷ []
  first_told items replies item reply there = ap (map paired) (zip_onto items replies item reply there) ∙ map_push paired (zip items replies) (item, reply)

  pub first_waits : (items : List I) (replies : List R) (item : I) (reply : R) → slice_get items (length replies) ≡ Some item → drop (length replies) items ≡ item ∷ drop (length (replies ++ reply ∷ [])) items
  first_waits [] replies item reply there = absurd (none-some item there)
  first_waits (x ∷ items) [] item reply there = ap (λ y. y ∷ items) (same_Some x item there)
  first_waits (x ∷ items) (r ∷ replies) item reply there = first_waits items replies item reply there

  pub length-told : (items : List I) (replies : List R) → length items ≡ length replies → length (answered_items items replies) ≡ length replies
  length-told items replies same = sym (length-map (answered_items items replies) (λ (t : AnsweredItem I R). t.reply)) ∙ ap length (replies_told items replies (omega arith))

  -- an item and its reply stand at one place
  pub told_parts : (items : List I) (replies : List R) (place : ℕ) (told : AnsweredItem I R) → length items ≡ length replies → slice_get (answered_items items replies) place ≡ Some told → (slice_get items place ≡ Some told.item) × (slice_get replies place ≡ Some told.reply)
  told_parts items replies place told same there =
      let rows = answered_items items replies in
      let whole : map (λ (t : AnsweredItem I R). t.item) rows ≡ items =
      sym (items_told items replies (omega arith) ∙ ap (λ l. map (λ (t : AnsweredItem I R). t.item) rows ++ l) (drop_all (length replies) items (omega arith)) ∙ append-nil (map (λ (t : AnsweredItem I R). t.item) rows)) in (
        ap (λ l. slice_get l place) (sym whole) ∙ slice_get-map (λ (t : AnsweredItem I R). t.item) rows place ∙ ap (option_map (λ (t : AnsweredItem I R). t.item)) there,
        ap (λ l. slice_get l place) (sym (replies_told items replies (omega arith))) ∙ slice_get-map (λ (t : AnsweredItem I R). t.reply) rows place ∙ ap (option_map (λ (t : AnsweredItem I R). t.reply)) there,
      )

  -- what stands at a place
  told_there : (items : List I) (replies : List R) (place : ℕ) (item : I) (none : R) (d : AnsweredItem I R) → length items ≡ length replies → slice_get items place ≡ Some item → get_or (answered_items items replies) place d ≡ told_of item (get_or replies place none)
  told_there [] replies place item none d same there = absurd (let within = slice_get_within {A = I} [] place item there in omega (arith, within))
  told_there (x ∷ items) [] place item none d same there = absurd (omega arith)
  told_there (x ∷ items) (r ∷ replies) zero item none d same there = let is : x ≡ item = cc in ap (λ x. told_of x r) is
  told_there (x ∷ items) (r ∷ replies) (suc place) item none d same there = told_there items replies place item none d (omega arith) there

  -- one place more
  pub next_told : (items : List I) (replies : List R) (place : ℕ) (item : I) (none : R) → length items ≡ length replies → slice_get items place ≡ Some item → take (place + 1) (answered_items items replies) ≡ take place (answered_items items replies) ++ told_of item (get_or replies place none) ∷ []
  next_told items replies place item none same there =
      let rows = answered_items items replies in
      let d = told_of item none in
      take_more rows place d (omega (arith, length-told items replies same, slice_get_within items place item there, same))
      ∙ ap (λ t. take place rows ++ t ∷ []) (told_there items replies place item none d same there)

  -- the tray tells of the seat after it as before
  pub still_tells : {V : Type 0} (tells : OpenPhase → V → List (AnsweredItem I R) → Type 0) (phase before after : OpenPhase) (old now : V) (items : List I) (replies replies_now : List R) (item : I) (reply : R)
      → before ≡ phase → after ≡ phase → slice_get items (length replies) ≡ Some item → replies_now ≡ replies ++ reply ∷ []
      → (tells phase old (answered_items items replies) → tells phase now (answered_items items replies ++ told_of item reply ∷ []))
      → tells before old (answered_items items replies) → tells after now (answered_items items replies_now)
  still_tells tells phase before after old now items replies replies_now item reply was is there more on told =
      subst (λ (p : OpenPhase). tells p now (answered_items items replies_now)) (sym is)
      (subst (tells phase now) (sym (ap (answered_items items) more ∙ first_told items replies item reply there))
      (on (subst (λ (p : OpenPhase). tells p old (answered_items items replies)) was told)))

-- what joins an empty list is its first element
pub only_first : {X : Type 0} (before now rest : List X) (x y : X) → before ≡ [] → now ≡ before ++ x ∷ [] → now ≡ y ∷ rest → (y ≡ x) × (rest ≡ [])
only_first before now rest x y none joined is =
    let both : y ∷ rest ≡ x ∷ [] = sym is ∙ joined ∙ ap (λ l. l ++ x ∷ []) none in
    let head : y ≡ x = cc in
    let tail : rest ≡ [] = cc in
    (head, tail)

-- what is made of each place is the same for all of the first list
pub made_alike : {S N W : Type 0} (made_at : S × N → W) (made : N → W) (seats : List S) (plan : List N) → length seats ≡ length plan → All (λ seat. (n : N) → made_at (seat, n) ≡ made n) seats → map made_at (zip seats plan) ≡ map made plan
made_alike made_at made [] [] same each = refl
made_alike made_at made [] (n ∷ plan) same each = absurd (omega arith)
made_alike made_at made (seat ∷ seats) [] same each = absurd (omega arith)
made_alike {S} {N} {W} made_at made (seat ∷ seats) (n ∷ plan) same each =
    let Alike : S → Type 0 = λ seat. (n : N) → made_at (seat, n) ≡ made n in
    ap (λ x. x ∷ map made_at (zip seats plan)) (All-head Alike seat seats each n)
    ∙ ap (λ l. made n ∷ l) (made_alike made_at made seats plan (omega arith) (All-tail Alike seat seats each))

-- what holds of all of a list and one more
pub front_and_last : {X : Type 0} (P : X → Type 0) (xs : List X) (x : X) → All P (xs ++ x ∷ []) → All P xs × P x
front_and_last P [] x all = (All-nil P, All-head P x [] all)
front_and_last P (y ∷ xs) x all =
    let rest = front_and_last P xs x (All-tail P y (xs ++ x ∷ []) all) in
    (All-cons P y xs (All-head P y (xs ++ x ∷ []) all) rest.0, rest.1)

-- the replies of trays, as they tell them
pub replies_of_trays : {T I R : Type 0} (items : T → List I) (replies : T → List R) (trays : List T) → All (λ tray. length (items tray) ≡ length (replies tray)) trays → map replies trays ≡ map (map (λ t. t.reply)) (map (λ tray. answered_items (items tray) (replies tray)) trays)
replies_of_trays items replies [] paired = refl
replies_of_trays {T} {I} {R} items replies (tray ∷ trays) paired =
    let Paired : T → Type 0 = λ tray. length (items tray) ≡ length (replies tray) in
    let same : length (items tray) ≡ length (replies tray) = All-head Paired tray trays paired in
    ap (λ l. l ∷ map replies trays) (sym (replies_told (items tray) (replies tray) (omega (arith, same))))
    ∙ ap (λ l. map (λ (t : AnsweredItem I R). t.reply) (answered_items (items tray) (replies tray)) ∷ l) (replies_of_trays items replies trays (All-tail Paired tray trays paired))
