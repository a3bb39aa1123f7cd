-- The replies of several phases, in the order of the lists.
use Rattle.std.proofs.Common.{◌≡◌, ◌∙◌, ℕ, All, Bool, true, false, List, [], ◌∷◌, Some, ap, ap₂, arith, cond, get_or, length, map, refl, slice_get, subst, sym, zip}
use Rattle.store_spec.proofs.Common.{All-map, Ballot, filter, length-map, length-zip, same_Some, slice_get-get_or, slice_get_within}
use Rattle.std.specs.Prelude.{◌==◌}
use Rattle.body_store.specs.Contents.{Contents}
use Rattle.part_play.proofs.Stages.{shown_at, those_named}
use Rattle.part_play.specs.Several.{AnswersEach, AreAllTold, AreByPlaces, HasClosed, HasPlayed, HaveClosed, part_replies}
use Rattle.phase_kind.proofs.Counts.{something_there}
use Rattle.phase_kind.proofs.Planned.{column_at, holds_at, length-column, mapped_at, row_at, same_at_each, zipped_at, zipped_there}
use Rattle.phase_kind.proofs.Shared.{goes_within}
use Rattle.phase_kind.specs.Table.{IsTurned}
use Rattle.phase_kind.specs.Team.{AreByPlace, AreInListOrder, GoesWithin, replies_to, those_of}
use Rattle.phase_kind.specs.AnsweredItem.{AnsweredItem}

-- as many as the items of each
pub lengths_of : {X Y : Type 0} (f : X → Y) (xss : List (List X)) → map length xss ≡ map length (map (map f) xss)
lengths_of f [] = refl
lengths_of f (xs ∷ xss) = ap (λ (n : ℕ). n ∷ map length xss) (sym (length-map xs f)) ∙ ap (λ (l : List ℕ). length (map f xs) ∷ l) (lengths_of f xss)

-- replies that are kept by place and by list, turned round
module _ {I L E C F : Type 0} (goes_to : I → ℕ) (items : L → List I) (list_of : E → List F) (entries_of : C → List E) (work : List L) (told : List (List E)) (rows : List C) (turned : IsTurned (length work) told (map entries_of rows)) where
  as_many : length rows ≡ length work
  as_many = sym (length-map rows entries_of) ∙ turned.as_many

  row_long : (k : ℕ) (row : C) → slice_get rows k ≡ Some row → length (entries_of row) ≡ length told
  row_long k row there = length-column (length work) told (map entries_of rows) k (entries_of row) turned (shown_at entries_of rows k row there)

  -- as many rows as places
  pub all_within : All (λ list. GoesWithin goes_to (length told) (items list)) work → All (λ at. GoesWithin goes_to (length (entries_of at.1)) (items at.0)) (zip work rows)
  all_within within k d below =
      let both = get_or (zip work rows) k d in
      let parts = zipped_at work rows k both (slice_get-get_or (zip work rows) k d below) in
      subst (λ (n : ℕ). GoesWithin goes_to n (items both.0)) (sym (row_long k both.1 parts.1)) (holds_at (λ list. GoesWithin goes_to (length told) (items list)) work k both.0 within parts.0)

  -- as many replies in each row as items go there
  pub all_by_place : AreByPlaces goes_to (map items work) (map (map list_of) told) → All (λ at. AreByPlace goes_to (items at.0) (map list_of (entries_of at.1))) (zip work rows)
  all_by_place by_places k d below place row at =
      let both = get_or (zip work rows) k d in
      let parts = zipped_at work rows k both (slice_get-get_or (zip work rows) k d below) in
      let entry = mapped_at list_of (entries_of both.1) place row at in
      let entries = row_at (length work) told (map entries_of rows) k place (entries_of both.1) entry.0 turned (shown_at entries_of rows k both.1 parts.1) entry.1 in
      let size : List F → ℕ = λ l. length l in
      let many : List I → ℕ = λ l. length l in
      let those = map (those_of goes_to place) (map items work) in
      let there = shown_at (those_of goes_to place) (map items work) k (items both.0) (shown_at items work k both.0 parts.0) in
      ap length entry.2
      ∙ same_Some (length (list_of entry.0)) (length (those_of goes_to place (items both.0)))
      (sym (shown_at size (map list_of entries.0) k (list_of entry.0) (shown_at list_of entries.0 k entry.0 entries.2))
      ∙ ap (λ (l : List ℕ). slice_get l k) (by_places place (map list_of entries.0) (shown_at (map list_of) told place entries.0 entries.1))
      ∙ shown_at many those k (those_of goes_to place (items both.0)) there)

  module _ (replies : List E) (same : length replies ≡ length work) (each : All (λ at. AreInListOrder goes_to (items at.0.0) (map list_of (entries_of at.0.1)) (list_of at.1)) (zip (zip work rows) replies)) where
    -- one list with its replies
    one_told : (k : ℕ) (list : L) (reply : E) → slice_get work k ≡ Some list → slice_get replies k ≡ Some reply
        → (row : C) × (slice_get rows k ≡ Some row) × AreInListOrder goes_to (items list) (map list_of (entries_of row)) (list_of reply)
    one_told k list reply at_list at_reply =
        let row = something_there rows k (omega (arith, as_many, slice_get_within work k list at_list)) in (
          row.0,
          row.1,
          holds_at (λ at. AreInListOrder goes_to (items at.0.0) (map list_of (entries_of at.0.1)) (list_of at.1)) (zip (zip work rows) replies) k ((list, row.0), reply) each
              (zipped_there (zip work rows) replies k (list, row.0) reply (zipped_there work rows k list row.0 at_list row.1) at_reply),
        )

    pub all_told : All (λ row. length row ≡ length work) told → AreAllTold goes_to (map items work) (map (map list_of) told) (map list_of replies)
    all_told long = record {
      answered = same_at_each (map (λ (l : List F). length l) (map list_of replies)) (map (λ (l : List I). length l) (map items work))
          (omega (arith, length-map (map list_of replies) (λ (l : List F). length l), length-map replies list_of, length-map (map items work) (λ (l : List I). length l), length-map work items, same))
          (λ k x y at_x at_y.
          let size = mapped_at (λ (l : List F). length l) (map list_of replies) k x at_x in
          let reply = mapped_at list_of replies k size.0 size.1 in
          let many = mapped_at (λ (l : List I). length l) (map items work) k y at_y in
          let list = mapped_at items work k many.0 many.1 in
          let one = one_told k list.0 reply.0 list.1 reply.1 in
          size.2 ∙ ap length reply.2 ∙ one.2.as_many ∙ ap length (sym list.2) ∙ sym many.2);
      each = λ place finals at.
          let entries = mapped_at (map list_of) told place finals at in
          let answers : List I × List F → List F = λ at. replies_to goes_to place at.0 at.1 in
          let both = zip (map items work) (map list_of replies) in
          let wide = holds_at (λ (row : List E). length row ≡ length work) told place entries.0 long entries.1 in
          same_at_each (map answers both) finals
          (omega (arith, length-map both answers, length-zip (map items work) (map list_of replies), length-map work items, length-map replies list_of, same, ap length entries.2, length-map entries.0 list_of, wide))
          (λ k x y at_x at_y.
          let pair = mapped_at answers both k x at_x in
          let parts = zipped_at (map items work) (map list_of replies) k pair.0 pair.1 in
          let list = mapped_at items work k pair.0.0 parts.0 in
          let reply = mapped_at list_of replies k pair.0.1 parts.1 in
          let entry = mapped_at list_of entries.0 k y (ap (λ (l : List (List F)). slice_get l k) (sym entries.2) ∙ at_y) in
          let one = one_told k list.0 reply.0 list.1 reply.1 in
          let there = column_at (length work) told (map entries_of rows) k place entries.0 (entries_of one.0) entry.0 turned (shown_at entries_of rows k one.0 one.1) entries.1 entry.1 in
          pair.2
          ∙ ap (λ (l : List I). replies_to goes_to place l pair.0.1) list.2
          ∙ ap (λ (l : List F). replies_to goes_to place (items list.0) l) reply.2
          ∙ one.2.each place (list_of entry.0) (shown_at list_of (entries_of one.0) place entry.0 there)
          ∙ sym entry.2);
    }

-- ---- replies by an order, which names the place of each item

module _ {I : Type 0} (goes_to : I → ℕ) where
  pub within_named : (places : ℕ) (work : List (List I)) → All (GoesWithin goes_to places) work → All (GoesWithin (λ p. p) places) (map (map goes_to) work)
  within_named places work within = All-map (GoesWithin (λ p. p) places) (map goes_to) work (λ k d below. goes_within goes_to places (get_or work k d) (map goes_to (get_or work k d)) refl (within k d below))

  lengths_named : (place : ℕ) (work : List (List I)) → map length (map (those_of (λ p. p) place) (map (map goes_to) work)) ≡ map length (map (those_of goes_to place) work)
  lengths_named place [] = refl
  lengths_named place (list ∷ work) = ap₂ (λ (n : ℕ) (l : List ℕ). n ∷ l) (those_named goes_to place list) (lengths_named place work)

  pub by_places_named : {F : Type 0} (work : List (List I)) (told : List (List (List F))) → AreByPlaces goes_to work told → AreByPlaces (λ p. p) (map (map goes_to) work) told
  by_places_named work told by_places place finals at = by_places place finals at ∙ sym (lengths_named place work)

  module _ {F : Type 0} where
    replies_named : (place : ℕ) (list : List I) (replies : List F) → replies_to (λ p. p) place (map goes_to list) replies ≡ replies_to goes_to place list replies
    replies_named place [] replies = refl
    replies_named place (x ∷ list) [] = refl
    replies_named place (x ∷ list) (reply ∷ replies) = by (goes_to x == place) (replies_named place list replies)
      where
        by : (b : Bool) → replies_to (λ p. p) place (map goes_to list) replies ≡ replies_to goes_to place list replies
            → map (λ (row : ℕ × F). row.1) (cond b ((goes_to x, reply) ∷ filter (λ (row : ℕ × F). row.0 == place) (zip (map goes_to list) replies)) (filter (λ (row : ℕ × F). row.0 == place) (zip (map goes_to list) replies)))
            ≡ map (λ (row : I × F). row.1) (cond b ((x, reply) ∷ filter (λ (row : I × F). goes_to row.0 == place) (zip list replies)) (filter (λ (row : I × F). goes_to row.0 == place) (zip list replies)))
        by true rest = ap (λ l. reply ∷ l) rest
        by false rest = rest

    all_named : (place : ℕ) (work : List (List I)) (replies : List (List F)) → part_replies (λ p. p) place (map (map goes_to) work) replies ≡ part_replies goes_to place work replies
    all_named place [] replies = refl
    all_named place (list ∷ work) [] = refl
    all_named place (list ∷ work) (row ∷ replies) = ap₂ (λ (r : List F) (l : List (List F)). r ∷ l) (replies_named place list row) (all_named place work replies)

    pub told_named : (work : List (List I)) (told : List (List (List F))) (replies : List (List F)) → AreAllTold (λ p. p) (map (map goes_to) work) told replies → AreAllTold goes_to work told replies
    told_named work told replies all = record {
      answered = all.answered ∙ sym (lengths_of goes_to work);
      each = λ place finals at. sym (all_named place work replies) ∙ all.each place finals at;
    }

-- ---- the whole

module _ {I R F : Type 0} (closes : Contents → List (List (AnsweredItem I R)) → List (List F) → List Ballot → Type 0) (goes_to : I → ℕ) (before : List Contents) (work : List (List I)) (after : List Contents) (told : List (List (List F))) (closed : HaveClosed closes goes_to before work after told) where
  -- each item that goes to a place has a reply there
  pub by_places : AnswersEach closes → AreByPlaces goes_to work told
  by_places answers place finals at =
      let within = slice_get_within told place finals at in
      let old = something_there before place (omega (arith, within, closed.as_many)) in
      let now = something_there after place (omega (arith, within, closed.as_many, closed.stores)) in
      let one = closed.each place old.0 now.0 finals old.1 now.1 at in
      answers old.0 one.trays finals now.0.ballots one.told
      ∙ lengths_of (λ (t : AnsweredItem I R). t.item) one.trays
      ∙ ap (map (λ (l : List I). length l)) one.items

  pub has_played : (replies : List (List F)) → AreAllTold goes_to work told replies → HasPlayed closes goes_to before work after replies
  has_played replies all = record {
    stores = closed.stores;
    answered = all.answered;
    each = λ place old now was is.
        let finals = something_there told place (omega (arith, slice_get_within before place old was, closed.as_many)) in
        subst (λ (fs : List (List F)). HasClosed closes old (map (those_of goes_to place) work) fs now) (sym (all.each place finals.0 finals.1)) (closed.each place old now finals.0 was is finals.1);
  }
