-- Lists side by side, row by row.
use Rattle.std.proofs.Common.{◌≡◌, zero, suc, ◌+◌, List, [], ◌∷◌, ◌++◌, length, length-append, map, sym, ap, ◌∙◌, subst, arith}
use Rattle.store_spec.proofs.Common.{All, All-push, Ballot, Contains, length-map, map_push, zip}
use Rattle.phase_insert.specs.Closing.{trays_beside}
use Rattle.phase_insert.specs.Ends.{AreAllFinals, AreFinals, IsAnswered}
use Rattle.phase_insert.specs.Tray.{Cast}
use Rattle.phase_insert.specs.declared.reply.Final.{Final}
use Rattle.phase_kind.proofs.Trays.{zip_more}
use Rattle.word_rule.proofs.Members.{behind, first_in, not_in_none}

-- a row has an element of each list
pub from_zip : {X Y : Type 0} (xs : List X) (ys : List Y) (p : X × Y) → Contains (zip xs ys) p → Contains xs p.0 × Contains ys p.1
from_zip [] ys p c = not_in_none p c
from_zip (x ∷ xs) [] p c = not_in_none p c
from_zip {X} {Y} (x ∷ xs) (y ∷ ys) p (zero, lt, e) = (subst (Contains (x ∷ xs)) (ap (λ (q : X × Y). q.0) e) (first_in x xs), subst (Contains (y ∷ ys)) (ap (λ (q : X × Y). q.1) e) (first_in y ys))
from_zip (x ∷ xs) (y ∷ ys) p (suc k, lt, e) =
    let rest = from_zip xs ys p (k, omega arith, e) in
    (behind x p.0 xs rest.0, behind y p.1 ys rest.1)

-- ---- final replies

-- one ballot more of a tray is answered
pub finals_more : (after : List Ballot) (tray tray_now : List Cast) (finals finals_now : List Final) (c : Cast) (f : Final) → tray_now ≡ tray ++ c ∷ [] → finals_now ≡ finals ++ f ∷ [] → AreFinals after tray finals → IsAnswered after (c, f) → AreFinals after tray_now finals_now
finals_more after tray tray_now finals finals_now c f more more_finals h is =
    subst (λ (l : List Cast). AreFinals after l finals_now) (sym more)
    (subst (AreFinals after (tray ++ c ∷ [])) (sym more_finals)
    (record {
      as_many = length-append finals (f ∷ []) ∙ ap (λ n. n + 1) h.as_many ∙ sym (length-append tray (c ∷ []));
      each = subst (All (IsAnswered after)) (sym (zip_more tray finals c f h.as_many)) (All-push (IsAnswered after) (zip tray finals) (c, f) h.each is);
    }))

-- one tray more
pub all_finals_more : (after : List Ballot) (trays trays_now : List (List Cast)) (finals finals_now : List (List Final)) (tray : List Cast) (list : List Final) → trays_now ≡ trays ++ tray ∷ [] → finals_now ≡ finals ++ list ∷ [] → AreAllFinals after trays finals → AreFinals after tray list → AreAllFinals after trays_now finals_now
all_finals_more after trays trays_now finals finals_now tray list more more_finals h is =
    let as_many : length finals ≡ length trays = omega (arith, ap length h.as_many, length-map finals length, length-map trays length) in
    let pairs = λ (lists : List Cast × List Final). zip lists.0 lists.1 in
    subst (λ (l : List (List Cast)). AreAllFinals after l finals_now) (sym more)
    (subst (AreAllFinals after (trays ++ tray ∷ [])) (sym more_finals)
    (record {
      as_many = map_push length finals list ∙ ap (λ l. l ++ length list ∷ []) h.as_many ∙ ap (λ n. map length trays ++ n ∷ []) is.as_many ∙ sym (map_push length trays tray);
      each = subst (All (All (IsAnswered after))) (sym (ap (map pairs) (zip_more trays finals tray list as_many) ∙ map_push pairs (zip trays finals) (tray, list)))
          (All-push (All (IsAnswered after)) (trays_beside trays finals) (zip tray list) h.each is.each);
    }))
