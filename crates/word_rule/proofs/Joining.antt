-- Seats that are taken in by the first one, one after another.
use Rattle.std.proofs.Common.{◌≡◌, ℕ, ◌<◌, List, [], ◌∷◌, ◌++◌, length, length-append, map, sym, ap, ◌∙◌, subst, append-nil, append_assoc, arith}
use Rattle.store_spec.proofs.Common.{All, All-head, All-tail, flat_map, flat_map-append, flat_map-cons, map_push}
use Rattle.atomic_table.specs.Table.{Me}
use Rattle.atomic_table.specs.declared.shared.Seat.{Seat}
use Rattle.word_rule.specs.Places.{AreWhole, HasTakenIn, IsSingle, Place, place_of}
use Rattle.word_rule.specs.Seats.{SharedWords, taken_in}
use Rattle.word_rule.specs.declared.seats.Known.{Known}

module _ {V : Type 0} (both : V → V → V) (rests : V → Type 0) (words : SharedWords) where
  abbrev OneSeat : Type 0
  OneSeat = Seat (Unit {0}) (Known V)

  abbrev pub IsLeft : Place V → Type 0
  IsLeft place = (place.words ≡ words) × rests place.view

  -- the first seat has taken in some, and these are left
  pub record IsJoining (seats : List (Place V)) (whole : OneSeat) (left : List (Place V)) : Type 0 where
    pub taken : List (Place V)
    pub are : taken ++ left ≡ seats
    pub some : 0 < length taken
    pub has : HasTakenIn both rests words taken whole
    pub each : All IsLeft left

  pub all_left : (seats : List (Place V)) → AreWhole rests words seats → All IsLeft seats
  all_left seats whole = λ k d within. (whole.belong k d within, whole.such k d within)

  pub none_joined : (seats left : List (Place V)) (first : Place V) (whole : OneSeat) → AreWhole rests words seats → seats ≡ first ∷ left → place_of whole ≡ first → IsSingle whole → IsJoining seats whole left
  none_joined seats left first whole all are is single =
      let each : All IsLeft (first ∷ left) = subst (All IsLeft) are (all_left seats all) in
      let own = All-head IsLeft first left each in
      record {
        taken = first ∷ [];
        are = sym are;
        some = omega arith;
        has = record {
          of = ap (λ (p : Place V). p.words.table) is ∙ ap (λ (w : SharedWords). w.table) own.0;
          holds_none = single.holds_none;
          weight = single.weight;
          at_rest = subst (λ (p : Place V). rests p.view) (sym is) own.1;
          lists = λ list joins. ap (λ (p : Place V). list p.view) is ∙ sym (flat_map-cons list first.view [] ∙ append-nil (list first.view));
        };
        each = All-tail IsLeft first left each;
      }

  -- what is known of the seat that is taken in next
  pub next_left : (seats left now : List (Place V)) (next : Place V) (whole : OneSeat) → IsJoining seats whole left → left ≡ next ∷ now → IsLeft next
  next_left seats left now next whole h are = All-head IsLeft next now (subst (All IsLeft) are h.each)

  pub one_joined : ((view gone : V) → rests view → rests gone → rests (both view gone)) → (seats left left_now : List (Place V)) (next : Place V) (whole now seat : OneSeat) → IsJoining seats whole left → left ≡ next ∷ left_now → place_of seat ≡ next → IsSingle seat → now.table_id ≡ whole.table_id → now.me ≡ (taken_in both whole.me.0 seat.me.0, whole.me.1) → IsJoining seats now left_now
  one_joined still seats left left_now next whole now seat h are is single of me_is =
      let known = ap (λ (me : Me (Unit {0}) (Known V)). me.0) me_is in
      let view = ap (λ (p : Place V). p.view) is in
      let own = next_left seats left left_now next whole h are in
      record {
        taken = h.taken ++ next ∷ [];
        are = append_assoc h.taken (next ∷ []) left_now ∙ ap (λ (l : List (Place V)). h.taken ++ l) (sym are) ∙ h.are;
        some = omega (arith, length-append h.taken (next ∷ []));
        has = record {
          of = of ∙ h.has.of;
          holds_none = ap (λ (me : Me (Unit {0}) (Known V)). me.1) me_is ∙ h.has.holds_none;
          weight = omega (arith, ap (λ (k : Known V). k.weight) known, h.has.weight, single.weight, length-append h.taken (next ∷ []));
          at_rest = subst (λ (k : Known V). rests k.view) (sym known) (still whole.me.0.view seat.me.0.view h.has.at_rest (subst rests (sym view) own.1));
          lists = λ list joins.
              ap (λ (k : Known V). list k.view) known ∙ joins whole.me.0.view seat.me.0.view
              ∙ ap (λ (l : List ℕ). l ++ list seat.me.0.view) (h.has.lists list joins)
              ∙ ap (λ (v : V). flat_map list (map (λ p. p.view) h.taken) ++ list v) view
              ∙ ap (λ (l : List ℕ). flat_map list (map (λ p. p.view) h.taken) ++ l) (sym (flat_map-cons list next.view [] ∙ append-nil (list next.view)))
              ∙ sym (flat_map-append list (map (λ p. p.view) h.taken) (next.view ∷ []))
              ∙ ap (flat_map list) (sym (map_push (λ (p : Place V). p.view) h.taken next));
        };
        each = All-tail IsLeft next left_now (subst (All IsLeft) are h.each);
      }

  pub all_joined : (seats left : List (Place V)) (whole : OneSeat) → IsJoining seats whole left → left ≡ [] → HasTakenIn both rests words seats whole
  all_joined seats left whole h none = subst (λ (l : List (Place V)). HasTakenIn both rests words l whole) (sym (append-nil h.taken) ∙ ap (λ (l : List (Place V)). h.taken ++ l) (sym none) ∙ h.are) h.has
