-- Seats that are cut off a first one, one after another.
use Rattle.std.proofs.Common.{◌≡◌, ℕ, ◌+◌, ◌≤◌, List, [], ◌∷◌, ◌++◌, length, length-append, sym, ap, ◌∙◌, subst, arith}
use Rattle.store_spec.proofs.Common.{All, All-nil, All-push}
use Rattle.atomic_table.specs.Table.{Me}
use Rattle.atomic_table.specs.declared.shared.Seat.{Seat}
use Rattle.atomic_table.specs.declared.shared.Shared.{Shared}
use Rattle.word_rule.specs.Places.{AreAll, IsSingle, Place, place_of, words_seen}
use Rattle.word_rule.specs.Seats.{cut, cut_off, knows, words_of}
use Rattle.word_rule.specs.declared.seats.Known.{Known}
use Rattle.word_rule.specs.declared.seats.Opening.{Opening}

module _ {V Q : Type 0} (shared : Shared (Unit {0}) (Known V) Opening Q) (fresh : V) (count : ℕ) where
  abbrev OneSeat : Type 0
  OneSeat = Seat (Unit {0}) (Known V)

  abbrev IsNew : Place V → Type 0
  IsNew place = place ≡ record { words = words_seen shared; view = fresh }

  -- a new seat
  pub record IsDealt (seat : OneSeat) : Type 0 where
    pub new : IsNew (place_of seat)
    pub single : IsSingle seat
    pub fresh_is : seat.me.0.view ≡ fresh

  pub dealt : (seat : OneSeat) → seat.table_id ≡ shared.table_id → seat.me ≡ (knows shared.key 1 fresh, []) → IsDealt seat
  dealt seat of is = record {
    new = λ i. record { words = words_of (of i) ((is i).0); view = (is i).0.view };
    single = record { holds_none = ap (λ (me : Me (Unit {0}) (Known V)). me.1) is; weight = ap (λ (me : Me (Unit {0}) (Known V)). me.0.weight) is };
    fresh_is = ap (λ (me : Me (Unit {0}) (Known V)). me.0.view) is;
  }

  -- the first seat stands for those that were not cut off yet
  pub record IsDealing (first : OneSeat) (seats : List (Place V)) : Type 0 where
    pub of : first.table_id ≡ shared.table_id
    pub knows : first.me ≡ (knows shared.key first.me.0.weight fresh, [])
    pub weight : first.me.0.weight + length seats ≡ count
    pub each : All IsNew seats

  pub none_dealt : (first : OneSeat) (seats : List (Place V)) → first.table_id ≡ shared.table_id → first.me ≡ (knows shared.key count fresh, []) → seats ≡ [] → IsDealing first seats
  none_dealt first seats of is none =
      let weight : first.me.0.weight ≡ count = ap (λ (me : Me (Unit {0}) (Known V)). me.0.weight) is in
      record {
        of = of;
        knows = is ∙ ap (λ w. (knows shared.key w fresh, [])) (sym weight);
        weight = omega (arith, ap length none);
        each = subst (All IsNew) (sym none) (All-nil IsNew);
      }

  -- a seat that is cut off
  pub cut_dealt : (first new : OneSeat) (seats : List (Place V)) → IsDealing first seats → new.table_id ≡ first.table_id → new.me ≡ (cut_off fresh first.me.0, []) → IsDealt new
  cut_dealt first new seats h of is = dealt new (of ∙ h.of) (is ∙ ap (λ (me : Me (Unit {0}) (Known V)). (cut_off fresh me.0, [])) h.knows)

  -- the seat that is left
  pub last_dealt : (first : OneSeat) (seats : List (Place V)) → IsDealing first seats → first.me.0.weight ≡ 1 → IsDealt first
  last_dealt first seats h light = dealt first h.of (h.knows ∙ ap (λ w. (knows shared.key w fresh, [])) light)

  pub one_dealt : (first now : OneSeat) (new : Place V) (seats seats_now : List (Place V)) → IsDealing first seats → now.table_id ≡ first.table_id → now.me ≡ (cut first.me.0, first.me.1) → IsNew new → seats_now ≡ seats ++ new ∷ [] → 2 ≤ first.me.0.weight → IsDealing now seats_now
  one_dealt first now new seats seats_now h of is is_new pushed heavy =
      let weight = ap (λ (me : Me (Unit {0}) (Known V)). me.0.weight) is in
      record {
        of = of ∙ h.of;
        knows = is ∙ ap (λ (me : Me (Unit {0}) (Known V)). (cut me.0, me.1)) h.knows ∙ ap (λ w. (knows shared.key w fresh, [])) (sym weight);
        weight = omega (arith, weight, h.weight, ap length pushed ∙ length-append seats (new ∷ []));
        each = subst (All IsNew) (sym pushed) (All-push IsNew seats new h.each is_new);
      }

  pub all_dealt : (first : OneSeat) (last : Place V) (seats seats_now : List (Place V)) → IsDealing first seats → IsNew last → seats_now ≡ seats ++ last ∷ [] → first.me.0.weight ≡ 1 → count ≡ shared.key.seats → AreAll fresh (words_seen shared) seats_now
  all_dealt first last seats seats_now h is_new pushed light asked = record {
    count = omega (arith, h.weight, ap length pushed ∙ length-append seats (last ∷ []));
    each = subst (All IsNew) (sym pushed) (All-push IsNew seats last h.each is_new);
  }
