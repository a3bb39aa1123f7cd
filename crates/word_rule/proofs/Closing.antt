-- The end of a table, by a seat that has taken in all others.
use Rattle.std.proofs.Common.{◌≡◌, ℕ, List, length, map, ◌∙◌, arith}
use Rattle.store_spec.proofs.Common.{All, flat_map, get_or-map, length-map}
use Rattle.atomic_table.specs.declared.shared.Seat.{Seat}
use Rattle.atomic_table.specs.declared.shared.Shared.{Shared}
use Rattle.step_core.proofs.Sets.{All-from_flat_map, All-from_map, stands-map}
use Rattle.step_core.specs.declared.shape.Shape.{Shape}
use Rattle.word_rule.proofs.Weights.{at_slice, others_fresh}
use Rattle.word_rule.specs.Places.{HasTakenIn, HaveEnded, Place, words_seen}
use Rattle.word_rule.specs.Seats.{HasEnded}
use Rattle.word_rule.specs.declared.seats.Known.{Known}
use Rattle.word_rule.specs.declared.seats.Opening.{Opening}

pub have_ended : {V Q : Type 0} (holds : Shape → List ℕ → List ℕ → List V → Type 0) (fresh : V) (both : V → V → V) (rests : V → Type 0) (shared : Shared (Unit {0}) (Known V) Opening Q) (seats : List (Place V)) (whole : Seat (Unit {0}) (Known V)) (cells : List ℕ) → HasTakenIn both rests (words_seen shared) seats whole → length seats ≡ shared.key.seats
    → (ended : HasEnded holds fresh shared.key whole.id whole.me.0 cells) → HaveEnded holds fresh both rests (words_seen shared) seats ended.last.words
have_ended {V} holds fresh both rests shared seats whole cells has count ended =
    let last = ended.last in
    let view_in : Known V → V = λ k. k.view in
    record {
      views = map view_in last.views;
      id = whole.id;
      view = whole.me.0.view;
      kept = ended.kept.kept;
      stands = stands-map view_in last.views whole.id whole.me.0 (at_slice last.views whole.id whole.me.0 ended.seen);
      others = λ k d lt other.
          get_or-map view_in last.views k whole.me.0 d (omega (arith, length-map last.views view_in))
          ∙ others_fresh holds fresh shared.key last whole.id whole.me.0 k whole.me.0 ended.kept ended.seen (has.weight ∙ count) (omega (arith, length-map last.views view_in)) other;
      at_rest = has.at_rest;
      lists = has.lists;
    }

-- what holds of the lists of all seats, end to end, holds of the list of each
pub each_list : {V : Type 0} (P : ℕ → Type 0) (list : V → List ℕ) (places : List (Place V)) → All P (flat_map list (map (λ p. p.view) places)) → All (λ p. All P (list p.view)) places
each_list {V} P list places all = All-from_map (λ v. All P (list v)) (λ (p : Place V). p.view) places (All-from_flat_map P list (map (λ p. p.view) places) all)
