-- All seats of casting at rest give the cells, and tell what their lists are like.
use Rattle.std.proofs.Common.{◌≡◌, ℕ, ◌≤◌, List, ◌++◌, length, take, refl, ap, ◌∙◌, subst}
use Rattle.store_spec.proofs.Common.{All, CastView, Contains, EachOnce, fresh_cast_view, joined_cast_view, layout_of, numbers_in}
use Rattle.step_core.specs.Shape.{homes_of, table_of}
use Rattle.word_rule.proofs.CastEnds.{ends}
use Rattle.word_rule.proofs.Closing.{each_list}
use Rattle.word_rule.specs.CastSeats.{IsAtRest, IsCast}
use Rattle.word_rule.specs.CastWords.{AgreeOn, accepted_by, cells_after}
use Rattle.word_rule.specs.Places.{HaveEnded, Place}
use Rattle.word_rule.specs.Seats.{SharedWords}

pub closes : (words : SharedWords) (places : List (Place CastView)) (last : List ℕ) → HaveEnded IsCast fresh_cast_view joined_cast_view IsAtRest words places last → (take words.shape.cells last ≡ cells_after words places) × AgreeOn words places
closes words places last h =
    let end = ends (table_of words.shape) (numbers_in words.base) last h.views h.id h.view h.kept.room h.kept.invariant h.stands h.others h.at_rest in
    let accepted : h.view.accepted ≡ accepted_by places = h.lists (λ v. v.accepted) (λ v u. refl) in
    let NoRoom : List ℕ → ℕ → Type 0 = λ xs x. (¬ Contains xs x) × (length xs ≡ words.shape.claims) in (
      end.layout ∙ ap (λ xs. layout_of (homes_of words.shape) words.shape.cells (numbers_in words.base ++ xs)) accepted,
      record {
        once = subst EachOnce accepted end.once;
        not_held = subst (All (λ x. ¬ Contains (numbers_in words.base) x)) accepted end.not_held;
        few = subst (λ (xs : List ℕ). length xs ≤ words.shape.claims) accepted end.few;
        taken = each_list (Contains (accepted_by places)) (λ v. v.taken) places
            (subst (All (Contains (accepted_by places))) (h.lists (λ v. v.taken) (λ v u. refl)) (subst (λ (xs : List ℕ). All (Contains xs) h.view.taken) accepted end.taken));
        full = each_list (NoRoom (accepted_by places)) (λ v. v.full) places
            (subst (All (NoRoom (accepted_by places))) (h.lists (λ v. v.full) (λ v u. refl)) (subst (λ (xs : List ℕ). All (NoRoom xs) h.view.full) accepted end.full));
      },
    )
