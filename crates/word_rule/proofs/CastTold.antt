-- What a step of casting tells of a number again.
use Rattle.std.proofs.Common.{◌≡◌, ℕ, ◌<◌, ⊎_elim, Some, List, length, get_or, set, drop, refl, sym, ap, ◌∙◌, subst}
use Rattle.store_spec.proofs.Common.{All-contains, CastInvariant, CastNote, CastRow, CastState, CastView, Claimed, Contains, Contains-push, HasMet, HoldsOther, IsClaimed, Probing, Table, Taken, cast_number, cast_view_after, claim_met, claim_passed, claim_won, claim_word, claims_full, displaces, get_or_default, look_passes, look_ready, lost_passes, lost_ready, slice_get, takes_empty}
use Rattle.step_core.proofs.CastAtRest.{IsNewIn, claim_is_new, full_for}
use Rattle.step_core.proofs.CastRows.{met_is}
use Rattle.step_core.proofs.Sets.{contains-flat_map, stands-set}
use Rattle.store_spec.specs.CastStep.CastNote.{Full}
use Rattle.word_rule.specs.CastSeats.{IsToldAlike}

-- a number that was found taken is not one that met full claim words
taken_not_full : (claims : List ℕ) (view : CastView) (x : ℕ) → HasMet claims view → Contains view.taken x → ¬ Contains view.full x
taken_not_full claims view x met taken full =
    let claimed = (All-contains (IsClaimed claims) view.taken x met.taken taken).1 in
    let others = All-contains (λ y. (place : ℕ) → place < length claims → HoldsOther claims y place) view.full x met.full full in
    (others claimed.0 claimed.1).other (get_or_default claims claimed.0 0 x claimed.1 ∙ claimed.2)

-- the row of a claim word that is won
record IsWon (t : Table) (from : CastState) (word f : ℕ) : Type 0 where
  x : ℕ
  k : ℕ
  is : from ≡ Probing x k
  at : word ≡ claim_word t x k
  free : f ≡ 0

won : (t : Table) (from : CastState) (word f left : ℕ) (new : CastState) (note : CastNote) → CastRow t from word f left new note → note ≡ Claimed → IsWon t from word f
won t from word f left new note (claim_won x k) is = record { x = x; k = k; is = refl; at = refl; free = refl }
won t from word f left new note (claim_met x k) is = absurd cc
won t from word f left new note (claim_passed x k g some other more) is = absurd cc
won t from word f left new note (claims_full x k g some other last) is = absurd cc
won t from word f left new note (look_passes v i g greater) is = absurd cc
won t from word f left new note (look_ready v i g less) is = absurd cc
won t from word f left new note (takes_empty v i) is = absurd cc
won t from word f left new note (displaces v i s some) is = absurd cc
won t from word f left new note (lost_passes v i s g other greater) is = absurd cc
won t from word f left new note (lost_ready v i s g other less) is = absurd cc

-- before and after a step
module _ (t : Table) (base words words_now : List ℕ) (views : List CastView) (id : ℕ) (view : CastView) (from : CastState) (new : CastState) (note : CastNote)
    (h : CastInvariant t base words views) (stands : slice_get views id ≡ Some view) (is : view.state ≡ from)
    (after : CastInvariant t base words_now (set views id (cast_view_after view (cast_number from) new note))) where
  abbrev x : ℕ
  x = cast_number from

  after_note : (note' : CastNote) → note ≡ note' → CastInvariant t base words_now (set views id (cast_view_after view x new note'))
  after_note note' e = subst (λ (n : CastNote). CastInvariant t base words_now (set views id (cast_view_after view x new n))) e after

  claimed_new : (word left : ℕ) → CastRow t from word (get_or words word 0) left new note → note ≡ Claimed → IsNewIn view x
  claimed_new word left row e =
      let w = won t from word (get_or words word 0) left new note row e in
      subst (IsNewIn view) (sym (ap cast_number w.is))
      (claim_is_new t base words views id view w.x w.k h stands (is ∙ w.is) (ap (λ (n : ℕ). get_or words n 0) (sym w.at) ∙ w.free))

  full_foreign : note ≡ Full → (¬ Contains view.accepted x) × (¬ Contains view.taken x)
  full_foreign e =
      let now = cast_view_after view x new Full in
      let h_now = after_note Full e in
      let stands_now = stands-set views id view now stands in
      let full = Contains-push view.full x in (
        λ accepted. (full_for t base words_now (set views id now) id now x h_now stands_now full).0
            (contains-flat_map (λ (v : CastView). v.accepted) (set views id now) id now x stands_now accepted),
        λ taken. taken_not_full (drop t.cells words_now) now x (met_is t base words_now (set views id now) id now h_now stands_now) taken full,
      )

  taken_room : note ≡ Taken → ¬ Contains view.full x
  taken_room e full =
      let now = cast_view_after view x new Taken in
      let stands_now = stands-set views id view now stands in
      taken_not_full (drop t.cells words_now) now x (met_is t base words_now (set views id now) id now (after_note Taken e) stands_now) (Contains-push view.taken x) full

  pub told_alike : (word left : ℕ) → CastRow t from word (get_or words word 0) left new note → IsToldAlike view x note
  told_alike word left row = record {
    again = ⊎_elim
        (λ (accepted : Contains view.accepted x). ((λ e. (claimed_new word left row e).not_accepted accepted), (λ e. (full_foreign e).0 accepted)))
        (λ (taken : Contains view.taken x). ((λ e. (claimed_new word left row e).not_taken taken), (λ e. (full_foreign e).1 taken)));
    no_room = λ some e. some (claimed_new word left row e).not_full;
    full_again = λ full e. taken_room e full;
  }
