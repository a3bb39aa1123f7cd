-- The rows of the table, by what is found and what is left of it.
use Rattle.std.proofs.Common.{◌≡◌, ◌≢◌, if◌then◌else◌, ◌==◌, ℕ, ◌+◌, ◌<◌, ◌≤◌, ⊎_elim, refl, sym, subst, arith}
use Rattle.store_spec.proofs.Common.{Carrying, CastNote, CastRow, CastState, Claimed, Placed, Probing, Ready, Rest, Table, Taken, cases_lt, claim_met, claim_passed, claim_won, claim_word, claims_full, cond-false, cond-true, displaces, eq-eqb, look_passes, look_ready, lost_passes, lost_ready, ne_eqb, takes_empty}
use Rattle.step_core.specs.CastTables.{LeadsTo}
use Rattle.store_spec.specs.CastStep.CastNote.{Quiet, Full}

-- a word that is not the wanted one is left as it is
left_lost : (t : Table) (from : CastState) (word want put f : ℕ) (new : CastState) (note : CastNote) → f ≢ want → CastRow t from word f f new note → CastRow t from word f (if f == want then put else f) new note
left_lost t from word want put f new note lost row =
    subst (λ (left : ℕ). CastRow t from word f left new note) (sym (cond-false (f == want) put f (ne_eqb f want lost))) row

-- ---- a probe

pub leads_won : (t : Table) (x k f home : ℕ) → f ≡ 0 → home ≡ t.home x → LeadsTo t (Probing x k) f (Carrying x home) Claimed
leads_won t x k f home free is =
    subst (λ (h : ℕ). LeadsTo t (Probing x k) f (Carrying x h) Claimed) (sym is)
    (subst (λ (g : ℕ). LeadsTo t (Probing x k) g (Carrying x (t.home x)) Claimed) (sym free) (claim_won x k))

pub leads_met : (t : Table) (x k f : ℕ) → f ≢ 0 → f ≡ x → LeadsTo t (Probing x k) f Rest Taken
leads_met t x k f some own =
    left_lost t (Probing x k) (claim_word t x k) 0 x f Rest Taken some
    (subst (λ (g : ℕ). CastRow t (Probing x k) (claim_word t x k) g g Rest Taken) (sym own) (claim_met x k))

pub leads_passed : (t : Table) (x k f : ℕ) → f ≢ 0 → f ≢ x → k + 1 < t.claims → LeadsTo t (Probing x k) f (Probing x (k + 1)) Quiet
leads_passed t x k f some other more = left_lost t (Probing x k) (claim_word t x k) 0 x f (Probing x (k + 1)) Quiet some (claim_passed x k f some other more)

pub leads_full : (t : Table) (x k f : ℕ) → f ≢ 0 → f ≢ x → k + 1 ≡ t.claims → LeadsTo t (Probing x k) f Rest Full
leads_full t x k f some other last = left_lost t (Probing x k) (claim_word t x k) 0 x f Rest Full some (claims_full x k f some other last)

-- ---- a look

-- what a hand becomes by the word found
pub record IsAfterLook (v i f : ℕ) (new : CastState) : Type 0 where
  pub passes : v < f → new ≡ Carrying v (i + 1)
  pub ready : f ≤ v → new ≡ Ready v i f

pub leads_look : (t : Table) (v i f : ℕ) (new : CastState) → f ≢ v → IsAfterLook v i f new → LeadsTo t (Carrying v i) f new Quiet
leads_look t v i f new apart h = ⊎_elim
    (λ (greater : v < f). subst (λ (s : CastState). LeadsTo t (Carrying v i) f s Quiet) (sym (h.passes greater)) (look_passes v i f greater))
    (λ (no_more : f ≤ v). subst (λ (s : CastState). LeadsTo t (Carrying v i) f s Quiet) (sym (h.ready no_more)) (look_ready v i f (omega arith)))
    (cases_lt v f)

-- ---- an exchange

pub leads_lost : (t : Table) (v i s f : ℕ) (new : CastState) → f ≢ s → f ≢ v → IsAfterLook v i f new → LeadsTo t (Ready v i s) f new Quiet
leads_lost t v i s f new lost apart h = left_lost t (Ready v i s) i s v f new Quiet lost (⊎_elim
    (λ (greater : v < f). subst (λ (n : CastState). CastRow t (Ready v i s) i f f n Quiet) (sym (h.passes greater)) (lost_passes v i s f lost greater))
    (λ (no_more : f ≤ v). subst (λ (n : CastState). CastRow t (Ready v i s) i f f n Quiet) (sym (h.ready no_more)) (lost_ready v i s f lost (omega arith)))
    (cases_lt v f))

-- an exchange that finds what was seen puts its number
won : (t : Table) (v i s f : ℕ) (new : CastState) (note : CastNote) → f ≡ s → CastRow t (Ready v i s) i s v new note → LeadsTo t (Ready v i s) f new note
won t v i s f new note same row =
    subst (λ (g : ℕ). LeadsTo t (Ready v i s) g new note) (sym same)
    (subst (λ (left : ℕ). CastRow t (Ready v i s) i s left new note) (sym (cond-true (s == s) v s (eq-eqb s s refl))) row)

pub leads_empty : (t : Table) (v i s f : ℕ) → f ≡ s → s ≡ 0 → LeadsTo t (Ready v i s) f Rest Placed
leads_empty t v i s f same empty = won t v i s f Rest Placed same
    (subst (λ (z : ℕ). CastRow t (Ready v i z) i z v Rest Placed) (sym empty) (takes_empty v i))

pub leads_displaced : (t : Table) (v i s f : ℕ) → f ≡ s → s ≢ 0 → LeadsTo t (Ready v i s) f (Carrying s (i + 1)) Quiet
leads_displaced t v i s f same some = won t v i s f (Carrying s (i + 1)) Quiet same (displaces v i s some)
