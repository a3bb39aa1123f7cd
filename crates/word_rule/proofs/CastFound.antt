-- Each word that a step of casting may find has its row, and one alone.
use Rattle.std.proofs.Common.{◌≡◌, ◌≢◌, if◌then◌else◌, ◌==◌, ℕ, ◌+◌, ◌<◌, ◌≤◌, ⊎_elim, refl, sym, ap, ◌∙◌, arith}
use Rattle.store_spec.proofs.Common.{Carrying, CastNote, CastRow, CastState, Claimed, Placed, Probing, Ready, Rest, Table, Taken, cases_eq, cases_lt, claim_met, claim_passed, claim_won, claims_full, cond-false, cond-true, displaces, eq-eqb, le-ltb, look_passes, look_ready, lost_passes, lost_ready, lt-ltb, nat_lt, ne_eqb, takes_empty}
use Rattle.step_core.proofs.CastLeads.{leads_displaced, leads_empty, leads_full, leads_look, leads_lost, leads_met, leads_passed, leads_won}
use Rattle.step_core.specs.CastTables.{FitsIn, LeadsTo, MayFind}
use Rattle.store_spec.specs.CastStep.CastNote.{Quiet, Full}

abbrev End : Type 0
End = CastState × CastNote

-- ---- the end of a row, as a function of the state and the word that is found

abbrev after_look : ℕ → ℕ → ℕ → End
after_look v i f = if nat_lt v f then (Carrying v (i + 1), Quiet) else (Ready v i f, Quiet)

abbrev after_won : ℕ → ℕ → End
after_won i s = if s == 0 then (Rest, Placed) else (Carrying s (i + 1), Quiet)

abbrev after_passed : Table → ℕ → ℕ → End
after_passed t x k = if nat_lt (k + 1) t.claims then (Probing x (k + 1), Quiet) else (Rest, Full)

abbrev after_some : Table → ℕ → ℕ → ℕ → End
after_some t x k f = if f == x then (Rest, Taken) else after_passed t x k

abbrev after : Table → CastState → ℕ → End
after t Rest f = (Rest, Quiet)
after t (Probing x k) f = if f == 0 then (Carrying x (t.home x), Claimed) else after_some t x k f
after t (Carrying v i) f = after_look v i f
after t (Ready v i s) f = if f == s then after_won i s else after_look v i f

passes : (v i f : ℕ) → v < f → after_look v i f ≡ (Carrying v (i + 1), Quiet)
passes v i f less = cond-true (nat_lt v f) _ _ (lt-ltb v f less)

stops : (v i f : ℕ) → f < v → after_look v i f ≡ (Ready v i f, Quiet)
stops v i f less = cond-false (nat_lt v f) _ _ (le-ltb v f (omega arith))

won : (t : Table) (v i s : ℕ) → after t (Ready v i s) s ≡ after_won i s
won t v i s = cond-true (s == s) _ _ (eq-eqb s s refl)

lost : (t : Table) (v i s f : ℕ) → f ≢ s → after t (Ready v i s) f ≡ after_look v i f
lost t v i s f other = cond-false (f == s) _ _ (ne_eqb f s other)

filled : (t : Table) (x k f : ℕ) → f ≢ 0 → after t (Probing x k) f ≡ after_some t x k f
filled t x k f some = cond-false (f == 0) _ _ (ne_eqb f 0 some)

foreign : (t : Table) (x k f : ℕ) → f ≢ 0 → f ≢ x → after t (Probing x k) f ≡ after_passed t x k
foreign t x k f some other = filled t x k f some ∙ cond-false (f == x) _ _ (ne_eqb f x other)

row_after : (t : Table) (from : CastState) (word f left : ℕ) (new : CastState) (note : CastNote) → FitsIn t from → CastRow t from word f left new note → after t from f ≡ (new, note)
row_after t from word f left new note fits (claim_won x k) = refl
row_after t from word f left new note fits (claim_met x k) = filled t x k x fits.0 ∙ cond-true (x == x) _ _ (eq-eqb x x refl)
row_after t from word f left new note fits (claim_passed x k g some other more) = foreign t x k g some other ∙ cond-true (nat_lt (k + 1) t.claims) _ _ (lt-ltb (k + 1) t.claims more)
row_after t from word f left new note fits (claims_full x k g some other last) = foreign t x k g some other ∙ cond-false (nat_lt (k + 1) t.claims) _ _ (le-ltb (k + 1) t.claims (omega arith))
row_after t from word f left new note fits (look_passes v i g greater) = passes v i g greater
row_after t from word f left new note fits (look_ready v i g less) = stops v i g less
row_after t from word f left new note fits (takes_empty v i) = won t v i 0
row_after t from word f left new note fits (displaces v i s some) = won t v i s ∙ cond-false (s == 0) _ _ (ne_eqb s 0 some)
row_after t from word f left new note fits (lost_passes v i s g other greater) = lost t v i s g other ∙ passes v i g greater
row_after t from word f left new note fits (lost_ready v i s g other less) = lost t v i s g other ∙ stops v i g less

-- ---- one row

pub one_row : (t : Table) (from : CastState) (f : ℕ) (a b : CastState) (m n : CastNote) → FitsIn t from → LeadsTo t from f a m → LeadsTo t from f b n → (a ≡ b) × (m ≡ n)
one_row t from f a b m n fits first second =
    let same = sym (row_after t from _ f _ a m fits first) ∙ row_after t from _ f _ b n fits second in
    (ap (λ (e : End). e.0) same, ap (λ (e : End). e.1) same)

-- ---- a row for each

abbrev HasRow : Table → CastState → ℕ → Type 0
HasRow t from f = (new : CastState) × (note : CastNote) × LeadsTo t from f new note

look : (t : Table) (from : CastState) (v i f : ℕ) → f ≢ v → ((new : CastState) → (v < f → new ≡ Carrying v (i + 1)) → (f ≤ v → new ≡ Ready v i f) → LeadsTo t from f new Quiet) → HasRow t from f
look t from v i f apart leads = ⊎_elim
    (λ (greater : v < f). (Carrying v (i + 1), Quiet, leads (Carrying v (i + 1)) (λ g. refl) (λ no_more. absurd (omega arith))))
    (λ (no_more : f ≤ v). (Ready v i f, Quiet, leads (Ready v i f) (λ g. absurd (omega arith)) (λ g. refl)))
    (cases_lt v f)

probe : (t : Table) (x k f : ℕ) → k < t.claims → f ≢ 0 → f ≢ x → HasRow t (Probing x k) f
probe t x k f fits some other = ⊎_elim
    (λ (more : k + 1 < t.claims). (Probing x (k + 1), Quiet, leads_passed t x k f some other more))
    (λ (no_more : t.claims ≤ k + 1). (Rest, Full, leads_full t x k f some other (omega arith)))
    (cases_lt (k + 1) t.claims)

pub a_row : (t : Table) (from : CastState) (f : ℕ) → FitsIn t from → MayFind from f → HasRow t from f
a_row t Rest f fits finds = absurd finds
a_row t (Probing x k) f fits finds = ⊎_elim
    (λ (free : f ≡ 0). (Carrying x (t.home x), Claimed, leads_won t x k f (t.home x) free refl))
    (λ (some : f ≢ 0). ⊎_elim
    (λ (own : f ≡ x). (Rest, Taken, leads_met t x k f some own))
    (λ (other : f ≢ x). probe t x k f fits.1 some other)
    (cases_eq f x))
    (cases_eq f 0)
a_row t (Carrying v i) f fits apart = look t (Carrying v i) v i f apart (λ new passes ready. leads_look t v i f new apart (record { passes = passes; ready = ready }))
a_row t (Ready v i s) f fits apart = ⊎_elim
    (λ (same : f ≡ s). ⊎_elim
    (λ (empty : s ≡ 0). (Rest, Placed, leads_empty t v i s f same empty))
    (λ (some : s ≢ 0). (Carrying s (i + 1), Quiet, leads_displaced t v i s f same some))
    (cases_eq s 0))
    (λ (other : f ≢ s). look t (Ready v i s) v i f apart (λ new passes ready. leads_lost t v i s f new other apart (record { passes = passes; ready = ready })))
    (cases_eq f s)
