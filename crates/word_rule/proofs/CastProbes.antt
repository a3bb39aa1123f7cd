-- Probes for a number, of which those before the last one told nothing.
use Rattle.std.proofs.Common.{◌≡◌, ◌≢◌, ℕ, ◌+◌, ◌-◌, ◌<◌, refl, sym, ap, ◌∙◌, subst}
use Rattle.store_spec.proofs.Common.{Carrying, CastNote, CastRow, CastState, CastView, Claimed, Placed, Probing, Ready, Rest, Table, Taken, cast_number, cast_view_after, claim_met, claim_passed, claim_won, claims_full, displaces, look_passes, look_ready, lost_passes, lost_ready, takes_empty}
use Rattle.store_spec.specs.CastStep.CastNote.{Quiet, Full}
use Rattle.word_rule.proofs.CastKept.{state_after}
use Rattle.word_rule.specs.CastSeats.{IsAnswerNote, IsToldAlike, MakesRow, Probes}

-- the state after a probe, by its note
abbrev pub IsProbeAfter : Table → ℕ → ℕ → CastState → CastNote → Type 0
IsProbeAfter t x k new Quiet = (new ≡ Probing x (k + 1)) × (k + 1 < t.claims)
IsProbeAfter t x k new Claimed = new ≡ Carrying x (t.home x)
IsProbeAfter t x k new Taken = new ≡ Rest
IsProbeAfter t x k new Full = new ≡ Rest
IsProbeAfter t x k new Placed = ⊥

abbrev IsAfter : Table → CastState → CastState → CastNote → Type 0
IsAfter t Rest new note = Unit {0}
IsAfter t (Probing x k) new note = IsProbeAfter t x k new note
IsAfter t (Carrying v i) new note = Unit {0}
IsAfter t (Ready v i s) new note = Unit {0}

row_after : (t : Table) (from : CastState) (word found left : ℕ) (new : CastState) (note : CastNote) → CastRow t from word found left new note → IsAfter t from new note
row_after t from word found left new note (claim_won x k) = refl
row_after t from word found left new note (claim_met x k) = refl
row_after t from word found left new note (claim_passed x k f some other more) = (refl, more)
row_after t from word found left new note (claims_full x k f some other last) = refl
row_after t from word found left new note (look_passes v i f greater) = tt
row_after t from word found left new note (look_ready v i f less) = tt
row_after t from word found left new note (takes_empty v i) = tt
row_after t from word found left new note (displaces v i s some) = tt
row_after t from word found left new note (lost_passes v i s f lost greater) = tt
row_after t from word found left new note (lost_ready v i s f lost less) = tt

pub probe_after : (t : Table) (number : ℕ) (old now : CastView) (note : CastNote) (p : Probes t number old note now) → IsProbeAfter t number p.tries now.state note
probe_after t number old now note p = row_after t (Probing number p.tries) _ p.row.found _ now.state note p.row.leads

-- a number looks for a claim word just where nothing was told yet
pub was_quiet : (t : Table) (number : ℕ) (old now : CastView) (note : CastNote) (x k : ℕ) → now.state ≡ Probing x k → Probes t number old note now → Probes t number old Quiet now
was_quiet t number old now Quiet x k probing p = p
was_quiet t number old now Claimed x k probing p = let clash : Probing x k ≡ Carrying number (t.home number) = sym probing ∙ probe_after t number old now Claimed p in absurd cc
was_quiet t number old now Taken x k probing p = let clash : Probing x k ≡ Rest = sym probing ∙ probe_after t number old now Taken p in absurd cc
was_quiet t number old now Full x k probing p = let clash : Probing x k ≡ Rest = sym probing ∙ probe_after t number old now Full p in absurd cc
was_quiet t number old now Placed x k probing p = absurd (probe_after t number old now Placed p)

-- and it is the number that was begun with
pub own_number : (t : Table) (number : ℕ) (old now : CastView) (note : CastNote) (x k : ℕ) → now.state ≡ Probing x k → Probes t number old note now → x ≡ number
own_number t number old now note x k probing p =
    let quiet = was_quiet t number old now note x k probing p in
    let same : Probing x k ≡ Probing number (quiet.tries + 1) = sym probing ∙ (probe_after t number old now Quiet quiet).0 in
    cc

pub was_told : (t : Table) (number : ℕ) (old now : CastView) (note : CastNote) → ((x k : ℕ) → now.state ≢ Probing x k) → Probes t number old note now → note ≢ Quiet
was_told t number old now note other p quiet =
    let last = subst (λ (n : CastNote). Probes t number old n now) quiet p in
    other number (last.tries + 1) (probe_after t number old now Quiet last).0

-- ---- one probe more

abbrev in_state : CastView → CastState → CastView
in_state view state = record view { state = state }

-- where a probe told nothing, the lists are those of before
pub quiet_lists : (t : Table) (number : ℕ) (old now : CastView) → Probes t number old Quiet now → now ≡ record old { state = now.state }
quiet_lists t number old now p = p.row.is

same_lists : (old : CastView) (number : ℕ) (state new : CastState) (note : CastNote) → cast_view_after (record old { state = state }) number new note ≡ cast_view_after old number new note
same_lists old number state new Quiet = refl
same_lists old number state new Claimed = refl
same_lists old number state new Taken = refl
same_lists old number state new Full = refl
same_lists old number state new Placed = refl

pub one_probe_more : (t : Table) (number : ℕ) (old mid now : CastView) (note : CastNote) → Probes t number old Quiet mid → MakesRow t mid.state mid note now → Probes t number old note now
one_probe_more t number old mid now note p row =
    let after = probe_after t number old mid Quiet p in
    let from = subst (λ (s : CastState). MakesRow t s mid note now) after.0 row in
    record {
      tries = p.tries + 1;
      row = record {
        found = from.found;
        leads = from.leads;
        is = from.is ∙ ap (λ (v : CastView). cast_view_after v number now.state note) (quiet_lists t number old mid p) ∙ same_lists old number mid.state now.state note;
      };
    }

-- and what its note tells is said of the first view too
pub told_again : (t : Table) (number : ℕ) (old mid : CastView) (note : CastNote) → Probes t number old Quiet mid → IsToldAlike mid (cast_number mid.state) note → IsToldAlike old number note
told_again t number old mid note p told =
    let after = probe_after t number old mid Quiet p in
    let of_number = subst (λ (s : CastState). IsToldAlike mid (cast_number s) note) after.0 told in
    let h = subst (λ (v : CastView). IsToldAlike v number note) (quiet_lists t number old mid p) of_number in
    record { again = h.again; no_room = h.no_room; full_again = h.full_again }

-- ---- the measure

abbrev pub tries_left : Table → CastState → ℕ
tries_left t Rest = 0
tries_left t (Probing x k) = t.claims - k
tries_left t (Carrying v i) = 0
tries_left t (Ready v i s) = 0

-- ---- what is told in the end

-- what is told of a number, and the view after it
pub record IsCastSo (number : ℕ) (old now : CastView) (note : CastNote) : Type 0 where
  pub answers : IsAnswerNote note
  pub view : now ≡ cast_view_after old number Rest note

-- where the number that was claimed is placed
pub placed_so : (t : Table) (number v i : ℕ) (old mid now : CastView) (note : CastNote) → mid.state ≡ Carrying v i → Probes t number old note mid → now ≡ record mid { state = Rest } → IsCastSo number old now note
placed_so t number v i old mid now Quiet carrying p placed = let clash : Carrying v i ≡ Probing number (p.tries + 1) = sym carrying ∙ (probe_after t number old mid Quiet p).0 in absurd cc
placed_so t number v i old mid now Claimed carrying p placed = record { answers = tt; view = placed ∙ ap (λ (view : CastView). in_state view Rest) p.row.is }
placed_so t number v i old mid now Taken carrying p placed = let clash : Carrying v i ≡ Rest = sym carrying ∙ probe_after t number old mid Taken p in absurd cc
placed_so t number v i old mid now Full carrying p placed = let clash : Carrying v i ≡ Rest = sym carrying ∙ probe_after t number old mid Full p in absurd cc
placed_so t number v i old mid now Placed carrying p placed = absurd (probe_after t number old mid Placed p)

rested : (t : Table) (number : ℕ) (old now : CastView) (note : CastNote) → IsAnswerNote note → now.state ≡ Rest → Probes t number old note now → IsCastSo number old now note
rested t number old now note answers rests p = record { answers = answers; view = p.row.is ∙ ap (λ (s : CastState). cast_view_after old number s note) rests }

-- where none was claimed
pub refused_so : (t : Table) (number : ℕ) (old now : CastView) (note : CastNote) → ((v i : ℕ) → now.state ≢ Carrying v i) → note ≢ Quiet → Probes t number old note now → IsCastSo number old now note
refused_so t number old now Quiet other some p = absurd (some refl)
refused_so t number old now Claimed other some p = absurd (other number (t.home number) (probe_after t number old now Claimed p))
refused_so t number old now Taken other some p = rested t number old now Taken tt (probe_after t number old now Taken p) p
refused_so t number old now Full other some p = rested t number old now Full tt (probe_after t number old now Full p) p
refused_so t number old now Placed other some p = absurd (probe_after t number old now Placed p)

pub rests_after : (t : Table) (number : ℕ) (old now : CastView) (note : CastNote) → ((v i : ℕ) → now.state ≢ Carrying v i) → note ≢ Quiet → Probes t number old note now → now.state ≡ Rest
rests_after t number old now note other some p = let so = refused_so t number old now note other some p in ap (λ (v : CastView). v.state) so.view ∙ state_after old number Rest note
