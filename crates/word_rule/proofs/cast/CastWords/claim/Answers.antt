use Rattle.std.proofs.Common.{◌≡◌, ℕ, sym, ap, ◌∙◌, subst}
use Rattle.store_spec.proofs.Common.{CastNote, CastState, CastView, Probing, Table, cast_number}
use Rattle.atomic_table.specs.declared.shared.Seat.{Seat}
use Rattle.step_core.specs.CastTables.{note_of, state_of}
use Rattle.step_core.specs.Shape.{table_of}
use Rattle.store_spec.specs.CastStep.CastNote.{Quiet}
use Rattle.word_rule.proofs.CastHands.{next_row}
use Rattle.word_rule.proofs.CastProbes.{one_probe_more, own_number, told_again, was_quiet, was_told}
use Rattle.word_rule.proofs.CastStates.{not_probing}
use Rattle.word_rule.proofs.Chains.{begun, led_on, one}
use Rattle.word_rule.proofs.cast.CastWords.claim.Goals as goal
use Rattle.word_rule.specs.CastSeats.{CastsByRows, IsToldAlike, MakesNextRow, MakesRow, Probes}
use Rattle.word_rule.specs.CastWords.{IsAbout}
use Rattle.word_rule.specs.Seats.{SharedWords}
use Rattle.word_rule.specs.declared.seats.Known.{Known}

-- what is kept while a number looks for a claim word
record Looks (of : SharedWords) (number tries : ℕ) (old : CastView) (seat : Seat (Unit {0}) (Known CastView)) : Type 0 where
  about : IsAbout of (Probing number tries) seat
  probes : Probes (table_of of.shape) number old Quiet seat.me.0.view

looks : (of : SharedWords) (number x tries : ℕ) (old : CastView) (state : CastState) (note : CastNote) (seat : Seat (Unit {0}) (Known CastView)) → state ≡ Probing x tries → IsAbout of state seat → Probes (table_of of.shape) number old note seat.me.0.view → Looks of number tries old seat
looks of number x tries old state note seat is about probes =
    let probing = about.state_is ∙ is in
    let own = own_number (table_of of.shape) number old seat.me.0.view note x tries probing probes in
    record {
      about = subst (λ (s : CastState). IsAbout of s seat) (is ∙ ap (λ (n : ℕ). Probing n tries) own) about;
      probes = was_quiet (table_of of.shape) number old seat.me.0.view note x tries probing probes;
    }

-- one try more
probed : (of : SharedWords) (number tries : ℕ) (old : CastView) (mid now : Seat (Unit {0}) (Known CastView)) (note : CastNote) → IsAbout of (Probing number tries) mid → Probes (table_of of.shape) number old Quiet mid.me.0.view → MakesRow (table_of of.shape) (Probing number tries) mid.me.0.view note now.me.0.view → Probes (table_of of.shape) number old note now.me.0.view
probed of number tries old mid now note about probes row =
    one_probe_more (table_of of.shape) number old mid.me.0.view now.me.0.view note probes
    (subst (λ (s : CastState). MakesRow (table_of of.shape) s mid.me.0.view note now.me.0.view) (sym about.state_is) row)

-- the chain of rows with one more
chained : (of : SharedWords) (number tries : ℕ) (old : CastView) (mid now : Seat (Unit {0}) (Known CastView)) (note : CastNote) → IsAbout of (Probing number tries) mid → CastsByRows (table_of of.shape) number old mid.me.0.view → MakesRow (table_of of.shape) (Probing number tries) mid.me.0.view note now.me.0.view → CastsByRows (table_of of.shape) number old now.me.0.view
chained of number tries old mid now note about chain row =
    let t = table_of of.shape in
    led_on (MakesNextRow t) (MakesRow t (Probing number 0)) old mid.me.0.view now.me.0.view chain
    (one (MakesNextRow t) mid.me.0.view now.me.0.view note (next_row t (Probing number tries) mid.me.0.view now.me.0.view note about.state_is row))

first_chain : (t : Table) (number : ℕ) (old now : CastView) (note : CastNote) → MakesRow t (Probing number 0) old note now → CastsByRows t number old now
first_chain t number old now note row = begun (MakesNextRow t) (MakesRow t (Probing number 0)) old now note row

pub returns-in_default : goal.returns-in_default
returns-in_default c =
    let first = c.begin-state in
    let probes : Probes (table_of c.args.self.now.shape) c.args.number c.args.seat.now.me.0.view (note_of first.result.1) first.new.seat.me.0.view = record { tries = 0; row = first.ensures.row } in
    record {
      about = first.ensures.about;
      probes = probes;
      chain = first_chain (table_of c.args.self.now.shape) c.args.number c.args.seat.now.me.0.view first.new.seat.me.0.view (note_of first.result.1) first.ensures.row;
      told = was_told (table_of c.args.self.now.shape) c.args.number c.args.seat.now.me.0.view first.new.seat.me.0.view (note_of first.result.1)
          (λ x k same. not_probing first.result.0 c.in_default.not-Probing x k (sym first.ensures.about.state_is ∙ same)) probes;
      told_alike = first.ensures.told_alike;
    }

pub tries-init : goal.tries-init
tries-init c =
    let first = c.begin-state in
    let kept = looks c.args.self.now c.args.number c.in-Probing.number c.in-Probing.tries c.args.seat.now.me.0.view (state_of first.result.0) (note_of first.result.1) first.new.seat (ap state_of c.in-Probing.is) first.ensures.about (record { tries = 0; row = first.ensures.row }) in
    record {
      about = kept.about;
      probes = kept.probes;
      chain = first_chain (table_of c.args.self.now.shape) c.args.number c.args.seat.now.me.0.view first.new.seat.me.0.view (note_of first.result.1) first.ensures.row;
    }

pub tries-preserved : goal.tries-preserved
tries-preserved c =
    let i = c.tries.invariant in
    let last = c.step-after in
    let probes = probed c.args.self.now c.args.number c.tries.tries c.args.seat.now.me.0.view c.tries.seat last.new.seat (note_of last.result.1) i.about i.probes last.ensures.row in
    let kept = looks c.args.self.now c.args.number c.in-Probing-after.number c.in-Probing-after.more c.args.seat.now.me.0.view (state_of last.result.0) (note_of last.result.1) last.new.seat (ap state_of c.in-Probing-after.is) last.ensures.about probes in
    record {
      about = kept.about;
      probes = kept.probes;
      chain = chained c.args.self.now c.args.number c.tries.tries c.args.seat.now.me.0.view c.tries.seat last.new.seat (note_of last.result.1) i.about i.chain last.ensures.row;
    }

pub returns-in_default-after : goal.returns-in_default-after
returns-in_default-after c =
    let i = c.tries.invariant in
    let last = c.step-after in
    let old = c.args.seat.now.me.0.view in
    let probes = probed c.args.self.now c.args.number c.tries.tries old c.tries.seat last.new.seat (note_of last.result.1) i.about i.probes last.ensures.row in
    record {
      about = last.ensures.about;
      probes = probes;
      chain = chained c.args.self.now c.args.number c.tries.tries old c.tries.seat last.new.seat (note_of last.result.1) i.about i.chain last.ensures.row;
      told = was_told (table_of c.args.self.now.shape) c.args.number old last.new.seat.me.0.view (note_of last.result.1)
          (λ x k same. not_probing last.result.0 c.in_default-after.not-Probing x k (sym last.ensures.about.state_is ∙ same)) probes;
      told_alike = told_again (table_of c.args.self.now.shape) c.args.number old c.tries.seat.me.0.view (note_of last.result.1) i.probes
          (subst (λ (s : CastState). IsToldAlike c.tries.seat.me.0.view (cast_number s) (note_of last.result.1)) (sym i.about.state_is) last.ensures.told_alike);
    }
