use Rattle.std.proofs.Common.{subst, sym}
use Rattle.phase_kind.proofs.phase.PhaseOf.close.Goals as goal
use Rattle.phase_kind.specs.Phase.{OpenPhase}
use Rattle.phase_kind.specs.Worker.{AreAll}

pub end-requires-clause-left : goal.end-requires-clause-left
end-requires-clause-left g c =
    let parts = c.in-Ok.ensures in
    record {
      workers = c.args.workers.items;
      all = subst (λ (phase : OpenPhase). AreAll phase c.args.workers.items) (sym c.self.view_is) c.requires.all;
      seats_are = parts.seats_are;
      trays_are = parts.trays_are;
      told = parts.all_told;
    }

pub end-requires-clause-is_of : goal.end-requires-clause-is_of
end-requires-clause-is_of g c = c.in-Ok.ensures.of_base _ (subst (λ (phase : OpenPhase). AreAll phase c.args.workers.items) (sym c.self.view_is) c.requires.all).belong
