use Rattle.std.proofs.Common.{◌≡◌, ◌+◌, ◌-◌, ◌++◌, [], ◌∷◌, get_or, take, refl, rules, sym, ap, ◌∙◌, subst}
use Rattle.store_spec.proofs.Common.{map_push, take_more}
use Rattle.schedule_replay.proofs.Following.{one_more}
use Rattle.step_core.specs.Schedule.{Follows}
use Rattle.step_core.specs.Schedule.Follows.{ended}
use Rattle.schedule_replay.specs.Replayed.{places_of}
use Rattle.schedule_replay.proofs.run.follow.Goals as goal

pub turns-init : goal.turns-init
turns-init g c = record { follows = ended c.args.core.now; tabs = refl; sound = c.requires.sound }

pub turns-preserved : goal.turns-preserved
turns-preserved g c =
    let m = g.C.Machine in
    let i = c.turns.invariant in
    let k = c.turns.tab-index in
    let turns = c.args.schedule.now in
    let turn = c.from.result in
    let same : get_or turns k 0 ≡ turn = search rules in
    let more : places_of (take (k + 1) turns) ≡ places_of (take k turns) ++ (turn - 1) ∷ [] =
    ap places_of (take_more turns k 0 c.turns-test.true) ∙ map_push (λ tab. tab - 1) (take k turns) (get_or turns k 0) ∙ ap (λ t. places_of (take k turns) ++ (t - 1) ∷ []) same in
    let told = c.step.ensures in
    record {
      follows = subst (λ ids. Follows m.steps m.done c.args.core.now ids c.step.new.self) (sym more)
          (one_more m.steps m.done c.args.core.now c.turns.core c.step.new.self (places_of (take k turns)) (turn - 1) c.step.result i.follows (record { at_rest = told.at_rest; unchanged = told.unchanged; row = told.row }));
      tabs = told.tabs ∙ i.tabs;
      sound = told.sound;
    }
