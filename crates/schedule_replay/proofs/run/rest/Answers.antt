use Rattle.std.proofs.Common.{refl, ◌∙◌}
use Rattle.schedule_replay.proofs.Following.{stays, steps_again}
use Rattle.schedule_replay.proofs.run.rest.Goals as goal

pub rounds-init : goal.rounds-init
rounds-init g c = record {
  follows = stays g.C.Machine.steps g.C.Machine.done c.args.core.now c.args.tab;
  others = λ id other done. done;
  tabs = refl;
  sound = c.requires.sound;
}

pub rounds-preserved : goal.rounds-preserved
rounds-preserved g c =
    let m = g.C.Machine in
    let i = c.rounds.invariant in
    let told = c.step.ensures in
    record {
      follows = steps_again m.steps m.done c.args.core.now c.rounds.core c.step.new.self c.args.tab c.step.result i.follows (record { at_rest = told.at_rest; unchanged = told.unchanged; row = told.row });
      others = λ id other done. told.others id other (i.others id other done);
      tabs = told.tabs ∙ i.tabs;
      sound = told.sound;
    }
