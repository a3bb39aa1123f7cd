use Rattle.std.proofs.Common.{◌≡◌, ◌≢◌, ⊎_elim, refl, sym, subst, ◌∙◌, arith}
use Rattle.store_spec.proofs.Common.{cases_eq}
use Rattle.schedule_replay.proofs.Following.{next_in_turn, nobody_yet}
use Rattle.schedule_replay.proofs.run.rest_all.Goals as goal

pub tabs-init : goal.tabs-init
tabs-init g c = record {
  in_turn = nobody_yet g.C.Machine.steps g.C.Machine.done c.args.core.now;
  done = λ id less. absurd (omega arith);
  tabs = refl;
  sound = c.requires.sound;
}

pub tabs-preserved : goal.tabs-preserved
tabs-preserved g c =
    let m = g.C.Machine in
    let i = c.tabs.invariant in
    let told = c.rest.ensures in
    let tab = c.tabs.tab in
    record {
      in_turn = next_in_turn m.steps m.done tab c.args.core.now c.tabs.core c.rest.new.core i.in_turn told.follows;
      done = λ id less. ⊎_elim
          (λ (same : id ≡ tab). subst (λ n. m.done c.rest.new.core n) (sym same) told.done)
          (λ (other : id ≢ tab). told.others id other (i.done id (omega arith)))
          (cases_eq id tab);
      tabs = told.tabs ∙ i.tabs;
      sound = told.sound;
    }
