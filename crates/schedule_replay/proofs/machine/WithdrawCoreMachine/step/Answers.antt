use Rattle.schedule_replay.proofs.Steppers.{withdraw_others, withdraw_sound}
use Rattle.schedule_replay.proofs.WithdrawShort.{work_falls}
use Rattle.schedule_replay.proofs.machine.WithdrawCoreMachine.step.Goals as goal

pub returns-clause-falls : goal.returns-clause-falls
returns-clause-falls c =
    let told = c.step.ensures in
    let sound = withdraw_sound c.args.self.now c.args.tab c.step.new.self c.step.result told.unchanged told.row c.requires.sound told.invariant in
    λ made. work_falls c.args.self.now c.args.tab c.step.new.self sound (told.row made) (told.falls made)

pub returns-clause-others : goal.returns-clause-others
returns-clause-others c = withdraw_others c.args.self.now c.args.tab c.step.new.self c.step.result c.step.ensures.unchanged c.step.ensures.row

pub returns-clause-sound : goal.returns-clause-sound
returns-clause-sound c = withdraw_sound c.args.self.now c.args.tab c.step.new.self c.step.result c.step.ensures.unchanged c.step.ensures.row c.requires.sound c.step.ensures.invariant
