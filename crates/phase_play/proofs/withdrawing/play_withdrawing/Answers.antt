use Rattle.std.proofs.Common.{Global, Vec, ℕ, ◌≡◌, ◌++◌, ◌∙◌, List, arith, drop, length, map, subst, sym, take}
use Rattle.store_spec.proofs.Common.{fresh_withdraw_view, length-map, map-map, take_at}
use Rattle.body_store.specs.Contents.{Contents}
use Rattle.step_core.specs.WithdrawCore.{reply_of}
use Rattle.phase_play.proofs.Playing.{all_belong, all_there, all_trays, plays_withdrawing}
use Rattle.phase_play.specs.Plays.{PlaysWithdrawing}
use Rattle.phase_play.proofs.withdrawing.play_withdrawing.Goals as goal
use Rattle.word_rule.specs.WithdrawSeats.{IsAtRest}

abbrev numbers : Vec ℕ Global → List ℕ
numbers list = list.items

pub run_waiting-requires-clause-belong : goal.run_waiting-requires-clause-belong
run_waiting-requires-clause-belong g c κs within =
    let phase = c.in-Ok.begun.0 in
    let lists = map numbers c.args.work.items in
    all_belong IsAtRest fresh_withdraw_view phase lists c.deref_mut.result.now (c.deref_mut.ensures.value ∙ c.in-Ok.ensures.workers)

pub close-requires-clause-all : goal.close-requires-clause-all
close-requires-clause-all g c κs =
    let phase = c.in-Ok.begun.0 in
    let lists = map numbers c.args.work.items in
    let held = c.in-Ok.begun.1 in
    let after = c.run_waiting.new.workers in
    let whole : take held.len (after ++ drop (length after) held.items) ≡ after = take_at after (drop (length after) held.items) held.len (omega (arith, c.run_waiting.ensures.as_many, c.deref_mut.ensures.len, held.ok)) in
    all_there IsAtRest fresh_withdraw_view phase lists c.deref_mut.result.now (c.deref_mut.ensures.value ∙ c.in-Ok.ensures.workers) after (take held.len (after ++ drop (length after) held.items)) c.run_waiting.ensures.as_many whole
    (c.in-Ok.ensures.seats ∙ sym (length-map c.args.work.items numbers)) c.run_waiting.ensures.belong c.run_waiting.ensures.idle

pub returns-in-Ok-close-clause-plays : goal.returns-in-Ok-close-clause-plays
returns-in-Ok-close-clause-plays g c =
    let phase = c.in-Ok.begun.0 in
    let lists = map numbers c.args.work.items in
    let held = c.in-Ok.begun.1 in
    let after = c.run_waiting.new.workers in
    let ended = c.in-Ok-close.ended in
    let tabs = take held.len (after ++ drop (length after) held.items) in
    let whole : tabs ≡ after = take_at after (drop (length after) held.items) held.len (omega (arith, c.run_waiting.ensures.as_many, c.deref_mut.ensures.len, held.ok)) in
    let trays = all_trays IsAtRest fresh_withdraw_view phase lists c.deref_mut.result.now (c.deref_mut.ensures.value ∙ c.in-Ok.ensures.workers) after tabs c.run_waiting.ensures.as_many whole c.run_waiting.ensures.finished in
    let plays = plays_withdrawing phase.base (map (λ tab. tab.tray) tabs) (map (λ replies. replies.items) ended.1.items) lists ended.0.ballots c.in-Ok-close.ensures.closes trays in
    subst (λ (base : Contents). PlaysWithdrawing base.ballots lists (map (λ list. map reply_of list.items) ended.1.items) ended.0.ballots) c.in-Ok.ensures.base
    (subst (λ replies. PlaysWithdrawing phase.base.ballots lists replies ended.0.ballots) (map-map (map reply_of) (λ list. list.items) ended.1.items) plays)
