use Rattle.std.proofs.Common.{ℕ, List, Vec, Global, map, subst, sym, ap}
use Rattle.phase_gate.proofs.Closes.{closes_casting, closes_finding, closes_withdrawing}
use Rattle.phase_gate.proofs.closing.play_phase.Goals as goal
use Rattle.phase_gate.specs.Replies.{ClosesBy, words_of}
use Rattle.phase_gate.specs.Waiting.{phase_of}
use Rattle.phase_gate.specs.declared.replies.Replies.TheVariants.{Cast, Withdrawn, Found}
use Rattle.phase_insert.specs.Closing as casting
use Rattle.step_core.specs.WithdrawCore as withdrawing
use Rattle.store_spec.specs.Session.{ClosesFinding, Phase, closing, of_one_store}

pub returns-in_ok-after-in-Casting-clause-closes : goal.returns-in_ok-after-in-Casting-clause-closes
returns-in_ok-after-in-Casting-clause-closes g c =
    let played = c.in_ok-after-in-Casting in
    let store = c.args.store in
    let effect = closing (words_of (Cast played.finals)) played.after.ballots in
    subst (λ (p : Phase). ClosesBy (of_one_store store.election) store.ballots p effect) (sym (ap phase_of c.in-Casting.is))
    (closes_casting store.election store.ballots played.after.ballots (map (λ list. list.ballots) c.in-Casting.lists.items)
    casting.reply_of (λ list. list.items) played.finals.items played.ensures.plays)

pub returns-in_ok-after-in-Withdrawing-clause-closes : goal.returns-in_ok-after-in-Withdrawing-clause-closes
returns-in_ok-after-in-Withdrawing-clause-closes g c =
    let played = c.in_ok-after-in-Withdrawing in
    let store = c.args.store in
    let effect = closing (words_of (Withdrawn played.answers)) played.after.ballots in
    subst (λ (p : Phase). ClosesBy (of_one_store store.election) store.ballots p effect)
    (sym (ap phase_of c.in-Withdrawing.is))
    (closes_withdrawing store.ballots played.after.ballots (map (λ list. list.items) c.in-Withdrawing.lists.items)
    withdrawing.reply_of (λ list. list.items) played.answers.items played.ensures.plays)

pub returns-in_ok-found-in-Finding-clause-closes : goal.returns-in_ok-found-in-Finding-clause-closes
returns-in_ok-found-in-Finding-clause-closes g c =
    let store = c.args.store in
    let effect = closing (words_of (Found c.in_ok-found-in-Finding.found)) store.ballots in
    subst (λ (p : Phase). ClosesBy (of_one_store store.election) store.ballots p effect) (sym (ap phase_of c.in-Finding.is))
    (subst (λ (lists : List (Vec ℕ Global)). ClosesFinding store.ballots (map (λ list. list.items) lists) effect)
    c.deref.ensures.value
    (closes_finding store.ballots (map (λ list. list.items) c.deref.result.now) (λ list. list.items)
    c.in_ok-found-in-Finding.found.items c.in_ok-found-in-Finding.ensures))
