use Rattle.std.proofs.Common.{◌∙◌, Global, List, Vec, ap, map, subst, sym, ℕ}
use Rattle.store_spec.proofs.Common.{Ballot, ClosesWithdrawingInParts, closing, withdraw_text}
use Rattle.part_session.proofs.Stores.{election_now, parts_withdrawn, stores_now, withdrawal_closes}
use Rattle.part_session.proofs.playing.withdraw.Goals as goal
use Rattle.partition_store.specs.Parted.{AreParts, joined}
use Rattle.partition_store.specs.PartedKept.{sets_of}
use Rattle.step_core.specs.WithdrawCore.{reply_of}
use Rattle.step_core.specs.declared.withdrawer.WithdrawReply.{WithdrawReply}

abbrev given : Vec ℕ Global → List ℕ
given list = list.items

abbrev told : Vec WithdrawReply Global → List WithdrawReply
told list = list.items

pub of_parts-requires-clause-parts : goal.of_parts-requires-clause-parts
of_parts-requires-clause-parts g c =
    let stores = c.into_parts-stores in
    let played = c.in_ok-after in
    subst (λ n. AreParts n (sets_of played.after.items)) (sym c.bits-bits.ensures.bits)
    (parts_withdrawn c.args.store stores.result.items stores.ensures.sets stores.ensures.stores stores.ensures.parted
    played.after.items played.ensures.elections played.ensures.stored c.new-spread.result
    (c.new-spread.ensures ∙ c.bits-bits.ensures.bits) (map given c.args.lists.items)
    (map (λ v. map reply_of (told v)) played.answers.items) c.parts_keep_their_own.ensures.withdrawing played.ensures.plays)

pub of_parts-requires-clause-stores : goal.of_parts-requires-clause-stores
of_parts-requires-clause-stores g c =
    let stores = c.into_parts-stores in
    let played = c.in_ok-after in
    stores_now c.args.store stores.result.items stores.ensures.sets stores.ensures.stores stores.ensures.parted
    played.after.items played.ensures.elections played.ensures.stored

pub returns-clause-election : goal.returns-clause-election
returns-clause-election g c =
    let stores = c.into_parts-stores in
    let played = c.in_ok-after in
    ap (λ store. store.election) c.of_parts.ensures.store
    ∙ election_now c.args.store stores.result.items stores.ensures.sets stores.ensures.stores stores.ensures.parted
    played.after.items played.ensures.elections played.ensures.stored

pub returns-clause-closes : goal.returns-clause-closes
returns-clause-closes g c =
    let store = c.args.store in
    let stores = c.into_parts-stores in
    let played = c.in_ok-after in
    let words = map (λ v. map (λ x. withdraw_text (reply_of x)) (told v)) played.answers.items in
    let work = map given c.args.lists.items in
    subst (λ (sets : List (List Ballot)). ClosesWithdrawingInParts store.bits (joined store.sets) work (closing words (joined sets)))
    (sym (ap (λ store. store.sets) c.of_parts.ensures.store))
    (withdrawal_closes store stores.result.items stores.ensures.sets stores.ensures.stores stores.ensures.parted
    played.after.items played.ensures.elections played.ensures.stored c.new-spread.result
    (c.new-spread.ensures ∙ c.bits-bits.ensures.bits) reply_of told work played.answers.items
    c.parts_keep_their_own.ensures.withdrawing c.a_phase_closes.ensures.withdrawing played.ensures.plays)
