use Rattle.std.proofs.Common.{◌^◌, ◌∙◌, All, Global, List, Vec, ℕ, ap, length, map, subst, sym}
use Rattle.store_spec.proofs.Common.{map-map, part_of}
use Rattle.body_store.specs.Contents.{Contents}
use Rattle.part_play.proofs.Playing.{all_stored, elections_stay, withdraws_in_parts}
use Rattle.part_play.proofs.Told.{lengths_of}
use Rattle.part_play.proofs.withdrawing.play_withdrawing.Goals as goal
use Rattle.part_play.specs.Plays.{PlaysWithdrawingInParts}
use Rattle.phase_delete.specs.Closing.{ClosesAs}
use Rattle.phase_delete.specs.Tray.{TrayWithdrawal}
use Rattle.phase_kind.specs.Team.{GoesWithin}
use Rattle.step_core.specs.WithdrawCore.{reply_of}
use Rattle.step_core.specs.declared.withdrawer.WithdrawReply.{WithdrawReply}
use Rattle.store_spec.specs.WithdrawPhase as outcome

abbrev numbers : Vec ℕ Global → List ℕ
numbers list = list.items

abbrev answers : Vec WithdrawReply Global → List WithdrawReply
answers list = list.items

abbrev goes : ℕ → ℕ → ℕ
goes bits number = part_of bits number

pub play_several-requires-clause-within : goal.play_several-requires-clause-within
play_several-requires-clause-within g c κs within =
    subst (λ (n : ℕ). All (λ list. GoesWithin (goes c.args.spread.now) n (numbers list)) c.args.work.items) (sym c.requires.parts)
    (subst (λ (work : List (Vec ℕ Global)). All (λ list. GoesWithin (goes c.args.spread.now) (2 ^ c.args.spread.now) (numbers list)) work) c.deref.ensures.value c.all_go_within.ensures)

pub play_several-requires-clause-is_of : goal.play_several-requires-clause-is_of
play_several-requires-clause-is_of g c κs within k d below i e there = tt

pub play_several-requires-clause-finals : goal.play_several-requires-clause-finals
play_several-requires-clause-finals g c κs within base trays finals after closes =
    ap (map (λ (l : List WithdrawReply). length l)) closes.of_trays ∙ sym (lengths_of (λ (w : TrayWithdrawal). w.reply) trays)

pub returns-clause-elections : goal.returns-clause-elections
returns-clause-elections g c =
    elections_stay ClosesAs (goes c.args.spread.now) c.args.stores.items (map numbers c.args.work.items) c.in_ok-after.after.items (map answers c.in_ok-after.replies.items) c.in_ok-after.ensures

pub returns-clause-stored : goal.returns-clause-stored
returns-clause-stored g c =
    all_stored ClosesAs (goes c.args.spread.now) c.args.stores.items (map numbers c.args.work.items) c.in_ok-after.after.items (map answers c.in_ok-after.replies.items) c.in_ok-after.ensures

pub returns-clause-plays : goal.returns-clause-plays
returns-clause-plays g c =
    let before = map (λ (store : Contents). store.ballots) c.args.stores.items in
    let after = map (λ (store : Contents). store.ballots) c.in_ok-after.after.items in
    let work = map numbers c.args.work.items in
    subst (λ (replies : List (List outcome.WithdrawReply)). PlaysWithdrawingInParts c.args.spread.now before work replies after) (map-map (map reply_of) answers c.in_ok-after.replies.items)
    (withdraws_in_parts c.args.spread.now c.args.stores.items work c.in_ok-after.after.items (map answers c.in_ok-after.replies.items) c.in_ok-after.ensures)
