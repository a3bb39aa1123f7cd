use Rattle.std.proofs.Common.{◌^◌, All, Global, List, Vec, ℕ, map, subst, sym}
use Rattle.store_spec.proofs.Common.{Ballot, CastReply, map-map, part_of}
use Rattle.ballot_record.specs.BallotList.{ListedBallots}
use Rattle.body_store.specs.Contents.{Contents}
use Rattle.part_play.proofs.Playing.{all_stored, casts_in_parts, elections_stay}
use Rattle.part_play.proofs.casting.play_casting.Goals as goal
use Rattle.part_play.specs.Plays.{PlaysCastingInParts}
use Rattle.phase_insert.specs.Closing.{ClosesAs, reply_of}
use Rattle.phase_insert.specs.declared.reply.Final.{Final}
use Rattle.phase_kind.specs.Team.{GoesWithin}

abbrev ballots : ListedBallots → List Ballot
ballots list = list.ballots

abbrev finals : Vec Final Global → List Final
finals list = list.items

abbrev goes : ℕ → Ballot → ℕ
goes bits b = part_of bits b.number

pub play_several-requires-clause-within : goal.play_several-requires-clause-within
play_several-requires-clause-within g c κs within =
    subst (λ (n : ℕ). All (λ list. GoesWithin (goes c.args.spread.now) n (ballots list)) c.args.work.items) (sym c.requires.parts)
    (subst (λ (work : List (ListedBallots)). All (λ list. GoesWithin (goes c.args.spread.now) (2 ^ c.args.spread.now) (ballots list)) work) c.deref.ensures.value c.all_go_within.ensures)

pub play_several-requires-clause-is_of : goal.play_several-requires-clause-is_of
play_several-requires-clause-is_of g c κs within = c.requires.elections

pub play_several-requires-clause-finals : goal.play_several-requires-clause-finals
play_several-requires-clause-finals g c κs within base trays finals after closes = closes.as_many

pub returns-clause-elections : goal.returns-clause-elections
returns-clause-elections g c =
    elections_stay ClosesAs (goes c.args.spread.now) c.args.stores.items (map ballots c.args.work.items) c.in_ok-after.after.items (map finals c.in_ok-after.replies.items) c.in_ok-after.ensures

pub returns-clause-stored : goal.returns-clause-stored
returns-clause-stored g c =
    all_stored ClosesAs (goes c.args.spread.now) c.args.stores.items (map ballots c.args.work.items) c.in_ok-after.after.items (map finals c.in_ok-after.replies.items) c.in_ok-after.ensures

pub returns-clause-plays : goal.returns-clause-plays
returns-clause-plays g c e own =
    let before = map (λ (store : Contents). store.ballots) c.args.stores.items in
    let after = map (λ (store : Contents). store.ballots) c.in_ok-after.after.items in
    let work = map ballots c.args.work.items in
    subst (λ (replies : List (List CastReply)). PlaysCastingInParts c.args.spread.now e before work replies after) (map-map (map reply_of) finals c.in_ok-after.replies.items)
    (casts_in_parts c.args.spread.now e c.args.stores.items work c.in_ok-after.after.items (map finals c.in_ok-after.replies.items) own c.in_ok-after.ensures)
