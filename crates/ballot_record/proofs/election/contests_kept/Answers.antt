use Rattle.ballot_record.specs.Contest.{no_contest}
use Rattle.ballot_record.proofs.Places.{put_in_front}
use Rattle.ballot_record.proofs.election.contests_kept.Goals as goal

pub returns : goal.returns
returns c = put_in_front c.args.contests.now _ 24 no_contest c.copy_from_slice.ensures.after
