use Rattle.ballot_record.proofs.Places.{put_in_front}
use Rattle.ballot_record.proofs.election.styles_kept.Goals as goal

pub returns : goal.returns
returns c = put_in_front c.args.styles.now _ 255 0 c.copy_from_slice.ensures.after
