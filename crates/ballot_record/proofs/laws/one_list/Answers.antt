use Rattle.ballot_record.proofs.BallotSets.{in_order, in_order-IsPermutation, same_in_order, set_of_listing}
use Rattle.ballot_record.proofs.laws.one_list.Goals as goal

pub returns-clause-one : goal.returns-clause-one
returns-clause-one c e xs ys first second = same_in_order xs ys first.ascending second.ascending

pub returns-clause-some : goal.returns-clause-some
returns-clause-some c e listing is = (in_order listing, in_order-IsPermutation listing, set_of_listing e listing is)
