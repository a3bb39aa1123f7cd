use Rattle.store_spec.proofs.Common.{IsPermutation-sym}
use Rattle.merge_media.proofs.Standing.{disputed_within}
use Rattle.merge_media.proofs.Unions.{permuted, union_same}
use Rattle.merge_media.proofs.laws.any_order.Goals as goal

pub returns-clause-union : goal.returns-clause-union
returns-clause-union c xs ys union p is = union_same xs ys union (permuted xs ys p) (permuted ys xs (IsPermutation-sym xs ys p)) is

pub returns-clause-disputed : goal.returns-clause-disputed
returns-clause-disputed c xs ys number p d = disputed_within xs ys (permuted xs ys p) number d
