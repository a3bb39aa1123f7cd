use Rattle.std.proofs.Common.{ap, sym}
use Rattle.store_spec.proofs.Common.{laid_out}
use Rattle.layout_def.proofs.Ascending.{ascending-IsPermutation}
use Rattle.layout_def.proofs.laws.any_listing.Goals as goal

pub returns : goal.returns
returns c home count xs ys p = ap (laid_out home count) (sym (ascending-IsPermutation xs ys p))
