use Rattle.step_core.proofs.CastAtRest.{accepted_once, cells_and_hands, same-back, same-contains, stands_once}
use Rattle.std.proofs.Common.{◌++◌, take}
use Rattle.store_spec.proofs.Common.{accepted_of, hands_of}
use Rattle.step_core.proofs.laws.cast.each_number_stands_once.Goals as goal

pub returns : goal.returns
returns c = record {
  once = stands_once;
  where_it_should = λ t base words views v h some.
      let same = cells_and_hands t base words views h in
      let held = take t.cells words ++ hands_of views in
      let should = base ++ accepted_of views in
      (same-contains held should v same some, same-contains should held v (same-back held should same) some);
  accepted_once = accepted_once;
}
