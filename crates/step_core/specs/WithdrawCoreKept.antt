-- How a core of withdrawing is kept.
use Rattle.std.specs.Prelude.{◌≡◌, ◌+◌, ◌^◌, map, All}
use Rattle.step_core.specs.CellIndex.{IsCellIndex}
use Rattle.step_core.specs.WithdrawCore.{HasReplyRoom, IsShape, base_of, tab_of}
use Rattle.step_core.specs.Withdrawing.{Withdrawing}
use Rattle.step_core.specs.WithdrawingInvariant.{IsWithdrawing}
use Rattle.step_core.specs.declared.withdraw_core.WithdrawCore.TheInside.{Inside}

abbrev pub withdrawing_of : Inside → Withdrawing
withdrawing_of a = record {
  bits = a.shape.order.bits;
  salt = a.shape.order.salt;
  limit = a.limit;
  held = a.index.numbers.items;
  words = a.words.items;
  tabs = map tab_of a.tabs.items;
}

pub record IsCoreKept (a : Inside) : Type 0 where
  pub phase : IsWithdrawing (withdrawing_of a)
  pub cells : a.shape.cells ≡ 2 ^ a.shape.order.bits + a.limit
  pub shape : IsShape a.shape (base_of a.shape a.index.numbers.items)
  pub index : IsCellIndex (base_of a.shape a.index.numbers.items) a.index.numbers.items a.index.places.items
  pub room : All HasReplyRoom a.tabs.items
