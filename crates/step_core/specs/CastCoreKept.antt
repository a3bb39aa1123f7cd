-- How a core is kept.
use Rattle.std.specs.Prelude.{◌≡◌, ◌+◌, ◌^◌, ◌<◌, length, map, All}
use Rattle.std.specs.List.Sorted.{IsNonDecreasing}
use Rattle.step_core.specs.CastCore.{HasReplyRoom, tab_of}
use Rattle.step_core.specs.Casting.{Casting}
use Rattle.step_core.specs.CastingInvariant.{IsCasting}
use Rattle.step_core.specs.declared.cast_core.CastCore.TheInside.{Inside}

abbrev pub casting_of : Inside → Casting
casting_of a = record {
  bits = a.shape.order.bits;
  salt = a.shape.order.salt;
  limit = a.shape.claims + length a.base.items;
  base = a.base.items;
  words = a.words.items;
  tabs = map tab_of a.tabs.items;
}

pub record IsCoreKept (a : Inside) : Type 0 where
  pub casting : IsCasting (casting_of a)
  pub cells : a.shape.cells ≡ 2 ^ a.shape.order.bits + (a.shape.claims + length a.base.items)
  pub small : a.shape.cells + a.shape.claims < 2 ^ 32
  pub in_order : IsNonDecreasing a.base.items
  pub room : All HasReplyRoom a.tabs.items
