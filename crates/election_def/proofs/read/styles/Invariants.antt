use Rattle.std.proofs.Common.{map, take}
use Rattle.store_spec.proofs.Common.{AllZip}
use Rattle.serde_json.specs.View.{view}
use Rattle.election_def.specs.Text.{IsStyleIn}
use Rattle.election_def.proofs.read.styles.Given as goal

abbrev pub invariant-loop-item : goal.invariant-loop-item
invariant-loop-item l = AllZip (IsStyleIn l.count) (map view (take l.item-index l.item-items)) l.styles.items
