use Rattle.std.proofs.Common.{◌≡◌, ◌+◌, ◌^◌, ◌<◌, ◌≤◌, ◌↔◌, drop, map}
use Rattle.store_spec.proofs.Common.{option_map}
use Rattle.serde_json.specs.View.{view}
use Rattle.election_def.proofs.Styles.{set_from}
use Rattle.election_def.proofs.parts.style.Given as goal

-- what is left goes on with the set so far as the whole does with none, and the set has no contest above the last
abbrev pub invariant-loop-item : goal.invariant-loop-item
invariant-loop-item l = record {
  last : l.last ≤ l.contests;
  set : l.style < 2 ^ l.last;
  begun : (0 < l.item-index) ↔ (0 < l.last);
  more : option_map (λ rest. l.style + rest) (set_from l.contests l.last (drop l.item-index (map view l.item-items))) ≡ set_from l.contests 0 (map view l.item-items);
}
