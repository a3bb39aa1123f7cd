-- The cells at the opening of a withdrawing phase: the layout of the set that is held.
use Rattle.std.proofs.Common.{◌≢◌, ◌^◌, ℕ, ◌+◌, ◌-◌, ◌≤◌, List, length, get_or, ap, ◌∙◌, arith}
use Rattle.store_spec.proofs.Common.{All, AllPairs, Contains, IsLayout, IsOfBase, home_of, layout_of}
use Rattle.probe_order.specs.Below.{home_of-lt}
use Rattle.layout_def.proofs.LaidOut.{layout_of_is}
use Rattle.store_spec.specs.WithdrawInvariant.{IsBase}

module _ (bits salt limit : ℕ) (held : List ℕ) (few : bits ≤ 16) (within : length held ≤ limit) (some : All (λ x. x ≢ 0) held) (distinct : AllPairs (λ a b. a ≢ b) held) where
  abbrev base : List ℕ
  base = layout_of (home_of bits salt) (2 ^ bits + limit) held

  pub base_layout : IsLayout (home_of bits salt) (2 ^ bits + limit) held (layout_of (home_of bits salt) (2 ^ bits + limit) held)
  base_layout = layout_of_is (home_of bits salt) (2 ^ bits) (2 ^ bits + limit) held
      (record { distinct = distinct; some = some; homed = λ k d lt. home_of-lt bits salt (get_or held k d) few; room = omega arith })

  pub base_begins : IsBase (home_of bits salt) (layout_of (home_of bits salt) (2 ^ bits + limit) held)
  base_begins = record {
    ordered = base_layout.ordered;
    last_empty = ap (λ n. get_or base (n - 1) 0) base_layout.size ∙ base_layout.last_empty;
  }

  pub of_base_held : (x : ℕ) → IsOfBase (layout_of (home_of bits salt) (2 ^ bits + limit) held) x → Contains held x
  of_base_held x of = base_layout.exactly.only x of.some of.stood
