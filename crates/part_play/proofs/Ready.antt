-- Lists that are shared out among stores, and then turned round: a row of lists for each store.
use Rattle.std.proofs.Common.{◌≡◌, ◌∙◌, ℕ, All, List, ap, arith, get_or, length, map, subst}
use Rattle.store_spec.proofs.Common.{All-map, length-map, map-map}
use Rattle.part_play.proofs.Stages.{columns_long, rows_shared, turned_shows}
use Rattle.part_play.specs.Several.{AreAllShared}
use Rattle.phase_kind.specs.Table.{IsTurned}
use Rattle.step_core.proofs.Sets.{All-from_map}

module _ {S I L R : Type 0} (goes_to : I → ℕ) (items : L → List I) (entries : R → List L) (stores seen : List S) (same : seen ≡ stores) (work : List L) (shared : List R) (orders : List (List ℕ)) (given : AreAllShared goes_to (length seen) (map items work) (map (λ row. map items (entries row)) shared) orders) where
  abbrev pub lists_in : R → List (List I)
  lists_in row = map items (entries row)

  pub all : AreAllShared goes_to (length stores) (map items work) (map lists_in shared) orders
  all = subst (λ (s : List S). AreAllShared goes_to (length s) (map items work) (map lists_in shared) orders) same given

  pub shared_long : All (λ row. length (entries row) ≡ length stores) shared
  shared_long k d below =
      omega (arith, All-from_map (λ (l : List (List I)). length l ≡ length stores) lists_in shared (rows_shared goes_to (length stores) (map items work) (map lists_in shared) orders all) k d below, length-map (entries (get_or shared k d)) items)

  pub orders_long : length orders ≡ length work
  orders_long = omega (arith, ap length all.orders_are, length-map (map items work) (map goes_to), length-map work items)

  module _ (count : ℕ) (places : count ≡ length stores) (lists : List R) (dealt : IsTurned count (map entries shared) (map entries lists)) where
    pub turned : IsTurned (length stores) (map entries shared) (map entries lists)
    turned = subst (λ (n : ℕ). IsTurned n (map entries shared) (map entries lists)) {x = count} {y = length stores} places dealt

    pub planned : IsTurned (length stores) (map lists_in shared) (map lists_in lists)
    planned =
        subst (λ (l : List (List (List I))). IsTurned (length stores) (map lists_in shared) l) {x = map (map items) (map entries lists)} {y = map lists_in lists} (map-map (map items) entries lists)
        (subst (λ (l : List (List (List I))). IsTurned (length stores) l (map (map items) (map entries lists))) {x = map (map items) (map entries shared)} {y = map lists_in shared} (map-map (map items) entries shared)
        (turned_shows items (length stores) (map entries shared) (map entries lists) turned))

    pub lists_long : All (λ row. length (entries row) ≡ length work) lists
    lists_long k d below =
        let long = All-from_map (λ (l : List L). length l ≡ length (map entries shared)) entries lists (columns_long (length stores) (map entries shared) (map entries lists) turned) k d below in
        omega (arith, long, length-map shared entries, length-map shared lists_in, all.as_many, length-map work items)

    pub plans_long : All (λ plan. length plan ≡ length work) (map lists_in lists)
    plans_long = All-map (λ (plan : List (List I)). length plan ≡ length work) lists_in lists (λ k d below. length-map (entries (get_or lists k d)) items ∙ lists_long k d below)
