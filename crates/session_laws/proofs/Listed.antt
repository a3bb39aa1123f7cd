-- The numbers of lists, one list after another.
use Rattle.std.proofs.Common.{◌≡◌, List, [], ◌∷◌, ◌++◌, map, refl, ap}
use Rattle.store_spec.proofs.Common.{Withdrawal, flat_map, listed}

-- the numbers that are listed, by the numbers of each list
pub listed-map : (lines : List (List Withdrawal)) → listed lines ≡ flat_map (λ numbers. numbers) (map (map (λ a. a.number)) lines)
listed-map [] = refl
listed-map (l ∷ lines) = ap (λ numbers. map (λ a. a.number) l ++ numbers) (listed-map lines)
