-- Lists of lists.
use Rattle.std.proofs.Common.{◌≡◌, List, [], ◌∷◌, map, refl, ap, ◌∙◌}
use Rattle.store_spec.proofs.Common.{map-map}

-- lists of lists that are changed twice
pub map_twice : {X Y Z : Type 0} (g : Y → Z) (f : X → Y) (lists : List (List X)) → map (map g) (map (map f) lists) ≡ map (map (λ x. g (f x))) lists
map_twice g f [] = refl
map_twice g f (list ∷ lists) = ap (λ l. l ∷ map (map g) (map (map f) lists)) (map-map g f list) ∙ ap (λ l. map (λ x. g (f x)) list ∷ l) (map_twice g f lists)
