-- Lists of which each entry is made from one of another list.
use Rattle.std.proofs.Common.{◌≡◌, List, [], ◌∷◌, ◌++◌, map, sym, ap, ◌∙◌}
use Rattle.store_spec.proofs.Common.{map_push}

-- one more of both
pub one_more : {X Y : Type 0} (f : X → Y) (xs : List X) (ys now : List Y) (x : X) (y : Y) → now ≡ ys ++ y ∷ [] → ys ≡ map f xs → y ≡ f x → now ≡ map f (xs ++ x ∷ [])
one_more f xs ys now x y pushed are is = pushed ∙ ap (λ l. l ++ y ∷ []) are ∙ ap (λ z. map f xs ++ z ∷ []) is ∙ sym (map_push f xs x)
