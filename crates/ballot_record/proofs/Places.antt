-- A list at the front of so many equal values.
use Rattle.std.proofs.Common.{◌≡◌, ℕ, ◌-◌, List, ◌++◌, length, drop, replicate, ap, ◌∙◌}
use Rattle.std.proofs.lemmas.List.{drop-replicate}

pub put_in_front : {X : Type 0} (xs written : List X) (total : ℕ) (none : X) → written ≡ xs → written ++ drop (length xs) (replicate total none) ≡ xs ++ replicate (total - length xs) none
put_in_front xs written total none same =
    ap (λ front. front ++ drop (length xs) (replicate total none)) same ∙ ap (λ rest. xs ++ rest) (drop-replicate (length xs) total none)
