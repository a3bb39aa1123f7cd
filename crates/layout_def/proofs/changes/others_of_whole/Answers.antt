use Rattle.std.proofs.Common.{◌≡◌, Bool, ℕ, ◌%◌, ◌^◌, ◌-◌, ◌<◌, List, ap, ap₂, arith, cond, eqb, false, get_or, length, length-take, map, not, refl, sym, take, true, w64, ◌∙◌}
use Rattle.std.proofs.lemmas.Simd.{bit_mask_l, get_or-zip2, length-zip2, mask_l-mod, tops_compared}
use Rattle.std.specs.Int.{bit_at, from_bool}
use Rattle.store_spec.proofs.Common.{get_or-take}
use lib.Lanes.{mask_l, top, zip2}
use Rattle.layout_def.proofs.changes.others_of_whole.Goals as goal

as_number : (b : Bool) → cond b 1 0 ≡ from_bool b
as_number true = refl
as_number false = refl

-- a bit of the comparison of so many numbers says that these are others
compared : (xs ys : List ℕ) (k : ℕ) → length xs ≡ 64 → length ys ≡ 64 → k < 64
    → bit_at (mask_l (map (top 63) (zip2 (λ a b. cond (not (eqb a b)) (2 ^ 64 - 1) 0) xs ys)) % 2 ^ 64) k
    ≡ from_bool (not (eqb (get_or xs k 0) (get_or ys k 0)))
compared xs ys k long also within =
    let t = λ (a b : ℕ). not (eqb a b) in
    let all = zip2 t xs ys in
    ap (λ n. bit_at n k) (ap (λ ms. mask_l ms % 2 ^ 64) (tops_compared w64 t xs ys) ∙ mask_l-mod all 64 (omega (arith, length-zip2 t xs ys (long ∙ sym also), long)))
    ∙ bit_mask_l all k
    ∙ ap (λ b. cond b 1 0) (get_or-zip2 t xs ys k 0 0 false (omega (arith, within, long)) (omega (arith, within, also)))
    ∙ as_number (not (eqb (get_or xs k 0) (get_or ys k 0)))

pub returns : goal.returns
returns c k within =
    let old = c.args.old.now in
    let new = c.args.new.now in
    compared (take 64 old) (take 64 new) k (omega (arith, length-take 64 old, c.requires.old)) (omega (arith, length-take 64 new, c.requires.new)) within
    ∙ ap₂ (λ a b. from_bool (not (eqb a b))) (get_or-take 64 old k 0 within) (get_or-take 64 new k 0 within)
