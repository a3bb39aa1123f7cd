-- Words ask for one sample at most.
use Rattle.std.proofs.Common.{◌≡◌, ℕ, ◌-◌, List, [], ◌∷◌, ◌++◌, length, replicate, sym, ap, ◌∙◌, arith}
use Rattle.store_spec.proofs.Common.{decimal_injective}
use Rattle.sample_commands.specs.Asked.{IsAsked, most_dice}
use Rattle.sample_commands.specs.declared.asked.Asked.{Asked}

-- no words ask for none
pub none_asked : (asked : Asked) → IsAsked [] asked → ⊥
none_asked asked is = let few : 0 ≡ 2 = ap length is.words_are in omega (arith, few)

first : List (List ℕ) → List ℕ
first [] = []
first (word ∷ words) = word

second : List (List ℕ) → List ℕ
second [] = []
second (word ∷ words) = first words

pub one_asked : (words : List (List ℕ)) (a b : Asked) → IsAsked words a → IsAsked words b → a ≡ b
unfolding first second
one_asked words a b x y =
    let dice : x.dice ≡ y.dice = ap first (sym x.words_are ∙ y.words_are) in
    let word : x.count ≡ y.count = ap second (sym x.words_are ∙ y.words_are) in
    let digits : a.digits ≡ b.digits = x.digits ∙ ap (λ dice. dice ++ replicate (most_dice - length dice) 0) dice ∙ sym y.digits in
    let rolled : a.rolled ≡ b.rolled = x.rolled ∙ ap length dice ∙ sym y.rolled in
    let count : a.count ≡ b.count = decimal_injective a.count b.count (omega (arith, x.is_count.few)) (omega (arith, y.is_count.few)) (sym x.is_count.spelled ∙ word ∙ y.is_count.spelled) in
    ap (λ digits. let asked : Asked = record { digits = digits; rolled = a.rolled; count = a.count } in asked) digits
    ∙ ap (λ rolled. let asked : Asked = record { digits = b.digits; rolled = rolled; count = a.count } in asked) rolled
    ∙ ap (λ count. let asked : Asked = record { digits = b.digits; rolled = b.rolled; count = count } in asked) count
