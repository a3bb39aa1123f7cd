-- Three options in some order.
use Rattle.std.proofs.Common.{◌≡◌, ℕ, zero, suc, ◌^◌, ◌<◌, ◌≤◌, ◌⊎◌, inl, inr, List, [], ◌∷◌, get_or, refl, sym, ap, subst, ◌∙◌, arith, lit<}
use Rattle.store_spec.proofs.Common.{IsPermutation, decimal, decimal_injective, flat_map, swap}
use Rattle.std.specs.List.Sorted.{SwapsInRange, apply_swaps}
use Rattle.large_options.proofs.Numbers.{limit_short}
use Rattle.large_options.specs.Given.{AreDifferent, HasValue, limit_of, text_of}
use Rattle.large_options.specs.Options.{AreOptions, Choice, IsOptions, choice_words, choices}
use Rattle.large_options.specs.declared.name.Name.{Name}
use Rattle.large_options.specs.declared.name.Name.TheVariants.{Seed, Count, Tabs}

-- the value of each option
abbrev pub values : ℕ → ℕ → ℕ → Name → ℕ
values seed count tabs Seed = seed
values seed count tabs Count = count
values seed count tabs Tabs = tabs

-- the option of a name
abbrev pub choice_of : (Name → ℕ) → Name → Choice
choice_of value name = (text_of name, value name)

-- the words of options in this order
abbrev pub words_of : (Name → ℕ) → Name → Name → Name → List (List ℕ)
words_of value a b c = text_of a ∷ decimal (value a) ∷ text_of b ∷ decimal (value b) ∷ text_of c ∷ decimal (value c) ∷ []

-- the words are options of these values, in the order of the names
pub record IsOrder (words : List (List ℕ)) (value : Name → ℕ) : Type 0 where
  pub first : Name
  pub second : Name
  pub third : Name
  pub different : AreDifferent first second third
  pub spelled : words ≡ words_of value first second third

-- what an option takes has 64 bits
fits_64 : (name : Name) (n : ℕ) → n ≤ limit_of name → n < 2 ^ 64
fits_64 name n within = omega (arith, limit_short name)

-- each value is one that its option takes
abbrev pub AreTaken : (Name → ℕ) → Type 0
AreTaken value = (name : Name) → (1 ≤ value name) × (value name ≤ limit_of name)

pub taken : (words : List (List ℕ)) (seed count tabs : ℕ) → IsOptions words seed count tabs → AreTaken (values seed count tabs)
taken words seed count tabs o Seed = (o.is_seed.0, omega (arith, o.is_seed.1))
taken words seed count tabs o Count = o.is_count
taken words seed count tabs o Tabs = o.is_tabs

-- ---- exchanges keep an order

-- the options of three names, each once
abbrev AreThree : (Name → ℕ) → List Choice → Type 0
AreThree value order = (a b c : Name) × AreDifferent a b c × (order ≡ choice_of value a ∷ choice_of value b ∷ choice_of value c ∷ [])

exchanged : (value : Name → ℕ) (a b c : Name) → AreDifferent a b c → (i j : ℕ) → i < 3 → j < 3 → AreThree value (swap (choice_of value a ∷ choice_of value b ∷ choice_of value c ∷ []) i j)
exchanged value a b c each zero zero i j = (a, b, c, each, refl)
exchanged value a b c each zero (suc zero) i j = (b, a, c, (λ e. each.0 (sym e), each.2, each.1), refl)
exchanged value a b c each zero (suc (suc zero)) i j = (c, b, a, (λ e. each.2 (sym e), λ e. each.1 (sym e), λ e. each.0 (sym e)), refl)
exchanged value a b c each (suc zero) zero i j = (b, a, c, (λ e. each.0 (sym e), each.2, each.1), refl)
exchanged value a b c each (suc zero) (suc zero) i j = (a, b, c, each, refl)
exchanged value a b c each (suc zero) (suc (suc zero)) i j = (a, c, b, (each.1, each.0, λ e. each.2 (sym e)), refl)
exchanged value a b c each (suc (suc zero)) zero i j = (c, b, a, (λ e. each.2 (sym e), λ e. each.1 (sym e), λ e. each.0 (sym e)), refl)
exchanged value a b c each (suc (suc zero)) (suc zero) i j = (a, c, b, (each.1, each.0, λ e. each.2 (sym e)), refl)
exchanged value a b c each (suc (suc zero)) (suc (suc zero)) i j = (a, b, c, each, refl)
exchanged value a b c each (suc (suc (suc k))) j low high = absurd (omega arith)
exchanged value a b c each i (suc (suc (suc k))) low high = absurd (omega arith)

reached : (seed count tabs : ℕ) (moves : List (ℕ × ℕ)) → SwapsInRange 3 moves → AreThree (values seed count tabs) (apply_swaps (choices seed count tabs) moves)
reached seed count tabs [] below = (Seed, Count, Tabs, (λ e. cc, λ e. cc, λ e. cc), refl)
reached seed count tabs (move ∷ moves) below =
    let three = reached seed count tabs moves below.2 in
    let P : List Choice → Type 0 = λ order. AreThree (values seed count tabs) (swap order move.0 move.1) in
    subst P (sym three.4) (exchanged (values seed count tabs) three.0 three.1 three.2 three.3 move.0 move.1 below.0 below.1)

-- options stand in some order
pub ordered : (words : List (List ℕ)) (seed count tabs : ℕ) → IsOptions words seed count tabs → IsOrder words (values seed count tabs)
ordered words seed count tabs o =
    let three = reached seed count tabs o.complete.moves o.complete.below in
    record {
      first = three.0;
      second = three.1;
      third = three.2;
      different = three.3;
      spelled = o.spelled ∙ ap (flat_map choice_words) (o.complete.is ∙ three.4);
    }

-- ---- and back

-- an order of these options
in_order : (words : List (List ℕ)) (seed count tabs : ℕ) (order : List Choice) → HasValue Seed (decimal seed) seed → HasValue Count (decimal count) count → HasValue Tabs (decimal tabs) tabs
    → IsPermutation (choices seed count tabs) order → words ≡ flat_map choice_words order → IsOptions words seed count tabs
in_order words seed count tabs order x y z complete spelled =
    record { is_seed = (x.0, omega (arith, x.1)); is_count = (y.0, y.1); is_tabs = (z.0, z.1); order = order; complete = complete; spelled = spelled }

-- options of three names, each once, are options
pub options_from : (words : List (List ℕ)) (a b c : Name) (l m n : ℕ) → AreDifferent a b c → HasValue a (decimal l) l → HasValue b (decimal m) m → HasValue c (decimal n) n
    → words ≡ text_of a ∷ decimal l ∷ text_of b ∷ decimal m ∷ text_of c ∷ decimal n ∷ [] → AreOptions words
options_from words Seed Seed c l m n each x y z spelled = absurd (each.0 refl)
options_from words Count Count c l m n each x y z spelled = absurd (each.0 refl)
options_from words Tabs Tabs c l m n each x y z spelled = absurd (each.0 refl)
options_from words Seed b Seed l m n each x y z spelled = absurd (each.1 refl)
options_from words Count b Count l m n each x y z spelled = absurd (each.1 refl)
options_from words Tabs b Tabs l m n each x y z spelled = absurd (each.1 refl)
options_from words a Seed Seed l m n each x y z spelled = absurd (each.2 refl)
options_from words a Count Count l m n each x y z spelled = absurd (each.2 refl)
options_from words a Tabs Tabs l m n each x y z spelled = absurd (each.2 refl)
options_from words Seed Count Tabs l m n each x y z spelled = (l, m, n, in_order words l m n _ x y z (record { moves = []; below = tt; is = refl }) spelled)
options_from words Seed Tabs Count l m n each x y z spelled = (l, n, m, in_order words l n m _ x z y (record { moves = (1, 2) ∷ []; below = (lit< tt, lit< tt, tt); is = refl }) spelled)
options_from words Count Seed Tabs l m n each x y z spelled = (m, l, n, in_order words m l n _ y x z (record { moves = (0, 1) ∷ []; below = (lit< tt, lit< tt, tt); is = refl }) spelled)
options_from words Count Tabs Seed l m n each x y z spelled =
    (n, l, m, in_order words n l m _ z x y (record { moves = (1, 2) ∷ (0, 1) ∷ []; below = (lit< tt, lit< tt, (lit< tt, lit< tt, tt)); is = refl }) spelled)
options_from words Tabs Seed Count l m n each x y z spelled =
    (m, n, l, in_order words m n l _ y z x (record { moves = (1, 2) ∷ (0, 2) ∷ []; below = (lit< tt, lit< tt, (lit< tt, lit< tt, tt)); is = refl }) spelled)
options_from words Tabs Count Seed l m n each x y z spelled = (n, m, l, in_order words n m l _ z y x (record { moves = (0, 2) ∷ []; below = (lit< tt, lit< tt, tt); is = refl }) spelled)

-- ---- one reading

-- each name is one of three different ones
one_of : (a b c name : Name) → AreDifferent a b c → (name ≡ a) ⊎ ((name ≡ b) ⊎ (name ≡ c))
one_of Seed b c Seed each = inl refl
one_of Count b c Count each = inl refl
one_of Tabs b c Tabs each = inl refl
one_of a Seed c Seed each = inr (inl refl)
one_of a Count c Count each = inr (inl refl)
one_of a Tabs c Tabs each = inr (inl refl)
one_of a b Seed Seed each = inr (inr refl)
one_of a b Count Count each = inr (inr refl)
one_of a b Tabs Tabs each = inr (inr refl)
one_of Seed Seed c name each = absurd (each.0 refl)
one_of Count Count c name each = absurd (each.0 refl)
one_of Tabs Tabs c name each = absurd (each.0 refl)
one_of Seed b Seed name each = absurd (each.1 refl)
one_of Count b Count name each = absurd (each.1 refl)
one_of Tabs b Tabs name each = absurd (each.1 refl)
one_of a Seed Seed name each = absurd (each.2 refl)
one_of a Count Count name each = absurd (each.2 refl)
one_of a Tabs Tabs name each = absurd (each.2 refl)

-- a text names one option
pub one_name : (a b : Name) → text_of a ≡ text_of b → a ≡ b
one_name Seed Seed e = refl
one_name Count Count e = refl
one_name Tabs Tabs e = refl
one_name a b e = absurd (omega (arith, ap (λ text. get_or text 2 0) e))

-- a value that stands behind its name in both orders is one value
same_at : (value other : Name → ℕ) (a b name : Name) → AreTaken value → AreTaken other → a ≡ b → decimal (value a) ≡ decimal (other b) → name ≡ a → value name ≡ other name
same_at value other a b name fits others same text is =
    let here : decimal (value name) ≡ decimal (other name) = ap (λ k. decimal (value k)) is ∙ text ∙ ap (λ k. decimal (other k)) (sym same ∙ sym is) in
    decimal_injective (value name) (other name) (fits_64 name (value name) (fits name).1) (fits_64 name (other name) (others name).1) here

pub one_value : (words : List (List ℕ)) (value other : Name → ℕ) → IsOrder words value → IsOrder words other → AreTaken value → AreTaken other → (name : Name) → value name ≡ other name
one_value words value other x y fits others name =
    let same : words_of value x.first x.second x.third ≡ words_of other y.first y.second y.third = sym x.spelled ∙ y.spelled in
    let first : text_of x.first ≡ text_of y.first = cc in
    let second : text_of x.second ≡ text_of y.second = cc in
    let third : text_of x.third ≡ text_of y.third = cc in
    elim (one_of x.first x.second x.third name x.different) [
      | inl is ↦ same_at value other x.first y.first name fits others (one_name x.first y.first first) (cc) is
      | inr (inl is) ↦ same_at value other x.second y.second name fits others (one_name x.second y.second second) (cc) is
      | inr (inr is) ↦ same_at value other x.third y.third name fits others (one_name x.third y.third third) (cc) is
    ]

-- words are the options of one seed, one count and one number of tabulators
pub one_reading : (words : List (List ℕ)) (seed count tabs other_seed other_count other_tabs : ℕ) → IsOptions words seed count tabs → IsOptions words other_seed other_count other_tabs
    → (seed ≡ other_seed) × (count ≡ other_count) × (tabs ≡ other_tabs)
one_reading words seed count tabs other_seed other_count other_tabs x y =
    let same = one_value words (values seed count tabs) (values other_seed other_count other_tabs)
    (ordered words seed count tabs x) (ordered words other_seed other_count other_tabs y)
    (taken words seed count tabs x) (taken words other_seed other_count other_tabs y) in
    (same Seed, same Count, same Tabs)
