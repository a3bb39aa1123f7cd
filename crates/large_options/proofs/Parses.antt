-- `clap` takes options apart, and finds the value of each.
use Rattle.std.proofs.Common.{◌≡◌, ◌≢◌, ℕ, ◌^◌, ◌<◌, ◌≤◌, Bool, true, false, ◌&&◌, List, [], ◌∷◌, Option, Some, None, refl, sym, ap, ap₂, subst, ◌∙◌, arith}
use Rattle.store_spec.proofs.Common.{decimal, decimal_injective, list_all}
use Rattle.std.specs.Option.{is_some}
use Rattle.clap.specs.declared.parser.matches.ArgMatches.{ArgMatches}
use Rattle.clap.specs.declared.parser.matches.Found.{Found}
use Rattle.clap.specs.Matches.{first_value, found_of}
use Rattle.clap.specs.Simple.{App, Shape, HasMatchesOf, built, entered, is_simple, matches_of}
use Rattle.clap.specs.Takes.{default_passes, entered_passes, is_valid, settle_passes, takes, walk_passes}
use Rattle.clap.specs.Walk.{Row, Rule, Text, Walk, finished, first_of, idle, nothing_held, option, rows_of, settled_rows, walk, walk_from, walked}
use Rattle.clap.proofs.WalkLemmas.{first_value-rows}
use Rattle.large_options.specs.Given.{AreDifferent, id_of, limit_of, text_of}
use Rattle.large_options.specs.Options.{AreOptions, IsOptions}
use Rattle.large_options.specs.Parsed.{HasValues, large}
use Rattle.large_options.specs.declared.name.Name.{Name}
use Rattle.large_options.specs.declared.name.Name.TheVariants.{Seed, Count, Tabs}
use Rattle.large_options.proofs.Numbers.{limit_short}
use Rattle.large_options.proofs.Orders.{ordered, taken as taken_values, values}
use Rattle.large_options.proofs.Words.{IsValueText, decimal_text}

-- the command, as building leaves it
abbrev shape : Shape
shape = (built large).top

abbrev rules : List Rule
rules = shape.rules

-- between two options: the rows so far, and the option that has its value and is not used yet
abbrev between : List Row → Option (Text × List Text) → Walk
between rows pending =
    record { held = record { rows = rows; pending = pending; skip = 0 }; waiting = idle; position = 1; is_trailing = false; stopped = None }

-- behind the name of an option
abbrev awaiting : List Row → Name → Walk
awaiting rows name =
    record { held = record { rows = rows; pending = Some (id_of name, []); skip = 0 }; waiting = option (id_of name); position = 1; is_trailing = false; stopped = None }

-- ---- one option

name_met : (name : Name) (rows : List Row) (pending : Option (Text × List Text)) → walked rules [] (between rows pending) (text_of name) ≡ awaiting (settled_rows rules pending rows) name
unfolding walked
name_met Seed rows pending = refl
name_met Count rows pending = refl
name_met Tabs rows pending = refl

value_met : (name : Name) (rows : List Row) (text : Text) → IsValueText text → walked rules [] (awaiting rows name) text ≡ between rows (Some (id_of name, text ∷ []))
unfolding walked
value_met Seed rows text is = rw (is.no_dashes, is.no_long, is.no_short) refl
value_met Count rows text is = rw (is.no_dashes, is.no_long, is.no_short) refl
value_met Tabs rows text is = rw (is.no_dashes, is.no_long, is.no_short) refl

option_met : (name : Name) (rows : List Row) (pending : Option (Text × List Text)) (text : Text) → IsValueText text
    → walked rules [] (walked rules [] (between rows pending) (text_of name)) text ≡ between (settled_rows rules pending rows) (Some (id_of name, text ∷ []))
option_met name rows pending text is = ap (λ w. walked rules [] w text) (name_met name rows pending) ∙ value_met name (settled_rows rules pending rows) text is

name_passes : (name : Name) (rows : List Row) (pending : Option (Text × List Text)) (rest : List Text) → settle_passes rules false (between rows pending).held ≡ true
    → walk_passes shape [] (between rows pending) (text_of name ∷ rest) ≡ walk_passes shape [] (awaiting (settled_rows rules pending rows) name) rest
unfolding walk_passes
name_passes Seed rows pending rest settles = rw settles (ap (λ w. walk_passes shape [] w rest) (name_met Seed rows pending))
name_passes Count rows pending rest settles = rw settles (ap (λ w. walk_passes shape [] w rest) (name_met Count rows pending))
name_passes Tabs rows pending rest settles = rw settles (ap (λ w. walk_passes shape [] w rest) (name_met Tabs rows pending))

value_passes : (name : Name) (rows : List Row) (text : Text) (rest : List Text) → IsValueText text
    → walk_passes shape [] (awaiting rows name) (text ∷ rest) ≡ walk_passes shape [] (between rows (Some (id_of name, text ∷ []))) rest
unfolding walk_passes
value_passes Seed rows text rest is = rw (is.no_dashes, is.no_long, is.no_short) (ap (λ w. walk_passes shape [] w rest) (value_met Seed rows text is))
value_passes Count rows text rest is = rw (is.no_dashes, is.no_long, is.no_short) (ap (λ w. walk_passes shape [] w rest) (value_met Count rows text is))
value_passes Tabs rows text rest is = rw (is.no_dashes, is.no_long, is.no_short) (ap (λ w. walk_passes shape [] w rest) (value_met Tabs rows text is))

option_passes : (name : Name) (rows : List Row) (pending : Option (Text × List Text)) (text : Text) (rest : List Text) → IsValueText text → settle_passes rules false (between rows pending).held ≡ true
    → walk_passes shape [] (between rows pending) (text_of name ∷ text ∷ rest) ≡ walk_passes shape [] (between (settled_rows rules pending rows) (Some (id_of name, text ∷ []))) rest
option_passes name rows pending text rest is settles = name_passes name rows pending (text ∷ rest) settles ∙ value_passes name (settled_rows rules pending rows) text rest is

-- ---- three options

-- the text of each option's value
abbrev Texts : Type 0
Texts = Name → Text

abbrev pub words_of : Texts → Name → Name → Name → List Text
words_of text a b c = text_of a ∷ text a ∷ text_of b ∷ text b ∷ text_of c ∷ text c ∷ []

abbrev given : Texts → Name → Option (Text × List Text)
given text name = Some (id_of name, text name ∷ [])

-- behind the last of them
abbrev walk_end : Texts → Name → Name → Name → Walk
walk_end text a b c = between (settled_rows rules (given text b) (settled_rows rules (given text a) [])) (given text c)

walk_is : (text : Texts) (a b c : Name) → ((name : Name) → IsValueText (text name)) → walk rules [] nothing_held (words_of text a b c) ≡ walk_end text a b c
walk_is text a b c is =
    ap (λ w. walked rules [] (walked rules [] (walked rules [] (walked rules [] w (text_of b)) (text b)) (text_of c)) (text c)) (option_met a [] None (text a) (is a))
    ∙ ap (λ w. walked rules [] (walked rules [] w (text_of c)) (text c)) (option_met b (settled_rows rules None []) (given text a) (text b) (is b))
    ∙ option_met c (settled_rows rules (given text a) []) (given text b) (text c) (is c)

first_settles : (text : Texts) (a : Name) → settle_passes rules false (between [] (given text a)).held ≡ true
first_settles text Seed = refl
first_settles text Count = refl
first_settles text Tabs = refl

second_settles : (text : Texts) (a b : Name) → a ≢ b → settle_passes rules false (between (settled_rows rules (given text a) []) (given text b)).held ≡ true
second_settles text Seed Count other = refl
second_settles text Seed Tabs other = refl
second_settles text Count Seed other = refl
second_settles text Count Tabs other = refl
second_settles text Tabs Seed other = refl
second_settles text Tabs Count other = refl
second_settles text Seed Seed other = absurd (other refl)
second_settles text Count Count other = absurd (other refl)
second_settles text Tabs Tabs other = absurd (other refl)

passes_end : (w : Walk) → walk_passes shape [] w [] ≡ true
unfolding walk_passes
passes_end w = refl

all_pass : (text : Texts) (a b c : Name) → AreDifferent a b c → ((name : Name) → IsValueText (text name)) → walk_passes shape [] (walk_from nothing_held) (words_of text a b c) ≡ true
all_pass text a b c each is =
    option_passes a [] None (text a) (text_of b ∷ text b ∷ text_of c ∷ text c ∷ []) (is a) refl
    ∙ option_passes b [] (given text a) (text b) (text_of c ∷ text c ∷ []) (is b) (first_settles text a)
    ∙ option_passes c (settled_rows rules (given text a) []) (given text b) (text c) [] (is c) (second_settles text a b each.0)
    ∙ passes_end (walk_end text a b c)

-- what is asked once the words are walked over
abbrev end_passes : Walk → Bool → Bool
end_passes w passes = entered_passes (built large) w.stopped
    && (passes && (settle_passes rules false w.held
    && (list_all default_passes rules && is_valid shape (finished rules w.held) (is_some (entered (built large) w.stopped)))))

end_is : (text : Texts) (a b c : Name) → AreDifferent a b c → end_passes (walk_end text a b c) true ≡ true
end_is text Seed Count Tabs each = refl
end_is text Seed Tabs Count each = refl
end_is text Count Seed Tabs each = refl
end_is text Count Tabs Seed each = refl
end_is text Tabs Seed Count each = refl
end_is text Tabs Count Seed each = refl
end_is text Seed Seed c each = absurd (each.0 refl)
end_is text Count Count c each = absurd (each.0 refl)
end_is text Tabs Tabs c each = absurd (each.0 refl)
end_is text Seed b Seed each = absurd (each.1 refl)
end_is text Count b Count each = absurd (each.1 refl)
end_is text Tabs b Tabs each = absurd (each.1 refl)
end_is text a Seed Seed each = absurd (each.2 refl)
end_is text a Count Count each = absurd (each.2 refl)
end_is text a Tabs Tabs each = absurd (each.2 refl)

large_simple : is_simple large ≡ true
large_simple = refl

-- `clap` takes the words
pub taken : (text : Texts) (a b c : Name) → AreDifferent a b c → ((name : Name) → IsValueText (text name)) → takes large (words_of text a b c) ≡ true
taken text a b c each is = ap₂ end_passes (walk_is text a b c is) (all_pass text a b c each is) ∙ end_is text a b c each

-- ---- what it finds

-- each option is found with its text
abbrev AllFound : Texts → List Row → Type 0
AllFound text rows = (first_of (id_of Seed) rows ≡ Some (text Seed)) × (first_of (id_of Count) rows ≡ Some (text Count)) × (first_of (id_of Tabs) rows ≡ Some (text Tabs))

found_at_end : (text : Texts) (a b c : Name) → AreDifferent a b c → AllFound text (finished rules (walk_end text a b c).held)
found_at_end text Seed Count Tabs each = (refl, refl, refl)
found_at_end text Seed Tabs Count each = (refl, refl, refl)
found_at_end text Count Seed Tabs each = (refl, refl, refl)
found_at_end text Count Tabs Seed each = (refl, refl, refl)
found_at_end text Tabs Seed Count each = (refl, refl, refl)
found_at_end text Tabs Count Seed each = (refl, refl, refl)
found_at_end text Seed Seed c each = absurd (each.0 refl)
found_at_end text Count Count c each = absurd (each.0 refl)
found_at_end text Tabs Tabs c each = absurd (each.0 refl)
found_at_end text Seed b Seed each = absurd (each.1 refl)
found_at_end text Count b Count each = absurd (each.1 refl)
found_at_end text Tabs b Tabs each = absurd (each.1 refl)
found_at_end text a Seed Seed each = absurd (each.2 refl)
found_at_end text a Count Count each = absurd (each.2 refl)
found_at_end text a Tabs Tabs each = absurd (each.2 refl)

pub all_found : (text : Texts) (a b c : Name) → AreDifferent a b c → ((name : Name) → IsValueText (text name)) → AllFound text (matches_of large (words_of text a b c))
all_found text a b c each is =
    let P : Walk → Type 0 = λ w. AllFound text (finished rules w.held) in
    subst P (sym (walk_is text a b c is)) (found_at_end text a b c each)

-- a parse of options fails for want of memory alone, and finds the value of each
pub values_found : (app : App) → app ≡ large → (words : List (List ℕ)) → AreOptions words
    → (takes app words ≡ true) × ((m : ArgMatches) → HasMatchesOf app words m → HasValues words (found_of m))
values_found app is_large words are =
    let value = values are.0 are.1 are.2 in
    let text : Texts = λ name. decimal (value name) in
    let order = ordered words are.0 are.1 are.2 are.3 in
    let fits = taken_values words are.0 are.1 are.2 are.3 in
    let is : (name : Name) → IsValueText (decimal (value name)) = λ name. decimal_text (value name) (fits name).0 (omega (arith, (fits name).1, limit_short name)) in (
      ap₂ takes is_large order.spelled ∙ taken text order.first order.second order.third order.different is,
      λ m has.
          let found = all_found text order.first order.second order.third order.different is in
          let rows : rows_of (found_of m) ≡ matches_of large (words_of text order.first order.second order.third) =
          (has (ap is_simple is_large ∙ large_simple)).0 ∙ ap₂ matches_of is_large order.spelled in (
            are.0,
            are.1,
            are.2,
            are.3,
            first_value-rows (found_of m) (id_of Seed) ∙ ap (first_of (id_of Seed)) rows ∙ found.0,
            first_value-rows (found_of m) (id_of Count) ∙ ap (first_of (id_of Count)) rows ∙ found.1,
            first_value-rows (found_of m) (id_of Tabs) ∙ ap (first_of (id_of Tabs)) rows ∙ found.2,
          ),
    )

-- what is read of the values is the options
pub values_read : (words : List (List ℕ)) (f : Found) (seed count tabs : ℕ) → HasValues words f → first_value f (id_of Seed) ≡ Some (decimal seed) → first_value f (id_of Count) ≡ Some (decimal count)
    → first_value f (id_of Tabs) ≡ Some (decimal tabs) → seed < 2 ^ 32 → count < 2 ^ 32 → tabs < 2 ^ 32 → IsOptions words seed count tabs
values_read words f seed count tabs has s c t seed_small count_small tabs_small =
    let same : (m n : ℕ) → (name : Name) → n ≤ limit_of name → m < 2 ^ 32 → Some (decimal n) ≡ Some (decimal m) → n ≡ m = λ m n name within small e.
    decimal_injective n m (omega (arith, limit_short name)) (omega arith) cc in
    let fits = taken_values words has.0 has.1 has.2 has.3 in
    let seeds = same seed has.0 Seed (fits Seed).1 seed_small (sym has.4 ∙ s) in
    let counts = same count has.1 Count (fits Count).1 count_small (sym has.5 ∙ c) in
    let tabs_are = same tabs has.2 Tabs (fits Tabs).1 tabs_small (sym has.6 ∙ t) in
    let first : IsOptions words seed has.1 has.2 = subst (λ n. IsOptions words n has.1 has.2) seeds has.3 in
    let second : IsOptions words seed count has.2 = subst (λ n. IsOptions words seed n has.2) counts first in
    subst (λ n. IsOptions words seed count n) tabs_are second
