-- What is read as a group is spelled so, and what is spelled so is read.
use Rattle.std.proofs.Common.{◌≡◌, ℕ, zero, suc, ◌+◌, ◌<◌, ◌≤◌, false, eqb, leb, ◌⊎◌, inl, inr, List, [], ◌∷◌, ◌++◌, length, get_or, map, Option, Some, None, refl, sym, ap, subst, subst₂, ◌∙◌, append_assoc, arith}
use Rattle.store_spec.proofs.Common.{Election, IsGroup, IsStrictlyIncreasing, decimal, eqb-true, group_text, join_with_byte, lt-leb, most_choices, ne_eqb, none-some, option_and_then_some, option_map, same_Some, some_pair_parts}
use Rattle.std.specs.Prelude.{All}
use Rattle.std.proofs.lemmas.Bool.{leb-false}
use Rattle.std.proofs.lemmas.Fmt.{decimal_nonempty, first_decimal}
use Rattle.ballot_record.proofs.Versions.{few_choices}
use Rattle.ballot_record.specs.LineReading.{digits_at, past_byte, with_first, choices_at, group_at}
use Rattle.ballot_record.proofs.LineNumbers.{chosen, StopsDigits, number_takes, number_again}

-- another byte stands first, or none
abbrev pub LacksFirst : ℕ → List ℕ → Type 0
LacksFirst wanted [] = Unit {0}
LacksFirst wanted (byte ∷ bytes) = eqb byte wanted ≡ false

pub record IsPast {A : Type 0} (wanted : ℕ) (bytes : List ℕ) (goes_on : List ℕ → A) (z : A) : Type 0 where
  pub rest : List ℕ
  pub bytes_are : bytes ≡ wanted ∷ rest
  pub is : goes_on rest ≡ z

pub passed : {A : Type 0} (wanted : ℕ) (bytes : List ℕ) (goes_on : List ℕ → A) (otherwise z : A) → past_byte wanted bytes goes_on otherwise ≡ z
    → IsPast wanted bytes goes_on z ⊎ (otherwise ≡ z)
passed wanted [] goes_on otherwise z e = inr e
passed wanted (byte ∷ bytes) goes_on otherwise z e =
    elim (chosen (eqb byte wanted) (goes_on bytes) otherwise z e) [
      | inl there ↦ inl (record { rest = bytes; bytes_are = ap (λ b. b ∷ bytes) (eqb-true byte wanted there.0); is = there.1 })
      | inr lacks ↦ inr lacks.1
    ]

pub not_past : {A : Type 0} (wanted : ℕ) (bytes : List ℕ) (goes_on : List ℕ → A) (otherwise : A) → LacksFirst wanted bytes → past_byte wanted bytes goes_on otherwise ≡ otherwise
not_past wanted [] goes_on otherwise lacks = refl
not_past wanted (byte ∷ bytes) goes_on otherwise lacks = rw lacks refl

pub option_map_some : {A B : Type 0} (f : A → B) (o : Option A) (z : B) → option_map f o ≡ Some z → (y : A) × (o ≡ Some y) × (f y ≡ z)
option_map_some f None z e = absurd (none-some z e)
option_map_some f (Some y) z e = (y, refl, same_Some (f y) z e)

pub join_more : (between : ℕ) (x : List ℕ) (xs : List (List ℕ)) → 1 ≤ length xs → join_with_byte between (x ∷ xs) ≡ x ++ (between ∷ join_with_byte between xs)
join_more between x [] some = absurd (omega arith)
join_more between x (y ∷ xs) some = refl

-- each choice is above the one before it, and at most the last that there may be
abbrev pub RisesFrom : ℕ → ℕ → List ℕ → Type 0
RisesFrom most last [] = Unit {0}
RisesFrom most last (choice ∷ choices) = (last < choice) × (choice ≤ most) × RisesFrom most choice choices

abbrev pub choices_text : List ℕ → List ℕ
choices_text choices = join_with_byte 44 (map decimal choices)

record AreChoicesAt (most last : ℕ) (bytes choices rest : List ℕ) : Type 0 where
  spelled : bytes ≡ choices_text choices ++ rest
  some : 1 ≤ length choices
  rises : RisesFrom most last choices

some_decimals : (choices : List ℕ) → 1 ≤ length choices → 1 ≤ length (map decimal choices)
some_decimals [] some = some
some_decimals (choice ∷ choices) some = omega arith

choices_take : (most : ℕ) → most ≤ 64 → (more last : ℕ) (bytes choices rest : List ℕ) → choices_at most more last bytes ≡ Some (choices, rest) → AreChoicesAt most last bytes choices rest
unfolding choices_at
choices_take most few zero last bytes choices rest e = absurd (none-some (choices, rest) e)
choices_take most few (suc more) last bytes choices rest e =
    option_and_then_some _ (digits_at most 0 bytes) (choices, rest) e (λ first first_is goes_on.
    let number = number_takes most (omega arith) bytes first.0 first.1 first_is in
    elim (chosen (leb first.0 last) _ _ (Some (choices, rest)) goes_on) [
      | inl falls ↦ absurd (none-some (choices, rest) falls.1)
      | inr rises ↦
          let above : last < first.0 = leb-false first.0 last rises.0 in
          elim (passed 44 first.1 _ _ (Some (choices, rest)) rises.1) [
            | inl comma ↦
                let others = option_map_some (with_first first.0) (choices_at most more first.0 comma.rest) (choices, rest) comma.is in
                let at = choices_take most few more first.0 comma.rest others.0.0 others.0.1 others.1 in
                let P : List ℕ × List ℕ → Type 0 = λ found. AreChoicesAt most last bytes found.0 found.1 in
                let joined : choices_text (first.0 ∷ others.0.0) ≡ decimal first.0 ++ (44 ∷ choices_text others.0.0) = join_more 44 (decimal first.0) (map decimal others.0.0) (some_decimals others.0.0 at.some) in
                subst P others.2 (record {
                  spelled = number.spelled ∙ ap (λ rest. decimal first.0 ++ rest) (comma.bytes_are ∙ ap (λ rest. 44 ∷ rest) at.spelled)
                      ∙ sym (ap (λ text. text ++ others.0.1) joined ∙ append_assoc (decimal first.0) (44 ∷ choices_text others.0.0) others.0.1);
                  some = omega arith;
                  rises = (above, number.within, at.rises);
                })
            | inr last_one ↦
                let parts = some_pair_parts (first.0 ∷ []) choices first.1 rest last_one in
                subst₂ (λ (choices rest : List ℕ). AreChoicesAt most last bytes choices rest) parts.0 parts.1 (record {
                  spelled = number.spelled;
                  some = omega arith;
                  rises = (above, number.within, tt);
                })
          ]
    ])

-- neither a digit nor a comma stands first
abbrev pub StopsChoices : List ℕ → Type 0
StopsChoices rest = StopsDigits rest × LacksFirst 44 rest

choices_again : (most : ℕ) → most ≤ 64 → (more last choice : ℕ) (choices rest : List ℕ) → most ≤ more + last → RisesFrom most last (choice ∷ choices) → StopsChoices rest
    → choices_at most more last (choices_text (choice ∷ choices) ++ rest) ≡ Some (choice ∷ choices, rest)
unfolding choices_at
choices_again most few zero last choice choices rest room rises stops = absurd (omega arith)
choices_again most few (suc more) last choice [] rest room rises stops =
    let alone : Option (List ℕ × List ℕ) = Some (choice ∷ [], rest) in
    rw (number_again most choice rest (omega arith) (omega arith) rises.1 stops.0, lt-leb choice last rises.0)
    (not_past 44 rest (λ rest. option_map (with_first choice) (choices_at most more choice rest)) alone stops.1)
choices_again most few (suc more) last choice (next ∷ choices) rest room rises stops =
    let others = choices_text (next ∷ choices) ++ rest in
    ap (choices_at most (suc more) last) (append_assoc (decimal choice) (44 ∷ choices_text (next ∷ choices)) rest)
    ∙ rw (number_again most choice (44 ∷ others) (omega arith) (omega arith) rises.1 refl, lt-leb choice last rises.0)
    (ap (option_map (with_first choice)) (choices_again most few more choice next choices rest (omega arith) rises.2 stops))

-- ---- a group

rises_within : (most last : ℕ) (choices : List ℕ) → RisesFrom most last choices → All (λ c. (1 ≤ c) × (c ≤ most)) choices
rises_within most last [] rises k d below = absurd (omega arith)
rises_within most last (choice ∷ choices) rises zero d below = (omega arith, rises.1)
rises_within most last (choice ∷ choices) rises (suc k) d below = rises_within most choice choices rises.2 k d (omega arith)

rises_ascending : (most last : ℕ) (choices : List ℕ) → RisesFrom most last choices → IsStrictlyIncreasing choices
rises_ascending most last [] rises k below = absurd (omega arith)
rises_ascending most last (choice ∷ []) rises k below = absurd (omega arith)
rises_ascending most last (choice ∷ next ∷ choices) rises zero below = rises.2.0
rises_ascending most last (choice ∷ next ∷ choices) rises (suc k) below =
    let same : suc k + 1 ≡ suc (k + 1) = omega arith in rw same (rises_ascending most choice (next ∷ choices) rises.2 k (omega arith))

pub IsGroup-from_rises : (e : Election) (last : ℕ) (choices : List ℕ) → RisesFrom (most_choices e) last choices → IsGroup e choices
IsGroup-from_rises e last choices rises = record { within = rises_within (most_choices e) last choices rises; ascending = rises_ascending (most_choices e) last choices rises }

rises_from : (most last : ℕ) (choices : List ℕ) → (1 ≤ length choices → last < get_or choices 0 0) → All (λ c. (1 ≤ c) × (c ≤ most)) choices → IsStrictlyIncreasing choices → RisesFrom most last choices
rises_from most last [] above within ascending = tt
rises_from most last (choice ∷ choices) above within ascending = (
  above (omega arith),
  (within 0 0 (omega arith)).1,
  rises_from most choice choices (λ some. ascending 0 (omega arith)) (λ k d below. within (suc k) d (omega arith)) (λ k below. let same : suc k + 1 ≡ suc (k + 1) = omega arith in rw same at (ascending (suc k) (omega arith))),
)

pub rises_from_IsGroup : (e : Election) (choices : List ℕ) → IsGroup e choices → RisesFrom (most_choices e) 0 choices
rises_from_IsGroup e choices group = rises_from (most_choices e) 0 choices (λ some. (group.within 0 0 (omega arith)).0) group.within group.ascending

pub record IsGroupAt (e : Election) (bytes choices rest : List ℕ) : Type 0 where
  pub spelled : bytes ≡ group_text choices ++ rest
  pub group : IsGroup e choices

pub text_of_some : (choices : List ℕ) → 1 ≤ length choices → group_text choices ≡ choices_text choices
text_of_some [] some = absurd (omega arith)
text_of_some (choice ∷ choices) some = refl

pub group_takes : (e : Election) (bytes choices rest : List ℕ) → group_at (most_choices e) bytes ≡ Some (choices, rest) → IsGroupAt e bytes choices rest
unfolding group_at
group_takes e bytes choices rest is =
    elim (passed 45 bytes _ _ (Some (choices, rest)) is) [
      | inl dash ↦
          let parts = some_pair_parts [] choices dash.rest rest dash.is in
          subst₂ (λ (choices rest : List ℕ). IsGroupAt e bytes choices rest) parts.0 parts.1 (record { spelled = dash.bytes_are; group = IsGroup-from_rises e 0 [] tt })
      | inr some ↦
          let at = choices_take (most_choices e) (few_choices e) (most_choices e) 0 bytes choices rest some in
          record { spelled = at.spelled ∙ ap (λ text. text ++ rest) (sym (text_of_some choices at.some)); group = IsGroup-from_rises e 0 choices at.rises }
    ]

starts_above : (text : List ℕ) (rest : List ℕ) → 0 < length text → 48 < get_or text 0 0 → LacksFirst 45 (text ++ rest)
starts_above [] rest some above = absurd (omega arith)
starts_above (byte ∷ text) rest some above = ne_eqb byte 45 (λ is. omega arith)

choices_start : (choice : ℕ) (choices rest : List ℕ) → 1 ≤ choice → choice ≤ 64 → LacksFirst 45 (choices_text (choice ∷ choices) ++ rest)
choices_start choice [] rest some few = starts_above (decimal choice) rest (decimal_nonempty choice (omega arith)) (first_decimal choice (omega arith) (omega arith))
choices_start choice (next ∷ choices) rest some few =
    subst (LacksFirst 45) (sym (append_assoc (decimal choice) (44 ∷ choices_text (next ∷ choices)) rest))
    (starts_above (decimal choice) (44 ∷ choices_text (next ∷ choices) ++ rest) (decimal_nonempty choice (omega arith)) (first_decimal choice (omega arith) (omega arith)))

pub group_again : (e : Election) (choices rest : List ℕ) → IsGroup e choices → StopsChoices rest → group_at (most_choices e) (group_text choices ++ rest) ≡ Some (choices, rest)
unfolding group_at
group_again e [] rest group stops = refl
group_again e (choice ∷ choices) rest group stops =
    let rises = rises_from_IsGroup e (choice ∷ choices) group in
    not_past 45 (choices_text (choice ∷ choices) ++ rest) _ (choices_at (most_choices e) (most_choices e) 0 (choices_text (choice ∷ choices) ++ rest)) (choices_start choice choices rest (omega arith) (omega (arith, rises.1, few_choices e)))
    ∙ choices_again (most_choices e) (few_choices e) (most_choices e) 0 choice choices rest (omega arith) rises stops
