-- How a line is put, choice by choice and group by group.
use Rattle.std.proofs.Common.{◌≡◌, ℕ, ◌+◌, ◌-◌, ◌*◌, ◌^◌, ◌<◌, ◌≤◌, Bool, true, false, cond, eqb, List, [], ◌∷◌, ◌++◌, map, refl, sym, ap, ◌∙◌, arith, zero-mul, mul-one, add-one, append_assoc, drop, drop-cons, get_or, length}
use Rattle.store_spec.proofs.Common.{Election, bit_at, choices_in, decimal, drop_all, group_text, join_with_byte, mark_set, most_choices, ne_eqb, space}
use Rattle.store_spec.specs.BallotLine.{comma, slash}
use Rattle.ballot_record.proofs.Joining.{joined_after, part_put, all_put}
use Rattle.ballot_record.proofs.LineGroups.{choices_text, text_of_some}
use Rattle.ballot_record.proofs.MarkSets.{choices_from, choices_of_word, choices_from-mark_set, choices_in-is, lowest_choice, mark_set-choices_in}

pub no_choice_put : (set : ℕ) (now : List ℕ)
    → now ++ joined_after true comma (map decimal (choices_from 64 0 set)) ≡ now ++ choices_text (choices_from 64 0 set)
unfolding joined_after
no_choice_put set now = refl

-- the lowest choice of what is left was put
pub choice_put : (first : Bool) (place rest : ℕ) (before apart now whole : List ℕ)
    → place < 64 → bit_at rest place ≡ 1 → ((i : ℕ) → i < place → bit_at rest i ≡ 0)
    → before ++ joined_after first comma (map decimal (choices_from 64 0 rest)) ≡ whole
    → apart ≡ before ++ cond first [] (comma ∷ []) → now ≡ apart ++ decimal (place + 1)
    → now ++ joined_after false comma (map decimal (choices_from 64 0 (rest - 2 ^ place))) ≡ whole
choice_put first place rest before apart now whole within marked lowest so_far put_apart put =
    let left = choices_from 64 0 (rest - 2 ^ place) in
    part_put first comma (decimal (place + 1)) (map decimal left) before apart now whole
    (ap (λ choices. before ++ joined_after first comma (map decimal choices)) (sym (lowest_choice 64 0 rest place within marked lowest ∙ ap (λ choice. choice ∷ left) (let same : 0 + place + 1 ≡ place + 1 = omega arith in same))) ∙ so_far)
    put_apart put

-- all choices of a set are put
pub choices_put : (e : Election) (set : ℕ) (first : Bool) (rest : ℕ) (before now : List ℕ) → set < 2 ^ most_choices e
    → now ++ joined_after first comma (map decimal (choices_from 64 0 rest)) ≡ before ++ choices_text (choices_from 64 0 set) → rest ≡ 0
    → now ≡ before ++ choices_text (choices_in e set)
choices_put e set first rest before now small so_far none =
    let left : choices_from 64 0 rest ≡ [] =
    choices_from-mark_set 64 64 0 rest [] (omega arith) tt (sym (ap (λ n. n * 2 ^ 0) none ∙ zero-mul (2 ^ 0))) in
    all_put first comma now (before ++ choices_text (choices_from 64 0 set))
    (ap (λ choices. now ++ joined_after first comma (map decimal choices)) (sym left) ∙ so_far)
    ∙ ap (λ choices. before ++ choices_text choices) (choices_of_word e set small)

-- ---- groups

pub no_choices_in : (e : Election) (set : ℕ) → set ≡ 0 → choices_in e set ≡ []
no_choices_in e set none = choices_in-is e set
    ∙ choices_from-mark_set (most_choices e) (most_choices e) 0 set [] (omega arith) tt (sym none ∙ sym (mul-one set))

some_marked : (set : ℕ) (choices : List ℕ) → 0 < set → mark_set choices ≡ set → 1 ≤ length choices
some_marked set [] some is = absurd (omega arith)
some_marked set (choice ∷ choices) some is = omega arith

pub text_of_set : (e : Election) (set : ℕ) → 0 < set → set < 2 ^ most_choices e
    → choices_text (choices_in e set) ≡ group_text (choices_in e set)
text_of_set e set some small =
    sym (text_of_some (choices_in e set) (some_marked set (choices_in e set) some (mark_set-choices_in e set small)))

-- the group of one more mark set was put
pub group_put : (e : Election) (sets : List ℕ) (place : ℕ) (before apart now whole : List ℕ) → place < length sets
    → before ++ joined_after (eqb place 0) slash (map group_text (map (choices_in e) (drop place sets))) ≡ whole
    → apart ≡ before ++ cond (eqb place 0) [] (slash ∷ [])
    → now ≡ apart ++ group_text (choices_in e (get_or sets place 0))
    → now ++ joined_after (eqb (place + 1) 0) slash
    (map group_text (map (choices_in e) (drop (place + 1) sets))) ≡ whole
group_put e sets place before apart now whole within so_far put_apart put =
    let texts : List ℕ → List (List ℕ) = λ sets. map group_text (map (choices_in e) sets) in
    let left : drop place sets ≡ get_or sets place 0 ∷ drop (place + 1) sets =
    rw (add-one, drop-cons sets place 0) refl in
    ap (λ first. now ++ joined_after first slash (texts (drop (place + 1) sets)))
    (ne_eqb (place + 1) 0 (λ none. omega arith))
    ∙ part_put (eqb place 0) slash (group_text (choices_in e (get_or sets place 0)))
    (texts (drop (place + 1) sets)) before apart now whole
    (ap (λ left. before ++ joined_after (eqb place 0) slash (texts left)) (sym left) ∙ so_far) put_apart put

pub no_group_put : (now : List ℕ) (texts : List (List ℕ))
    → now ++ joined_after true slash texts ≡ now ++ join_with_byte slash texts
unfolding joined_after
no_group_put now texts = refl

-- the groups of all mark sets are put
pub groups_put : (e : Election) (sets : List ℕ) (place : ℕ) (now whole : List ℕ) → length sets ≤ place
    → now ++ joined_after (eqb place 0) slash (map group_text (map (choices_in e) (drop place sets))) ≡ whole
    → now ≡ whole
groups_put e sets place now whole end so_far =
    all_put (eqb place 0) slash now whole
    (ap (λ sets. now ++ joined_after (eqb place 0) slash (map group_text (map (choices_in e) sets)))
    (sym (drop_all place sets end)) ∙ so_far)

-- ---- the line

-- the parts of a line one after the other
pub parts_put : (number style groups old a b c d : List ℕ)
    → a ≡ old ++ number → b ≡ a ++ space ∷ [] → c ≡ b ++ style → d ≡ c ++ space ∷ []
    → d ++ groups ≡ old ++ (number ++ space ∷ style ++ space ∷ groups)
parts_put number style groups old a b c d is_a is_b is_c is_d = rw (is_d, is_c, is_b, is_a) (simp append_assoc refl)
