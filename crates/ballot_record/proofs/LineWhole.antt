-- What is read as a line is one, and what is a line is read.
use Rattle.std.proofs.Common.{◌≡◌, ℕ, zero, suc, ◌-◌, ◌^◌, ◌≤◌, eqb, inl, inr, List, [], ◌∷◌, ◌++◌, length, map, Some, refl, sym, ap, subst, ◌∙◌, append_assoc, append-nil, arith}
use Rattle.store_spec.proofs.Common.{All-from_recursion, AllByRecursion, Election, IsGroup, ReadsAs, RecordLine, decimal, eqb-true, group_text, join_with_byte, length-map, most_choices, ne_eqb, nil_from_length, none-some, option_and_then_some, option_map, recursion_from_All, same_Some}
use Rattle.std.specs.Prelude.{All}
use Rattle.store_spec.specs.Election.{most_contests}
use Rattle.ballot_record.specs.LineReading.{digits_at, group_at, groups_of, parsed_line}
use Rattle.ballot_record.proofs.LineNumbers.{chosen, number_takes, number_again}
use Rattle.ballot_record.proofs.LineGroups.{passed, option_map_some, join_more, group_takes, group_again}

abbrev pub groups_text : List (List ℕ) → List ℕ
groups_text groups = join_with_byte 47 (map group_text groups)

record AreGroups (e : Election) (most : ℕ) (bytes : List ℕ) (groups : List (List ℕ)) : Type 0 where
  spelled : bytes ≡ groups_text groups
  some : 1 ≤ length groups
  few : length groups ≤ most
  each : AllByRecursion (IsGroup e) groups

groups_take : (e : Election) (most : ℕ) (bytes : List ℕ) (groups : List (List ℕ)) → groups_of (most_choices e) most bytes ≡ Some groups → AreGroups e most bytes groups
unfolding groups_of
groups_take e zero bytes groups is = absurd (none-some groups is)
groups_take e (suc most) bytes groups is =
    option_and_then_some _ (group_at (most_choices e) bytes) groups is (λ first first_is goes_on.
    let group = group_takes e bytes first.0 first.1 first_is in
    elim (chosen (eqb (length first.1) 0) _ _ (Some groups) goes_on) [
      | inl end ↦
          let nothing : first.1 ≡ [] = nil_from_length first.1 (eqb-true (length first.1) 0 end.0) in
          subst (AreGroups e (suc most) bytes) (same_Some (first.0 ∷ []) groups end.1) (record {
            spelled = group.spelled ∙ ap (λ rest. group_text first.0 ++ rest) nothing ∙ append-nil (group_text first.0);
            some = omega arith;
            few = omega arith;
            each = (group.group, tt);
          })
      | inr further ↦
          elim (passed 47 first.1 _ _ (Some groups) further.1) [
            | inl slash ↦
                let others = option_map_some (λ others. first.0 ∷ others) (groups_of (most_choices e) most slash.rest) groups slash.is in
                let at = groups_take e most slash.rest others.0 others.1 in
                let joined : groups_text (first.0 ∷ others.0) ≡ group_text first.0 ++ (47 ∷ groups_text others.0) = join_more 47 (group_text first.0) (map group_text others.0) (omega (arith, length-map others.0 group_text, at.some)) in
                subst (AreGroups e (suc most) bytes) others.2 (record {
                  spelled = group.spelled ∙ ap (λ rest. group_text first.0 ++ rest) (slash.bytes_are ∙ ap (λ rest. 47 ∷ rest) at.spelled) ∙ sym joined;
                  some = omega arith;
                  few = omega (arith, at.few);
                  each = (group.group, at.each);
                })
            | inr none ↦ absurd (none-some groups none)
          ]
    ])

groups_again : (e : Election) (most : ℕ) (group : List ℕ) (groups : List (List ℕ)) → length (group ∷ groups) ≤ most → AllByRecursion (IsGroup e) (group ∷ groups) → groups_of (most_choices e) most (groups_text (group ∷ groups)) ≡ Some (group ∷ groups)
unfolding groups_of
groups_again e zero group groups few each = absurd (omega arith)
groups_again e (suc most) group [] few each =
    ap (groups_of (most_choices e) (suc most)) (sym (append-nil (group_text group))) ∙ rw (group_again e group [] each.0 (tt, tt)) refl
groups_again e (suc most) group (next ∷ groups) few each =
    let others = groups_text (next ∷ groups) in
    rw (group_again e group (47 ∷ others) each.0 (refl, refl), ne_eqb (length (47 ∷ others)) 0 (λ zero. omega arith))
    (ap (option_map (λ others. group ∷ others)) (groups_again e most next groups (omega arith) each.1))

-- ---- the whole line

pub line_takes : (e : Election) (bytes : List ℕ) (line : RecordLine) → parsed_line e bytes ≡ Some line → ReadsAs e bytes line
unfolding parsed_line
line_takes e bytes line is =
    option_and_then_some _ (digits_at (2 ^ 64 - 1) 0 bytes) line is (λ number number_is goes_on.
    let number_at = number_takes (2 ^ 64 - 1) (omega arith) bytes number.0 number.1 number_is in
    elim (passed 32 number.1 _ _ (Some line) goes_on) [
      | inl space ↦
          option_and_then_some _ (digits_at 255 0 space.rest) line space.is (λ style style_is goes_on.
          let style_at = number_takes 255 (omega arith) space.rest style.0 style.1 style_is in
          elim (passed 32 style.1 _ _ (Some line) goes_on) [
            | inl further ↦
                let groups = option_map_some (λ groups. record { number = number.0; style = style.0; groups = groups }) (groups_of (most_choices e) (most_contests e) further.rest) line further.is in
                let at = groups_take e (most_contests e) further.rest groups.0 groups.1 in
                subst (ReadsAs e bytes) groups.2 (record {
                  parts = record {
                    some_number = number_at.some;
                    short_number = omega (arith, number_at.within);
                    some_style = style_at.some;
                    short_style = style_at.within;
                    some_group = at.some;
                    few_groups = at.few;
                    each_group = All-from_recursion (IsGroup e) groups.0 at.each;
                  };
                  spelled = number_at.spelled
                      ∙ ap (λ rest. decimal number.0 ++ rest) (space.bytes_are ∙ ap (λ rest. 32 ∷ rest) (style_at.spelled ∙ ap (λ rest. decimal style.0 ++ rest) (further.bytes_are ∙ ap (λ rest. 32 ∷ rest) at.spelled)))
                      ∙ sym (append_assoc (decimal number.0) (32 ∷ decimal style.0) (32 ∷ groups_text groups.0));
                })
            | inr none ↦ absurd (none-some line none)
          ])
      | inr none ↦ absurd (none-some line none)
    ])

groups_again_some : (e : Election) (groups : List (List ℕ)) → 1 ≤ length groups → length groups ≤ most_contests e → All (IsGroup e) groups → groups_of (most_choices e) (most_contests e) (groups_text groups) ≡ Some groups
groups_again_some e [] some few each = absurd (omega arith)
groups_again_some e (group ∷ groups) some few each = groups_again e (most_contests e) group groups few (recursion_from_All (IsGroup e) (group ∷ groups) each)

pub line_again : (e : Election) (bytes : List ℕ) (line : RecordLine) → ReadsAs e bytes line → parsed_line e bytes ≡ Some line
unfolding parsed_line
line_again e bytes line reads =
    let p = reads.parts in
    let marks = groups_text line.groups in
    let regrouped : bytes ≡ decimal line.number ++ (32 ∷ (decimal line.style ++ (32 ∷ marks))) = reads.spelled ∙ append_assoc (decimal line.number) (32 ∷ decimal line.style) (32 ∷ marks) in
    ap (parsed_line e) regrouped
    ∙ rw (
      number_again (2 ^ 64 - 1) line.number (32 ∷ (decimal line.style ++ (32 ∷ marks))) (omega arith) p.some_number (omega (arith, p.short_number)) refl,
      number_again 255 line.style (32 ∷ marks) (omega arith) p.some_style p.short_style refl,
      groups_again_some e line.groups p.some_group p.few_groups p.each_group,
    ) refl
