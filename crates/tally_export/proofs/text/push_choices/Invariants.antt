use Rattle.std.proofs.Common.{◌≡◌, ◌+◌, ◌-◌, ◌++◌, map, get_or}
use Rattle.store_spec.proofs.Common.{choice_line, lines_text, range_with_len, string_bytes}
use Rattle.tally_export.proofs.text.push_choices.Given as goal

-- the lines of the first choices are put
abbrev pub invariant-choices : goal.invariant-choices
invariant-choices l =
    string_bytes l.text ++ lines_text
    (map (λ c. choice_line l.k c (get_or l.counts (c - 1) 0)) (range_with_len (l.place + 1) (l.choices - l.place)))
    ≡ string_bytes l.initial.text ++ lines_text
    (map (λ c. choice_line l.k c (get_or l.counts (c - 1) 0)) (range_with_len 1 l.choices))
