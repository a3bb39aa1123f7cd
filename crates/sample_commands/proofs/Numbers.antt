-- The count that a word spells, from what was read at its front.
use Rattle.std.proofs.Common.{◌≡◌, ℕ, ◌^◌, ◌<◌, ◌≤◌, List, [], ◌++◌, length, Option, Some, None, sym, ap, ◌∙◌, append-nil, lit<, arith}
use Rattle.store_spec.proofs.Common.{decimal, most_ballots, none-some, some_pair_parts}
use Rattle.ballot_record.proofs.LineNumbers.{number_again, number_takes}
use Rattle.ballot_record.specs.LineReading.{digits_at}
use Rattle.sample_commands.specs.Asked.{IsCountWord}

short : most_ballots < 2 ^ 64
short = lit< tt

-- nothing is left behind the number
pub count_read : (word : List ℕ) (n : ℕ) (rest : List ℕ) → Some (n, rest) ≡ digits_at most_ballots 0 word → rest ≡ [] → IsCountWord word n
count_read word n rest is none =
    let at = number_takes most_ballots short word n rest (sym is) in
    record { some = at.some; few = at.within; spelled = at.spelled ∙ ap (λ behind. decimal n ++ behind) none ∙ append-nil (decimal n) }

-- what is read is the number that is spelled
only_count : (word : List ℕ) (o : Option (ℕ × List ℕ)) → o ≡ digits_at most_ballots 0 word → (n : ℕ) → IsCountWord word n → o ≡ Some (n, [])
only_count word o is n has =
    is ∙ ap (digits_at most_ballots 0) (has.spelled ∙ sym (append-nil (decimal n)))
    ∙ number_again most_ballots n [] short has.some has.few tt

-- nothing was read
pub none_read : (word : List ℕ) → None ≡ digits_at most_ballots 0 word → (n : ℕ) → ¬ IsCountWord word n
none_read word is n has = none-some (n, []) (only_count word None is n has)

-- bytes are left behind the number
pub more_behind : (word : List ℕ) (m : ℕ) (rest : List ℕ) → Some (m, rest) ≡ digits_at most_ballots 0 word → 1 ≤ length rest → (n : ℕ) → ¬ IsCountWord word n
more_behind word m rest is more n has =
    let same = some_pair_parts m n rest [] (only_count word (Some (m, rest)) is n has) in
    omega (arith, ap length same.1)
