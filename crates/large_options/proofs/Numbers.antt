-- The value of an option, from what was read at the front of its text.
use Rattle.std.proofs.Common.{◌≡◌, ℕ, ◌^◌, ◌<◌, ◌≤◌, List, [], ◌++◌, length, Option, Some, None, sym, ap, ◌∙◌, append-nil, lit<, arith}
use Rattle.store_spec.proofs.Common.{decimal, none-some, some_pair_parts}
use Rattle.ballot_record.proofs.LineNumbers.{number_again, number_takes}
use Rattle.ballot_record.specs.LineReading.{digits_at}
use Rattle.large_options.specs.Given.{HasNoValue, HasValue, limit_of}
use Rattle.large_options.specs.declared.name.Name.{Name}
use Rattle.large_options.specs.declared.name.Name.TheVariants.{Seed, Count, Tabs}

-- a limit is a number of 64 bits
pub limit_short : (name : Name) → limit_of name < 2 ^ 64
limit_short Seed = lit< tt
limit_short Count = lit< tt
limit_short Tabs = lit< tt

-- a limit is a number of 32 bits
pub limit_fits : (name : Name) → limit_of name < 2 ^ 32
limit_fits Seed = lit< tt
limit_fits Count = lit< tt
limit_fits Tabs = lit< tt

-- nothing is left behind the number
pub value_read : (name : Name) (text : List ℕ) (n : ℕ) (rest : List ℕ) → Some (n, rest) ≡ digits_at (limit_of name) 0 text → rest ≡ [] → HasValue name text n
value_read name text n rest is none =
    let at = number_takes (limit_of name) (limit_short name) text n rest (sym is) in
    (at.some, at.within, at.spelled ∙ ap (λ behind. decimal n ++ behind) none ∙ append-nil (decimal n))

-- what is read is the number that is spelled
only_value : (name : Name) (text : List ℕ) (o : Option (ℕ × List ℕ)) → o ≡ digits_at (limit_of name) 0 text → (n : ℕ) → HasValue name text n → o ≡ Some (n, [])
only_value name text o is n has =
    is ∙ ap (digits_at (limit_of name) 0) (has.2 ∙ sym (append-nil (decimal n)))
    ∙ number_again (limit_of name) n [] (limit_short name) has.0 has.1 tt

-- nothing was read
pub none_read : (name : Name) (text : List ℕ) → None ≡ digits_at (limit_of name) 0 text → HasNoValue name text
none_read name text is n has = none-some (n, []) (only_value name text None is n has)

-- bytes are left behind the number
pub more_behind : (name : Name) (text : List ℕ) (m : ℕ) (rest : List ℕ) → Some (m, rest) ≡ digits_at (limit_of name) 0 text → 1 ≤ length rest → HasNoValue name text
more_behind name text m rest is more n has =
    let same = some_pair_parts m n rest [] (only_value name text (Some (m, rest)) is n has) in
    omega (arith, ap length same.1)
