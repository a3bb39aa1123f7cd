-- Numbers and tabulators at the front of some bytes, from what was read there.
use Rattle.std.proofs.Common.{◌≡◌, ◌≢◌, ℕ, ◌+◌, ◌-◌, ◌^◌, ◌<◌, ◌≤◌, List, [], ◌∷◌, ◌++◌, length, take, drop, slice_index_or, Option, Some, None, refl, sym, ap, ◌∙◌, append-nil, arith, lit<}
use Rattle.store_spec.proofs.Common.{IsTab, decimal, nil_from_length, none-some, some_pair_parts, take_all}
use Rattle.std.proofs.lemmas.Fmt.{decimal_digit}
use Rattle.ballot_record.proofs.LineNumbers.{StopsDigits, number_again, number_takes}
use Rattle.ballot_record.specs.LineReading.{digits_at}
use Rattle.script_lines.specs.Words.{IsNotUpTo, LacksTab}

-- what is read is the number that is spelled
only_number : (limit : ℕ) → limit < 2 ^ 64 → (bytes : List ℕ) (o : Option (ℕ × List ℕ)) → o ≡ digits_at limit 0 bytes → (n : ℕ) (rest : List ℕ) → 1 ≤ n → n ≤ limit → StopsDigits rest → bytes ≡ decimal n ++ rest → o ≡ Some (n, rest)
only_number limit short bytes o is n rest some within stops spelled = is ∙ ap (digits_at limit 0) spelled ∙ number_again limit n rest short some within stops

-- ---- a number that is all the bytes

-- nothing was read, so they are no number
pub none_whole : (limit : ℕ) → limit < 2 ^ 64 → (bytes : List ℕ) → None ≡ digits_at limit 0 bytes → IsNotUpTo limit bytes
none_whole limit short bytes is n some within spelled =
    none-some (n, []) (only_number limit short bytes None is n [] some within tt (spelled ∙ sym (append-nil (decimal n))))

-- bytes are left behind the number, so they are none
pub more_behind : (limit : ℕ) → limit < 2 ^ 64 → (bytes : List ℕ) (m : ℕ) (rest : List ℕ) → Some (m, rest) ≡ digits_at limit 0 bytes → length rest ≢ 0 → IsNotUpTo limit bytes
more_behind limit short bytes m rest is more n some within spelled =
    let same = some_pair_parts m n rest [] (only_number limit short bytes (Some (m, rest)) is n [] some within tt (spelled ∙ sym (append-nil (decimal n)))) in
    more (ap length same.1)

-- nothing is left behind the number
pub whole : (limit : ℕ) → limit < 2 ^ 64 → (bytes : List ℕ) (n : ℕ) (rest : List ℕ) → Some (n, rest) ≡ digits_at limit 0 bytes → length rest ≡ 0 → (1 ≤ n) × (n ≤ limit) × (bytes ≡ decimal n)
whole limit short bytes n rest is none =
    let at = number_takes limit short bytes n rest (sym is) in
    (at.some, at.within, at.spelled ∙ ap (λ behind. decimal n ++ behind) (nil_from_length rest none) ∙ append-nil (decimal n))

-- ---- a tabulator with a space behind it

-- some bytes begin with one tabulator
pub one_tab : (m n : ℕ) (a b : List ℕ) → IsTab m → IsTab n → decimal m ++ 32 ∷ a ≡ decimal n ++ 32 ∷ b → (m ≡ n) × (a ≡ b)
one_tab m n a b first second same =
    let left = number_again 64 m (32 ∷ a) (lit< tt) first.0 first.1 refl in
    let right = number_again 64 n (32 ∷ b) (lit< tt) second.0 second.1 refl in
    let parts = some_pair_parts m n (32 ∷ a) (32 ∷ b) (sym left ∙ ap (digits_at 64 0) same ∙ right) in
    let behind : 32 ∷ a ≡ 32 ∷ b = parts.1 in
    (parts.0, cc)

-- no number was read
pub lacks_number : (bytes : List ℕ) → None ≡ digits_at 64 0 bytes → LacksTab bytes
lacks_number bytes is tab rest is_tab spelled = none-some (tab, 32 ∷ rest) (only_number 64 (lit< tt) bytes None is tab (32 ∷ rest) is_tab.0 is_tab.1 refl spelled)

-- a number was read, with no space behind it
pub lacks_space : (bytes : List ℕ) (m : ℕ) (behind : List ℕ) → Some (m, behind) ≡ digits_at 64 0 bytes → ((rest : List ℕ) → behind ≢ 32 ∷ rest) → LacksTab bytes
lacks_space bytes m behind is none tab rest is_tab spelled =
    none rest (some_pair_parts m tab behind (32 ∷ rest) (only_number 64 (lit< tt) bytes (Some (m, behind)) is tab (32 ∷ rest) is_tab.0 is_tab.1 refl spelled)).1

-- a number was read, with a space behind it
pub tab_read : (bytes : List ℕ) (tab : ℕ) (behind rest : List ℕ) → Some (tab, behind) ≡ digits_at 64 0 bytes → behind ≡ 32 ∷ rest → IsTab tab × (bytes ≡ decimal tab ++ 32 ∷ rest)
tab_read bytes tab behind rest is space =
    let at = number_takes 64 (lit< tt) bytes tab behind (sym is) in
    ((at.some, at.within), at.spelled ∙ ap (λ bs. decimal tab ++ bs) space)

-- a digit other than 0 stands first, with a space behind it
pub short_tab : (bytes : List ℕ) → 2 ≤ length bytes → 49 ≤ slice_index_or bytes 0 0 → slice_index_or bytes 0 0 ≤ 57 → slice_index_or bytes 1 0 ≡ 32
    → IsTab (slice_index_or bytes 0 0 - 48) × (bytes ≡ decimal (slice_index_or bytes 0 0 - 48) ++ 32 ∷ take (length bytes - 2) (drop 2 bytes))
short_tab [] long some few is = absurd (omega arith)
short_tab (digit ∷ []) long some few is = absurd (omega arith)
short_tab (digit ∷ behind ∷ rest) long some few is =
    let same : 48 + (digit - 48) ≡ digit = omega arith in
    let all : take (length (digit ∷ behind ∷ rest) - 2) rest ≡ rest = take_all (length (digit ∷ behind ∷ rest) - 2) rest (omega arith) in
    let spelled : decimal (digit - 48) ≡ digit ∷ [] = decimal_digit (digit - 48) (omega arith) ∙ ap (λ d. d ∷ []) same in
    ((omega arith, omega arith), ap (λ b. digit ∷ b ∷ rest) is ∙ sym (ap (λ text. text ++ 32 ∷ take (length (digit ∷ behind ∷ rest) - 2) rest) spelled ∙ ap (λ rest. digit ∷ 32 ∷ rest) all))
