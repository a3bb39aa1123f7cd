-- The ballots whose flags are not set.
use Rattle.std.proofs.Common.{◌≡◌, ◌≢◌, ℕ, zero, suc, ◌<◌, List, [], ◌∷◌, Bool, true, false, cond, drop, length, get_or, replicate, set, refl, sym, ap, ◌∙◌, arith, not, ◌==◌, ◌||◌}
use Rattle.store_spec.proofs.Common.{Ballot, Contains, Contains-get_or, cond-false, cond-true, count_by, eq-eqb, list_any, ne_eqb, numbers_of, sum_by-cons}
use Rattle.ballot_record.proofs.BallotNumbers.{ballot_with, contains_number}
use Rattle.ballot_record.proofs.BallotSets.{Ascend}
use Rattle.body_store.specs.Contents.{ballots_without}
use Rattle.ticket_sample.proofs.Holding.{filter_all}
use Rattle.ticket_sample.specs.Comparing.{unset}

behind : (b : Ballot) (ballots : List Ballot) → Ascend (b ∷ ballots) → Ascend ballots
behind b ballots up = λ i j d less within. up (suc i) (suc j) d (omega arith) (omega arith)

further : (b x : Ballot) (ballots : List Ballot) → Contains ballots x → Contains (b ∷ ballots) x
further b x ballots c = (suc c.0, omega (arith, c.1), c.2)

pub unset_among : (ballots : List Ballot) (flags : List Bool) (x : Ballot) → Contains (unset ballots flags) x → Contains ballots x
unset_among [] flags x c = c
unset_among (b ∷ ballots) [] x c = absurd (omega (arith, c.1))
unset_among (b ∷ ballots) (true ∷ flags) x c = further b x ballots (unset_among ballots flags x c)
unset_among (b ∷ ballots) (false ∷ flags) x (zero, lt, is) = (zero, omega arith, is)
unset_among (b ∷ ballots) (false ∷ flags) x (suc i, lt, is) = further b x ballots (unset_among ballots flags x (i, omega arith, is))

-- the first number is none of those behind it
first_alone : (b : Ballot) (ballots : List Ballot) (flags : List Bool) → Ascend (b ∷ ballots) → ¬ Contains (numbers_of (unset ballots flags)) b.number
first_alone b ballots flags up c =
    let found = ballot_with (unset ballots flags) b.number c in
    let among = unset_among ballots flags found.0 found.1 in
    let less = up 0 (suc among.0) found.0 (omega arith) (omega (arith, among.1)) in
    let at : (get_or ballots among.0 found.0).number ≡ found.0.number = ap (λ (b : Ballot). b.number) among.2 in
    omega (arith, less, at, found.2)

first_or_later : (b : Ballot) (ballots : List Ballot) (number : ℕ) → Contains (numbers_of (b ∷ ballots)) number → b.number ≢ number → ¬ Contains (numbers_of ballots) number → ⊥
first_or_later b ballots number (zero, lt, same) other none = other same
first_or_later b ballots number (suc k, lt, same) other none = none (k, omega (arith, lt), same)

-- the ballot at a place is among them exactly where its flag is not set
pub flag_set : (ballots : List Ballot) (flags : List Bool) (i : ℕ) (d : Ballot) → Ascend ballots → i < length ballots → length flags ≡ length ballots → get_or flags i false ≡ true → ¬ Contains (numbers_of (unset ballots flags)) (get_or ballots i d).number
flag_set [] flags i d up within long is = λ c. absurd (omega (arith, within))
flag_set (b ∷ ballots) [] i d up within long is = λ c. absurd (omega (arith, long))
flag_set (b ∷ ballots) (true ∷ flags) zero d up within long is = first_alone b ballots flags up
flag_set (b ∷ ballots) (false ∷ flags) zero d up within long is = absurd (let clash : false ≡ true = is in cc)
flag_set (b ∷ ballots) (true ∷ flags) (suc i) d up within long is = flag_set ballots flags i d (behind b ballots up) (omega arith) (omega arith) is
flag_set (b ∷ ballots) (false ∷ flags) (suc i) d up within long is =
    λ c. first_or_later b (unset ballots flags) (get_or ballots i d).number c
    (λ same. let less = up 0 (suc i) d (omega arith) (omega (arith, within)) in omega (arith, less, same))
    (flag_set ballots flags i d (behind b ballots up) (omega arith) (omega arith) is)

pub flag_unset : (ballots : List Ballot) (flags : List Bool) (i : ℕ) (d : Ballot) → i < length ballots → length flags ≡ length ballots → get_or flags i false ≡ false → Contains (unset ballots flags) (get_or ballots i d)
flag_unset [] flags i d within long is = absurd (omega (arith, within))
flag_unset (b ∷ ballots) [] i d within long is = absurd (omega (arith, long))
flag_unset (b ∷ ballots) (true ∷ flags) zero d within long is = absurd (let clash : true ≡ false = is in cc)
flag_unset (b ∷ ballots) (false ∷ flags) zero d within long is = (zero, omega arith, refl)
flag_unset (b ∷ ballots) (true ∷ flags) (suc i) d within long is = flag_unset ballots flags i d (omega arith) (omega arith) is
flag_unset (b ∷ ballots) (false ∷ flags) (suc i) d within long is = further b (get_or ballots i d) (unset ballots flags) (flag_unset ballots flags i d (omega arith) (omega arith) is)

-- ---- one is taken out

abbrev others : ℕ → Ballot → Bool
others number b = not (list_any (λ n. n == b.number) (number ∷ []))

is_other : (number : ℕ) (b : Ballot) → number ≢ b.number → others number b ≡ true
is_other number b apart = ap (λ one. not (one || false)) (ne_eqb number b.number apart)

is_one : (number : ℕ) (b : Ballot) → number ≡ b.number → others number b ≡ false
is_one number b same = ap (λ one. not (one || false)) (eq-eqb number b.number same)

none_taken : (ballots : List Ballot) (number : ℕ) → ¬ Contains (numbers_of ballots) number → ballots_without ballots (number ∷ []) ≡ ballots
none_taken ballots number none =
    filter_all (others number) ballots (λ k d within. is_other number (get_or ballots k d) (λ same.
    none (contains_number ballots (get_or ballots k d) number (Contains-get_or ballots k d within) (sym same))))

-- the flag at a place is set: the ballot there is taken out
pub flag_taken : (ballots : List Ballot) (flags : List Bool) (i : ℕ) (d : Ballot) → Ascend ballots → i < length ballots → length flags ≡ length ballots
    → unset ballots (set flags i true) ≡ ballots_without (unset ballots flags) ((get_or ballots i d).number ∷ [])
flag_taken [] flags i d up within long = absurd (omega (arith, within))
flag_taken (b ∷ ballots) [] i d up within long = absurd (omega (arith, long))
flag_taken (b ∷ ballots) (true ∷ flags) zero d up within long = sym (none_taken (unset ballots flags) b.number (first_alone b ballots flags up))
flag_taken (b ∷ ballots) (false ∷ flags) zero d up within long =
    sym (cond-false (others b.number b) (b ∷ ballots_without (unset ballots flags) (b.number ∷ [])) (ballots_without (unset ballots flags) (b.number ∷ [])) (is_one b.number b refl)
    ∙ none_taken (unset ballots flags) b.number (first_alone b ballots flags up))
flag_taken (b ∷ ballots) (true ∷ flags) (suc i) d up within long = flag_taken ballots flags i d (behind b ballots up) (omega arith) (omega arith)
flag_taken (b ∷ ballots) (false ∷ flags) (suc i) d up within long =
    let number = (get_or ballots i d).number in
    let rest = ballots_without (unset ballots flags) (number ∷ []) in
    let less = up 0 (suc i) d (omega arith) (omega (arith, within)) in
    ap (λ more. b ∷ more) (flag_taken ballots flags i d (behind b ballots up) (omega arith) (omega arith))
    ∙ sym (cond-true (others number b) (b ∷ rest) rest (is_other number b (λ same. omega (arith, less, same))))

-- how many they are
pub count_unset : (ballots : List Ballot) (flags : List Bool) → length flags ≡ length ballots → length (unset ballots flags) ≡ count_by (λ flag. not flag) flags
count_unset [] [] same = refl
count_unset [] (flag ∷ flags) same = absurd (omega (arith, same))
count_unset (b ∷ ballots) [] same = absurd (omega (arith, same))
count_unset (b ∷ ballots) (true ∷ flags) same = omega (arith, count_unset ballots flags (omega (arith, same)), sum_by-cons (λ flag. cond (not flag) 1 0) true flags)
count_unset (b ∷ ballots) (false ∷ flags) same = omega (arith, count_unset ballots flags (omega (arith, same)), sum_by-cons (λ flag. cond (not flag) 1 0) false flags)

-- where none is set they are all
pub none_set : (ballots : List Ballot) (flags : List Bool) → flags ≡ replicate (length ballots) false → unset ballots flags ≡ ballots
none_set [] flags same = refl
none_set (b ∷ ballots) [] same = absurd (let short : 0 ≡ suc (length (replicate (length ballots) false)) = ap length same in omega (arith, short))
none_set (b ∷ ballots) (true ∷ flags) same = absurd (let clash : true ≡ false = ap (λ (flags : List Bool). get_or flags 0 true) same in cc)
none_set (b ∷ ballots) (false ∷ flags) same = ap (λ more. b ∷ more) (none_set ballots flags (ap (drop 1) same))
