-- What a binary search finds in numbers and in ballots that are in order.
use Rattle.std.proofs.Common.{◌≡◌, ◌≢◌, ◌==◌, ◌||◌, ℕ, zero, suc, ◌+◌, ◌<◌, ◌≤◌, ⊎_elim, true, false, not, List, [], ◌∷◌, ◌++◌, length, get_or, take, filter, Option, Some, None, IfSome, is_some, subst, refl, sym, ap, ◌∙◌, arith}
use Rattle.store_spec.proofs.Common.{All, Ballot, Contains, Equal, Greater, Less, ballot_of, cond-true, eq-eqb, filter-append, list_any, map_push, nat_cmp, nat_tests, ne_eqb, numbers_of, or_right, ordering_index, true≢false}
use Rattle.ballot_record.specs.declared.record.Record.{Record}
use Rattle.ballot_record.specs.Record.{ballot}
use Rattle.ballot_record.proofs.BallotNumbers.{contains_number}
use Rattle.ballot_record.proofs.Lookups.{found_in, option_cases}
use Rattle.body_store.specs.Contents.{ballots_of, ballots_without}
use Rattle.layout_def.proofs.OrderedCells.{contains_from_place}

-- ---- numbers

pub is_among : (xs : List ℕ) (x i : ℕ) → i < length xs → get_or xs i 0 ≡ x → list_any (λ n. n == x) xs ≡ true
is_among [] x i lt e = absurd (omega arith)
is_among (y ∷ xs) x zero lt e = ap (λ b. b || list_any (λ n. n == x) xs) (eq-eqb y x e)
is_among (y ∷ xs) x (suc i) lt e = or_right (y == x) _ (is_among xs x i (omega arith) e)

not_found : (xs : List ℕ) (x : ℕ) → ((k : ℕ) → k < length xs → get_or xs k 0 ≢ x) → list_any (λ n. n == x) xs ≡ false
not_found [] x none = refl
not_found (y ∷ xs) x none =
    ap (λ b. b || list_any (λ n. n == x) xs) (ne_eqb y x (none 0 (omega arith)))
    ∙ not_found xs x (λ k lt. none (suc k) (omega arith))

-- a number that stands in a cell is none of those that stand in none
pub not_gone : (cells gone : List ℕ) (number : ℕ) (found : Option ℕ)
    → IfSome found (λ cell. (cell < length cells) × (get_or cells cell 0 ≡ number)) → is_some found ≡ true
    → number ≢ 0 → All (λ n. n ≢ 0 → ¬ Contains cells n) gone → false ≡ list_any (λ n. n == number) gone
not_gone cells gone number (Some cell) there is some none =
    sym (not_found gone number (λ k lt same. none k 0 lt (λ z. some (sym same ∙ z))
    (subst (λ (v : ℕ). Contains cells v) (sym same) (contains_from_place cells number cell there.0 there.1))))
not_gone cells gone number None there is some none = absurd (true≢false (sym is))

-- ---- the ballot with a number

pub none_found : (ballots : List Ballot) (number : ℕ) → ¬ Contains (numbers_of ballots) number
    → None ≡ ballot_of ballots number
none_found ballots number none = ⊎_elim
    (λ (missing : ballot_of ballots number ≡ None). sym missing)
    (λ some. let found = found_in ballots number some.0 some.1 in absurd
    (none (contains_number ballots some.0 number found.0 found.1)))
    (option_cases (ballot_of ballots number))

pub cmp_equal : (a n : ℕ) → nat_cmp a n ≡ Equal → a ≡ n
cmp_equal a n e = grind (arith, nat_tests)

pub cmp_less : (a n : ℕ) → nat_cmp a n ≡ Less → a ≢ n
cmp_less a n e = grind (arith, nat_tests)

pub cmp_greater : (a n : ℕ) → nat_cmp a n ≡ Greater → a ≢ n
cmp_greater a n e = grind (arith, nat_tests)

pub cmp_rises : (a b n : ℕ) → a ≤ b → ordering_index (nat_cmp a n) ≤ ordering_index (nat_cmp b n)
cmp_rises a b n le = grind (arith, nat_tests)

-- ---- the ballots that stay

pub kept_more : (records rest : List Record) (i : ℕ) (r : Record) (numbers : List ℕ)
    → take (i + 1) records ≡ take i records ++ r ∷ []
    → ballots_of rest ≡ ballots_without (ballots_of (take i records)) numbers
    → list_any (λ n. n == r.number) numbers ≡ false
    → ballots_of (rest ++ r ∷ []) ≡ ballots_without (ballots_of (take (i + 1) records)) numbers
kept_more records rest i r numbers more so_far other =
    let test = λ (b : Ballot). not (list_any (λ number. number == b.number) numbers) in
    map_push ballot rest r
    ∙ ap (λ bs. bs ++ ballot r ∷ []) so_far
    ∙ ap (λ bs. ballots_without (ballots_of (take i records)) numbers ++ bs)
    (sym (cond-true (test (ballot r)) (ballot r ∷ []) [] (ap not other)))
    ∙ sym (filter-append test (ballots_of (take i records)) (ballot r ∷ []))
    ∙ ap (filter test) (sym (map_push ballot (take i records) r))
    ∙ ap (λ rs. ballots_without (ballots_of rs) numbers) (sym more)
