-- The ballots of a store whose numbers are drawn.
use Rattle.std.proofs.Common.{◌≡◌, ◌≢◌, ℕ, ◌+◌, ◌<◌, ◌≤◌, List, [], ◌∷◌, ◌++◌, Bool, true, length, get_or, take, Option, Some, None, Result, Ok, Err, refl, sym, ap, subst, ◌∙◌, arith, append-nil, inl, inr}
use Rattle.store_spec.proofs.Common.{All, All-head, All-tail, Ballot, Contains, Contains-get_or, Election, Global, IfOk, Vec, ballot_of, cells_of, cond-false, cond-true, filter, get_or-map, length-map, lt-ltb, map_push, numbers_of, take_more}
use Rattle.ballot_record.proofs.BallotNumbers.{pairs_of_numbers}
use Rattle.ballot_record.proofs.BallotSets.{listing_from_set}
use Rattle.ballot_record.proofs.Lookups.{AreDistinct, found_once}
use Rattle.ballot_record.specs.Record.{ballot}
use Rattle.ballot_record.specs.declared.record.Record.{Record}
use Rattle.body_store.proofs.BallotSets.{held_layout, may_hold_set}
use Rattle.body_store.proofs.Spelled.{held_more}
use Rattle.body_store.specs.Contents.{Contents, IsStored, ballots_of}
use Rattle.body_store.specs.Held.{as_list, held_in}
use Rattle.body_store.specs.Places.{AreAt}
use Rattle.body_store.specs.declared.lookup.Place.{Place}
use Rattle.ticket_sample.proofs.Splitting.{bool_cases, count_but_one, irreflexive}
use Rattle.ticket_sample.proofs.Bounding.{before, lots_order}
use Rattle.ticket_sample.specs.Drawing.{AreApart, StandIn, numbers_at}
use Rattle.ticket_sample.specs.Sample.{is_drawn, sample_of}
use Rattle.ticket_sample.specs.Ticket.{lot_of}

-- the place of none
abbrev pub nowhere : Place
nowhere = record { number = 0; cell = 0 }

-- each of them is the ballot with its number
abbrev AreFound : List Ballot → List Ballot → Type 0
AreFound whole ballots = All (λ b. ballot_of whole b.number ≡ Some b) ballots

all_found : (ballots : List Ballot) → AreDistinct ballots → AreFound ballots ballots
all_found ballots distinct k d within = found_once ballots (get_or ballots k d).number (get_or ballots k d) distinct (Contains-get_or ballots k d within) refl

-- those whose numbers pass a test
held_passing : (whole ballots : List Ballot) (test : ℕ → Bool) → AreFound whole ballots → held_in whole (filter test (numbers_of ballots)) ≡ filter (λ b. test b.number) ballots
held_passing whole [] test found = refl
held_passing whole (b ∷ ballots) test found =
    let rest = held_passing whole ballots test (All-tail (λ b. ballot_of whole b.number ≡ Some b) b ballots found) in
    let here : ballot_of whole b.number ≡ Some b = All-head (λ b. ballot_of whole b.number ≡ Some b) b ballots found in
    elim (bool_cases (test b.number)) [
      | inl passes ↦
          ap (held_in whole) (cond-true (test b.number) _ _ passes)
          ∙ ap (λ found. as_list found ++ held_in whole (filter test (numbers_of ballots))) here
          ∙ ap (λ more. b ∷ more) rest
          ∙ sym (cond-true (test b.number) _ _ passes)
      | inr fails ↦
          ap (held_in whole) (cond-false (test b.number) _ _ fails) ∙ rest ∙ sym (cond-false (test b.number) _ _ fails)
    ]

numbers_passing : (places : List Place) (test : ℕ → Bool) → numbers_at (filter (λ place. test place.number) places) ≡ filter test (numbers_at places)
numbers_passing [] test = refl
numbers_passing (place ∷ places) test =
    elim (bool_cases (test place.number)) [
      | inl passes ↦
          ap numbers_at (cond-true (test place.number) _ _ passes) ∙ ap (λ more. place.number ∷ more) (numbers_passing places test) ∙ sym (cond-true (test place.number) _ _ passes)
      | inr fails ↦
          ap numbers_at (cond-false (test place.number) _ _ fails) ∙ numbers_passing places test ∙ sym (cond-false (test place.number) _ _ fails)
    ]

-- all pass
pub filter_all : {X : Type 0} (test : X → Bool) (xs : List X) → All (λ x. test x ≡ true) xs → filter test xs ≡ xs
filter_all test [] all = refl
filter_all test (x ∷ xs) all =
    cond-true (test x) _ _ (All-head (λ x. test x ≡ true) x xs all) ∙ ap (λ more. x ∷ more) (filter_all test xs (All-tail (λ x. test x ≡ true) x xs all))

-- fewer numbers than all are drawn before any of them
pub never_last : (dice numbers : List ℕ) (k number : ℕ) → length numbers ≤ k → Contains numbers number → is_drawn dice k numbers number ≡ true
never_last dice numbers k number few c =
    lt-ltb _ k (let less = count_but_one (λ other. before (lot_of dice other) (lot_of dice number)) numbers number c (irreflexive before lots_order (lot_of dice number)) in omega (arith, less, few))

pub distinct_of : (store : Contents) → IsStored store → AreDistinct store.ballots
distinct_of store stored = (listing_from_set store.election store.ballots stored.set).distinct

pub places_apart : (store : Contents) (places : List Place) → IsStored store → numbers_at places ≡ numbers_of store.ballots → AreApart (numbers_at places)
places_apart store places stored same = subst AreApart (sym same) (pairs_of_numbers (λ a b. a ≢ b) store.ballots (distinct_of store stored))

-- a store's numbers stand in their cells
pub standing : (store : Contents) (places : List Place) → IsStored store → AreAt (cells_of store.election store.ballots) places → StandIn store.election (cells_of store.election store.ballots) places
standing store places stored are i d within =
    let layout = held_layout store.election store.ballots stored.election (may_hold_set store.election store.ballots stored.set stored.within_limit) in
    (omega (arith, (are i d within).0, layout.size), (are i d within).1)

-- one more place, and the ballot that stands there
pub one_more : (ballots : List Ballot) (cells : List ℕ) (places : List Place) (e : Election) (i : ℕ) → i < length places → StandIn e cells places
    → held_in ballots (numbers_at (take (i + 1) places)) ≡ held_in ballots (numbers_at (take i places)) ++ as_list (ballot_of ballots (get_or cells (get_or places i nowhere).cell 0))
one_more ballots cells places e i within stand =
    ap (λ chosen. held_in ballots (numbers_at chosen)) (take_more places i nowhere within)
    ∙ ap (held_in ballots) (map_push (λ (place : Place). place.number) (take i places) (get_or places i nowhere))
    ∙ held_more ballots (numbers_at (take i places)) (get_or places i nowhere).number
    ∙ ap (λ number. held_in ballots (numbers_at (take i places)) ++ as_list (ballot_of ballots number)) (sym (stand i nowhere within).1)

-- a record was found there, or none
pub some_more : (ballots : List Ballot) (records more : List Record) (held : List Ballot) (r : Record) (found : Option Ballot) → ballots_of records ≡ held → Some (ballot r) ≡ found → more ≡ records ++ r ∷ [] → ballots_of more ≡ held ++ as_list found
some_more ballots records more held r found so_far is push = ap ballots_of push ∙ map_push ballot records r ∙ ap (λ front. front ++ ballot r ∷ []) so_far ∙ ap (λ o. held ++ as_list o) is

pub none_more : (records : List Record) (held : List Ballot) (found : Option Ballot) → ballots_of records ≡ held → None ≡ found → ballots_of records ≡ held ++ as_list found
none_more records held found so_far is = so_far ∙ sym (append-nil held) ∙ ap (λ o. held ++ as_list o) is

-- ---- what a sample is made of

module _ (store : Contents) (stored : IsStored store) (dice : List ℕ) (k : ℕ) where
  abbrev drawn : ℕ → Bool
  drawn number = is_drawn dice k (numbers_of store.ballots) number

  -- the ballots at the places whose numbers are drawn
  pub sample_held : (places : List Place) → numbers_at places ≡ numbers_of store.ballots
      → held_in store.ballots (numbers_at (filter (λ place. is_drawn dice k (numbers_at places) place.number) places)) ≡ sample_of store.ballots dice k
  unfolding sample_of
  sample_held places same =
      ap (λ numbers. held_in store.ballots (numbers_at (filter (λ place. is_drawn dice k numbers place.number) places))) same
      ∙ ap (held_in store.ballots) (numbers_passing places drawn ∙ ap (filter drawn) same)
      ∙ held_passing store.ballots store.ballots drawn (all_found store.ballots (distinct_of store stored))

  -- where there are no more than k, all are drawn
  pub sample_whole : (places : List Place) → numbers_at places ≡ numbers_of store.ballots → length places ≤ k
      → held_in store.ballots (numbers_at places) ≡ sample_of store.ballots dice k
  sample_whole places same few =
      let short : length (numbers_at places) ≤ k = omega (arith, few, length-map places (λ (place : Place). place.number)) in
      ap (λ chosen. held_in store.ballots (numbers_at chosen))
      (sym (filter_all (λ place. is_drawn dice k (numbers_at places) place.number) places (λ i d within.
      never_last dice (numbers_at places) k (get_or places i d).number short (contains_at i d within))))
      ∙ sample_held places same
    where
      contains_at : (i : ℕ) (d : Place) → i < length places → Contains (numbers_at places) (get_or places i d).number
      contains_at i d within = (i, omega (arith, within, length-map places (λ (place : Place). place.number)), get_or-map (λ (place : Place). place.number) places i d (get_or places i d).number within)

  -- the records that stand for these are those of the sample
  pub sample_records : {E : Type 0} (r : Result (Vec Record Global) E) (held : List Ballot) → held ≡ sample_of store.ballots dice k → IfOk r (λ records. ballots_of records.items ≡ held) → IfOk r (λ records. ballots_of records.items ≡ sample_of store.ballots dice k)
  sample_records (Ok records) held same is = is ∙ same
  sample_records (Err fault) held same is = tt
