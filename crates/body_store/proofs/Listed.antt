-- Ballots in lists, one list behind another.
use Rattle.std.proofs.Common.{◌≡◌, ℕ, zero, suc, ◌+◌, ◌-◌, ◌*◌, ◌<◌, ◌≤◌, inl, inr, List, [], ◌∷◌, ◌++◌, Some, length, get_or, take, drop, sym, ap, ◌∙◌, subst, arith, length-append}
use Rattle.store_spec.proofs.Common.{All, Ballot, Election, IsElection, IsValid, ballot_bytes, cell_size, flat_map, flat_map-append, flat_map-cons, get_or-append-add, get_or_append_left, slice_get-get_or, slice_get_within, take_more}
use Rattle.std.proofs.Math.Nat.{add-mul}
use Rattle.std.specs.List.{slice_get}
use Rattle.ballot_record.proofs.BallotLists.{cell_at_place, cell_within, length-cells}
use Rattle.ballot_record.proofs.CellFormat.{number_fits}
use Rattle.ballot_record.specs.BallotList.{ListedBallots}
use Rattle.body_store.specs.Contents.{all_listed}
use Rattle.body_store.specs.Moves.{StandsFrom, Waits, WaitsIn}

-- no list
pub empty : ListedBallots
empty =
    let e : Election = record { version = 1; contests = []; styles = []; limit = 0; bits = 0; salt = 0 } in
    record { election = e; ballots = []; room = 0 }

nobody : Ballot
nobody = record { number = 0; style = 0; marks = [] }

pub listed-cons : (list : ListedBallots) (lists : List ListedBallots) → all_listed (list ∷ lists) ≡ list.ballots ++ all_listed lists
listed-cons list lists = flat_map-cons (λ (list : ListedBallots). list.ballots) list lists

-- of one list more
pub length-one_more : (lists : List ListedBallots) (k : ℕ) (d : ListedBallots) → k < length lists
    → length (all_listed (take (k + 1) lists)) ≡ length (all_listed (take k lists)) + length (get_or lists k d).ballots
length-one_more lists k d within =
    let list = get_or lists k d in
    let own : ListedBallots → List Ballot = λ list. list.ballots in
    omega (
      arith,
      ap (λ lists. length (all_listed lists)) (take_more lists k d within),
      ap length (flat_map-append own (take k lists) (list ∷ [])),
      length-append (all_listed (take k lists)) (all_listed (list ∷ [])),
      ap length (flat_map-cons own list []),
      length-append list.ballots (all_listed []),
    )

stands_first : (some rest : List Ballot) → StandsFrom 0 some (some ++ rest)
stands_first some rest = record {
  within = omega (arith, length-append some rest);
  each = λ place lt.
      let more : 0 + place < length (some ++ rest) = omega (arith, length-append some rest) in
      slice_get-get_or (some ++ rest) (0 + place) nobody more
      ∙ ap Some (ap (λ k. get_or (some ++ rest) k nobody) (let same : 0 + place ≡ place = omega arith in same) ∙ get_or_append_left some rest nobody place lt)
      ∙ sym (slice_get-get_or some place nobody lt);
}

stands_behind : (first : ℕ) (some front all : List Ballot) → StandsFrom first some all → StandsFrom (length front + first) some (front ++ all)
stands_behind first some front all here = record {
  within = omega (arith, here.within, length-append front all);
  each = λ place lt.
      let within : first + place < length all = omega (arith, here.within, lt) in
      let more : length front + first + place < length (front ++ all) = omega (arith, within, length-append front all) in
      slice_get-get_or (front ++ all) (length front + first + place) nobody more
      ∙ ap Some (ap (λ k. get_or (front ++ all) k nobody) (let same : length front + first + place ≡ length front + (first + place) = omega arith in same)
      ∙ get_or-append-add front all (first + place) nobody)
      ∙ sym (slice_get-get_or all (first + place) nobody within)
      ∙ here.each place lt;
}

-- each list stands among all
pub stands : (lists : List ListedBallots) (k : ℕ) (d : ListedBallots) → k < length lists
    → StandsFrom (length (all_listed (take k lists))) (get_or lists k d).ballots (all_listed lists)
stands [] k d within = absurd (omega (arith, within))
stands (list ∷ lists) zero d within =
    subst (λ all. StandsFrom 0 list.ballots all) (sym (listed-cons list lists)) (stands_first list.ballots (all_listed lists))
stands (list ∷ lists) (suc k) d within =
    let some = (get_or lists k d).ballots in
    let before = all_listed (take k lists) in
    let long : length list.ballots + length before ≡ length (all_listed (list ∷ take k lists)) =
    sym (ap length (listed-cons list (take k lists)) ∙ length-append list.ballots before) in
    subst (λ first. StandsFrom first some (all_listed (list ∷ lists))) long
    (subst (λ all. StandsFrom (length list.ballots + length before) some all) (sym (listed-cons list lists))
    (stands_behind (length before) some list.ballots (all_listed lists) (stands lists k d (omega (arith, within)))))

-- ---- what waits in them

-- what waits at the place of a ballot is its cell
pub waits_among : (e : Election) (f : ℕ → List ℕ) (all : List Ballot) (behind : List ℕ) (place number : ℕ) (b : Ballot) → IsElection e → All (IsValid e) all
    → length (f number) ≡ cell_size e → slice_get all place ≡ Some b → WaitsIn f (flat_map (ballot_bytes e) all) behind place number → ballot_bytes e b ≡ f number
waits_among e f all behind place number b election valid wide there waits =
    let front = flat_map (ballot_bytes e) all in
    let size = cell_size e in
    let at : place * length (f number) ≡ place * size = ap (λ n. place * n) wide in
    elim waits [
      | inl in_front ↦
          sym (cell_at_place e all place b election valid there)
          ∙ ap (λ n. take n (drop (place * n) front)) (sym wide)
          ∙ in_front.same
      | inr further ↦ absurd (omega (
        arith,
        further.0,
        at,
        length-cells e all election valid,
        cell_within place (length all) size (slice_get_within all place b there),
        number_fits e,
      ))
    ]

-- what waits past all waits behind them
pub waits_past : (e : Election) (f : ℕ → List ℕ) (all : List Ballot) (behind : List ℕ) (place number : ℕ) → IsElection e → All (IsValid e) all
    → length (f number) ≡ cell_size e → length all ≤ place → WaitsIn f (flat_map (ballot_bytes e) all) behind place number
    → Waits f behind ((place - length all) * cell_size e) number
waits_past e f all behind place number election valid wide past waits =
    let size = cell_size e in
    let count = length all in
    let more = place - count in
    let long = length-cells e all election valid in
    let at : place * length (f number) ≡ count * size + more * size =
    ap (λ n. place * n) wide ∙ ap (λ n. n * size) (let sum : place ≡ count + more = omega arith in sum) ∙ add-mul count more size in
    elim waits [
      | inl in_front ↦ absurd (omega (arith, in_front.within, at, long, wide, number_fits e))
      | inr further ↦ subst (λ from. Waits f behind from number)
          (let same : place * length (f number) - length (flat_map (ballot_bytes e) all) ≡ more * size = omega (arith, at, long) in same) further.1
    ]
