-- The ballots of a set are joined one after another with those that are kept, both in ascending order.
use Rattle.std.proofs.Common.{◌≡◌, ◌≢◌, ℕ, ◌+◌, ◌-◌, ◌<◌, ◌≤◌, ⊎_elim, List, [], ◌∷◌, ◌++◌, length, get_or, map, take, drop, Option, Some, sym, ap, subst, ◌∙◌, append_assoc, length-append, arith}
use Rattle.store_spec.proofs.Common.{All, All-append, All-push, All-weaker, Ballot, Contains, Contains-append_right, Contains-get_or, append-nil, ballot_of, cases_lt, cell_count, cells_of, get_or-drop, get_or-map, get_or_default, get_or_from_slice_get, length-drop, length-map, numbers_of, slice_get, slice_get_within, slice_range, take_all, take_more}
use Rattle.ballot_record.proofs.BallotNumbers.{length-numbers_of, no_ballot, number_at}
use Rattle.ballot_record.proofs.BallotSets.{Ascend}
use Rattle.ballot_record.proofs.Lookups.{found_once}
use Rattle.body_store.proofs.BallotSets.{held_layout, may_hold_set}
use Rattle.body_store.specs.Contents.{Contents, IsStored}
use Rattle.body_store.specs.Places.{AreAt}
use Rattle.body_store.specs.declared.lookup.Place.{Place}
use Rattle.merge_media.proofs.Ascending.{AreAbove, AreBelow}
use Rattle.merge_media.proofs.Joining.{joined_begins}
use Rattle.merge_media.proofs.Ranges.{range_end, range_rest}
use Rattle.merge_media.specs.Union.{IsJoinedOf}

-- ---- one ballot

module _ (kept : List Ballot) (next n : ℕ) (within : next ≤ length kept) (not_below : next < length kept → n ≤ get_or (numbers_of kept) next 0) where
  -- the numbers from there on are above it, where the next one is another
  pub above_rest : Ascend (drop next kept) → (next < length kept → get_or (numbers_of kept) next 0 ≢ n) → AreAbove n (drop next kept)
  above_rest up other k d lt =
      let size = length-drop next kept in
      let first : n < (get_or (drop next kept) 0 no_ballot).number =
      let here : next < length kept = omega arith in
      let at : get_or (drop next kept) 0 no_ballot ≡ get_or kept next no_ballot = get_or-drop next kept 0 no_ballot ∙ ap (λ k. get_or kept k no_ballot) (let e : next + 0 ≡ next = omega arith in e) in
      let number : (get_or (drop next kept) 0 no_ballot).number ≡ get_or (numbers_of kept) next 0 = ap (λ (b : Ballot). b.number) at ∙ sym (number_at kept next 0 here) in
      let not_same = other here in
      let least = not_below here in
      omega arith in
      let zeroth : (get_or (drop next kept) 0 d).number ≡ (get_or (drop next kept) 0 no_ballot).number = ap (λ (b : Ballot). b.number) (get_or_default (drop next kept) 0 d no_ballot (omega arith)) in
      ⊎_elim
      (λ (later : 0 < k). let less = up 0 k d later lt in omega arith)
      (λ (none : k ≤ 0).
      let is : 0 ≡ k = omega arith in
      subst (λ j. n < (get_or (drop next kept) j d).number) is (omega arith))
      (cases_lt 0 k)

-- ---- a run

pub record IsRun (kept set out : List Ballot) (next i : ℕ) (start now : Option ℕ) : Type 0 where
  pub within : next ≤ length kept
  pub ascending : Ascend (out ++ drop next kept)
  pub below : (d : Ballot) → i < length set → AreBelow (get_or set i d).number out
  pub few : length out + (length kept - next) ≤ length kept + i
  pub joined : (sets : List (List Ballot)) → IsJoinedOf sets kept start → IsJoinedOf (take i set ∷ sets) (out ++ drop next kept) now

pub run_begins : (kept set : List Ballot) (start : Option ℕ) → Ascend kept → IsRun kept set [] 0 0 start start
run_begins kept set start up = record {
  within = omega arith;
  ascending = up;
  below = λ d lt k e none. absurd (omega arith);
  few = omega arith;
  joined = λ sets j. joined_begins sets kept start j;
}

module _ (kept set : List Ballot) (start : Option ℕ) where
  -- those below the next one are put out
  put_below : (out more : List Ballot) (next end : ℕ) → next ≤ end → more ≡ out ++ slice_range kept next end → more ++ drop end kept ≡ out ++ drop next kept
  put_below out more next end le is =
      ap (λ xs. xs ++ drop end kept) is ∙ append_assoc out (slice_range kept next end) (drop end kept)
      ∙ ap (λ xs. out ++ xs) (range_rest kept next end le)

  pub below_next : (out more : List Ballot) (next end i n : ℕ) (now : Option ℕ) (d : Ballot) → IsRun kept set out next i start now → i < length set
      → (get_or set i d).number ≡ n → more ≡ out ++ slice_range kept next end → AreBelow n (slice_range kept next end) → AreBelow n more
  below_next out more next end i n now d run lt is made below =
      subst (AreBelow n) (sym made)
      (All-append (λ (b : Ballot). b.number < n) out (slice_range kept next end)
      (subst (λ n. AreBelow n out) is (run.below d lt)) below)

  -- and that one is joined
  pub run_on : (out more after : List Ballot) (next end i : ℕ) (now then' : Option ℕ) (s : Ballot) → Ascend set → IsRun kept set out next i start now → i < length set
      → get_or set i s ≡ s → next ≤ end → end ≤ length kept → more ≡ out ++ slice_range kept next end
      → ((before : List Ballot) (sets : List (List Ballot)) → IsJoinedOf (before ∷ sets) (more ++ drop end kept) now → IsJoinedOf ((before ++ s ∷ []) ∷ sets) (after ++ drop end kept) then')
      → (Ascend (more ++ drop end kept) → Ascend (after ++ drop end kept)) → All (λ b. b.number ≤ s.number) after → length after ≤ length more + 1
      → IsRun kept set after end (i + 1) start then'
  run_on out more after next end i now then' s up run lt is onward within made joins ascends below count =
      let same = put_below out more next end onward made in
      let size : length more ≡ length out + (length kept - next - (length kept - end)) =
      let all : length (more ++ drop end kept) ≡ length (out ++ drop next kept) = ap length same in
      omega (arith, all, length-append more (drop end kept), length-append out (drop next kept), length-drop end kept, length-drop next kept, run.within) in
      record {
        within = within;
        ascending = ascends (subst Ascend (sym same) run.ascending);
        below = λ d more.
            let less = up i (i + 1) d (omega arith) more in
            let number : (get_or set i d).number ≡ s.number = ap (λ (b : Ballot). b.number) (get_or_default set i d s lt ∙ is) in
            All-weaker (λ (b : Ballot). b.number ≤ s.number) (λ (b : Ballot). b.number < (get_or set (i + 1) d).number) (λ b le. omega arith) after below;
        few = omega (arith, run.few, run.within);
        joined = λ sets j.
            let before = subst (λ xs. IsJoinedOf (take i set ∷ sets) xs now) (sym same) (run.joined sets j) in
            let next_set : take i set ++ s ∷ [] ≡ take (i + 1) set = ap (λ b. take i set ++ b ∷ []) (sym is) ∙ sym (take_more set i s lt) in
            subst (λ xs. IsJoinedOf (xs ∷ sets) (after ++ drop end kept) then') next_set (joins (take i set) sets before);
      }

  -- all of the set were joined, and the rest of what is kept is put out
  pub run_ends : (out all : List Ballot) (next i : ℕ) (now : Option ℕ) → IsRun kept set out next i start now → length set ≤ i → all ≡ out ++ slice_range kept next (length kept)
      → Ascend all × ((sets : List (List Ballot)) → IsJoinedOf sets kept start → IsJoinedOf (set ∷ sets) all now)
  run_ends out all next i now run far made =
      let is : all ≡ out ++ drop next kept = made ∙ ap (λ xs. out ++ xs) (range_end kept next run.within) in (
        subst Ascend (sym is) run.ascending,
        λ sets j.
            subst (λ xs. IsJoinedOf (set ∷ sets) xs now) (sym is)
            (subst (λ xs. IsJoinedOf (xs ∷ sets) (out ++ drop next kept) now) (take_all i set far) (run.joined sets j)),
      )

  pub run_few : (out all : List Ballot) (next i : ℕ) (now : Option ℕ) → IsRun kept set out next i start now → all ≡ out ++ slice_range kept next (length kept)
      → length all ≤ length kept + i
  run_few out all next i now run made =
      let is : all ≡ out ++ drop next kept = made ∙ ap (λ xs. out ++ xs) (range_end kept next run.within) in
      omega (arith, ap length is, length-append out (drop next kept), length-drop next kept, run.few)

-- the ballot of a set with the number at a place
pub found_at : (set : List Ballot) (i n : ℕ) → Ascend set → i < length set → get_or (numbers_of set) i 0 ≡ n → ballot_of set n ≡ Some (get_or set i no_ballot)
found_at set i n up lt is =
    found_once set n (get_or set i no_ballot) (λ i j d less within same. let above = up i j d less within in omega arith)
    (Contains-get_or set i no_ballot lt) (sym (number_at set i 0 lt) ∙ is)

-- ---- the ballot that stands next

pub next_kept : (out kept : List Ballot) (next : ℕ) (b : Ballot) → slice_get kept next ≡ Some b → Contains (out ++ drop next kept) b
next_kept out kept next b there =
    let lt = slice_get_within kept next b there in
    let at : get_or (drop next kept) 0 b ≡ b = get_or-drop next kept 0 b ∙ ap (λ k. get_or kept k b) (let e : next + 0 ≡ next = omega arith in e) ∙ get_or_from_slice_get kept next b b there in
    Contains-append_right out (drop next kept) b (0, omega (arith, length-drop next kept), at)

pub below_after : (out after : List Ballot) (s : Ballot) → AreBelow s.number out → after ≡ out ++ s ∷ [] → All (λ b. b.number ≤ s.number) after
below_after out after s below pushed =
    subst (All (λ (b : Ballot). b.number ≤ s.number)) (sym pushed)
    (All-push (λ (b : Ballot). b.number ≤ s.number) out s
    (All-weaker (λ (b : Ballot). b.number < s.number) (λ (b : Ballot). b.number ≤ s.number) (λ b lt. omega arith) out below) (omega arith))

-- ---- the places of a set, one after another

pub numbered : (set : List Ballot) (listed held : List Place) (i : ℕ) (d : Place) → listed ≡ held → map (λ place. place.number) held ≡ numbers_of set → i < length listed
    → (i < length set) × (get_or (numbers_of set) i 0 ≡ (get_or listed i d).number)
numbered set listed held i d same numbers lt =
    let all : map (λ place. place.number) listed ≡ numbers_of set = ap (map (λ (place : Place). place.number)) same ∙ numbers in
    let size : length listed ≡ length set = sym (length-map listed (λ place. place.number)) ∙ ap length all ∙ length-numbers_of set in
    (omega arith, ap (λ ns. get_or ns i 0) (sym all) ∙ get_or-map (λ (place : Place). place.number) listed i d 0 lt)

pub listed_all : (set : List Ballot) (listed held : List Place) → listed ≡ held → map (λ place. place.number) held ≡ numbers_of set → length listed ≡ length set
listed_all set listed held same numbers =
    sym (length-map listed (λ place. place.number)) ∙ ap length (ap (map (λ (place : Place). place.number)) same ∙ numbers) ∙ length-numbers_of set

abbrev pub nowhere : Place
nowhere = record { number = 0; cell = 0 }

-- the ballot of a store whose number stands at a place, and its cell
pub record StandsNext (store : Contents) (i n cell : ℕ) : Type 0 where
  pub within : i < length store.ballots
  pub number : (get_or store.ballots i no_ballot).number ≡ n
  pub cell_within : cell < cell_count store.election
  pub found : ballot_of store.ballots (get_or (cells_of store.election store.ballots) cell 0) ≡ Some (get_or store.ballots i no_ballot)

pub stands_next : (store : Contents) (listed held : List Place) (i : ℕ) → IsStored store → listed ≡ held
    → map (λ place. place.number) held ≡ numbers_of store.ballots → AreAt (cells_of store.election store.ballots) held → i < length listed
    → StandsNext store i (get_or listed i nowhere).number (get_or listed i nowhere).cell
stands_next store listed held i stored same numbers are lt =
    let set = store.ballots in
    let place = get_or listed i nowhere in
    let at = numbered set listed held i nowhere same numbers lt in
    let there = subst (AreAt (cells_of store.election set)) (sym same) are i nowhere lt in
    let size = (held_layout store.election set stored.election (may_hold_set store.election set stored.set stored.within_limit)).size in
    record {
      within = at.0;
      number = sym (number_at set i 0 at.0) ∙ at.1;
      cell_within = omega (arith, there.0, size);
      found = ap (ballot_of set) there.1 ∙ found_at set i place.number stored.set.ascending at.0 at.1;
    }
