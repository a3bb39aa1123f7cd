-- What is kept of a store in parts is a store in parts.
use Rattle.std.proofs.Common.{◌≡◌, ◌+◌, ◌^◌, ◌<◌, ◌≤◌, ℕ, zero, suc, List, [], ◌∷◌, ◌++◌, EachIndex, length, append_assoc, length-append, take, get_or, refl, sym, ap, subst, ◌∙◌, ⊎_elim, arith}
use Rattle.store_spec.proofs.Common.{All, All-map, Ballot, Election, IsElection, append-nil, cases_lt, example, flat_map-append, get_or_append_left, length-map, map-append, most_ballots, take_more}
use Rattle.std.proofs.Math.Seq.{get_or-append_seam}
use Rattle.body_store.specs.Contents.{Contents, IsStored}
use Rattle.partition_store.specs.Parted.{AreBits, AreFurther, AreParts, BelongsTo, IsPart, IsParted, bits_of, joined}
use Rattle.partition_store.specs.PartedKept.{AreStores, IsPartedKept, election_of, parted_of, sets_of}
use Rattle.partition_store.specs.declared.store.PartStore.TheInside.{Inside}

no_store : Contents
no_store = record { election = example; ballots = [] }

pub two_parts : (bits : ℕ) → AreBits bits → 2 ≤ 2 ^ bits
two_parts zero are = absurd (omega (arith, are.some))
two_parts (suc zero) are = omega arith
two_parts (suc (suc zero)) are = omega arith
two_parts (suc (suc (suc zero))) are = omega arith
two_parts (suc (suc (suc (suc n)))) are = absurd (omega (arith, are.few))

module _ (e : Election) (stores : List Contents) (are : AreStores e stores) where
  -- the set of each is a part's
  pub each_part : All (IsPart e) (sets_of stores)
  each_part = All-map (IsPart e) (λ (store : Contents). store.ballots) stores
      (λ k d lt.
      let one = are k d lt in
      subst (λ e. IsPart e (get_or stores k d).ballots) one.0 (one.1.set, one.1.within_limit))

  pub some_election : 0 < length stores → IsElection e
  some_election lt = let one = are 0 no_store lt in subst IsElection one.0 one.1.election

pub stores_parted : (bits : ℕ) (stores : List Contents) → AreBits bits → AreParts bits (sets_of stores) → AreStores (election_of stores) stores
    → IsParted (record { election = election_of stores; bits = bits; sets = sets_of stores })
stores_parted bits stores bits_are parts are = record {
  election = some_election (election_of stores) stores are (omega (arith, parts.count, two_parts bits bits_are, length-map stores (λ (store : Contents). store.ballots)));
  bits = bits_are;
  parts = parts;
  sets = each_part (election_of stores) stores are;
}

pub kept_parted : (a : Inside) → IsPartedKept a → IsParted (parted_of a)
kept_parted a kept = stores_parted a.bits a.parts.items kept.bits kept.parts kept.stores

pub few_parts : (bits : ℕ) → AreBits bits → 2 ^ bits ≤ 8
few_parts zero are = omega arith
few_parts (suc zero) are = omega arith
few_parts (suc (suc zero)) are = omega arith
few_parts (suc (suc (suc zero))) are = omega arith
few_parts (suc (suc (suc (suc n)))) are = absurd (omega (arith, are.few))

-- so many stores are kept
pub kept_few : (a : Inside) → IsPartedKept a → length a.parts.items ≤ 8
kept_few a kept = omega (arith, kept.parts.count, few_parts a.bits kept.bits, length-map a.parts.items (λ (store : Contents). store.ballots))

-- ---- they are counted

pub few_more : (store : Contents) → IsStored store → length store.ballots ≤ most_ballots
few_more store stored = omega (arith, stored.within_limit, stored.election.few_ballots)

pub counted_on : (stores : List Contents) (i : ℕ) (store : Contents) → i < length stores → store ≡ get_or stores i store
    → length (joined (sets_of (take (i + 1) stores))) ≡ length (joined (sets_of (take i stores))) + length store.ballots
counted_on stores i store lt is =
    let ballots : Contents → List Ballot = λ store. store.ballots in
    let more : take (i + 1) stores ≡ take i stores ++ store ∷ [] = take_more stores i store lt ∙ ap (λ s. take i stores ++ s ∷ []) (sym is) in
    let sets : sets_of (take (i + 1) stores) ≡ sets_of (take i stores) ++ store.ballots ∷ [] = ap sets_of more ∙ map-append ballots (take i stores) (store ∷ []) in
    let all : joined (sets_of (take (i + 1) stores)) ≡ joined (sets_of (take i stores)) ++ (store.ballots ++ []) = ap joined sets ∙ flat_map-append (λ (set : List Ballot). set) (sets_of (take i stores)) (store.ballots ∷ []) in
    ap length all ∙ length-append (joined (sets_of (take i stores))) (store.ballots ++ []) ∙ ap (λ (xs : List Ballot). length (joined (sets_of (take i stores))) + length xs) (append-nil store.ballots)

-- ---- a store joins those of the parts before it

pub own_more : (bits : ℕ) (stores : List Contents) (store : Contents) → EachIndex stores (λ part. BelongsTo bits part (get_or (sets_of stores) part []))
    → BelongsTo bits (length stores) store.ballots → EachIndex (stores ++ store ∷ []) (λ part. BelongsTo bits part (get_or (sets_of (stores ++ store ∷ [])) part []))
own_more bits stores store own one part lt =
    let sets : sets_of (stores ++ store ∷ []) ≡ sets_of stores ++ store.ballots ∷ [] = map-append (λ (s : Contents). s.ballots) stores (store ∷ []) in
    let many : length (sets_of stores) ≡ length stores = length-map stores (λ (s : Contents). s.ballots) in
    subst (λ sets. BelongsTo bits part (get_or sets part [])) (sym sets)
    (⊎_elim
    (λ (before : part < length stores).
    subst (BelongsTo bits part) (sym (get_or_append_left (sets_of stores) (store.ballots ∷ []) [] part (omega arith))) (own part before))
    (λ (not : length stores ≤ part).
    let here : length stores ≡ part = omega (arith, length-append stores (store ∷ [])) in
    let there : get_or (sets_of stores ++ store.ballots ∷ []) part [] ≡ store.ballots =
    ap (λ k. get_or (sets_of stores ++ store.ballots ∷ []) k []) (sym here ∙ sym many) ∙ get_or-append_seam (sets_of stores) store.ballots [] [] in
    subst (BelongsTo bits part) (sym there) (subst (λ part. BelongsTo bits part store.ballots) here one))
    (cases_lt part (length stores)))

pub sets_more : (first stores : List Contents) (sets : List (List Ballot)) (store : Contents) → sets_of stores ≡ sets_of first ++ sets
    → sets_of (stores ++ store ∷ []) ≡ sets_of first ++ (sets ++ store.ballots ∷ [])
sets_more first stores sets store is =
    map-append (λ (s : Contents). s.ballots) stores (store ∷ []) ∙ ap (λ (xs : List (List Ballot)). xs ++ store.ballots ∷ []) is ∙ append_assoc (sets_of first) sets (store.ballots ∷ [])

-- ---- the stores of all parts

pub bits_are : (more : ℕ) → AreFurther more → AreBits (bits_of more)
bits_are more few = ⊎_elim
    (λ (is : more ≡ 1). subst (λ m. AreBits (bits_of m)) (sym is) (record { some = omega arith; few = omega arith }))
    (λ rest. ⊎_elim
    (λ (is : more ≡ 3). subst (λ m. AreBits (bits_of m)) (sym is) (record { some = omega arith; few = omega arith }))
    (λ (is : more ≡ 7). subst (λ m. AreBits (bits_of m)) (sym is) (record { some = omega arith; few = omega arith }))
    rest)
    few

pub all_parts : (more : ℕ) → AreFurther more → 2 ^ bits_of more ≡ more + 1
all_parts more few = ⊎_elim
    (λ (is : more ≡ 1). subst (λ m. 2 ^ bits_of m ≡ m + 1) (sym is) refl)
    (λ rest. ⊎_elim
    (λ (is : more ≡ 3). subst (λ m. 2 ^ bits_of m ≡ m + 1) (sym is) refl)
    (λ (is : more ≡ 7). subst (λ m. 2 ^ bits_of m ≡ m + 1) (sym is) refl)
    rest)
    few

pub own_election : (e : Election) (stores : List Contents) → AreStores e stores → 0 < length stores → election_of stores ≡ e
own_election e [] are lt = let never : ⊥ = omega arith in absurd never
own_election e (store ∷ stores) are lt = (are 0 store lt).0

-- the sets of so many further media, behind that of the first
pub are_parts : (bits more : ℕ) (stores : List Contents) (first : List Ballot) (sets : List (List Ballot)) → bits ≡ bits_of more → AreFurther more → length sets ≡ more
    → sets_of stores ≡ first ∷ sets → EachIndex stores (λ part. BelongsTo bits part (get_or (sets_of stores) part [])) → AreParts bits (sets_of stores)
are_parts bits more stores first sets is few many are own =
    let all : length (sets_of stores) ≡ length sets + 1 = ap length are ∙ omega arith in
    record {
      count = all ∙ ap (λ n. n + 1) many ∙ sym (all_parts more few) ∙ ap (λ bits. 2 ^ bits) (sym is);
      own = λ part lt. own part (subst (λ n. part < n) (length-map stores (λ (s : Contents). s.ballots)) lt);
    }
