-- The sets of parts, up to one of them.
use Rattle.std.proofs.Common.{◌≡◌, ◌+◌, ◌^◌, ◌<◌, ℕ, zero, suc, List, [], ◌∷◌, ◌++◌, Option, Result, Ok, Err, OnErr, length, append_assoc, length-append, take, drop, get_or, refl, sym, ap, subst, ◌∙◌, arith}
use Rattle.store_spec.proofs.Common.{Ballot, Election, append-nil, flat_map-append, take_more}
use Rattle.outside_io.specs.Stream.{TakesAll, TakesSome}
use Rattle.partition_store.specs.Parted.{joined}
use Rattle.outside_io.proofs.Written.{none_taken, takes_on, takes_some}
use Rattle.tally_export.proofs.Writing.{records_append}
use Rattle.tally_export.specs.Exported.{records_text}

-- those before a part, that part, and those behind it
cut : (sets : List (List Ballot)) (i : ℕ) → i < length sets
    → joined sets ≡ joined (take i sets) ++ (get_or sets i [] ++ joined (drop (suc i) sets))
cut [] i lt = absurd (omega (arith, lt))
cut (s ∷ ss) zero lt = refl
cut (s ∷ ss) (suc i) lt =
    ap (λ xs. s ++ xs) (cut ss i (omega (arith, lt)))
    ∙ sym (append_assoc s (joined (take i ss)) (get_or ss i [] ++ joined (drop (suc i) ss)))

-- one part more
pub one_more : (sets : List (List Ballot)) (i : ℕ) → i < length sets
    → joined (take (i + 1) sets) ≡ joined (take i sets) ++ get_or sets i []
one_more sets i lt =
    ap joined (take_more sets i [] lt) ∙ flat_map-append (λ (set : List Ballot). set) (take i sets) (get_or sets i [] ∷ [])
    ∙ ap (λ (xs : List Ballot). joined (take i sets) ++ xs) (append-nil (get_or sets i []))

pub few_so_far : (sets : List (List Ballot)) (i : ℕ) → i < length sets → length (joined sets) < 2 ^ 32
    → length (joined (take i sets)) + length (get_or sets i []) < 2 ^ 58
few_so_far sets i lt few =
    let before = joined (take i sets) in
    let here = get_or sets i [] in
    let behind = joined (drop (suc i) sets) in
    omega (arith, few, ap length (cut sets i lt), length-append before (here ++ behind), length-append here behind)

-- ---- what a sink took

-- the lines of the parts before one, and some of its own
pub some_lines : (e : Election) (sets : List (List Ballot)) (i : ℕ) (a b c : Option (List ℕ)) → i < length sets
    → TakesAll a (records_text e (joined (take i sets))) b → TakesSome b (records_text e (get_or sets i [])) c
    → TakesSome a (records_text e (joined sets)) c
some_lines e sets i a b c lt one two =
    let before = joined (take i sets) in
    let here = get_or sets i [] in
    let behind = joined (drop (suc i) sets) in
    let whole : records_text e (joined sets) ≡ records_text e before ++ (records_text e here ++ records_text e behind) =
    ap (records_text e) (cut sets i lt) ∙ records_append e before (here ++ behind)
    ∙ ap (λ text. records_text e before ++ text) (records_append e here behind) in
    subst (λ text. TakesSome a text c) (sym whole)
    (takes_some a b c (records_text e before) (records_text e here) (records_text e behind) one two)

-- some of the first of two texts
pub some_of_first : (a c : Option (List ℕ)) (y z : List ℕ) → TakesSome a y c → TakesSome a (y ++ z) c
some_of_first a c y z some = takes_some a a c [] y z (none_taken a) some

-- all of the first, and some of the next
pub some_of_next : (a b c : Option (List ℕ)) (x y : List ℕ) → TakesAll a x b → TakesSome b y c → TakesSome a (x ++ y) c
some_of_next a b c x y one two =
    subst (λ text. TakesSome a (x ++ text) c) (append-nil y) (takes_some a b c x y [] one two)

-- the same where a call failed
pub next_on_failure : {T E : Type 0} (r : Result T E) (a b c : Option (List ℕ)) (x y : List ℕ) → TakesAll a x b
    → OnErr r (TakesSome b y c) → OnErr r (TakesSome a (x ++ y) c)
next_on_failure (Ok done) a b c x y one two = tt
next_on_failure (Err fault) a b c x y one two = some_of_next a b c x y one two

-- the lines of one part more
pub lines_on : (e : Election) (sets : List (List Ballot)) (i : ℕ) (a b c : Option (List ℕ)) → i < length sets
    → TakesAll a (records_text e (joined (take i sets))) b → TakesAll b (records_text e (get_or sets i [])) c
    → TakesAll a (records_text e (joined (take (i + 1) sets))) c
lines_on e sets i a b c lt one two =
    let before = joined (take i sets) in
    let here = get_or sets i [] in
    let all : records_text e before ++ records_text e here ≡ records_text e (joined (take (i + 1) sets)) =
    sym (records_append e before here) ∙ ap (records_text e) (sym (one_more sets i lt)) in
    subst (λ text. TakesAll a text c) all (takes_on a b c (records_text e before) (records_text e here) one two)
