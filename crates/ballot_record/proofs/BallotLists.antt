-- The bytes of the cells of ballots, one behind another, and the ballots that they spell.
use Rattle.std.proofs.Common.{◌≡◌, ℕ, zero, suc, ◌+◌, ◌-◌, ◌*◌, ◌<◌, ◌≤◌, List, [], ◌∷◌, ◌++◌, Some, length, get_or, take, drop, refl, sym, ap, ap₂, subst, ◌∙◌, arith, length-append, mul-le-mul_right}
use Rattle.store_spec.proofs.Common.{All, All-append, All-head, All-tail, Ballot, Election, IsElection, IsValid, ballot_bytes, cell_size, drop-drop, drop_at, flat_map, flat_map-append, flat_map-cons, get_or_from_slice_get, length-drop, length-take-le, numbers_of, slice_get-map, slice_get_within, slice_range, take-append-drop, take_at}
use Rattle.std.proofs.lemmas.List.Elements.{All-drop, All-take}
use Rattle.std.specs.List.{slice_get}
use Rattle.std.specs.Option.{option_map}
use Rattle.ballot_record.proofs.CellFormat.{length-ballot_bytes, spells_itself}
use Rattle.ballot_record.specs.BallotList.{ballots_at}
use Rattle.ballot_record.specs.Format.{ballot_at}

-- the bytes are those of the cells of valid ballots
pub record AreCellsOf (e : Election) (bytes : List ℕ) (ballots : List Ballot) : Type 0 where
  pub election : IsElection e
  pub valid : All (IsValid e) ballots
  pub cells : bytes ≡ flat_map (ballot_bytes e) ballots

pub length-ballots_at : (e : Election) (n : ℕ) (bytes : List ℕ) → length (ballots_at e n bytes) ≡ n
unfolding ballots_at
length-ballots_at e zero bytes = refl
length-ballots_at e (suc n) bytes = ap suc (length-ballots_at e n (drop (cell_size e) bytes))

-- ballots are spelled by their cells
pub spelled_again : (e : Election) (ballots : List Ballot) → IsElection e → All (IsValid e) ballots → ballots_at e (length ballots) (flat_map (ballot_bytes e) ballots) ≡ ballots
unfolding ballots_at
spelled_again e [] election valid = refl
spelled_again e (b ∷ ballots) election valid =
    let own = All-head (IsValid e) b ballots valid in
    let more = flat_map (ballot_bytes e) ballots in
    let long = length-ballot_bytes e b election own in
    ap (ballots_at e (suc (length ballots))) (flat_map-cons (ballot_bytes e) b ballots)
    ∙ ap₂ (λ x xs. x ∷ xs)
    (ap (ballot_at e) (take_at (ballot_bytes e b) more (cell_size e) long) ∙ spells_itself e b election own)
    (ap (ballots_at e (length ballots)) (drop_at (ballot_bytes e b) more (cell_size e) long)
    ∙ spelled_again e ballots election (All-tail (IsValid e) b ballots valid))

pub length-cells : (e : Election) (ballots : List Ballot) → IsElection e → All (IsValid e) ballots → length (flat_map (ballot_bytes e) ballots) ≡ length ballots * cell_size e
length-cells e [] election valid = let none : 0 ≡ 0 * cell_size e = omega arith in none
length-cells e (b ∷ ballots) election valid =
    let f = ballot_bytes e in
    omega (
      arith,
      ap length (flat_map-cons f b ballots),
      length-append (f b) (flat_map f ballots),
      length-ballot_bytes e b election (All-head (IsValid e) b ballots valid),
      length-cells e ballots election (All-tail (IsValid e) b ballots valid),
    )

-- the cell at a place is that of the ballot there
pub cell_at_place : (e : Election) (ballots : List Ballot) (place : ℕ) (b : Ballot) → IsElection e → All (IsValid e) ballots → slice_get ballots place ≡ Some b
    → take (cell_size e) (drop (place * cell_size e) (flat_map (ballot_bytes e) ballots)) ≡ ballot_bytes e b
cell_at_place e [] place b election valid there = absurd cc
cell_at_place e (x ∷ xs) zero b election valid there =
    let f = ballot_bytes e in
    let same : x ≡ b = cc in
    ap (λ k. take (cell_size e) (drop k (flat_map f (x ∷ xs)))) (let none : 0 * cell_size e ≡ 0 = omega arith in none)
    ∙ ap (take (cell_size e)) (flat_map-cons f x xs)
    ∙ take_at (f x) (flat_map f xs) (cell_size e) (length-ballot_bytes e x election (All-head (IsValid e) x xs valid))
    ∙ ap f same
cell_at_place e (x ∷ xs) (suc place) b election valid there =
    let f = ballot_bytes e in
    let size = cell_size e in
    ap (λ k. take size (drop k (flat_map f (x ∷ xs)))) (let next : suc place * size ≡ size + place * size = omega arith in next)
    ∙ ap (λ bytes. take size (drop (size + place * size) bytes)) (flat_map-cons f x xs)
    ∙ ap (take size) (sym (drop-drop (place * size) size (f x ++ flat_map f xs)))
    ∙ ap (λ bytes. take size (drop (place * size) bytes))
    (drop_at (f x) (flat_map f xs) size (length-ballot_bytes e x election (All-head (IsValid e) x xs valid)))
    ∙ cell_at_place e xs place b election (All-tail (IsValid e) x xs valid) there

pub number_at_place : (ballots : List Ballot) (place : ℕ) (b : Ballot) → slice_get ballots place ≡ Some b → get_or (numbers_of ballots) place 0 ≡ b.number
number_at_place ballots place b there =
    get_or_from_slice_get (numbers_of ballots) place b.number 0 (slice_get-map (λ (b : Ballot). b.number) ballots place ∙ ap (option_map (λ (b : Ballot). b.number)) there)

-- what holds of each holds of the one at a place
pub holds_at_place : (P : Ballot → Type 0) (ballots : List Ballot) (place : ℕ) (b : Ballot) → All P ballots → slice_get ballots place ≡ Some b → P b
holds_at_place P ballots place b all there =
    subst P (get_or_from_slice_get ballots place b b there) (all place b (slice_get_within ballots place b there))

-- a cell ends within the bytes
pub cell_within : (place count size : ℕ) → place < count → place * size + size ≤ count * size
cell_within place count size within =
    let next : (place + 1) * size ≡ place * size + size = omega arith in
    let fits : (place + 1) * size ≤ count * size = mul-le-mul_right size (let le : place + 1 ≤ count = omega arith in le) in
    omega (arith, next, fits)

-- the cells from one place up to another are those of the ballots there
pub cells_between_places : (e : Election) (ballots : List Ballot) (from end : ℕ) → IsElection e → All (IsValid e) ballots → from ≤ end → end ≤ length ballots
    → take (end * cell_size e - from * cell_size e) (drop (from * cell_size e) (flat_map (ballot_bytes e) ballots)) ≡ flat_map (ballot_bytes e) (slice_range ballots from end)
cells_between_places e ballots from end election valid onward within =
    let f = ballot_bytes e in
    let size = cell_size e in
    let front = take from ballots in
    let behind = drop from ballots in
    let some = slice_range ballots from end in
    let rest = drop (end - from) behind in
    let parted : flat_map f ballots ≡ flat_map f front ++ (flat_map f some ++ flat_map f rest) =
    ap (flat_map f) (sym (take-append-drop from ballots)) ∙ flat_map-append f front behind
    ∙ ap (λ bytes. flat_map f front ++ bytes) (ap (flat_map f) (sym (take-append-drop (end - from) behind)) ∙ flat_map-append f some rest) in
    let before : length (flat_map f front) ≡ from * size =
    length-cells e front election (All-take (IsValid e) from ballots valid) ∙ ap (λ n. n * size) (length-take-le from ballots (omega arith)) in
    let count : length some ≡ end - from = length-take-le (end - from) behind (omega (arith, length-drop from ballots)) in
    let some_long : length (flat_map f some) ≡ (end - from) * size =
    length-cells e some election (All-take (IsValid e) (end - from) behind (All-drop (IsValid e) from ballots valid)) ∙ ap (λ n. n * size) count in
    let both : end * size ≡ from * size + (end - from) * size =
    ap (λ n. n * size) (let e : end ≡ from + (end - from) = omega arith in e) ∙ (let apart : (from + (end - from)) * size ≡ from * size + (end - from) * size = omega arith in apart) in
    let long : length (flat_map f some) ≡ end * size - from * size = omega (arith, some_long, both) in
    ap (λ bytes. take (end * size - from * size) (drop (from * size) bytes)) parted
    ∙ ap (take (end * size - from * size)) (drop_at (flat_map f front) (flat_map f some ++ flat_map f rest) (from * size) before)
    ∙ take_at (flat_map f some) (flat_map f rest) (end * size - from * size) long

-- more ballots
pub some_more : (e : Election) (bytes cells : List ℕ) (ballots more : List Ballot) → AreCellsOf e bytes ballots → All (IsValid e) more → cells ≡ flat_map (ballot_bytes e) more
    → AreCellsOf e (bytes ++ cells) (ballots ++ more)
some_more e bytes cells ballots more are valid is = record {
  election = are.election;
  valid = All-append (IsValid e) ballots more are.valid valid;
  cells = ap₂ (λ xs ys. xs ++ ys) are.cells is ∙ sym (flat_map-append (ballot_bytes e) ballots more);
}
