-- What the fields of a list of ballots say of the ballots that it shows.
use Rattle.std.proofs.Common.{◌≡◌, ℕ, ◌+◌, ◌-◌, ◌*◌, ◌/◌, ◌<◌, ◌≤◌, List, [], ◌∷◌, ◌++◌, Some, length, get_or, take, drop, sym, ap, ap₂, subst, ◌∙◌, arith, length-append, mul-le-mul_left, mul-le-mul_right, vec_capacity}
use Rattle.store_spec.proofs.Common.{All, All-nil, All-push, Ballot, Election, IsCellOf, IsElection, IsValid, append-nil, ballot_bytes, cell_size, flat_map, flat_map-cons, length-drop, length-take-le, number_at, numbers_of, slice_get-get_or, slice_range}
use Rattle.std.proofs.lemmas.List.Elements.{All-drop, All-take}
use Rattle.std.specs.List.{slice_get}
use Rattle.ballot_record.proofs.BallotLists.{AreCellsOf, cell_at_place, cell_within, length-ballots_at, length-cells, number_at_place, some_more, spelled_again}
use Rattle.ballot_record.proofs.CellFormat.{number_fits, number_of_bytes}
use Rattle.ballot_record.specs.BallotList.{ListedBallots, ballots_at, empty_list, with_more}
use Rattle.ballot_record.specs.BallotListKept.{IsBallotList, list_seen}
use Rattle.ballot_record.specs.declared.list.BallotList.TheInside.{Inside}

-- fields that keep these ballots, show them
pub kept_with : (a : Inside) (ballots : List Ballot) → AreCellsOf a.of.value a.bytes.items ballots → a.count ≡ length ballots → a.size ≡ cell_size a.of.value → a.places * a.size ≤ vec_capacity a.bytes
    → IsBallotList a × (ballots_at a.of.value a.count a.bytes.items ≡ ballots)
kept_with a ballots are count width reserved =
    let e = a.of.value in
    let spelled : ballots_at e a.count a.bytes.items ≡ ballots = ap₂ (ballots_at e) count are.cells ∙ spelled_again e ballots are.election are.valid in (
      record {
        election = are.election;
        width = width;
        valid = subst (All (IsValid e)) (sym spelled) are.valid;
        bytes = are.cells ∙ ap (flat_map (ballot_bytes e)) (sym spelled);
        reserved = reserved;
      },
      spelled,
    )

pub cells_kept : (a : Inside) → IsBallotList a → AreCellsOf a.of.value a.bytes.items (list_seen a).ballots
cells_kept a kept = record { election = kept.election; valid = kept.valid; cells = kept.bytes }

-- the cells up to a place end within the bytes
pub ends_within : (a : Inside) (end : ℕ) → IsBallotList a → end ≤ length (list_seen a).ballots → end * a.size ≤ length a.bytes.items
ends_within a end kept within =
    let ballots = (list_seen a).ballots in
    let long : length a.bytes.items ≡ length ballots * a.size =
    ap length kept.bytes ∙ length-cells a.of.value ballots kept.election kept.valid ∙ ap (λ size. length ballots * size) (sym kept.width) in
    omega (arith, mul-le-mul_right a.size within, long)

pub long_enough : (a : Inside) (place : ℕ) → IsBallotList a → place < length (list_seen a).ballots → place * a.size + a.size ≤ length a.bytes.items
long_enough a place kept within =
    let next : (place + 1) * a.size ≡ place * a.size + a.size = omega arith in
    omega (arith, next, ends_within a (place + 1) kept (omega arith))

-- a cell has room for a number
pub few_kept : (a : Inside) (long : ℕ) → IsBallotList a → long ≡ length a.bytes.items → a.count ≤ long / 8
few_kept a long kept is =
    let e = a.of.value in
    let ballots = (list_seen a).ballots in
    let cells : length a.bytes.items ≡ length ballots * cell_size e = ap length kept.bytes ∙ length-cells e ballots kept.election kept.valid in
    let wide : length ballots * 8 ≤ length ballots * cell_size e = mul-le-mul_left (length ballots) (number_fits e) in
    omega (arith, is, cells, wide, length-ballots_at e a.count a.bytes.items)

-- where there is room, there is memory for one more
pub room_for_one : (a : Inside) (list : ListedBallots) → IsBallotList a → list_seen a ≡ list → 0 < list.room → length a.bytes.items + cell_size a.of.value ≤ vec_capacity a.bytes
room_for_one a list kept seen some =
    let e = a.of.value in
    let ballots = (list_seen a).ballots in
    let left : 0 < a.places - a.count = subst (λ (list : ListedBallots). 0 < list.room) (sym seen) some in
    let count = length-ballots_at e a.count a.bytes.items in
    let cells : length a.bytes.items ≡ a.count * a.size =
    ap length kept.bytes ∙ length-cells e ballots kept.election kept.valid ∙ ap₂ (λ x y. x * y) count (sym kept.width) in
    omega (arith, cell_within a.count a.places a.size (omega arith), cells, kept.reserved, kept.width)

-- what stands at a place is the cell of the ballot there
pub cell_there : (a : Inside) (list : ListedBallots) (place : ℕ) (cell cells : List ℕ) → IsBallotList a → list_seen a ≡ list → place < length list.ballots
    → cells ≡ a.bytes.items → cell ≡ take a.size (drop (place * a.size) cells)
    → (b : Ballot) × (slice_get list.ballots place ≡ Some b) × IsCellOf list.election cell b
cell_there a list place cell cells kept seen within same is =
    let e = a.of.value in
    let ballots = (list_seen a).ballots in
    let none : Ballot = record { number = 0; style = 0; marks = [] } in
    let b = get_or ballots place none in
    let lt : place < length ballots = subst (λ (list : ListedBallots). place < length list.ballots) (sym seen) within in
    let there : slice_get ballots place ≡ Some b = slice_get-get_or ballots place none lt in
    let bytes : cell ≡ ballot_bytes e b =
    is ∙ ap (λ bytes. take a.size (drop (place * a.size) bytes)) (same ∙ kept.bytes)
    ∙ ap (λ size. take size (drop (place * size) (flat_map (ballot_bytes e) ballots))) kept.width
    ∙ cell_at_place e ballots place b kept.election kept.valid there in
    subst (λ (list : ListedBallots). (b : Ballot) × (slice_get list.ballots place ≡ Some b) × IsCellOf list.election cell b) seen
    (b, there, (kept.valid place none lt, bytes))

pub number_there : (e : Election) (ballots : List Ballot) (place : ℕ) (cell : List ℕ) (b : Ballot) → slice_get ballots place ≡ Some b → IsCellOf e cell b
    → number_at cell ≡ get_or (numbers_of ballots) place 0
number_there e ballots place cell b there is =
    ap number_at is.1 ∙ number_of_bytes e b is.0.short_number ∙ sym (number_at_place ballots place b there)

-- a list that was just made
pub made_empty : (a : Inside) (e : Election) → a.of.value ≡ e → IsElection e → a.size ≡ cell_size e → a.bytes.items ≡ [] → a.count ≡ 0 → a.places * a.size ≤ vec_capacity a.bytes
    → IsBallotList a × (list_seen a ≡ empty_list e a.places)
made_empty a e own election width none count reserved =
    let back = sym own in
    let kept = kept_with a [] (record {
      election = subst IsElection back election;
      valid = All-nil (IsValid a.of.value);
      cells = none;
    }) count (width ∙ ap cell_size back) reserved in (
      kept.0,
      ap₂ (λ (e : Election) (ballots : List Ballot). record { election = e; ballots = ballots; room = a.places - a.count }) own kept.1
          ∙ ap (λ room. record { election = e; ballots = []; room = room }) (let left : a.places - a.count ≡ a.places = omega (arith, count) in left),
    )

-- a list to which the cells of more ballots were appended
pub put_more : (a now : Inside) (cells : List ℕ) (more : List Ballot) → IsBallotList a → All (IsValid a.of.value) more → cells ≡ flat_map (ballot_bytes a.of.value) more
    → now.of ≡ a.of → now.size ≡ a.size → now.places ≡ a.places → now.count ≡ a.count + length more
    → now.bytes.items ≡ a.bytes.items ++ cells → vec_capacity a.bytes ≤ vec_capacity now.bytes
    → IsBallotList now × (list_seen now ≡ record { election = a.of.value; ballots = (list_seen a).ballots ++ more; room = now.places - now.count })
put_more a now cells more kept valid is of size places count bytes capacity =
    let e = a.of.value in
    let own : now.of.value ≡ e = ap (λ of. of.value) of in
    let all = (list_seen a).ballots ++ more in
    let are : AreCellsOf now.of.value now.bytes.items all =
    subst (λ (e : Election). AreCellsOf e now.bytes.items all) (sym own)
    (subst (λ bytes. AreCellsOf e bytes all) (sym bytes) (some_more e a.bytes.items cells (list_seen a).ballots more (cells_kept a kept) valid is)) in
    let spells = kept_with now all are
    (omega (arith, count, length-append (list_seen a).ballots more, length-ballots_at e a.count a.bytes.items))
    (size ∙ kept.width ∙ ap cell_size (sym own))
    (let same : now.places * now.size ≡ a.places * a.size = ap₂ (λ x y. x * y) places size in omega (arith, same, kept.reserved, capacity)) in (
      spells.0,
      ap₂ (λ (e : Election) (ballots : List Ballot). record { election = e; ballots = ballots; room = now.places - now.count }) own spells.1,
    )

-- a list to which a cell was appended
pub put_behind : (a now : Inside) (cell : List ℕ) (b : Ballot) → IsBallotList a → IsCellOf a.of.value cell b → now.of ≡ a.of → now.size ≡ a.size → now.places ≡ a.places → now.count ≡ a.count + 1
    → now.bytes.items ≡ a.bytes.items ++ cell → vec_capacity a.bytes ≤ vec_capacity now.bytes
    → IsBallotList now × (list_seen now ≡ with_more (list_seen a) b)
put_behind a now cell b kept is of size places count bytes capacity =
    let e = a.of.value in
    let f = ballot_bytes e in
    let put = put_more a now cell (b ∷ []) kept (All-push (IsValid e) [] b (All-nil (IsValid e)) is.0)
    (is.1 ∙ sym (flat_map-cons f b [] ∙ append-nil (f b))) of size places count bytes capacity in (
      put.0,
      put.1 ∙ ap (λ room. record { election = e; ballots = (list_seen a).ballots ++ b ∷ []; room = room }) (let left : now.places - now.count ≡ a.places - a.count - 1 = omega (arith, places, count) in left),
    )

-- a list to which the cells of another were appended, from one place up to another
pub put_range : (a now o : Inside) (list other : ListedBallots) (cells : List ℕ) (from end : ℕ) → IsBallotList a → list_seen a ≡ list → IsBallotList o → list_seen o ≡ other
    → other.election ≡ list.election → (from ≤ end) × (end ≤ length other.ballots) → cells ≡ flat_map (ballot_bytes other.election) (slice_range other.ballots from end)
    → now.of ≡ a.of → now.size ≡ a.size → now.places ≡ a.places → now.count ≡ a.count + (end - from)
    → now.bytes.items ≡ a.bytes.items ++ cells → vec_capacity a.bytes ≤ vec_capacity now.bytes
    → IsBallotList now × ((list_seen now).ballots ≡ list.ballots ++ slice_range other.ballots from end)
put_range a now o list other cells from end kept seen others_kept others_seen own within is of size places count bytes capacity =
    let e = a.of.value in
    let some = slice_range other.ballots from end in
    let same : other.election ≡ e = own ∙ sym (ap (λ (list : ListedBallots). list.election) seen) in
    let all : All (IsValid other.election) other.ballots = subst (λ (list : ListedBallots). All (IsValid list.election) list.ballots) others_seen others_kept.valid in
    let valid = subst (λ (e : Election). All (IsValid e) some) same (All-take (IsValid other.election) (end - from) (drop from other.ballots) (All-drop (IsValid other.election) from other.ballots all)) in
    let many : length some ≡ end - from = length-take-le (end - from) (drop from other.ballots) (omega (arith, length-drop from other.ballots)) in
    let put = put_more a now cells some kept valid (is ∙ ap (λ (e : Election). flat_map (ballot_bytes e) some) same) of size places
    (count ∙ ap (λ n. a.count + n) (sym many)) bytes capacity in (
      put.0,
      ap (λ (list : ListedBallots). list.ballots) put.1 ∙ ap (λ (list : ListedBallots). list.ballots ++ some) seen,
    )
