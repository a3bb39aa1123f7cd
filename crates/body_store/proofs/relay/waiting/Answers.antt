use Rattle.std.proofs.Common.{ℕ, List, Some, ◌≡◌, ◌+◌, ◌*◌, ◌-◌, ◌≤◌, length, take, drop, subst, sym, ap, ◌∙◌, arith}
use Rattle.store_spec.proofs.Common.{All, Election, IsElection, IsValid, ballot_bytes, cell_size, flat_map, slice_get, take_all}
use Rattle.ballot_record.specs.BallotList.{ListedBallots}
use Rattle.body_store.proofs.Listed.{stands, waits_among, waits_past}
use Rattle.body_store.proofs.relay.waiting.Goals as goal
use Rattle.body_store.specs.Contents.{all_listed}
use Rattle.body_store.specs.Fronts.{IsListStart}
use Rattle.body_store.specs.Moves.{Waits, WaitsIn}
use Rattle.body_store.specs.declared.relay.Front.{Front}

-- what waits behind all lists
behind : (e : Election) (f : ℕ → List ℕ) (lists : List ListedBallots) (front : Front) (bytes : List ℕ) (place number size : ℕ) → IsElection e
    → All (IsValid e) (all_listed lists) → IsListStart lists front → front.first ≤ place → length lists ≤ front.list → size ≡ cell_size e
    → length (f number) ≡ cell_size e → WaitsIn f (flat_map (ballot_bytes e) (all_listed lists)) bytes place number
    → Waits f bytes ((place - front.first) * size) number
behind e f lists front bytes place number size election valid is past whole own wide waits =
    let first : length (all_listed lists) ≡ front.first =
    ap (λ lists. length (all_listed lists)) (sym (take_all front.list lists whole)) ∙ sym is.first in
    subst (λ n. Waits f bytes ((place - n) * size) number) first
    (subst (λ size. Waits f bytes ((place - length (all_listed lists)) * size) number) (sym own)
    (waits_past e f (all_listed lists) bytes place number election valid wide (omega (arith, first, past)) waits))

pub returns-then-front-lists : goal.returns-then-front-lists
returns-then-front-lists g c number wide waits =
    let e = c.args.election.now in
    let lists = c.args.lists.now in
    let list = c.index-lists-front.result in
    let all = all_listed lists in
    let at = c.args.front.list in
    let within = c.if-front-lists.true in
    let cell = c.cell.ensures.cell in
    let same : list.election ≡ e = ap (λ (list : ListedBallots). list.election) c.index-lists-front.is ∙ c.requires.0 at list within in
    let here = stands lists at list within in
    let there = here.each (c.args.place - c.args.front.first)
    (omega (arith, c.requires.1.1.1.1.0 within list, c.requires.1.1.1.0)) in
    let place : length (all_listed (take at lists)) + (c.args.place - c.args.front.first) ≡ c.args.place = omega (arith, c.requires.1.1.0.first, c.requires.1.1.1.0) in
    let stood : slice_get all c.args.place ≡ Some cell.0 =
    ap (slice_get all) (sym place) ∙ there ∙ ap (λ (list : ListedBallots). slice_get list.ballots (c.args.place - c.args.front.first)) (sym c.index-lists-front.is) ∙ cell.1 in
    cell.2.1
    ∙ ap (λ e. ballot_bytes e cell.0) same
    ∙ waits_among e g.f all c.args.behind.now c.args.place number cell.0 c.cell_bytes-size.ensures.valid c.requires.1.0 wide stood waits

pub overflow_mul-at : goal.overflow_mul-at
overflow_mul-at g c =
    let waits = c.requires.1.1.1.1.1 in
    let there = behind c.args.election.now g.f c.args.lists.now c.args.front c.args.behind.now c.args.place waits.0 c.cell_bytes-size.result c.cell_bytes-size.ensures.valid
    c.requires.1.0 c.requires.1.1.0 c.requires.1.1.1.0 (omega (arith, c.if-front-lists.false)) c.cell_bytes-size.ensures.size waits.1 waits.2 in
    omega (arith, there.within, waits.1, c.cell_bytes-size.ensures.size)

pub overflow_add-result : goal.overflow_add-result
overflow_add-result g c =
    let waits = c.requires.1.1.1.1.1 in
    let there = behind c.args.election.now g.f c.args.lists.now c.args.front c.args.behind.now c.args.place waits.0 c.cell_bytes-size.result c.cell_bytes-size.ensures.valid
    c.requires.1.0 c.requires.1.1.0 c.requires.1.1.1.0 (omega (arith, c.if-front-lists.false)) c.cell_bytes-size.ensures.size waits.1 waits.2 in
    omega (arith, there.within, waits.1, c.cell_bytes-size.ensures.size)

pub slice_bounds-result-end : goal.slice_bounds-result-end
slice_bounds-result-end g c =
    let waits = c.requires.1.1.1.1.1 in
    let there = behind c.args.election.now g.f c.args.lists.now c.args.front c.args.behind.now c.args.place waits.0 c.cell_bytes-size.result c.cell_bytes-size.ensures.valid
    c.requires.1.0 c.requires.1.1.0 c.requires.1.1.1.0 (omega (arith, c.if-front-lists.false)) c.cell_bytes-size.ensures.size waits.1 waits.2 in
    omega (arith, there.within, waits.1, c.cell_bytes-size.ensures.size)

pub returns : goal.returns
returns g c number wide waits =
    let size = c.cell_bytes-size.result in
    let at = (c.args.place - c.args.front.first) * size in
    let there = behind c.args.election.now g.f c.args.lists.now c.args.front c.args.behind.now c.args.place number c.cell_bytes-size.result c.cell_bytes-size.ensures.valid
    c.requires.1.0 c.requires.1.1.0 c.requires.1.1.1.0 (omega (arith, c.if-front-lists.false)) c.cell_bytes-size.ensures.size wide waits in
    ap (λ n. take n (drop at c.args.behind.now)) (omega (arith, wide, c.cell_bytes-size.ensures.size)) ∙ there.same
