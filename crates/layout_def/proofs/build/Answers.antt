use Rattle.std.proofs.Common.{◌≡◌, ◌≢◌, ℕ, ◌+◌, ◌^◌, ◌<◌, ◌≤◌, List, length, get_or, ◌∙◌, arith, rules, Fits, w64}
use Rattle.store_spec.proofs.Common.{All, AllPairs, HasRoom, get_or_default, take_at}
use Rattle.layout_def.proofs.LaidOut.{ordered_is_layout_of}
use Rattle.layout_def.proofs.build.Goals as goal

-- each number is below 2 ^ 64, so it has a home
room_for : (home : ℕ → ℕ) (homes cells : ℕ) (numbers : List ℕ) → ((v : ℕ) → v < 2 ^ 64 → home v < homes) → ((k : ℕ) → Fits w64 (get_or numbers k 0))
    → AllPairs (λ a b. a ≢ b) numbers → All (λ v. v ≢ 0) numbers → homes + length numbers ≤ cells → HasRoom home homes cells numbers
room_for home homes cells numbers below fit distinct some enough = record {
  distinct = distinct;
  some = some;
  homed = λ k d lt. below (get_or numbers k d) (let fits = fit k in let same = get_or_default numbers k 0 d lt in omega arith);
  room = enough;
}

-- ordered cells with these numbers are the layout
pub returns-then-put_all : goal.returns-then-put_all
returns-then-put_all g c =
    let home = g.O.Order.home c.args.order.now in
    let numbers = c.args.numbers.now in
    let room = room_for home _ _ numbers (g.met.O.Order.below c.args.order.now) c.type_inv.numbers c.requires.distinct c.requires.some c.requires.room in
    let put = c.put_all.ensures in
    let size : length c.put_all.new.cells ≡ c.args.cells = search rules in
    let kept : length c.put_all.new.cells ≡ c.in_ok-placed.placed.len = search rules in
    take_at c.put_all.new.cells _ _ kept
    ∙ ordered_is_layout_of home _ c.args.cells numbers _ room size (put.ordered c.if-put_all.true) (put.exactly c.if-put_all.true)

pub build_by_order-requires : goal.build_by_order-requires
build_by_order-requires g c = record {
  room = room_for _ _ _ _ (g.met.O.Order.below c.args.order.now) c.type_inv.numbers c.requires.distinct c.requires.some c.requires.room;
}
