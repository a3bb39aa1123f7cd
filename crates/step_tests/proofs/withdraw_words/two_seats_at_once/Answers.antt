use Rattle.std.proofs.Common.{rules, ◌≡◌, List, Option, Some, subst}
use Rattle.store_spec.proofs.Common.{All, WithdrawView}
use Rattle.std.proofs.lemmas.List.Elements.{All-pop}
use Rattle.std.specs.Option.{IfSome}
use Rattle.word_rule.specs.Places.{AreWhole, Place}
use Rattle.word_rule.specs.Seats.{SharedWords}
use Rattle.word_rule.specs.WithdrawSeats.{IsAtRest}
use Rattle.step_tests.proofs.withdraw_words.two_seats_at_once.Goals as goal

-- the seat belongs to the words, and is at rest
abbrev Ready : SharedWords → Place WithdrawView → Type 0
Ready words seat = (seat.words ≡ words) × IsAtRest seat.view

all_ready : (words : SharedWords) (seats : List (Place WithdrawView)) → AreWhole IsAtRest words seats → All (Ready words) seats
all_ready words seats whole = λ k d lt. (whole.belong k d lt, whole.such k d lt)

taken : (words : SharedWords) (seat : Option (Place WithdrawView)) (is : Place WithdrawView) → seat ≡ Some is → IfSome seat (Ready words) → Ready words is
taken words seat is e ready = subst (λ (o : Option (Place WithdrawView)). IfSome o (Ready words)) e ready

pub join-first-requires-after_bounds : goal.join-first-requires-after_bounds
join-first-requires-after_bounds g c κs =
    let words = c.two_seats-words.result.0 in
    let both = All-pop (Ready words) c.two_seats-words.result.1.items c.pop.new.self.items c.pop.result c.pop.ensures.items (all_ready words c.two_seats-words.result.1.items c.two_seats-words.ensures.whole) in
    let one = All-pop (Ready words) c.pop.new.self.items c.pop-2.new.self.items c.pop-2.result c.pop-2.ensures.items both.0 in
    let second = taken words c.pop.result c.expect-second.result c.expect-second.ensures both.1 in
    let first = taken words c.pop-2.result c.expect-first.result c.expect-first.ensures one.1 in
    ((first.0, first.1, search rules), (second.0, second.1, search rules))
