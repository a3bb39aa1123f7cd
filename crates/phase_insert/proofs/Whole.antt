-- All tabulators of a phase at its end: what they accepted, and that it may join the store.
use Rattle.std.proofs.Common.{◌≡◌, ◌≢◌, ℕ, ⊎_elim, List, [], ◌∷◌, ◌++◌, length, map, filter, refl, sym, ap, ◌∙◌, subst, arith, length-append}
use Rattle.store_spec.proofs.Common.{All, All-append, All-contains, All-head, All-map, All-tail, AllPairs, Ballot, CastView, Contains, EachOnce, Election, IsListing, IsValid, IsWithinLimit, Rest, cases_eq, cell_count, cells_of, count_of, home_in, layout_of, length-map, map-append, map-map, numbers_in, numbers_of, sum_by-append}
use Rattle.ballot_record.proofs.BallotNumbers.{length-numbers_of, pairs_of_ballots, pairs_of_numbers}
use Rattle.ballot_record.proofs.BallotSets.{listing_from_set}
use Rattle.body_store.specs.Contents.{Contents, IsStored}
use Rattle.phase_insert.proofs.HeldNumbers.{room}
use Rattle.phase_insert.specs.CastPhase.{AreCastWordsOf}
use Rattle.phase_kind.specs.Phase.{OpenPhase}
use Rattle.phase_insert.specs.Ends.{TabulatorView, TellsOf, all_accepted}
use Rattle.phase_kind.specs.Worker.{AreAll, seat_of}
use Rattle.phase_insert.specs.Tray.{Cast, IsTrayOf, ballots_that, is_accepted, numbers_that}
use Rattle.step_core.proofs.Sets.{distinct_once, is_one, none_counted, once_distinct, stands_counted}
use Rattle.word_rule.proofs.Members.{all_members, from_filter, from_flat_map, from_map}
use Rattle.word_rule.proofs.Stores.{in_cells, laid_out_with}
use Rattle.word_rule.specs.CastSeats.{IsAtRest}
use Rattle.word_rule.specs.CastWords.{AgreeOn, accepted_by, cells_after}
use Rattle.word_rule.specs.Places.{AreWhole, Place}
use Rattle.word_rule.specs.Seats.{SharedWords}

-- ---- what was accepted

-- the accepted ballots of a tray have the accepted numbers
numbers_of_tray : (tray : List Cast) → numbers_of (ballots_that is_accepted tray) ≡ numbers_that is_accepted tray
numbers_of_tray tray = map-map (λ (b : Ballot). b.number) (λ (c : Cast). c.item) (filter (λ (c : Cast). is_accepted c.reply) tray)

-- and those of all trays have those of all seats
pub numbers_accepted : (tabs : List TabulatorView) → All TellsOf tabs → numbers_of (all_accepted (map (λ tab. tab.tray) tabs)) ≡ accepted_by (map seat_of tabs)
numbers_accepted [] told = refl
numbers_accepted (tab ∷ tabs) told =
    let rest = map (λ (t : TabulatorView). t.tray) tabs in
    map-append (λ (b : Ballot). b.number) (ballots_that is_accepted tab.tray) (all_accepted rest)
    ∙ ap (λ l. l ++ numbers_of (all_accepted rest)) (numbers_of_tray tab.tray ∙ (All-head TellsOf tab tabs told).accepted)
    ∙ ap (λ l. tab.seat.accepted ++ l) (numbers_accepted tabs (All-tail TellsOf tab tabs told))

-- an accepted ballot stands in a tray with that reply
pub record IsAcceptedIn (tabs : List TabulatorView) (b : Ballot) : Type 0 where
  pub tab : TabulatorView
  pub of : Contains tabs tab
  pub cast : Cast
  pub there : Contains tab.tray cast
  pub is : cast.item ≡ b

pub from_accepted : (tabs : List TabulatorView) (b : Ballot) → Contains (all_accepted (map (λ tab. tab.tray) tabs)) b → IsAcceptedIn tabs b
from_accepted tabs b c =
    let in_tray = from_flat_map (ballots_that is_accepted) (map (λ (t : TabulatorView). t.tray) tabs) b c in
    let of_tab = from_map (λ (t : TabulatorView). t.tray) tabs in_tray.0 in_tray.1 in
    let of_cast = from_map (λ (x : Cast). x.item) (filter (λ (x : Cast). is_accepted x.reply) in_tray.0) b in_tray.2 in
    let kept = from_filter (λ (x : Cast). is_accepted x.reply) in_tray.0 of_cast.0 of_cast.1 in
    record { tab = of_tab.0; of = of_tab.1; cast = of_cast.0; there = subst (λ (l : List Cast). Contains l of_cast.0) (sym of_tab.2) kept.0; is = of_cast.2 }

-- ---- numbers that may join others

-- numbers that stand once each, and none of them among others that do
once_with : (xs ys : List ℕ) → AllPairs (λ a b. a ≢ b) xs → EachOnce ys → All (λ y. ¬ Contains xs y) ys → EachOnce (xs ++ ys)
once_with xs ys apart once others v some =
    let both = sum_by-append (is_one v) xs ys in
    ⊎_elim
    (λ (none : count_of v ys ≡ 0). omega (arith, both, none, once_distinct xs apart v some))
    (λ (more : count_of v ys ≢ 0).
    let there = stands_counted v ys (omega arith) in
    let not_there = none_counted v xs (All-contains (λ y. ¬ Contains xs y) ys v others there) in
    omega (arith, both, not_there, once v some))
    (cases_eq (count_of v ys) 0)

-- ballots that may join others, and the cells of all
pub record MayJoin (e : Election) (held more : List Ballot) (cells : List ℕ) : Type 0 where
  pub listing : IsListing e (held ++ more)
  pub within_limit : IsWithinLimit e (held ++ more)
  pub layout : cells ≡ cells_of e (held ++ more)

-- ---- the tabulators of a phase

module _ (base : Contents) (words : SharedWords) (tabs : List TabulatorView) (all : AreAll (record { base = base; words = words }) tabs) where
  abbrev phase : OpenPhase
  phase = record { base = base; words = words }

  pub whole : All TellsOf tabs → AreWhole IsAtRest words (map seat_of tabs)
  whole told = record {
    count = length-map tabs seat_of ∙ all.all;
    belong = All-map (λ (s : Place CastView). s.words ≡ words) seat_of tabs (λ k d within. ap (λ (p : OpenPhase). p.words) (all.belong k d within));
    such = All-map (λ (s : Place CastView). s.view.state ≡ Rest) seat_of tabs (λ k d within. (told k d within).at_rest);
  }

  -- what a tray tells, in terms of the phase
  pub told_by : All TellsOf tabs → (tab : TabulatorView) → Contains tabs tab → IsTrayOf phase tab.seat tab.tray
  told_by told tab there =
      subst (λ (p : OpenPhase). IsTrayOf p tab.seat tab.tray) (All-contains (λ (t : TabulatorView). t.phase ≡ phase) tabs tab all.belong there)
      (All-contains TellsOf tabs tab told there)

  -- ---- what joins the store

  module _ (own : AreCastWordsOf base words) (stored : IsStored base) (told : All TellsOf tabs) (agree : AgreeOn words (map seat_of tabs)) where
    abbrev accepted : List Ballot
    accepted = all_accepted (map (λ tab. tab.tray) tabs)

    numbers : numbers_of accepted ≡ accepted_by (map seat_of tabs)
    numbers = numbers_accepted tabs told

    all_numbers : numbers_of (base.ballots ++ accepted) ≡ numbers_of base.ballots ++ accepted_by (map seat_of tabs)
    all_numbers = map-append (λ (b : Ballot). b.number) base.ballots accepted ∙ ap (λ l. numbers_of base.ballots ++ l) numbers

    -- a number that stands in no cell has no ballot
    new_numbers : All (λ x. ¬ Contains (numbers_of base.ballots) x) (accepted_by (map seat_of tabs))
    new_numbers = all_members (λ x. ¬ Contains (numbers_of base.ballots) x) (accepted_by (map seat_of tabs)) (λ x there c.
        All-contains (λ y. ¬ Contains (numbers_in words.base) y) (accepted_by (map seat_of tabs)) x agree.not_held there
        (subst (λ (l : List ℕ). Contains (numbers_in l) x) (sym own.of_store.held) (in_cells base.election base.ballots (room base stored) x c)))

    valid : All (IsValid base.election) (base.ballots ++ accepted)
    valid = All-append (IsValid base.election) base.ballots accepted stored.set.valid
        (all_members (IsValid base.election) accepted (λ b c.
        let is = from_accepted tabs b c in
        subst (IsValid base.election) is.is
        (All-contains (λ (x : Cast). IsValid base.election x.item) is.tab.tray is.cast (told_by told is.tab is.of).valid is.there)))

    some_number : All (λ v. v ≢ 0) (numbers_of (base.ballots ++ accepted))
    some_number = All-map (λ v. v ≢ 0) (λ (b : Ballot). b.number) (base.ballots ++ accepted) (λ k d within zero. let some = (valid k d within).some_number in omega arith)

    distinct : AllPairs (λ a b. a ≢ b) (numbers_of (base.ballots ++ accepted))
    distinct =
        let apart = pairs_of_numbers (λ a b. a ≢ b) base.ballots (listing_from_set base.election base.ballots stored.set).distinct in
        distinct_once (numbers_of (base.ballots ++ accepted))
        (subst EachOnce (sym all_numbers) (once_with (numbers_of base.ballots) (accepted_by (map seat_of tabs)) apart agree.once new_numbers))
        some_number

    pub listing : IsListing base.election (base.ballots ++ accepted)
    listing = record { valid = valid; distinct = pairs_of_ballots (λ a b. a ≢ b) (base.ballots ++ accepted) distinct }

    pub how_many : length accepted ≡ length (accepted_by (map seat_of tabs))
    how_many = sym (length-numbers_of accepted) ∙ ap length numbers

    pub within_limit : IsWithinLimit base.election (base.ballots ++ accepted)
    within_limit = omega (arith, length-append base.ballots accepted, how_many, agree.few, own.claims)

    pub layout : cells_after words (map seat_of tabs) ≡ cells_of base.election (base.ballots ++ accepted)
    layout =
        laid_out_with base.election base.ballots (room base stored) words own.of_store (accepted_by (map seat_of tabs))
        ∙ ap (layout_of (home_in base.election) (cell_count base.election)) (sym all_numbers)

    -- what the store asks of what joins it
    pub may_join : (election : Election) (more : List Ballot) (cells : List ℕ) → election ≡ base.election → more ≡ accepted → cells ≡ cells_after words (map seat_of tabs) → MayJoin election base.ballots more cells
    may_join election more cells own_election are laid =
        subst (λ (e : Election). MayJoin e base.ballots more cells) (sym own_election)
        (subst (λ (bs : List Ballot). MayJoin base.election base.ballots bs cells) (sym are)
        (record { listing = listing; within_limit = within_limit; layout = laid ∙ layout }))
