-- All withdrawers of a phase at its end: what they removed, and that their trays have the outcome of withdrawing.
use Rattle.std.proofs.Common.{◌≡◌, ℕ, ⊎_elim, true, List, [], ◌∷◌, ◌++◌, get_or, map, refl, sym, ap, ◌∙◌, subst, arith}
use Rattle.store_spec.proofs.Common.{All, All-contains, All-contains_itself, All-head, All-map, All-tail, AllPairs, Ballot, Contains, Contains-append_cases, Contains-append_left, Contains-append_right, Contains-get_or, Election, IsRightWithdrawal, MayBeWithdrawnBefore, WithdrawView, cell_count, cells_of, home_in, is_withdrawn, layout_of, length-map, listed, map-map, numbers_of, times, withdrawn_in, without}
use Rattle.body_store.specs.Contents.{Contents, IsStored, ballots_without}
use Rattle.phase_delete.proofs.Held.{room}
use Rattle.phase_delete.proofs.Left.{left_alike, numbers_left}
use Rattle.phase_delete.specs.Closing.{ClosesAs, all_numbers, tray_lines}
use Rattle.phase_delete.specs.Ends.{TellsOf, WithdrawerView, all_withdrawn}
use Rattle.phase_kind.specs.Worker.{AreAll, seat_of}
use Rattle.phase_delete.specs.Tray.{IsTrayOf, gone_of, tray_line, withdrawn_of}
use Rattle.phase_kind.specs.Phase.{OpenPhase}
use Rattle.phase_delete.specs.Tray.{TrayWithdrawal}
use Rattle.step_core.proofs.Listings.{times_some}
use Rattle.step_core.proofs.Sets.{All-flat_map, All-from_flat_map, All-from_map}
use Rattle.step_core.proofs.WithdrawingAnswers.{numbers-contains}
use Rattle.step_core.specs.WithdrawingInvariant.{is_gone}
use Rattle.step_core.specs.declared.withdrawer.WithdrawReply.{WithdrawReply}
use Rattle.store_spec.specs.WithdrawPhase as outcome
use Rattle.word_rule.proofs.Members.{from_kept}
use Rattle.word_rule.proofs.Stores.{laid_out_without}
use Rattle.word_rule.specs.Places.{AreWhole, Place}
use Rattle.word_rule.specs.Seats.{SharedWords}
use Rattle.word_rule.specs.Stores.{AreWordsOf}
use Rattle.word_rule.specs.WithdrawSeats.{IsAtRest}
use Rattle.word_rule.specs.WithdrawWords.{AgreeOn, begun_at, cells_after}

-- ---- trays

abbrev pub replies_in : List TrayWithdrawal → List WithdrawReply
replies_in tray = map (λ w. w.reply) tray

abbrev pub trays_of : List WithdrawerView → List (List TrayWithdrawal)
trays_of tabs = map (λ tab. tab.tray) tabs

-- the numbers of the lines are those of the trays
pub listed_is : (trays : List (List TrayWithdrawal)) → listed (tray_lines trays) ≡ all_numbers trays
listed_is [] = refl
listed_is (tray ∷ trays) =
    ap (λ l. l ++ listed (tray_lines trays)) (map-map (λ (a : outcome.Withdrawal). a.number) tray_line tray)
    ∙ ap (λ l. map (λ (w : TrayWithdrawal). w.item) tray ++ l) (listed_is trays)

withdrawn_is : (trays : List (List TrayWithdrawal)) → withdrawn_in (tray_lines trays) ≡ all_withdrawn trays
withdrawn_is [] = refl
withdrawn_is (tray ∷ trays) = ap (λ l. withdrawn_of tray ++ l) (withdrawn_is trays)

-- a number that was withdrawn is one of the trays'
pub withdrawn_listed : (trays : List (List TrayWithdrawal)) (x : ℕ) → Contains (all_withdrawn trays) x → Contains (all_numbers trays) x
withdrawn_listed [] x c = c
withdrawn_listed (tray ∷ trays) x c = ⊎_elim
    (λ (here : Contains (withdrawn_of tray) x).
    Contains-append_left (map (λ (w : TrayWithdrawal). w.item) tray) (all_numbers trays) x
    (subst (λ (l : List ℕ). Contains l x) (map-map (λ (a : outcome.Withdrawal). a.number) tray_line tray) (from_kept (λ (a : outcome.Withdrawal). is_withdrawn a.reply) (λ (a : outcome.Withdrawal). a.number) (map tray_line tray) x here)))
    (λ (later : Contains (all_withdrawn trays) x). Contains-append_right (map (λ (w : TrayWithdrawal). w.item) tray) (all_numbers trays) x (withdrawn_listed trays x later))
    (Contains-append_cases (withdrawn_of tray) (all_withdrawn trays) x c)

-- the numbers that trays tell as withdrawn are those that their seats have begun
begun_is : (tabs : List WithdrawerView) → All TellsOf tabs → all_withdrawn (trays_of tabs) ≡ begun_at (map seat_of tabs)
begun_is [] told = refl
begun_is (tab ∷ tabs) told =
    ap (λ l. l ++ all_withdrawn (trays_of tabs)) (All-head TellsOf tab tabs told).begun
    ∙ ap (λ l. tab.seat.begun ++ l) (begun_is tabs (All-tail TellsOf tab tabs told))

-- ---- one tray

-- each number of a tray that is held was begun, here or elsewhere
module _ (phase : OpenPhase) (view : WithdrawView) (tray : List TrayWithdrawal) (begun : List ℕ) (told : IsTrayOf phase view tray) (own : All (Contains begun) view.begun) (others : All (Contains begun) view.gone) where
  abbrev WasBegun : outcome.Withdrawal → Type 0
  WasBegun a = Contains (numbers_of phase.base.ballots) a.number → Contains begun a.number

  by_reply : (a : outcome.Withdrawal) → Contains (map tray_line tray) a → (r : outcome.WithdrawReply) → a.reply ≡ r → IsRightWithdrawal (numbers_of phase.base.ballots) a.number r → WasBegun a
  by_reply a there outcome.WithdrawReply.Withdrawn is right held =
      let among = All-contains (λ (b : outcome.Withdrawal). is_withdrawn b.reply ≡ true → Contains (withdrawn_of tray) b.number) (map tray_line tray) a (numbers-contains is_withdrawn (map tray_line tray)) there (ap is_withdrawn is) in
      All-contains (Contains begun) view.begun a.number own (subst (λ (l : List ℕ). Contains l a.number) told.begun among)
  by_reply a there outcome.WithdrawReply.Gone is right held =
      let among = All-contains (λ (b : outcome.Withdrawal). is_gone b.reply ≡ true → Contains (gone_of tray) b.number) (map tray_line tray) a (numbers-contains is_gone (map tray_line tray)) there (ap is_gone is) in
      All-contains (Contains begun) view.gone a.number others (subst (λ (l : List ℕ). Contains l a.number) told.gone among)
  by_reply a there outcome.WithdrawReply.Absent is right held = absurd (right held)

  pub each_begun : All (λ a. Contains (numbers_of phase.base.ballots) a.number → Contains begun a.number) (map tray_line tray)
  each_begun k d within = let a = get_or (map tray_line tray) k d in by_reply a (Contains-get_or (map tray_line tray) k d within) a.reply refl (told.right k d within)

-- ---- the withdrawers of a phase

module _ (base : Contents) (words : SharedWords) (tabs : List WithdrawerView) (all : AreAll (record { base = base; words = words }) tabs) (told : All TellsOf tabs) where
  abbrev phase : OpenPhase
  phase = record { base = base; words = words }

  abbrev held : List ℕ
  held = numbers_of base.ballots

  pub whole : AreWhole IsAtRest words (map seat_of tabs)
  whole = record {
    count = length-map tabs seat_of ∙ all.all;
    belong = All-map (λ (s : Place WithdrawView). s.words ≡ words) seat_of tabs (λ k d within. ap (λ (p : OpenPhase). p.words) (all.belong k d within));
    such = All-map (λ (s : Place WithdrawView). IsAtRest s.view) seat_of tabs (λ k d within. (told k d within).at_rest);
  }

  -- what trays tell, in terms of the phase
  told_by : All (λ tab. IsTrayOf (record { base = base; words = words }) tab.seat tab.tray) tabs
  told_by k d within =
      let tab = get_or tabs k d in
      subst (λ (p : OpenPhase). IsTrayOf p tab.seat tab.tray) (all.belong k d within) (told k d within)

  -- ---- the cells and the ballots that are left

  pub layout : (election : Election) (gone cells : List ℕ) → AreWordsOf base.election base.ballots words → IsStored base → election ≡ base.election → gone ≡ all_withdrawn (trays_of tabs) → cells ≡ cells_after words (map seat_of tabs) → cells ≡ cells_of election (ballots_without base.ballots gone)
  layout election gone cells own stored same are laid =
      let e = base.election in
      let begun = begun_at (map seat_of tabs) in
      let gone_is : gone ≡ begun = are ∙ begun_is tabs told in
      laid
      ∙ laid_out_without e base.ballots (room base stored) words own begun
      ∙ ap (λ l. layout_of (home_in e) (cell_count e) (without held l)) (sym gone_is)
      ∙ ap (layout_of (home_in e) (cell_count e)) (sym (numbers_left base.ballots gone))
      ∙ ap (λ f. cells_of f (ballots_without base.ballots gone)) (sym same)

  -- ---- the outcome

  module _ (agree : AgreeOn words (map seat_of tabs)) where
    abbrev begun : List ℕ
    begun = begun_at (map seat_of tabs)

    abbrev trays : List (List TrayWithdrawal)
    trays = trays_of tabs

    own_begun : All (λ tab. All (Contains (begun_at (map seat_of tabs))) tab.seat.begun) tabs
    own_begun =
        All-from_map (λ (s : Place WithdrawView). All (Contains begun) s.view.begun) seat_of tabs
        (All-from_map (λ (v : WithdrawView). All (Contains begun) v.begun) (λ (s : Place WithdrawView). s.view) (map seat_of tabs)
        (All-from_flat_map (Contains begun) (λ (v : WithdrawView). v.begun) (map (λ (s : Place WithdrawView). s.view) (map seat_of tabs)) (All-contains_itself begun)))

    others_begun : All (λ tab. All (Contains (begun_at (map seat_of tabs))) tab.seat.gone) tabs
    others_begun = All-from_map (λ (s : Place WithdrawView). All (Contains begun) s.view.gone) seat_of tabs agree.gone

    lists_begun : All (λ n. Contains (numbers_of base.ballots) n → Contains (begun_at (map seat_of tabs)) n) (listed (tray_lines (trays_of tabs)))
    lists_begun =
        let Was : ℕ → Type 0 = λ n. Contains held n → Contains begun n in
        All-flat_map Was (map (λ (a : outcome.Withdrawal). a.number)) (tray_lines trays)
        (All-map (λ (list : List outcome.Withdrawal). All Was (map (λ (a : outcome.Withdrawal). a.number) list)) (map tray_line) trays
        (All-map (λ (tray : List TrayWithdrawal). All Was (map (λ (a : outcome.Withdrawal). a.number) (map tray_line tray))) (λ (tab : WithdrawerView). tab.tray) tabs
        (λ k d within.
        let tab = get_or tabs k d in
        All-map Was (λ (a : outcome.Withdrawal). a.number) (map tray_line tab.tray) (each_begun phase tab.seat tab.tray begun (told_by k d within) (own_begun k d within) (others_begun k d within)))))

    -- a number of the trays that is held was begun
    listed_begun : (x : ℕ) → Contains (numbers_of base.ballots) x → Contains (listed (tray_lines (trays_of tabs))) x → Contains (begun_at (map seat_of tabs)) x
    listed_begun x there named = All-contains (λ n. Contains held n → Contains begun n) (listed (tray_lines trays)) x lists_begun named there

    -- so the ballots that are left are those without the numbers of the trays
    same_left : ballots_without base.ballots (all_withdrawn (trays_of tabs)) ≡ ballots_without base.ballots (all_numbers (trays_of tabs))
    same_left = left_alike base.ballots (all_withdrawn trays) (all_numbers trays) (λ x there. (
      withdrawn_listed trays x,
      λ named. subst (λ (l : List ℕ). Contains l x) (sym (begun_is tabs told)) (listed_begun x there (subst (λ (l : List ℕ). Contains l x) (sym (listed_is trays)) named)),
    ))

    pub closes_as : (gone : List ℕ) (after : List Ballot) (replies : List (List WithdrawReply)) → gone ≡ all_withdrawn (trays_of tabs) → after ≡ ballots_without base.ballots gone → replies ≡ map replies_in (trays_of tabs) → ClosesAs base (trays_of tabs) replies after
    closes_as gone after replies are left of_trays =
        let rest : after ≡ ballots_without base.ballots (all_numbers trays) = left ∙ ap (ballots_without base.ballots) are ∙ same_left in
        let Right : outcome.Withdrawal → Type 0 = λ a. IsRightWithdrawal held a.number a.reply in
        record {
          of_trays = of_trays;
          rest = rest;
          outcome = record {
            rest = ap numbers_of rest ∙ numbers_left base.ballots (all_numbers trays) ∙ ap (without held) (sym (listed_is trays));
            answers = All-map (All Right) (map tray_line) trays (All-map (λ (tray : List TrayWithdrawal). All Right (map tray_line tray)) (λ (tab : WithdrawerView). tab.tray) tabs (λ k d within. (told_by k d within).right));
            once = λ x there named.
                let same : withdrawn_in (tray_lines trays) ≡ begun = withdrawn_is trays ∙ begun_is tabs told in
                let some = times_some begun x (listed_begun x there named) in
                omega (arith, ap (λ l. times l x) same, agree.once x);
            in_order = All-map (AllPairs MayBeWithdrawnBefore) (map tray_line) trays (All-map (λ (tray : List TrayWithdrawal). AllPairs MayBeWithdrawnBefore (map tray_line tray)) (λ (tab : WithdrawerView). tab.tray) tabs (λ k d within. (told_by k d within).in_order));
          };
        }
