-- A large run, from its first line to its last.
use Rattle.std.proofs.Common.{◌≡◌, ℕ, zero, suc, ◌+◌, ◌*◌, ◌/◌, ◌%◌, ◌<◌, ◌≤◌, List, [], ◌∷◌, ◌++◌, length, map, codes, refl, sym, ap, subst, ◌∙◌, append_assoc, append-nil, arith, mod-lt}
use Rattle.store_spec.proofs.Common.{AllByRecursion, Ballot, Cast, CastLine, Casting, Casts, Checkpoint, ClosesCasting, ClosesWithdrawing, Effect, Election, IsBallotSet, IsListing, IsPermutation, IsPermutation-sym, IsTab, Plays, Says, State, Tally, Withdraw, Withdrawal, Withdrawing, Withdraws, acknowledged_in, ballots_without, begun, cast_text, counted, list_any, listed, not, open_text, range_with_len, summary_of, taken_lines, tally_text, withdraw_text, written}
use Rattle.std.specs.Prelude.{◌==◌}
use Rattle.std.proofs.lemmas.List.Elements.{filter_agree}
use Rattle.std.proofs.lemmas.List.Sorted.{list_any-IsPermutation}
use Rattle.script_lines.specs.Generated.{ballot_count, cast_ballots, cast_line, generated, generated_ballot, generated_number, withdraw_line, withdrawn_numbers}
use Rattle.session_laws.specs.LargeRun.{GainsNew, IsLargeRun, count_with}
use Rattle.session_laws.specs.NewBallots.{ballots_cast}
use Rattle.session_laws.proofs.CastGains.{cast_gains}
use Rattle.session_laws.proofs.Listed.{listed-map}
use Rattle.session_laws.proofs.PlayedPhases.{led, played_phase, taken_does}
use Rattle.session_laws.proofs.Unheard.{cast_one_line, checkpoint_summary, close_summary, tally_summary, withdraw_one_line}
use Rattle.session_laws.proofs.Waiting.{Waits, items_of}

-- ---- parts

-- what holds of each number of a range
in_range : (P : ℕ → Type 0) (a n : ℕ) → ((i : ℕ) → a ≤ i → i < a + n → P i) → AllByRecursion P (range_with_len a n)
in_range P a zero each = tt
in_range P a (suc n) each = (each a (omega arith) (omega arith), in_range P (a + 1) n (λ i from to. each i (omega arith) (omega arith)))

-- no lines do nothing
record DoesNothing (s : State) (effects : List Effect) (end : State) : Type 0 where
  none : effects ≡ []
  same : end ≡ s

no_lines : (e : Election) (n : ℕ) (s : State) (effects : List Effect) (end : State) → Plays e n s [] effects end → DoesNothing s effects end
no_lines e n s [] end plays = record { none = refl; same = plays }
no_lines e n s (effect ∷ effects) end plays = absurd plays

-- the ballots of the lines of lists
ballots_in-map : (lines : List (List CastLine)) → ballots_cast lines ≡ items_of (map (map (λ l. l.ballot)) lines)
ballots_in-map [] = refl
ballots_in-map (l ∷ lines) = ap (λ ballots. map (λ l. l.ballot) l ++ ballots) (ballots_in-map lines)

-- the same numbers leave the same
same_without : (set : List Ballot) (xs ys : List ℕ) → IsPermutation xs ys → ballots_without set xs ≡ ballots_without set ys
same_without set xs ys same =
    filter_agree (λ (b : Ballot). not (list_any (λ number. number == b.number) xs)) (λ (b : Ballot). not (list_any (λ number. number == b.number) ys))
    (λ b. ap not (list_any-IsPermutation (λ number. number == b.number) xs ys same)) set

-- ---- the last lines

-- how lines end that lead to a set and acknowledge it, with this summary
record EndsWith (set : List Ballot) (text : List ℕ) (effects : List Effect) (end : State) : Type 0 where
  ends : end ≡ begun set
  acknowledged : acknowledged_in effects ≡ set ∷ []
  summary : summary_of (written effects) ≡ text

-- a checkpoint and a tally
abbrev reported : Election → List Ballot → List ℕ
reported e set = counted (codes "checkpoint") (length set) ++ tally_text e set

last_lines : (e : Election) (n : ℕ) (set : List Ballot) (effects : List Effect) (end : State) → Plays e n (begun set) (taken_lines (codes "checkpoint" ∷ codes "tally" ∷ [])) effects end → EndsWith set (reported e set) effects end
last_lines e n set effects end plays =
    let first = led e n (begun set) (codes "checkpoint") Checkpoint refl (codes "tally" ∷ []) effects end plays in
    let next : first.first.next ≡ begun set = ap (λ (effect : Effect). effect.next) first.does in
    let second = led e (n + 1) (begun set) (codes "tally") Tally refl [] first.more end (subst (λ (s : State). Plays e (n + 1) s (taken_lines (codes "tally" ∷ [])) first.more end) next first.behind) in
    let behind = no_lines e (n + 1 + 1) second.first.next second.more end second.behind in
    record {
      ends = behind.same ∙ ap (λ (effect : Effect). effect.next) second.does;
      acknowledged = first.acknowledged ∙ ap (λ (effect : Effect). effect.acknowledged ++ acknowledged_in first.more) first.does
          ∙ ap (λ sets. set ∷ sets) (second.acknowledged ∙ ap (λ (effect : Effect). effect.acknowledged ++ acknowledged_in second.more) second.does ∙ ap acknowledged_in behind.none);
      summary = first.summary ∙ ap (λ (effect : Effect). summary_of effect.reply ++ summary_of (written first.more)) first.does
          ∙ ap (λ text. text ++ summary_of (written first.more)) (checkpoint_summary (length set))
          ∙ ap (λ text. counted (codes "checkpoint") (length set) ++ text)
          (second.summary ∙ ap (λ (effect : Effect). summary_of effect.reply ++ summary_of (written second.more)) second.does
          ∙ ap (λ text. text ++ summary_of (written second.more)) (tally_summary e set)
          ∙ ap (λ more. tally_text e set ++ summary_of (written more)) behind.none ∙ append-nil (tally_text e set));
    }

-- ---- the phases

-- what the lines of a generated script say, and which ballots it casts
pub record IsScript (e : Election) (seed count tabs : ℕ) : Type 0 where
  pub tab : IsTab tabs
  pub casts : (i : ℕ) → 1 ≤ i → i ≤ ballot_count e count → Says e (cast_line e seed tabs i) (Cast (1 + i % tabs) (generated_ballot e seed i))
  pub withdraws : (j : ℕ) → 1 ≤ j → j ≤ ballot_count e count / 10 → Says e (withdraw_line seed tabs j) (Withdraw (1 + j % tabs) (generated_number seed (10 * j)))
  pub listing : IsListing e (cast_ballots e seed count)

module _ (e : Election) (seed count tabs : ℕ) (is : IsScript e seed count tabs) where
  -- the numbers of the ballots, and of the tenth ones
  abbrev casting : List ℕ
  casting = range_with_len 1 (ballot_count e count)

  abbrev withdrawing : List ℕ
  withdrawing = range_with_len 1 (ballot_count e count / 10)

  -- a list for each of them
  tab_within : (i : ℕ) → 1 + i % tabs ≤ tabs
  tab_within i = omega (arith, mod-lt i is.tab.0)

  -- each ballot waits
  ballots_wait : (set : List Ballot) → AllByRecursion (Waits e Casts set tabs (cast_line e seed tabs) (λ i. 1 + i % tabs) (generated_ballot e seed)) casting
  ballots_wait set =
      in_range (Waits e Casts set tabs (cast_line e seed tabs) (λ i. 1 + i % tabs) (generated_ballot e seed)) 1 (ballot_count e count)
      (λ i from to. record { some = omega arith; within = tab_within i; only = λ n lists effect answers. taken_does e n _ (cast_line e seed tabs i) (Cast (1 + i % tabs) (generated_ballot e seed i)) (is.casts i from (omega arith)) effect answers })

  -- so does each number that is withdrawn
  numbers_wait : (set : List Ballot) → AllByRecursion (Waits e Withdraws set tabs (withdraw_line seed tabs) (λ j. 1 + j % tabs) (λ j. generated_number seed (10 * j))) withdrawing
  numbers_wait set =
      in_range (Waits e Withdraws set tabs (withdraw_line seed tabs) (λ j. 1 + j % tabs) (λ j. generated_number seed (10 * j))) 1 (ballot_count e count / 10)
      (λ j from to. record { some = omega arith; within = tab_within j; only = λ n lists effect answers. taken_does e n _ (withdraw_line seed tabs j) (Withdraw (1 + j % tabs) (generated_number seed (10 * j))) (is.withdraws j from (omega arith)) effect answers })

  -- what is withdrawn
  abbrev gone : List ℕ
  gone = withdrawn_numbers e seed count

  -- the lines from the opening of the withdrawing phase on
  abbrev withdrawing_lines : List (List ℕ)
  withdrawing_lines = open_text Withdrawing tabs ∷ (map (withdraw_line seed tabs) withdrawing ++ codes "close" ∷ codes "checkpoint" ∷ codes "tally" ∷ [])

  -- they lead to the set without what is withdrawn
  withdrawn : (n : ℕ) (set : List Ballot) (effects : List Effect) (end : State) → Plays e n (begun set) (taken_lines withdrawing_lines) effects end
      → EndsWith (ballots_without set gone) (counted (codes "closed") (length (ballots_without set gone)) ++ reported e (ballots_without set gone)) effects end
  withdrawn n set effects end plays =
      let after = ballots_without set gone in
      let phase = played_phase e Withdrawing Withdraws tabs is.tab refl set (withdraw_line seed tabs) (λ j. 1 + j % tabs) (λ j. generated_number seed (10 * j)) withdrawing (numbers_wait set) (codes "checkpoint" ∷ codes "tally" ∷ []) n effects end plays in
      let closes : ClosesWithdrawing set phase.lists phase.close = phase.closes in
      let numbers : listed closes.lines ≡ items_of phase.lists = listed-map closes.lines ∙ ap items_of closes.of_lists in
      let same : closes.after ≡ after = closes.rest ∙ ap (ballots_without set) numbers ∙ sym (same_without set gone (items_of phase.lists) phase.all) in
      let next : phase.close.next ≡ begun after = ap (λ (effect : Effect). effect.next) closes.is ∙ ap begun same in
      let last = last_lines e (phase.number + 1) after phase.more end (subst (λ (s : State). Plays e (phase.number + 1) s (taken_lines (codes "checkpoint" ∷ codes "tally" ∷ [])) phase.more end) next phase.behind) in
      record {
        ends = last.ends;
        acknowledged = phase.acknowledged ∙ ap (λ (effect : Effect). effect.acknowledged ++ acknowledged_in phase.more) closes.is ∙ last.acknowledged;
        summary = phase.summary ∙ ap (λ (effect : Effect). summary_of effect.reply ++ summary_of (written phase.more)) closes.is
            ∙ ap (λ text. text ++ summary_of (written phase.more)) (close_summary (λ (a : Withdrawal). withdraw_text a.reply) (λ a. withdraw_one_line a.reply) closes.lines closes.after)
            ∙ ap (λ (set : List Ballot). counted (codes "closed") (length set) ++ summary_of (written phase.more)) same
            ∙ ap (λ text. counted (codes "closed") (length after) ++ text) last.summary;
      }

  -- ---- the run

  -- the set gains what is cast, and then loses what is withdrawn
  cast_and_withdrawn : (before : List Ballot) → IsBallotSet e before → (effects : List Effect) (end : State)
      → Plays e 1 (begun before) (taken_lines (open_text Casting tabs ∷ (map (cast_line e seed tabs) casting ++ codes "close" ∷ withdrawing_lines))) effects end → IsLargeRun e seed count before effects end
  cast_and_withdrawn before legal effects end plays =
      let phase = played_phase e Casting Casts tabs is.tab refl before (cast_line e seed tabs) (λ i. 1 + i % tabs) (generated_ballot e seed) casting (ballots_wait before) withdrawing_lines 1 effects end plays in
      let closes : ClosesCasting e before phase.lists phase.close = phase.closes in
      let all : IsPermutation (ballots_cast closes.lines) (cast_ballots e seed count) =
      subst (λ (ballots : List Ballot). IsPermutation ballots (cast_ballots e seed count)) (sym (ballots_in-map closes.lines ∙ ap items_of closes.of_lists)) (IsPermutation-sym (cast_ballots e seed count) (items_of phase.lists) phase.all) in
      let gains : GainsNew e before (cast_ballots e seed count) closes.after = cast_gains e before (cast_ballots e seed count) closes.lines closes.after legal is.listing closes.outcome all in
      let after = ballots_without closes.after gone in
      let rest = withdrawn (phase.number + 1) closes.after phase.more end (subst (λ (s : State). Plays e (phase.number + 1) s (taken_lines withdrawing_lines) phase.more end) (ap (λ (effect : Effect). effect.next) closes.is) phase.behind) in
      let once = counted (codes "closed") (count_with e before (cast_ballots e seed count)) in
      let twice = counted (codes "closed") (length after) in
      record {
        after = after;
        is = record { cast = closes.after; gains = gains; rest = refl };
        ends = rest.ends;
        acknowledged = phase.acknowledged ∙ ap (λ (effect : Effect). effect.acknowledged ++ acknowledged_in phase.more) closes.is ∙ rest.acknowledged;
        summary = phase.summary ∙ ap (λ (effect : Effect). summary_of effect.reply ++ summary_of (written phase.more)) closes.is
            ∙ ap (λ text. text ++ summary_of (written phase.more)) (close_summary (λ (l : CastLine). cast_text l.reply) (λ l. cast_one_line l.reply) closes.lines closes.after)
            ∙ ap (λ size. counted (codes "closed") size ++ summary_of (written phase.more)) gains.count
            ∙ ap (λ text. once ++ text) rest.summary
            ∙ sym (append_assoc (once ++ twice) (counted (codes "checkpoint") (length after)) (tally_text e after) ∙ append_assoc once twice (reported e after));
      }

  -- so does the generated script
  pub large_run : (before : List Ballot) → IsBallotSet e before → (effects : List Effect) (end : State) → Plays e 1 (begun before) (taken_lines (generated e seed count tabs)) effects end → IsLargeRun e seed count before effects end
  large_run before legal effects end plays =
      let regrouped = append_assoc (open_text Casting tabs ∷ map (cast_line e seed tabs) casting) (codes "close" ∷ open_text Withdrawing tabs ∷ map (withdraw_line seed tabs) withdrawing) (codes "close" ∷ codes "checkpoint" ∷ codes "tally" ∷ []) in
      cast_and_withdrawn before legal effects end (subst (λ (lines : List (List ℕ)). Plays e 1 (begun before) (taken_lines lines) effects end) regrouped plays)
