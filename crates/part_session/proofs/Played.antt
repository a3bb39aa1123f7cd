-- A script over a store in parts: its lines close phases, and those of a part alone decide what comes of the part.
use Rattle.std.proofs.Common.{◌≡◌, ◌∙◌, ◌^◌, ◌<◌, ◌+◌, ◌∷◌, [], ⊎_elim, ℕ, Bool, true, false, List, Option, ap, map, refl, subst, sym}
use Rattle.store_spec.proofs.Common.{AllZip, AnswersBy, Ballot, Closed, Effect, Election, Phase, PlaysBy, ScriptLine, State, begun, closing, cond-false, cond-true, filter, of_parts, share}
use Rattle.std.specs.Prelude.{if◌then◌else◌}
use Rattle.part_session.proofs.LineWaits.{behind_own, closed_may_wait, closed_own, phase_behind, phases_closed, phases_may_wait}
use Rattle.part_session.proofs.Lines.{Closing, Fixed, answer_kind, phase_after, phase_is, says_so}
use Rattle.part_session.proofs.OneRun.{run_alike, some_answers}
use Rattle.part_session.specs.Runs.{AnsweredPhase, AreClosed, IsClosed, MayHoldParts, asked, reply_words, waiting_at}
use Rattle.part_session.specs.Scripts.{AreAlikeScripts, AreClosedBy, Means, PlaysAlikeAt, closes_in, concerns, has_closed}
use Rattle.partition_store.specs.Parted.{AreBits}
use Rattle.phase_gate.specs.Replies.{ClosesBy}

abbrev waited : Phase × Effect → Phase
waited at = at.0

-- ---- phases that were closed

module _ (bits : ℕ) (e : Election) where
  abbrev By : List Ballot → List AnsweredPhase → List (Phase × Effect) → List Ballot → Type 0
  By = AreClosedBy (of_parts bits e)

  pub are_closed : (set end : List Ballot) (run : List AnsweredPhase) (others : List (Phase × Effect)) → By set run others end → AreClosed (of_parts bits e) set run end
  are_closed set end [] [] closed = closed
  are_closed set end [] (at ∷ others) closed = absurd closed
  are_closed set end (one ∷ run) [] closed = absurd closed
  are_closed set end (one ∷ run) (at ∷ others) closed = (at.1.next.set, closed.2, are_closed at.1.next.set end run others closed.3)

  asked_are : (set end : List Ballot) (run : List AnsweredPhase) (others : List (Phase × Effect)) → By set run others end → map asked run ≡ map waited others
  asked_are set end [] [] closed = refl
  asked_are set end [] (at ∷ others) closed = absurd closed
  asked_are set end (one ∷ run) [] closed = absurd closed
  asked_are set end (one ∷ run) (at ∷ others) closed = ap (λ (p : Phase). p ∷ map asked run) closed.0 ∙ ap (λ (ps : List Phase). at.0 ∷ ps) (asked_are at.1.next.set end run others closed.3)

  -- one more was closed
  one_more : (set end after : List Ballot) (one : AnsweredPhase) (run : List AnsweredPhase) (phase : Phase) (effect : Effect) (others : List (Phase × Effect))
      → asked one ≡ phase → effect ≡ closing (reply_words one) after → ClosesBy (of_parts bits e) set phase effect
      → By effect.next.set run others end → By set (one ∷ run) ((phase, effect) ∷ others) end
  one_more set end after one run phase effect others asks is closes rest =
      let told : effect ≡ closing (reply_words one) effect.next.set = is ∙ ap (λ (x : Effect). closing (reply_words one) x.next.set) (sym is) in (
        asks,
        told,
        subst (λ (x : Effect). ClosesBy (of_parts bits e) set (asked one) x) told (subst (λ (p : Phase). ClosesBy (of_parts bits e) set p effect) (sym asks) closes),
        rest,
      )

  abbrev Plays : ℕ → State → List (Option (List ℕ)) → List Effect → State → Type 0
  Plays = PlaysBy (of_parts bits e) e

  -- what the first line closes
  open_first : (phase : Phase) (effect : Effect) (effects : List Effect) → has_closed phase effect.next.phase ≡ false → closes_in phase (effect ∷ effects) ≡ closes_in effect.next.phase effects
  open_first phase effect effects stays = cond-false (has_closed phase effect.next.phase) ((phase, effect) ∷ closes_in effect.next.phase effects) (closes_in effect.next.phase effects) stays

  closed_first : (phase : Phase) (effect : Effect) (effects : List Effect) → has_closed phase effect.next.phase ≡ true → closes_in phase (effect ∷ effects) ≡ (phase, effect) ∷ closes_in effect.next.phase effects
  closed_first phase effect effects closed = cond-true (has_closed phase effect.next.phase) ((phase, effect) ∷ closes_in effect.next.phase effects) (closes_in effect.next.phase effects) closed

  -- ---- from lines to phases

  pub lines_close : (n : ℕ) (s end : State) (lines : List (Option (List ℕ))) (effects : List Effect) → Plays n s lines effects end → (run : List AnsweredPhase) × By s.set run (closes_in s.phase effects) end.set
  lines_close n s end [] [] plays = ([], ap (λ (t : State). t.set) plays)
  lines_close n s end [] (effect ∷ effects) plays = absurd plays
  lines_close n s end (line ∷ lines) [] plays = absurd plays
  lines_close n s end (line ∷ lines) (effect ∷ effects) plays =
      let says = says_so bits e n s line effect plays.0 in
      let rest = lines_close (n + 1) effect.next end lines effects plays.1 in
      let Next : Phase = phase_after s.phase says.0 in
      ⊎_elim
      (λ (one : Fixed (AnswersBy (of_parts bits e) e n s line) s s.phase Next).
      let is = one.only effect plays.0 in
      let phase : effect.next.phase ≡ Next = ap (λ (x : Effect). x.next.phase) is ∙ one.next_is in
      let set : effect.next.set ≡ s.set = ap (λ (x : Effect). x.next.set) is ∙ one.same_set in (
        rest.0,
        subst (λ (cs : List (Phase × Effect)). By s.set rest.0 cs end.set) (sym (open_first s.phase effect effects (ap (has_closed s.phase) phase ∙ one.stays_open)))
            (subst (λ (set : List Ballot). By set rest.0 (closes_in effect.next.phase effects) end.set) set rest.1),
      ))
      (λ (one : Closing bits e (AnswersBy (of_parts bits e) e n s line) s.set s.phase Next).
      let closes = one.closes effect plays.0 in
      let some = some_answers e bits s.set s.phase effect closes in
      let phase : effect.next.phase ≡ Closed = ap (λ (x : Effect). x.next.phase) some.3 in (
        some.0 ∷ rest.0,
        subst (λ (cs : List (Phase × Effect)). By s.set (some.0 ∷ rest.0) cs end.set) (sym (closed_first s.phase effect effects (ap (has_closed s.phase) phase ∙ one.closed)))
            (one_more s.set end.set some.1 some.0 rest.0 s.phase effect (closes_in effect.next.phase effects) some.2 some.3 closes rest.1),
      ))
      (answer_kind bits e n s line says.0 says.1)

  -- ---- what a play closes is what its lines say

  waited_of_two : (test : Bool) (phase : Phase) (effect : Effect) (others : List (Phase × Effect)) → map waited (if test then (phase, effect) ∷ others else others) ≡ (if test then phase ∷ map waited others else map waited others)
  waited_of_two true phase effect others = refl
  waited_of_two false phase effect others = refl

  closed_as_said : (n : ℕ) (s end : State) (lines : List (Option (List ℕ))) (said : List (Option ScriptLine)) (effects : List Effect) → AllZip (Means e) lines said → Plays n s lines effects end
      → map waited (closes_in s.phase effects) ≡ phases_closed s.phase said
  closed_as_said n s end [] [] [] means plays = refl
  closed_as_said n s end [] [] (effect ∷ effects) means plays = absurd plays
  closed_as_said n s end [] (word ∷ said) effects means plays = absurd means
  closed_as_said n s end (line ∷ lines) [] effects means plays = absurd means
  closed_as_said n s end (line ∷ lines) (word ∷ said) [] means plays = absurd plays
  closed_as_said n s end (line ∷ lines) (word ∷ said) (effect ∷ effects) means plays =
      waited_of_two (has_closed s.phase effect.next.phase) s.phase effect (closes_in effect.next.phase effects)
      ∙ ap (λ (ps : List Phase). if has_closed s.phase effect.next.phase then s.phase ∷ ps else ps) (closed_as_said (n + 1) effect.next end lines said effects means.1 plays.1)
      ∙ ap (λ (p : Phase). if has_closed s.phase p then s.phase ∷ phases_closed p said else phases_closed p said) (phase_is bits e n s line word effect means.0 plays.0)

  behind_as_said : (n : ℕ) (s end : State) (lines : List (Option (List ℕ))) (said : List (Option ScriptLine)) (effects : List Effect) → AllZip (Means e) lines said → Plays n s lines effects end
      → end.phase ≡ phase_behind s.phase said
  behind_as_said n s end [] [] [] means plays = ap (λ (t : State). t.phase) plays
  behind_as_said n s end [] [] (effect ∷ effects) means plays = absurd plays
  behind_as_said n s end [] (word ∷ said) effects means plays = absurd means
  behind_as_said n s end (line ∷ lines) [] effects means plays = absurd means
  behind_as_said n s end (line ∷ lines) (word ∷ said) [] means plays = absurd plays
  behind_as_said n s end (line ∷ lines) (word ∷ said) (effect ∷ effects) means plays =
      behind_as_said (n + 1) effect.next end lines said effects means.1 plays.1
      ∙ ap (λ (p : Phase). phase_behind p said) (phase_is bits e n s line word effect means.0 plays.0)

  -- ---- a play that closes these phases

  record Built (n : ℕ) (s : State) (lines : List (Option (List ℕ))) (too : List AnsweredPhase) (left : List Ballot) : Type 0 where
    effects : List Effect
    end : State
    plays : Plays n s lines effects end
    closed : By s.set too (closes_in s.phase effects) end.set
    left_is : end.set ≡ left

  -- behind a line that closes none
  behind_fixed : (n : ℕ) (s : State) (line : Option (List ℕ)) (lines : List (Option (List ℕ))) (too : List AnsweredPhase) (left : List Ballot) (next : Phase) (one : Fixed (AnswersBy (of_parts bits e) e n s line) s s.phase next)
      → Built (n + 1) one.fixed.next lines too left → Built n s (line ∷ lines) too left
  behind_fixed n s line lines too left next one rest = record {
    effects = one.fixed ∷ rest.effects;
    end = rest.end;
    plays = (one.does, rest.plays);
    closed = subst (λ (cs : List (Phase × Effect)). By s.set too cs rest.end.set) (sym (open_first s.phase one.fixed rest.effects (ap (has_closed s.phase) one.next_is ∙ one.stays_open)))
        (subst (λ (set : List Ballot). By set too (closes_in one.fixed.next.phase rest.effects) rest.end.set) one.same_set rest.closed);
    left_is = rest.left_is;
  }

  -- behind one that closes a phase
  behind_closing : (n : ℕ) (s : State) (line : Option (List ℕ)) (lines : List (Option (List ℕ))) (first : AnsweredPhase) (too : List AnsweredPhase) (after left : List Ballot) (next : Phase)
      → Closing bits e (AnswersBy (of_parts bits e) e n s line) s.set s.phase next → asked first ≡ s.phase → IsClosed (of_parts bits e) s.set first after
      → Built (n + 1) (begun after) lines too left → Built n s (line ∷ lines) (first ∷ too) left
  behind_closing n s line lines first too after left next one asks closed rest =
      let effect = closing (reply_words first) after in
      let closes : ClosesBy (of_parts bits e) s.set s.phase effect = subst (λ (p : Phase). ClosesBy (of_parts bits e) s.set p effect) asks closed in
      record {
        effects = effect ∷ rest.effects;
        end = rest.end;
        plays = (one.does effect closes, rest.plays);
        closed = subst (λ (cs : List (Phase × Effect)). By s.set (first ∷ too) cs rest.end.set) (sym (closed_first s.phase effect rest.effects one.closed))
            (one_more s.set rest.end.set after first too s.phase effect (closes_in Closed rest.effects) asks refl closes rest.closed);
        left_is = rest.left_is;
      }

  -- what is left to be closed behind a first line
  rest_open : (phase next : Phase) (said : List (Option ScriptLine)) → has_closed phase next ≡ false → (if has_closed phase next then phase ∷ phases_closed next said else phases_closed next said) ≡ phases_closed next said
  rest_open phase next said stays = cond-false (has_closed phase next) (phase ∷ phases_closed next said) (phases_closed next said) stays

  rest_closed : (phase next : Phase) (said : List (Option ScriptLine)) → next ≡ Closed → has_closed phase Closed ≡ true → (if has_closed phase next then phase ∷ phases_closed next said else phases_closed next said) ≡ phase ∷ phases_closed Closed said
  rest_closed phase next said is closed =
      ap (λ (p : Phase). if has_closed phase p then phase ∷ phases_closed p said else phases_closed p said) is
      ∙ cond-true (has_closed phase Closed) (phase ∷ phases_closed Closed said) (phases_closed Closed said) closed

  build : (n : ℕ) (s : State) (lines : List (Option (List ℕ))) (said : List (Option ScriptLine)) (too : List AnsweredPhase) (left : List Ballot) → AllZip (Means e) lines said
      → map asked too ≡ phases_closed s.phase said → AreClosed (of_parts bits e) s.set too left → Built n s lines too left
  build n s [] [] [] left means asks closed = record { effects = []; end = s; plays = refl; closed = refl; left_is = sym closed }
  build n s [] [] (first ∷ too) left means asks closed = absurd cc
  build n s [] (word ∷ said) too left means asks closed = absurd means
  build n s (line ∷ lines) [] too left means asks closed = absurd means
  build n s (line ∷ lines) (word ∷ said) [] left means asks closed = ⊎_elim
      (λ (one : Fixed (AnswersBy (of_parts bits e) e n s line) s s.phase (phase_after s.phase word)).
      behind_fixed n s line lines [] left (phase_after s.phase word) one
      (build (n + 1) one.fixed.next lines said [] left means.1
      (asks ∙ rest_open s.phase (phase_after s.phase word) said one.stays_open ∙ ap (λ (p : Phase). phases_closed p said) (sym one.next_is))
      (closed ∙ sym one.same_set)))
      (λ (one : Closing bits e (AnswersBy (of_parts bits e) e n s line) s.set s.phase (phase_after s.phase word)).
      let never : map asked [] ≡ s.phase ∷ phases_closed Closed said = asks ∙ rest_closed s.phase (phase_after s.phase word) said one.next_is one.closed in
      absurd cc)
      (answer_kind bits e n s line word means.0)
  build n s (line ∷ lines) (word ∷ said) (first ∷ too) left means asks closed = ⊎_elim
      (λ (one : Fixed (AnswersBy (of_parts bits e) e n s line) s s.phase (phase_after s.phase word)).
      behind_fixed n s line lines (first ∷ too) left (phase_after s.phase word) one
      (build (n + 1) one.fixed.next lines said (first ∷ too) left means.1
      (asks ∙ rest_open s.phase (phase_after s.phase word) said one.stays_open ∙ ap (λ (p : Phase). phases_closed p said) (sym one.next_is))
      (subst (λ (set : List Ballot). AreClosed (of_parts bits e) set (first ∷ too) left) (sym one.same_set) closed)))
      (λ (one : Closing bits e (AnswersBy (of_parts bits e) e n s line) s.set s.phase (phase_after s.phase word)).
      let both : asked first ∷ map asked too ≡ s.phase ∷ phases_closed Closed said = asks ∙ rest_closed s.phase (phase_after s.phase word) said one.next_is one.closed in
      behind_closing n s line lines first too closed.0 left (phase_after s.phase word) one (cc) closed.1
      (build (n + 1) (begun closed.0) lines said too left means.1 (cc) closed.2))
      (answer_kind bits e n s line word means.0)

  -- ---- two scripts that are alike in a part

  -- what waits behind them in the part
  same_waits : (part : ℕ) (said others_said : List (Option ScriptLine)) (p q : Phase) → filter (concerns bits part) others_said ≡ filter (concerns bits part) said → p ≡ phase_behind Closed said → q ≡ phase_behind Closed others_said
      → waiting_at bits part q ≡ waiting_at bits part p
  same_waits part said others_said p q same first second =
      ap (waiting_at bits part) second ∙ behind_own bits part Closed others_said ∙ ap (phase_behind Closed) same ∙ sym (behind_own bits part Closed said) ∙ ap (waiting_at bits part) (sym first)

  -- what they close in the part
  same_phases : (part : ℕ) (said others_said : List (Option ScriptLine)) (phases : List Phase) → filter (concerns bits part) others_said ≡ filter (concerns bits part) said → phases ≡ phases_closed Closed said
      → map (waiting_at bits part) (phases_closed Closed others_said) ≡ map (waiting_at bits part) phases
  same_phases part said others_said phases same are =
      closed_own bits part Closed others_said ∙ ap (phases_closed Closed) same ∙ sym (closed_own bits part Closed said) ∙ ap (map (waiting_at bits part)) (sym are)

  pub plays_alike : (part : ℕ) (set other : List Ballot) (lines others : List (Option (List ℕ))) (effects : List Effect) (end : State) (run : List AnsweredPhase)
      → AreBits bits → part < 2 ^ bits → MayHoldParts bits e other → share bits part other ≡ share bits part set → AreAlikeScripts e bits part lines others
      → Plays 1 (begun set) lines effects end → By set run (closes_in Closed effects) end.set → PlaysAlikeAt e bits part (begun other) others run end
  plays_alike part set other lines others effects end run are below may alike scripts plays closed =
      let phases = same_phases part scripts.said scripts.others_said (map asked run) scripts.alike
      (asked_are set end.set run (closes_in Closed effects) closed ∙ closed_as_said 1 (begun set) end lines scripts.said effects scripts.means plays) in
      let found = run_alike e bits part are below run (phases_closed Closed scripts.others_said) set other end.set may alike
      (phases_may_wait e Closed others scripts.others_said scripts.others_mean (closed_may_wait e)) phases (are_closed set end.set run (closes_in Closed effects) closed) in
      let built = build 1 (begun other) others scripts.others_said found.0 found.1 scripts.others_mean found.3 found.2 in
      record {
        effects = built.effects;
        left = built.end;
        plays = built.plays;
        too = found.0;
        closed = built.closed;
        same = found.4;
        alike = ap (share bits part) built.left_is ∙ found.5;
        waiting = same_waits part scripts.said scripts.others_said end.phase built.end.phase scripts.alike
            (behind_as_said 1 (begun set) end lines scripts.said effects scripts.means plays)
            (behind_as_said 1 (begun other) built.end others scripts.others_said built.effects scripts.others_mean built.plays);
      }
