-- What a phase that was played leads to.
use Rattle.std.proofs.Common.{◌≡◌, ℕ, ⊎_elim, None, Bool, false, List, [], ◌∷◌, length, map, refl, sym, ap, ◌∙◌, subst, arith}
use Rattle.store_spec.proofs.Common.{All, All-map, Ballot, BallotOutcome, CastLine, Contains, Election, IsTrue, Withdrawal, ballot_of, ballots_without, is_some, length-map, map-id, map-map, numbers_of, zip}
use Rattle.std.specs.Prelude.{◌↔◌}
use Rattle.ballot_record.proofs.BallotNumbers.{ballot_with, contains_number}
use Rattle.ballot_record.proofs.Lookups.{found_in, missing_from, option_cases}
use Rattle.body_store.specs.Contents.{Contents}
use Rattle.phase_delete.proofs.Whole.{listed_is}
use Rattle.phase_delete.specs.Closing as withdrawn
use Rattle.phase_delete.specs.Tray as tray
use Rattle.phase_delete.specs.Tray.{TrayWithdrawal as Withdrawn}
use Rattle.phase_find.specs.Present.{is_present}
use Rattle.phase_insert.specs.Closing.{ClosesAs, reply_of, tray_line, trays_beside}
use Rattle.phase_insert.specs.Tray.{Cast}
use Rattle.phase_insert.specs.declared.reply.Final.{Final}
use Rattle.phase_kind.proofs.Listed.{trays_are_lists}
use Rattle.phase_kind.specs.Phase.{OpenPhase}
use Rattle.phase_kind.specs.AnsweredItem.{AnsweredItem}
use Rattle.phase_kind.specs.Worker.{AreAll, HasFinished, WorkerView, worker_with}
use Rattle.phase_play.proofs.Rows.{map_twice}
use Rattle.phase_play.specs.Plays.{PlaysCasting, PlaysFinding, PlaysWithdrawing}
use Rattle.step_core.specs.WithdrawCore as core
use Rattle.step_core.specs.declared.withdrawer.WithdrawReply.{WithdrawReply}
use Rattle.store_spec.specs.WithdrawPhase.{Finding}

-- ---- casting

-- two lists side by side, one of them
left_of : {X Y : Type 0} (xs : List X) (ys : List Y) → length ys ≡ length xs → map (λ p. p.0) (zip xs ys) ≡ xs
left_of [] ys same = refl
left_of (x ∷ xs) [] same = absurd (omega arith)
left_of (x ∷ xs) (y ∷ ys) same = ap (λ l. x ∷ l) (left_of xs ys (omega arith))

right_of : {X Y : Type 0} (xs : List X) (ys : List Y) → length ys ≡ length xs → map (λ p. p.1) (zip xs ys) ≡ ys
right_of [] [] same = refl
right_of [] (y ∷ ys) same = absurd (omega arith)
right_of (x ∷ xs) [] same = absurd (omega arith)
right_of (x ∷ xs) (y ∷ ys) same = ap (λ l. y ∷ l) (right_of xs ys (omega arith))

-- trays beside final replies, one of them
trays_of : (trays : List (List Cast)) (finals : List (List Final)) → map length finals ≡ map length trays → map (map (λ told. told.0)) (trays_beside trays finals) ≡ trays
trays_of [] finals same = refl
trays_of (tray ∷ trays) [] same = absurd cc
trays_of (tray ∷ trays) (list ∷ finals) same =
    let first : length list ≡ length tray = cc in
    let rest : map length finals ≡ map length trays = cc in
    ap (λ l. l ∷ map (map (λ (told : Cast × Final). told.0)) (trays_beside trays finals)) (left_of tray list first)
    ∙ ap (λ l. tray ∷ l) (trays_of trays finals rest)

finals_of : (trays : List (List Cast)) (finals : List (List Final)) → map length finals ≡ map length trays → map (map (λ told. told.1)) (trays_beside trays finals) ≡ finals
finals_of [] [] same = refl
finals_of [] (list ∷ finals) same = absurd cc
finals_of (tray ∷ trays) [] same = absurd cc
finals_of (tray ∷ trays) (list ∷ finals) same =
    let first : length list ≡ length tray = cc in
    let rest : map length finals ≡ map length trays = cc in
    ap (λ l. l ∷ map (map (λ (told : Cast × Final). told.1)) (trays_beside trays finals)) (right_of tray list first)
    ∙ ap (λ l. list ∷ l) (finals_of trays finals rest)

-- the ballots of trays, and the final replies beside them
pub plays_casting : (e : Election) (base : Contents) (trays : List (List Cast)) (finals : List (List Final)) (work : List (List Ballot)) (after : List Ballot) → base.election ≡ e → ClosesAs base trays finals after → map (map (λ c. c.item)) trays ≡ work → PlaysCasting e base.ballots work (map (map reply_of) finals) after
plays_casting e base trays finals work after own closes are =
    let rows = trays_beside trays finals in
    record {
      lines = map (map tray_line) rows;
      of_work =
          map_twice (λ (l : CastLine). l.ballot) tray_line rows
          ∙ sym (map_twice (λ (c : Cast). c.item) (λ (told : Cast × Final). told.0) rows)
          ∙ ap (map (map (λ (c : Cast). c.item))) (trays_of trays finals closes.as_many)
          ∙ are;
      of_replies =
          map_twice (λ (l : CastLine). l.reply) tray_line rows
          ∙ sym (map_twice reply_of (λ (told : Cast × Final). told.1) rows)
          ∙ ap (map (map reply_of)) (finals_of trays finals closes.as_many);
      outcome = subst (λ (f : Election). BallotOutcome f base.ballots (map (map tray_line) rows) after) own closes.outcome;
    }

-- ---- withdrawing

-- the numbers of trays, and their replies
pub plays_withdrawing : (base : Contents) (trays : List (List Withdrawn)) (replies : List (List WithdrawReply)) (work : List (List ℕ)) (after : List Ballot) → withdrawn.ClosesAs base trays replies after → map (map (λ w. w.item)) trays ≡ work → PlaysWithdrawing base.ballots work (map (map core.reply_of) replies) after
plays_withdrawing base trays replies work after closes are = record {
  lines = withdrawn.tray_lines trays;
  of_work = map_twice (λ (a : Withdrawal). a.number) tray.tray_line trays ∙ are;
  of_replies =
      map_twice (λ (a : Withdrawal). a.reply) tray.tray_line trays
      ∙ sym (map_twice core.reply_of (λ (w : Withdrawn). w.reply) trays)
      ∙ ap (map (map core.reply_of)) (sym closes.of_trays);
  rest = closes.rest ∙ ap (ballots_without base.ballots) (sym (listed_is trays));
  outcome = closes.outcome;
}

-- ---- workers

-- workers that began with lists, and have answered them
module _ {V I R : Type 0} (rests : V → Type 0) (fresh : V) (phase : OpenPhase) (lists : List (List I)) (before : List (WorkerView V I R)) (are : before ≡ map (worker_with fresh phase) lists) where
  as_many : length before ≡ length lists
  as_many = ap length are ∙ length-map lists (worker_with {V = V} {I = I} {R = R} fresh phase)

  pub all_belong : All (λ worker. worker.phase ≡ phase) before
  all_belong = subst (λ (workers : List (WorkerView V I R)). All (λ worker. worker.phase ≡ phase) workers) (sym are) (All-map (λ (worker : WorkerView V I R). worker.phase ≡ phase) (worker_with fresh phase) lists (λ k d within. refl))

  -- all of them are there at the close, and their trays have the items of the lists
  pub all_there : (after whole : List (WorkerView V I R)) → length after ≡ length before → whole ≡ after → phase.words.seats ≡ length lists → All (λ worker. worker.phase ≡ phase) after → All (λ worker. worker.waiting ≡ []) after → AreAll phase whole
  all_there after whole same is seats belong idle = subst (AreAll phase) (sym is) (record { all = same ∙ as_many ∙ sym seats; belong = belong; idle = idle })

  pub all_trays : (after whole : List (WorkerView V I R)) → length after ≡ length before → whole ≡ after → All (λ at. HasFinished rests at.0 at.1) (zip before after) → map (map (λ t. t.item)) (map (λ worker. worker.tray) whole) ≡ lists
  all_trays after whole same is each =
      let finished = subst (λ (workers : List (WorkerView V I R)). All (λ at. HasFinished rests at.0 at.1) (zip workers after)) are each in
      ap (λ (workers : List (WorkerView V I R)). map (map (λ (t : AnsweredItem I R). t.item)) (map (λ (worker : WorkerView V I R). worker.tray) workers)) is
      ∙ map-map (map (λ (t : AnsweredItem I R). t.item)) (λ (worker : WorkerView V I R). worker.tray) after
      ∙ trays_are_lists rests fresh phase lists after (same ∙ as_many) finished

-- ---- finding

-- a number is present where it is that of a ballot
present_right : (held : List Ballot) (number : ℕ) → IsTrue (is_present held number) ↔ Contains (numbers_of held) number
present_right held number = ⊎_elim
    (λ (none : ballot_of held number ≡ None). (
      λ yes. absurd (let no : is_present held number ≡ false = ap is_some none in cc),
      λ there. let with = ballot_with held number there in absurd (missing_from held number none with.0 with.1 with.2),
    ))
    (λ some.
    let found = found_in held number some.0 some.1 in
    (λ yes. contains_number held some.0 number found.0 found.1, λ there. ap is_some some.1))
    (option_cases (ballot_of held number))

abbrev found : List Ballot → ℕ → Finding
found held number = record { number = number; present = is_present held number }

same_lists : (lists : List (List ℕ)) → map (map (λ x. x)) lists ≡ lists
same_lists [] = refl
same_lists (list ∷ lists) = ap (λ l. l ∷ map (map (λ x. x)) lists) (map-id list) ∙ ap (λ l. list ∷ l) (same_lists lists)

pub plays_finding : (held : List Ballot) (work : List (List ℕ)) (present : List (List Bool)) → present ≡ map (map (is_present held)) work → PlaysFinding held work present
plays_finding held work present is =
    let Right : Finding → Type 0 = λ a. IsTrue a.present ↔ Contains (numbers_of held) a.number in
    record {
      lines = map (map (found held)) work;
      of_work = map_twice (λ (a : Finding). a.number) (found held) work ∙ same_lists work;
      of_present = map_twice (λ (a : Finding). a.present) (found held) work ∙ sym is;
      outcome = record {
        answers = All-map (All Right) (map (found held)) work (λ k d within. All-map Right (found held) _ (λ j n there. present_right held _));
        stays = refl;
      };
    }
