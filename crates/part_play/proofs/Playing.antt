-- What the phases of all parts lead to.
use Rattle.std.proofs.Common.{◌≡◌, ◌∙◌, ℕ, All, List, Some, ap, arith, get_or, length, map, slice_get, subst, sym}
use Rattle.store_spec.proofs.Common.{Ballot, BallotOutcome, CastLine, Election, WithdrawOutcome, Withdrawal, ballots_without, length-map, listed, numbers_of, of_part, part_of, slice_get-get_or, slice_get_within}
use Rattle.std.specs.Prelude.{◌==◌}
use Rattle.body_store.specs.Contents.{Contents, IsStored}
use Rattle.part_play.proofs.Beside.{beside_mapped, beside_parts, beside_there, filters_mapped, firsts_beside, seconds_beside}
use Rattle.part_play.specs.Plays.{PlaysCastingInParts, PlaysWithdrawingInParts, beside}
use Rattle.part_play.specs.Several.{HasPlayed, part_replies}
use Rattle.phase_delete.proofs.Whole.{listed_is}
use Rattle.phase_delete.specs.Closing as withdrawn
use Rattle.phase_delete.specs.Tray.{TrayWithdrawal as Withdrawn}
use Rattle.phase_insert.specs.Closing as cast
use Rattle.phase_insert.specs.Closing.{ClosesAs, reply_of, tray_line}
use Rattle.phase_insert.specs.Tray.{Cast}
use Rattle.phase_insert.specs.declared.reply.Final.{Final}
use Rattle.phase_kind.proofs.Counts.{something_there}
use Rattle.phase_kind.proofs.Planned.{holds_at, mapped_at, same_at_each}
use Rattle.phase_kind.specs.Team.{those_of}
use Rattle.phase_kind.specs.AnsweredItem.{AnsweredItem}
use Rattle.phase_play.proofs.Rows.{map_twice}
use Rattle.step_core.specs.WithdrawCore as core
use Rattle.step_core.specs.declared.withdrawer.WithdrawReply.{WithdrawReply}

-- ---- any kind

module _ {I R F : Type 0} (closes : Contents → List (List (AnsweredItem I R)) → List (List F) → List Ballot → Type 0) (goes_to : I → ℕ) (before : List Contents) (work : List (List I)) (after : List Contents) (replies : List (List F)) (played : HasPlayed closes goes_to before work after replies) where
  abbrev election_of : Contents → Election
  election_of store = store.election

  -- the store of one place, as it was
  was_there : (place : ℕ) (now : Contents) → slice_get after place ≡ Some now → (old : Contents) × (slice_get before place ≡ Some old)
  was_there place now is = something_there before place (omega (arith, slice_get_within after place now is, played.stores))

  pub elections_stay : map (λ store. store.election) after ≡ map (λ store. store.election) before
  elections_stay = same_at_each (map election_of after) (map election_of before) (omega (arith, length-map after election_of, length-map before election_of, played.stores))
      (λ place x y at_x at_y.
      let now = mapped_at election_of after place x at_x in
      let old = mapped_at election_of before place y at_y in
      now.2 ∙ (played.each place old.0 now.0 old.1 now.1).election ∙ sym old.2)

  pub all_stored : All IsStored after
  all_stored place d within =
      let now = get_or after place d in
      let is = slice_get-get_or after place d within in
      let old = was_there place now is in
      (played.each place old.0 now old.1 is).stored

abbrev ballots_in : Contents → List Ballot
ballots_in store = store.ballots

-- ---- casting

abbrev told_line : Ballot × Final → CastLine
told_line row = record { ballot = row.0; reply = reply_of row.1 }

abbrev cast_lines : List (List Ballot) → List (List Final) → List (List CastLine)
cast_lines work finals = map (map told_line) (beside work finals)

-- the lines of one part
lines_cast : (bits part : ℕ) (trays : List (List Cast)) (work : List (List Ballot)) (finals : List (List Final)) → map length finals ≡ map length work → map (map (λ c. c.item)) trays ≡ map (those_of (λ b. part_of bits b.number) part) work
    → map (map tray_line) (cast.trays_beside trays (part_replies (λ b. part_of bits b.number) part work finals)) ≡ map (of_part (λ l. l.ballot.number) bits part) (cast_lines work finals)
lines_cast bits part trays work finals same items =
    let goes : Ballot → ℕ = λ b. part_of bits b.number in
    let item : Cast → Ballot = λ c. c.item in
    let told = part_replies goes part work finals in
    sym (map_twice told_line (λ (p : Cast × Final). (item p.0, p.1)) (beside trays told))
    ∙ ap (map (map told_line)) (sym (beside_mapped item trays told) ∙ ap (λ (l : List (List Ballot)). beside l told) items ∙ beside_there goes part work finals same)
    ∙ sym (filters_mapped (λ (l : CastLine). part_of bits l.ballot.number == part) told_line (beside work finals))

pub casts_in_parts : (bits : ℕ) (e : Election) (before : List Contents) (work : List (List Ballot)) (after : List Contents) (finals : List (List Final)) → All (λ store. store.election ≡ e) before → HasPlayed ClosesAs (λ b. part_of bits b.number) before work after finals
    → PlaysCastingInParts bits e (map (λ store. store.ballots) before) work (map (map reply_of) finals) (map (λ store. store.ballots) after)
casts_in_parts bits e before work after finals own played =
    let rows = beside work finals in
    record {
      lines = cast_lines work finals;
      of_work = map_twice (λ (l : CastLine). l.ballot) told_line rows ∙ firsts_beside work finals played.answered;
      of_replies =
          map_twice (λ (l : CastLine). l.reply) told_line rows
          ∙ sym (map_twice reply_of (λ (p : Ballot × Final). p.1) rows)
          ∙ ap (map (map reply_of)) (seconds_beside work finals played.answered);
      parts = omega (arith, length-map after ballots_in, length-map before ballots_in, played.stores);
      outcome = λ part old new was is.
          let o = mapped_at ballots_in before part old was in
          let n = mapped_at ballots_in after part new is in
          let closed = played.each part o.0 n.0 o.1 n.1 in
          let lines = map (of_part (λ (l : CastLine). l.ballot.number) bits part) (cast_lines work finals) in
          let outcome = subst (λ (ls : List (List CastLine)). BallotOutcome o.0.election o.0.ballots ls n.0.ballots) (lines_cast bits part closed.trays work finals played.answered closed.items) closed.told.outcome in
          subst (λ (b : List Ballot). BallotOutcome e b lines new) (sym o.2)
          (subst (λ (b : List Ballot). BallotOutcome e o.0.ballots lines b) (sym n.2)
          (subst (λ (f : Election). BallotOutcome f o.0.ballots lines n.0.ballots) (holds_at (λ (store : Contents). store.election ≡ e) before part o.0 own o.1) outcome));
    }

-- ---- withdrawing

abbrev answer_line : ℕ × WithdrawReply → Withdrawal
answer_line row = record { number = row.0; reply = core.reply_of row.1 }

abbrev withdraw_lines : List (List ℕ) → List (List WithdrawReply) → List (List Withdrawal)
withdraw_lines work replies = map (map answer_line) (beside work replies)

lines_withdrawn : (bits part : ℕ) (trays : List (List Withdrawn)) (work : List (List ℕ)) (replies : List (List WithdrawReply)) → map length replies ≡ map length work → map (map (λ w. w.item)) trays ≡ map (those_of (λ n. part_of bits n) part) work → part_replies (λ n. part_of bits n) part work replies ≡ map (map (λ w. w.reply)) trays
    → withdrawn.tray_lines trays ≡ map (of_part (λ a. a.number) bits part) (withdraw_lines work replies)
lines_withdrawn bits part trays work replies same items told =
    let goes : ℕ → ℕ = λ n. part_of bits n in
    let item : Withdrawn → ℕ = λ w. w.item in
    let reply : Withdrawn → WithdrawReply = λ w. w.reply in
    sym (map_twice answer_line (λ (w : Withdrawn). (item w, reply w)) trays)
    ∙ ap (map (map answer_line))
    (sym (beside_parts item reply trays)
    ∙ ap (λ (l : List (List WithdrawReply)). beside (map (map item) trays) l) (sym told)
    ∙ ap (λ (l : List (List ℕ)). beside l (part_replies goes part work replies)) items
    ∙ beside_there goes part work replies same)
    ∙ sym (filters_mapped (λ (a : Withdrawal). part_of bits a.number == part) answer_line (beside work replies))

pub withdraws_in_parts : (bits : ℕ) (before : List Contents) (work : List (List ℕ)) (after : List Contents) (replies : List (List WithdrawReply)) → HasPlayed withdrawn.ClosesAs (λ n. part_of bits n) before work after replies
    → PlaysWithdrawingInParts bits (map (λ store. store.ballots) before) work (map (map core.reply_of) replies) (map (λ store. store.ballots) after)
withdraws_in_parts bits before work after replies played =
    let rows = beside work replies in
    record {
      lines = withdraw_lines work replies;
      of_work = map_twice (λ (a : Withdrawal). a.number) answer_line rows ∙ firsts_beside work replies played.answered;
      of_replies =
          map_twice (λ (a : Withdrawal). a.reply) answer_line rows
          ∙ sym (map_twice core.reply_of (λ (p : ℕ × WithdrawReply). p.1) rows)
          ∙ ap (map (map core.reply_of)) (seconds_beside work replies played.answered);
      parts = omega (arith, length-map after ballots_in, length-map before ballots_in, played.stores);
      rest = λ part old new was is.
          let o = mapped_at ballots_in before part old was in
          let n = mapped_at ballots_in after part new is in
          let closed = played.each part o.0 n.0 o.1 n.1 in
          let lines = lines_withdrawn bits part closed.trays work replies played.answered closed.items closed.told.of_trays in
          n.2 ∙ closed.told.rest
          ∙ ap (ballots_without o.0.ballots) (sym (listed_is closed.trays) ∙ ap listed lines)
          ∙ ap (λ (b : List Ballot). ballots_without b (listed (map (of_part (λ (a : Withdrawal). a.number) bits part) (withdraw_lines work replies)))) (sym o.2);
      outcome = λ part old new was is.
          let o = mapped_at ballots_in before part old was in
          let n = mapped_at ballots_in after part new is in
          let closed = played.each part o.0 n.0 o.1 n.1 in
          let lines = map (of_part (λ (a : Withdrawal). a.number) bits part) (withdraw_lines work replies) in
          let outcome = subst (λ (ls : List (List Withdrawal)). WithdrawOutcome (numbers_of o.0.ballots) ls (numbers_of n.0.ballots)) (lines_withdrawn bits part closed.trays work replies played.answered closed.items closed.told.of_trays) closed.told.outcome in
          subst (λ (b : List Ballot). WithdrawOutcome (numbers_of b) lines (numbers_of new)) (sym o.2)
          (subst (λ (b : List Ballot). WithdrawOutcome (numbers_of o.0.ballots) lines (numbers_of b)) (sym n.2) outcome);
    }
