-- The close of a phase, by what the phase leads to.
use Rattle.std.proofs.Common.{◌≡◌, ℕ, Bool, List, map, sym, ap, ◌∙◌}
use Rattle.store_spec.proofs.Common.{Ballot, CastLine, CastReply, ClosesCasting, ClosesFinding, ClosesWithdrawing, Effect, Election, WithdrawReply, Withdrawal, cast_text, closing, find_text, withdraw_text}
use Rattle.phase_play.proofs.Rows.{map_twice}
use Rattle.phase_play.specs.Plays.{PlaysCasting, PlaysFinding, PlaysWithdrawing}
use Rattle.store_spec.specs.WithdrawPhase.{Finding}

-- the words of the replies are those of the lines
words : {L R : Type 0} (text : R → List ℕ) (reply : L → R) (lines : List (List L)) (replies : List (List R)) (after : List Ballot) (effect : Effect) → map (map reply) lines ≡ replies → effect ≡ closing (map (map text) replies) after → effect ≡ closing (map (map (λ l. text (reply l))) lines) after
words text reply lines replies after effect are is = is ∙ ap (λ ws. closing ws after) (ap (map (map text)) (sym are) ∙ map_twice text reply lines)

pub closes_casting : (e : Election) (set : List Ballot) (lists : List (List Ballot)) (replies : List (List CastReply)) (after : List Ballot) (effect : Effect) → PlaysCasting e set lists replies after → effect ≡ closing (map (map cast_text) replies) after → ClosesCasting e set lists effect
closes_casting e set lists replies after effect p is = record {
  lines = p.lines;
  of_lists = p.of_work;
  after = after;
  outcome = p.outcome;
  is = words cast_text (λ (l : CastLine). l.reply) p.lines replies after effect p.of_replies is;
}

pub closes_withdrawing : (set : List Ballot) (lists : List (List ℕ)) (replies : List (List WithdrawReply)) (after : List Ballot) (effect : Effect) → PlaysWithdrawing set lists replies after → effect ≡ closing (map (map withdraw_text) replies) after → ClosesWithdrawing set lists effect
closes_withdrawing set lists replies after effect p is = record {
  lines = p.lines;
  of_lists = p.of_work;
  after = after;
  rest = p.rest;
  outcome = p.outcome;
  is = words withdraw_text (λ (a : Withdrawal). a.reply) p.lines replies after effect p.of_replies is;
}

pub closes_finding : (set : List Ballot) (lists : List (List ℕ)) (present : List (List Bool)) (effect : Effect) → PlaysFinding set lists present → effect ≡ closing (map (map find_text) present) set → ClosesFinding set lists effect
closes_finding set lists present effect p is = record {
  lines = p.lines;
  of_lists = p.of_work;
  outcome = p.outcome;
  is = words find_text (λ (a : Finding). a.present) p.lines present set effect p.of_present is;
}
