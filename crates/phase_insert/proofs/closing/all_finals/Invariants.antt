use Rattle.std.proofs.Common.{◌≡◌, ℕ, ◌≤◌, Vec, Global, get_or, map, take}
use Rattle.phase_insert.proofs.closing.all_finals.Given as goal
use Rattle.phase_insert.specs.Ends.{AreAllFinals}
use Rattle.phase_insert.specs.Tray.{casts_of}
use Rattle.phase_insert.specs.declared.reply.Final.{Final}

-- the trays so far are answered, and the other lists are as they were
abbrev pub invariant-loop-place : goal.invariant-loop-place
invariant-loop-place l = record {
  told : AreAllFinals l.after.ballots (map casts_of (take l.place l.trays))
      (map (λ list. list.items) (take l.place l.lists));
  rest : (k : ℕ) (d : Vec Final Global) → l.place ≤ k → get_or l.lists k d ≡ get_or l.initial.lists k d;
}
