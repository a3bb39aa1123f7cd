use Rattle.std.proofs.Common.{◌≡◌, ◌+◌, ◌++◌, drop}
use Rattle.store_spec.proofs.Common.{all_reply_lines, string_bytes}
use Rattle.schedule_replay.proofs.run.push_all_replies.Given as goal

-- the lines of the first lists are written
abbrev pub invariant-tabs : goal.invariant-tabs
invariant-tabs g l =
    string_bytes l.text ++ all_reply_lines (l.tab + 1) (drop l.tab (g.C.Machine.words l.core))
    ≡ string_bytes l.initial.text ++ all_reply_lines 1 (g.C.Machine.words l.core)
