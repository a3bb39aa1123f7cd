use Rattle.std.proofs.Common.{◌≡◌, ◌+◌, ◌++◌, drop, map}
use Rattle.store_spec.proofs.Common.{all_reply_lines, string_bytes}
use Rattle.reply_lines.proofs.lines.push_all_replies.Given as goal

-- the lines of the first lists are written
abbrev pub invariant-lists : goal.invariant-lists
invariant-lists g l =
    string_bytes l.text ++ all_reply_lines (l.at + 1) (drop l.at (map (λ list. map g.R.Reply.word list.items) l.lists))
    ≡ string_bytes l.initial.text ++ all_reply_lines 1 (map (λ list. map g.R.Reply.word list.items) l.lists)
