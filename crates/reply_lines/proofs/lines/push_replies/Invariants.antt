use Rattle.std.proofs.Common.{◌≡◌, ◌+◌, ◌≤◌, ◌++◌, drop, map, take}
use Rattle.store_spec.proofs.Common.{IsUtf8, reply_lines, string_bytes}
use Rattle.reply_lines.proofs.lines.push_replies.Given as goal

-- the lines of the first replies are appended or gathered
abbrev pub invariant-replies : goal.invariant-replies
invariant-replies g l =
    (l.filled ≤ 4096) × IsUtf8 (take l.filled l.block)
    × (string_bytes l.text ++ (take l.filled l.block
    ++ reply_lines l.list (l.at + 1) (drop l.at (map g.R.Reply.word l.replies)))
    ≡ string_bytes l.initial.text ++ reply_lines l.list 1 (map g.R.Reply.word l.replies))
