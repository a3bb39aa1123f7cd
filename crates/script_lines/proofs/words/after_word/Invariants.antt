use Rattle.std.proofs.Common.{◌≡◌, take}
use Rattle.script_lines.proofs.words.after_word.Given as goal

-- the first bytes of the word stand first
abbrev pub invariant-word : goal.invariant-word
invariant-word l = take l.at l.bytes ≡ take l.at l.word
