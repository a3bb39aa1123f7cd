use Rattle.std.proofs.Common.{◌≡◌, ◌+◌, vec_len}
use Rattle.ballot_store_cli.proofs.further_disks.Given as goal

-- there is a disk for each word that was passed
abbrev pub invariant-words : goal.invariant-words
invariant-words g l = vec_len l.disks + 3 ≡ l.at
