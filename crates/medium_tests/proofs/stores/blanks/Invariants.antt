use Rattle.std.proofs.Common.{◌≡◌, map, take}
use Rattle.store_spec.proofs.Common.{example}
use Rattle.body_store.proofs.Blank.{blank}
use Rattle.medium_tests.proofs.stores.blanks.Given as goal

abbrev pub invariant-loop-number : goal.invariant-loop-number
invariant-loop-number l = l.list ≡ record { election = example; ballots = map blank (take l.number-index l.numbers); room = 0 }
