use Rattle.std.proofs.Common.{◌≡◌, ℕ, ◌+◌, ◌*◌, ◌^◌, ◌<◌, take, get_or}
use Rattle.std.specs.Prelude.{fold}
use Rattle.election_def.specs.Text.{IsSaltDigit, salt_digit}
use Rattle.election_def.proofs.parts.salt.Given as goal

abbrev pub invariant-loop-digit : goal.invariant-loop-digit
invariant-loop-digit l = record {
  number : l.salt ≡ fold (λ n c. n * 16 + salt_digit c) 0 (take l.digit-index l.digit-items);
  small : l.salt < 2 ^ (4 * l.digit-index);
  digits : (k : ℕ) → k < l.digit-index → IsSaltDigit (get_or l.digit-items k 0);
}
