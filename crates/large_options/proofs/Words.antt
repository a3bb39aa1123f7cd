-- A value's text is no name of an option, for `clap` too.
use Rattle.std.proofs.Common.{◌≡◌, ℕ, ◌^◌, ◌<◌, ◌≤◌, false, eqb, List, [], ◌∷◌, get_or, None, refl, arith}
use Rattle.store_spec.proofs.Common.{bytes_eq, decimal, ne_eqb}
use Rattle.std.proofs.lemmas.Fmt.{first_decimal}
use Rattle.clap.specs.Lexer.{long_of, short_of}

-- the text does not begin with a dash
pub record IsValueText (text : List ℕ) : Type 0 where
  pub no_long : long_of text ≡ None
  pub no_short : short_of text ≡ None
  pub no_dashes : bytes_eq text (45 ∷ 45 ∷ []) ≡ false

without_dash : (text : List ℕ) → 48 < get_or text 0 0 → IsValueText text
without_dash [] above = absurd (omega arith)
without_dash (byte ∷ text) above =
    let other : eqb byte 45 ≡ false = ne_eqb byte 45 (λ same. omega arith) in
    record { no_long = rw other refl; no_short = rw other refl; no_dashes = rw other refl }

-- a decimal does not
pub decimal_text : (n : ℕ) → 1 ≤ n → n < 2 ^ 64 → IsValueText (decimal n)
decimal_text n some small = without_dash (decimal n) (first_decimal n (omega arith) small)
