-- A measure read as one number: where the first number that differs is less, the whole is less.
use Rattle.std.proofs.Common.{◌≡◌, ℕ, suc, ◌+◌, ◌*◌, ◌^◌, ◌<◌, ◌≤◌, inl, inr, List, [], ◌∷◌, length, drop, sym, ap, ◌∙◌, subst, arith}
use Rattle.store_spec.proofs.Common.{All, All-head, All-tail, Falls}
use Rattle.std.proofs.Math.Nat.{mul-le-mul_right, pow-succ', pow-zero}
use Rattle.schedule_replay.specs.Machine.{number_of}

-- a digit and what comes behind it
digit : (n b power rest : ℕ) → n < b → rest < power → n * power + rest < b * power
digit n b power rest less behind =
    let more : suc n * power ≤ b * power = mul-le-mul_right power less in
    omega (arith, more)

below : (base : ℕ) (ns : List ℕ) → All (λ n. n < base) ns → number_of base ns < base ^ length ns
below base [] h = omega (arith, pow-zero base)
below base (n ∷ ns) h =
    subst (λ m. number_of base (n ∷ ns) < m) (sym (pow-succ' base (length ns)))
    (digit n base (base ^ length ns) (number_of base ns) (All-head (λ m. m < base) n ns h) (below base ns (All-tail (λ m. m < base) n ns h)))

-- all but the first are below the base
pub number_falls : (base : ℕ) (now before : List ℕ) → length now ≡ length before → All (λ n. n < base) (drop 1 now) → Falls now before → number_of base now < number_of base before
number_falls base [] before same h falls = absurd falls
number_falls base (n ∷ now) [] same h falls = absurd falls
number_falls base (n ∷ now) (b ∷ before) same h (inl less) =
    let first = digit n b (base ^ length now) (number_of base now) less (below base now h) in
    let power : base ^ length now ≡ base ^ length before = ap (λ k. base ^ k) (omega arith) in
    let whole : b * base ^ length now ≡ b * base ^ length before = ap (λ k. b * k) power in
    omega (arith, first, whole)
number_falls base (n ∷ now) (b ∷ before) same h (inr (is, falls)) =
    let rest = number_falls base now before (omega arith) (tail now h) falls in
    let power : base ^ length now ≡ base ^ length before = ap (λ k. base ^ k) (omega arith) in
    let first : n * base ^ length now ≡ b * base ^ length before = ap (λ m. m * base ^ length now) is ∙ ap (λ k. b * k) power in
    omega (arith, rest, first)
  where
    tail : (ns : List ℕ) → All (λ m. m < base) ns → All (λ m. m < base) (drop 1 ns)
    tail [] all = all
    tail (m ∷ ns) all = All-tail (λ k. k < base) m ns all
