-- Where two lists of bytes differ first.
use Rattle.std.proofs.Common.{◌≡◌, ℕ, ◌+◌, ◌<◌, ◌≤◌, List, ◌++◌, take, drop, Option, Some, None, refl, sym, ◌∙◌, ap, arith, ⊎_elim}
use Rattle.store_spec.proofs.Common.{cases_lt, get_or-drop, get_or-take, get_or_past, length-take, take-add, take-take}
use Rattle.std.specs.Prelude.{◌≢◌}
use Rattle.recovery.specs.Differing.{DiffersFirstAt}

-- behind a front that is the same
pub differs_behind : (xs ys : List ℕ) (n i : ℕ) → take n xs ≡ take n ys → DiffersFirstAt i (drop n xs) (drop n ys) → DiffersFirstAt (n + i) xs ys
differs_behind xs ys n i same differs = record {
  before = take-add n i xs ∙ ap (λ (zs : List ℕ). zs ++ take i (drop n xs)) same ∙ ap (λ (zs : List ℕ). take n ys ++ zs) differs.before ∙ sym (take-add n i ys);
  here = λ is. differs.here (get_or-drop n xs i 0 ∙ is ∙ sym (get_or-drop n ys i 0));
}

-- fronts differ within their length
differs_below : (xs ys : List ℕ) (k i : ℕ) → DiffersFirstAt i (take k xs) (take k ys) → i < k
differs_below xs ys k i differs =
    ⊎_elim
    (λ (below : i < k). below)
    (λ (past : k ≤ i).
    absurd (differs.here (get_or_past (take k xs) i 0 (omega (arith, length-take k xs)) ∙ sym (get_or_past (take k ys) i 0 (omega (arith, length-take k ys))))))
    (cases_lt i k)

-- and the lists differ where their fronts do
pub differs_within : (xs ys : List ℕ) (k i : ℕ) → DiffersFirstAt i (take k xs) (take k ys) → DiffersFirstAt i xs ys
differs_within xs ys k i differs =
    let below = differs_below xs ys k i differs in
    record {
      before = sym (take-take i k xs (omega arith)) ∙ differs.before ∙ take-take i k ys (omega arith);
      here = λ is. differs.here (get_or-take k xs i 0 below ∙ is ∙ sym (get_or-take k ys i 0 below));
    }

-- what is at no place is nowhere
pub none_of : (first : Option ℕ) → ((place : ℕ) → first ≢ Some place) → first ≡ None
none_of None never = refl
none_of (Some place) never = absurd (never place refl)
