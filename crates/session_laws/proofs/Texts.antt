-- Texts that are not the same.
use Rattle.std.proofs.Common.{◌≡◌, ℕ, eqb, false, List, get_or, ap}
use Rattle.store_spec.proofs.Common.{eqb-false}

-- texts with other bytes at a place are not the same
pub differ : (k : ℕ) {a b : List ℕ} → a ≡ b → eqb (get_or a k 0) (get_or b k 0) ≡ false → ⊥
differ k {a = a} {b = b} same other = eqb-false (get_or a k 0) (get_or b k 0) other (ap (λ (bytes : List ℕ). get_or bytes k 0) same)
