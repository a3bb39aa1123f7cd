-- Loops that take from two lists at once.
use Rattle.std.proofs.Common.{◌≡◌, ◌++◌, ◌∙◌, List, [], ◌∷◌, Some, ap, append-nil, append_assoc, arith, length, length-append, refl, slice_get, sym, zip}
use Rattle.store_spec.proofs.Common.{nil_from_length}
use Rattle.phase_kind.proofs.Planned.{zipped_there}

-- a loop over two lists at once: what it has taken of each, and what is left
pub record AreTaken {X Y : Type 0} (xs : List X) (ys : List Y) (taken : List X) (beside : List Y) (left : List X) (others : List Y) : Type 0 where
  pub first : taken ++ left ≡ xs
  pub second : beside ++ others ≡ ys
  pub as_many : length beside ≡ length taken

pub seam : {X : Type 0} (xs ys : List X) (x : X) → slice_get (xs ++ x ∷ ys) (length xs) ≡ Some x
seam [] ys x = refl
seam (y ∷ xs) ys x = seam xs ys x

pub none_taken : {X Y : Type 0} (xs : List X) (ys : List Y) (left : List X) (others : List Y) → left ≡ xs → others ≡ ys → AreTaken xs ys [] [] left others
none_taken xs ys left others is are = record { first = is; second = are; as_many = refl }

module _ {X Y : Type 0} (xs : List X) (ys : List Y) (taken : List X) (beside : List Y) (left : List X) (others : List Y) (t : AreTaken xs ys taken beside left others) where
  pub as_many_left : length ys ≡ length xs → length others ≡ length left
  as_many_left same = omega (arith, t.as_many, same, ap length t.first, ap length t.second, length-append taken left, length-append beside others)

  module _ (x : X) (now : List X) (y : Y) (more : List Y) (first : left ≡ x ∷ now) (second : others ≡ y ∷ more) where
    pub there : slice_get xs (length taken) ≡ Some x
    there = ap (λ (l : List X). slice_get l (length taken)) (sym t.first ∙ ap (λ (l : List X). taken ++ l) first) ∙ seam taken now x

    pub beside_there : slice_get ys (length taken) ≡ Some y
    beside_there =
        ap (slice_get ys) (sym t.as_many)
        ∙ ap (λ (l : List Y). slice_get l (length beside)) (sym t.second ∙ ap (λ (l : List Y). beside ++ l) second)
        ∙ seam beside more y

    pub both_there : slice_get (zip xs ys) (length taken) ≡ Some (x, y)
    both_there = zipped_there xs ys (length taken) x y there beside_there

    pub one_taken : AreTaken xs ys (taken ++ x ∷ []) (beside ++ y ∷ []) now more
    one_taken = record {
      first = append_assoc taken (x ∷ []) now ∙ ap (λ (l : List X). taken ++ l) (sym first) ∙ t.first;
      second = append_assoc beside (y ∷ []) more ∙ ap (λ (l : List Y). beside ++ l) (sym second) ∙ t.second;
      as_many = omega (arith, t.as_many, length-append taken (x ∷ []), length-append beside (y ∷ []));
    }

  pub all_taken : length ys ≡ length xs → left ≡ [] → (taken ≡ xs) × (beside ≡ ys)
  all_taken same none =
      let no_other = nil_from_length others (as_many_left same ∙ ap length none) in (
        sym (append-nil taken) ∙ ap (λ (l : List X). taken ++ l) (sym none) ∙ t.first,
        sym (append-nil beside) ∙ ap (λ (l : List Y). beside ++ l) (sym no_other) ∙ t.second,
      )
