-- Relations of the bytes that are told before and after.
use Rattle.std.proofs.Common.{◌≡◌, ℕ, List, ◌++◌, Option, Some, None, refl, sym, ◌∙◌, ap, subst, append_assoc}
use Rattle.std.specs.Option.{IfSome, IsSome, is_some, option_map}
use Rattle.outside_io.specs.Stream.{Gives, GivesFront}
use Rattle.outside_io.specs.Told.{IfTold}

-- what is told as often as bytes that are told is told
told_too : (a b : Option (List ℕ)) (x : List ℕ) → is_some b ≡ is_some a → a ≡ Some x → (y : List ℕ) × (b ≡ Some y)
told_too None b x told is = absurd cc
told_too (Some x) None y told is = absurd cc
told_too (Some x) (Some z) y told is = (z, refl)

-- what is told of these bytes
pub told_at : {a b : Option (List ℕ)} {R : List ℕ → List ℕ → Type 0} (x : List ℕ) → a ≡ Some x → IfTold a b R → (y : List ℕ) × R x y
told_at {a} {b} x is told = let after = told_too a b x told.told is in (after.0, told.related x after.0 is after.1)

-- bytes that are told
pub some_told : (a : Option (List ℕ)) → IsSome a → (x : List ℕ) × (a ≡ Some x)
some_told None is = absurd cc
some_told (Some x) is = (x, refl)

-- the bytes stay
pub told_still : {a b : Option (List ℕ)} {R : List ℕ → List ℕ → Type 0} → b ≡ a → ((x : List ℕ) → R x x) → IfTold a b R
told_still {R} same start = record {
  told = ap is_some same;
  related = λ x y was is. let kept : x ≡ y = cc in subst (λ z. R x z) kept (start x);
}

-- a relation follows
pub told_as : {a b : Option (List ℕ)} {R S : List ℕ → List ℕ → Type 0} → IfTold a b R → ((x y : List ℕ) → R x y → S x y) → IfTold a b S
told_as one step = record { told = one.told; related = λ x y was is. step x y (one.related x y was is) }

-- two relations of the same bytes
pub told_with : {a b : Option (List ℕ)} {R S : List ℕ → List ℕ → Type 0} → IfTold a b R → IfTold a b S → IfTold a b (λ x y. R x y × S x y)
told_with one two = record { told = one.told; related = λ x y was is. (one.related x y was is, two.related x y was is) }

-- one step after another
pub told_on : {a b c : Option (List ℕ)} {R S Q : List ℕ → List ℕ → Type 0} → IfTold a b R → IfTold b c S → ((x y z : List ℕ) → R x y → S y z → Q x z) → IfTold a c Q
told_on {a} {b} one two step = record {
  told = two.told ∙ one.told;
  related = λ x z was is.
      let mid = told_too a b x one.told was in
      step x mid.0 z (one.related x mid.0 was mid.1) (two.related mid.0 z mid.1 is);
}

-- a source gave a front twice
pub gives_on : {a b c : Option (List ℕ)} → IfTold a b GivesFront → IfTold b c GivesFront → IfTold a c GivesFront
gives_on one two =
    told_on one two (λ x y z first next. (first.0 ++ next.0, first.1 ∙ ap (λ rest. first.0 ++ rest) next.1 ∙ sym (append_assoc first.0 next.0 z)))

-- bytes were taken from the front
pub told_given : {a b : Option (List ℕ)} {R : List ℕ → List ℕ → Type 0} (bytes : List ℕ) → Gives a bytes b → ((x y : List ℕ) → x ≡ bytes ++ y → R x y) → IfTold a b R
told_given {a} {b} bytes gives step = record {
  told = same_told a b bytes gives;
  related = λ x y was is.
      let given : Some x ≡ Some (bytes ++ y) = sym was ∙ gives ∙ ap (option_map (λ rest. bytes ++ rest)) is in
      step x y (let all : x ≡ bytes ++ y = cc in all);
} where
  same_told : (a b : Option (List ℕ)) (bytes : List ℕ) → Gives a bytes b → is_some b ≡ is_some a
  same_told a None bytes gives = sym (ap is_some gives)
  same_told a (Some y) bytes gives = sym (ap is_some gives)

-- what holds of the bytes holds of those that are told
pub told_holds : {a : Option (List ℕ)} (P : List ℕ → Type 0) (x : List ℕ) → a ≡ Some x → IfSome a P → P x
told_holds P x is some = subst (λ o. IfSome o P) is some
