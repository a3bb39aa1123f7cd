-- What a sink has taken of a text that is written part by part.
use Rattle.std.proofs.Common.{◌≡◌, ℕ, ◌+◌, inl, inr, List, [], ◌++◌, take, length, Option, Some, None, Result, Ok, Err, refl, sym, ap, subst, ◌∙◌, arith, append_assoc, append-nil, take_at}
use Rattle.store_spec.proofs.Common.{OnErr, cases_lt, take-append-add, take-append-le, take_all}
use Rattle.std.specs.Option.{option_map}
use Rattle.outside_io.specs.Stream.{TakesAll, TakesSome}

-- one text was taken, and then another
pub takes_on : (a b c : Option (List ℕ)) (x y : List ℕ) → TakesAll a x b → TakesAll b y c → TakesAll a (x ++ y) c
takes_on a b c x y one two = two ∙ ap (option_map (λ front. front ++ y)) one ∙ joined a where
  joined : (a : Option (List ℕ))
      → option_map (λ front. front ++ y) (option_map (λ front. front ++ x) a) ≡ option_map
      (λ front. front ++ (x ++ y)) a
  joined None = refl
  joined (Some front) = ap Some (append_assoc front x y)

-- the first part of a text was taken
pub takes_front : (a b : Option (List ℕ)) (x z : List ℕ) → TakesAll a x b → TakesSome a (x ++ z) b
takes_front a b x z taken = (length x, subst (λ text. TakesAll a text b) (sym (take_at x z (length x) refl)) taken)

-- so many bytes of the first of two texts are the first of both
front_of : (count : ℕ) (y z : List ℕ) → (n : ℕ) × (take n (y ++ z) ≡ take count y)
front_of count y z = elim (cases_lt (length y) count) [
  | inl all ↦ (length y, take_at y z (length y) refl ∙ sym (take_all count y (omega arith)))
  | inr some ↦ (count, take-append-le count y z some)
]

-- the first part of a text was taken, and then some of the next
pub takes_some : (a b c : Option (List ℕ)) (x y z : List ℕ) → TakesAll a x b → TakesSome b y c
    → TakesSome a (x ++ (y ++ z)) c
takes_some a b c x y z one two =
    let n = front_of two.0 y z in
    let same : x ++ take two.0 y ≡ take (length x + n.0) (x ++ (y ++ z)) = ap (λ text. x ++ text) (sym n.1)
    ∙ sym (take-append-add x (y ++ z) n.0) in
    (length x + n.0, subst (λ text. TakesAll a text c) same (takes_on a b c x (take two.0 y) one two.1))

-- a sink took the front of a whole text, behind which stand what is gathered and what is left
pub record IsWritten (before now : Option (List ℕ)) (gathered left whole : List ℕ) : Type 0 where
  pub front : List ℕ
  pub taken : TakesAll before front now
  pub rest : front ++ (gathered ++ left) ≡ whole

pub none_taken : (a : Option (List ℕ)) → TakesAll a [] a
none_taken None = refl
none_taken (Some front) = ap Some (sym (append-nil front))

-- the next part was gathered
pub more_gathered : (before now : Option (List ℕ)) (gathered more part left whole : List ℕ)
    → IsWritten before now gathered (part ++ left) whole → more ≡ gathered ++ part
    → IsWritten before now more left whole
more_gathered before now gathered more part left whole written is = record {
  front = written.front;
  taken = written.taken;
  rest = ap (λ text. written.front ++ (text ++ left)) is
      ∙ ap (λ text. written.front ++ text) (append_assoc gathered part left) ∙ written.rest;
}

-- what was gathered was written
pub gathered_written : (before now after : Option (List ℕ)) (gathered none left whole : List ℕ)
    → IsWritten before now gathered left whole → TakesAll now gathered after → none ≡ []
    → IsWritten before after none left whole
gathered_written before now after gathered none left whole written takes empty = record {
  front = written.front ++ gathered;
  taken = takes_on before now after written.front gathered written.taken takes;
  rest = ap (λ text. (written.front ++ gathered) ++ (text ++ left)) empty ∙ append_assoc written.front gathered left
      ∙ written.rest;
}

-- all was gathered and then written
pub all_written : (before now after : Option (List ℕ)) (gathered left whole : List ℕ)
    → IsWritten before now gathered left whole → left ≡ [] → TakesAll now gathered after → TakesAll before whole after
all_written before now after gathered left whole written none takes =
    let rest : written.front ++ gathered ≡ whole =
    ap (λ text. written.front ++ text) (sym (append-nil gathered) ∙ ap (λ left. gathered ++ left) (sym none))
    ∙ written.rest in
    subst (λ text. TakesAll before text after) rest
    (takes_on before now after written.front gathered written.taken takes)

-- some of what was gathered was written
pub some_written : (before now after : Option (List ℕ)) (gathered left whole : List ℕ)
    → IsWritten before now gathered left whole → TakesSome now gathered after → TakesSome before whole after
some_written before now after gathered left whole written takes =
    subst (λ text. TakesSome before text after) written.rest
    (takes_some before now after written.front gathered left written.taken takes)

-- the front was written
pub front_written : (before now : Option (List ℕ)) (gathered left whole : List ℕ)
    → IsWritten before now gathered left whole → TakesSome before whole now
front_written before now gathered left whole written =
    subst (λ text. TakesSome before text now) written.rest
    (takes_front before now written.front (gathered ++ left) written.taken)

-- what holds holds on a failure
pub on_failure : {E : Type 0} (answer : Result (Unit {0}) E) (P : Type 0) → P → OnErr answer P
on_failure (Ok done) P holds = tt
on_failure (Err fault) P holds = holds
