-- Lists put together from what each place has of them.
use Rattle.std.proofs.Common.{◌≡◌, ◌∙◌, ◌==◌, ℕ, Bool, true, false, List, [], ◌∷◌, ap, ap₂, cond, drop, map, refl, subst, sym}
use Rattle.store_spec.proofs.Common.{eq-eqb, eqb-true, filter}

-- what is made of nothing
nothing : {X Y : Type 0} (f : X → Y) (xs : List X) → map f xs ≡ [] → [] ≡ xs
nothing f [] is = refl
nothing f (x ∷ xs) is = absurd cc

-- and of one more
record OneMore {X Y : Type 0} (f : X → Y) (xs : List X) (y : Y) (ys : List Y) : Type 0 where
  first : X
  rest : List X
  are : xs ≡ first ∷ rest
  of_first : f first ≡ y
  of_rest : map f rest ≡ ys

one_more : {X Y : Type 0} (f : X → Y) (xs : List X) (y : Y) (ys : List Y) → map f xs ≡ y ∷ ys → OneMore f xs y ys
one_more f [] y ys is = absurd cc
one_more f (x ∷ xs) y ys is = record { first = x; rest = xs; are = refl; of_first = cc; of_rest = cc }

-- the rest, where the first was one of them
rest_there : {X Y : Type 0} (f : X → Y) (xs : List X) (y : Y) (ys : List Y) (b : Bool) → map f xs ≡ cond b (y ∷ ys) ys → map f (cond b (drop 1 xs) xs) ≡ ys
rest_there f xs y ys true is = let more = one_more f xs y ys is in ap (λ xs. map f (drop 1 xs)) more.are ∙ more.of_rest
rest_there f xs y ys false is = is

module _ (L Y : Type 0) (item : L → Y) (goes : Y → ℕ) where
  -- the items are these, and each place has these rows of them
  pub record Together (ys : List Y) (rows : ℕ → List L) : Type 0 where
    pub lines : List L
    pub of_items : map item lines ≡ ys
    pub there : (place : ℕ) → filter (λ l. goes (item l) == place) lines ≡ rows place

  with_first : (rows : ℕ → List L) (y : Y) (l : L) (lines : List L) → l ∷ drop 1 (rows (goes y)) ≡ rows (goes y) → (place : ℕ) (b : Bool) → (goes y == place) ≡ b → lines ≡ cond b (drop 1 (rows place)) (rows place) → cond b (l ∷ lines) lines ≡ rows place
  with_first rows y l lines first place true is rest =
      ap (λ ls. l ∷ ls) rest ∙ subst (λ place. l ∷ drop 1 (rows place) ≡ rows place) (eqb-true (goes y) place is) first
  with_first rows y l lines first place false is rest = rest

  together : (ys : List Y) (rows : ℕ → List L) → ((place : ℕ) → map item (rows place) ≡ filter (λ y. goes y == place) ys) → Together ys rows
  together [] rows are = record { lines = []; of_items = refl; there = λ place. nothing item (rows place) (are place) }
  together (y ∷ ys) rows are =
      let here = goes y in
      let own : map item (rows here) ≡ y ∷ filter (λ y. goes y == here) ys = are here ∙ ap (λ b. cond b (y ∷ filter (λ y. goes y == here) ys) (filter (λ y. goes y == here) ys)) (eq-eqb here here refl) in
      let more = one_more item (rows here) y (filter (λ y. goes y == here) ys) own in
      let rest : ℕ → List L = λ place. cond (here == place) (drop 1 (rows place)) (rows place) in
      let t = together ys rest (λ place. rest_there item (rows place) y (filter (λ y. goes y == place) ys) (here == place) (are place)) in
      let first : more.first ∷ drop 1 (rows here) ≡ rows here = ap (λ xs. more.first ∷ drop 1 xs) more.are ∙ sym more.are in
      record {
        lines = more.first ∷ t.lines;
        of_items = ap₂ (λ l ls. l ∷ ls) more.of_first t.of_items;
        there = λ place.
            let passing = filter (λ (l : L). goes (item l) == place) t.lines in
            ap (λ y. cond (goes y == place) (more.first ∷ passing) passing) more.of_first
            ∙ with_first rows y more.first passing first place (here == place) refl (t.there place);
      }

  -- the same of several lists
  pub record AllTogether (yss : List (List Y)) (rows : ℕ → List (List L)) : Type 0 where
    pub lines : List (List L)
    pub of_items : map (map item) lines ≡ yss
    pub there : (place : ℕ) → map (filter (λ l. goes (item l) == place)) lines ≡ rows place

  pub all_together : (yss : List (List Y)) (rows : ℕ → List (List L)) → ((place : ℕ) → map (map item) (rows place) ≡ map (filter (λ y. goes y == place)) yss) → AllTogether yss rows
  all_together [] rows are = record { lines = []; of_items = refl; there = λ place. nothing (map item) (rows place) (are place) }
  all_together (ys ∷ yss) rows are =
      let more = λ (place : ℕ). one_more (map item) (rows place) (filter (λ y. goes y == place) ys) (map (filter (λ y. goes y == place)) yss) (are place) in
      let first = together ys (λ place. (more place).first) (λ place. (more place).of_first) in
      let rest = all_together yss (λ place. (more place).rest) (λ place. (more place).of_rest) in
      record {
        lines = first.lines ∷ rest.lines;
        of_items = ap₂ (λ l ls. l ∷ ls) first.of_items rest.of_items;
        there = λ place. ap₂ (λ l ls. l ∷ ls) (first.there place) (rest.there place) ∙ sym (more place).are;
      }
