-- Lots of numbers, and the numbers that are drawn.
use Rattle.std.proofs.Common.{◌≡◌, ℕ, ◌+◌, ◌<◌, List, [], ◌∷◌, ◌++◌, Bool, true, false, cond, length, get_or, map, take, refl, sym, ap, subst, ◌∙◌, arith, append-nil}
use Rattle.store_spec.proofs.Common.{cond-false, cond-true, count_by, filter, get_or-map, is_lt, length-map, nat_lt, sum_by-cons}
use Rattle.std.proofs.lemmas.List.Elements.{filter_more}
use Rattle.body_store.specs.declared.lookup.Place.{Place}
use Rattle.ticket_sample.specs.Drawing.{AreApart, IsBound, lots_of, numbers_at}
use Rattle.ticket_sample.specs.Sample.{count_before, is_drawn}
use Rattle.ticket_sample.specs.Ticket.{Lot, is_before, lot_cmp, lot_of}

pub numbers_back : (dice numbers : List ℕ) → map (λ lot. lot.1) (lots_of dice numbers) ≡ numbers
numbers_back dice [] = refl
numbers_back dice (n ∷ numbers) = ap (λ rest. n ∷ rest) (numbers_back dice numbers)

pub lots_apart : (dice numbers : List ℕ) (lots : List Lot) → lots ≡ lots_of dice numbers → AreApart numbers → AreApart (map (λ lot. lot.1) lots)
lots_apart dice numbers lots is apart = subst AreApart (sym (ap (map (λ (lot : Lot). lot.1)) is ∙ numbers_back dice numbers)) apart

pub count_lots : (dice numbers : List ℕ) (number : ℕ) → count_by (λ other. is_lt (lot_cmp other (lot_of dice number))) (lots_of dice numbers) ≡ count_before dice numbers number
count_lots dice [] number = refl
count_lots dice (n ∷ numbers) number =
    let one : Lot → ℕ = λ other. cond (is_lt (lot_cmp other (lot_of dice number))) 1 0 in
    let same : ℕ → ℕ = λ other. cond (is_before dice other number) 1 0 in
    sum_by-cons one (lot_of dice n) (lots_of dice numbers) ∙ ap (λ count. one (lot_of dice n) + count) (count_lots dice numbers number) ∙ sym (sum_by-cons same n numbers)

abbrev number_at : Place → ℕ
number_at place = place.number

module _ (dice : List ℕ) (places : List Place) (count : ℕ) (lots : List Lot) (bound : Lot) (are : lots ≡ lots_of dice (numbers_at places)) (is : IsBound lots count bound) where
  abbrev test : Place → Bool
  test place = is_drawn dice count (numbers_at places) place.number

  -- the place there
  abbrev place_at : ℕ → Place
  place_at at = get_or places at (record { number = 0; cell = 0 })

  -- the lot of a place is drawn before the bound exactly where its number is drawn
  lot_drawn : (at : ℕ) (lot : Lot) → at < length places → lot ≡ get_or lots at lot → is_lt (lot_cmp lot bound) ≡ test (place_at at)
  lot_drawn at lot within found =
      let numbers = numbers_at places in
      let number = (place_at at).number in
      let long : length lots ≡ length places = ap length are ∙ length-map numbers (lot_of dice) ∙ length-map places number_at in
      let same : lot ≡ lot_of dice number =
      found ∙ ap (λ all. get_or all at lot) are ∙ get_or-map (lot_of dice) numbers at 0 lot (omega (arith, within, length-map places number_at))
      ∙ ap (lot_of dice) (get_or-map number_at places at (record { number = 0; cell = 0 }) 0 within) in
      let held = subst (λ (x : Lot). is_lt (lot_cmp x bound) ≡ nat_lt (count_by (λ other. is_lt (lot_cmp other x)) lots) count) (sym found) (is at lot (omega (arith, long, within))) in
      held
      ∙ ap (λ x. nat_lt (count_by (λ other. is_lt (lot_cmp other x)) lots) count) same
      ∙ ap (λ all. nat_lt (count_by (λ other. is_lt (lot_cmp other (lot_of dice number))) all) count) are
      ∙ ap (λ n. nat_lt n count) (count_lots dice numbers number)

  pub place_taken : (at : ℕ) (lot : Lot) (chosen : List Place) → at < length places → lot ≡ get_or lots at lot → chosen ≡ filter test (take at places)
      → is_lt (lot_cmp lot bound) ≡ true → chosen ++ place_at at ∷ [] ≡ filter test (take (at + 1) places)
  place_taken at lot chosen within found so_far taken =
      let place = place_at at in
      let passes : test place ≡ true = sym (lot_drawn at lot within found) ∙ taken in
      ap (λ front. front ++ place ∷ []) so_far
      ∙ ap (λ more. filter test (take at places) ++ more) (sym (cond-true (test place) (place ∷ []) [] passes))
      ∙ sym (filter_more test places at (record { number = 0; cell = 0 }) within)

  pub place_passed : (at : ℕ) (lot : Lot) (chosen : List Place) → at < length places → lot ≡ get_or lots at lot → chosen ≡ filter test (take at places)
      → is_lt (lot_cmp lot bound) ≡ false → chosen ≡ filter test (take (at + 1) places)
  place_passed at lot chosen within found so_far passed =
      let place = place_at at in
      let fails : test place ≡ false = sym (lot_drawn at lot within found) ∙ passed in
      so_far
      ∙ sym (append-nil (filter test (take at places)))
      ∙ ap (λ more. filter test (take at places) ++ more) (sym (cond-false (test place) (place ∷ []) [] fails))
      ∙ sym (filter_more test places at (record { number = 0; cell = 0 }) within)
