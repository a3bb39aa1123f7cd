-- The lot around which lots are split.
use Rattle.std.proofs.Common.{◌≡◌, ◌≢◌, ℕ, ◌<◌, List, ◌∷◌, ◌++◌, Bool, true, false, length, get_or, map, refl, sym, ap, ◌∙◌, arith}
use Rattle.store_spec.proofs.Common.{All, AllPairs-from_IsDistinct, Contains-get_or, Decides-eqb, Equal, Greater, IsDistinct-IsPermutation, IsDistinct-from_AllPairs, IsPermutation, IsPermutation-map, Less, get_or-map, get_or_append_left, length-append, length-map, nat_cmp, nat_lt, nat_tests, true≢false}
use Rattle.std.proofs.lemmas.Cmp.{lists_total, nat_cmp_total, on_total, then_total}
use Rattle.std.proofs.lemmas.List.{get_or_at}
use Rattle.std.proofs.lemmas.List.Sorted.{ranks_by}
use Rattle.std.specs.Cmp.{IsStrictWeakOrder, IsTotalOrder}
use Rattle.std.specs.List.Sorted.{IsSplitAround}
use Rattle.std.specs.Cmp.Lexicographic.{slice_cmp}
use Rattle.std.specs.Ordering.{is_lt, ordering_reverse, ordering_then}
use Rattle.std.specs.Prelude.{count_by, nat_eq}
use Rattle.std.specs.declared.cmp.Ordering.{Ordering}
use Rattle.ticket_sample.proofs.Splitting.{split_counts}
use Rattle.ticket_sample.specs.Drawing.{AreApart, IsBound}
use Rattle.ticket_sample.specs.Ticket.{Lot, lot_cmp}

pub lots_total : IsTotalOrder lot_cmp
lots_total = then_total (on_total (λ (lot : Lot). lot.0) (lists_total nat_cmp_total)) (on_total (λ (lot : Lot). lot.1) nat_cmp_total)

-- one lot is drawn before another
abbrev pub before : Lot → Lot → Bool
before a b = is_lt (lot_cmp a b)

pub lots_order : IsStrictWeakOrder before
lots_order = ranks_by lots_total (λ (lot : Lot). lot)

-- two that tie in both tie in the second
second : (first next : Ordering) → ordering_then first next ≡ Equal → next ≡ Equal
second Less next is = absurd (let clash : Less ≡ Equal = is in cc)
second Equal next is = is
second Greater next is = absurd (let clash : Greater ≡ Equal = is in cc)

same_numbers : (a b : ℕ) → nat_cmp a b ≡ Equal → a ≡ b
same_numbers a b is = grind (arith, nat_tests)

-- lots of two numbers do not tie
pub no_tie : (a b : Lot) → a.1 ≢ b.1 → before b a ≡ false → before a b ≡ true
no_tie a b other not = told (lot_cmp a b) refl where
  back : lot_cmp b a ≡ ordering_reverse (lot_cmp a b)
  back = lots_total.antisymm b a

  told : (o : Ordering) → lot_cmp a b ≡ o → is_lt o ≡ true
  told Less is = refl
  told Equal is = absurd (other (same_numbers a.1 b.1 (second (slice_cmp nat_cmp a.0 b.0) (nat_cmp a.1 b.1) is)))
  told Greater is = absurd (true≢false (sym (ap is_lt (back ∙ ap ordering_reverse is)) ∙ not))

pub numbers_apart : (xs ys : List ℕ) → IsPermutation xs ys → AreApart xs → AreApart ys
numbers_apart xs ys p apart =
    AllPairs-from_IsDistinct Decides-eqb ys (IsDistinct-IsPermutation nat_eq (λ x y. grind (arith, nat_tests)) xs ys p (IsDistinct-from_AllPairs Decides-eqb xs apart))

pub is_bound : (lots front back : List Lot) (t : Lot) (count : ℕ) → AreApart (map (λ lot. lot.1) lots) → IsPermutation lots (front ++ t ∷ back) → IsSplitAround lot_cmp front t back → length front ≡ count → IsBound lots count t
is_bound lots front back t count apart same around size k d within =
    split_counts before lots_order lots front back t (get_or lots k d) same front_before around.1 (Contains-get_or lots k d within)
    ∙ ap (λ n. nat_lt (count_by (λ other. before other (get_or lots k d)) lots) n) size
  where
    number : Lot → ℕ
    number lot = lot.1

    apart_now : AreApart (map number (front ++ t ∷ back))
    apart_now = numbers_apart (map number lots) (map number (front ++ t ∷ back)) (IsPermutation-map number lots (front ++ t ∷ back) same) apart

    whole : List Lot
    whole = front ++ t ∷ back

    other_number : (i : ℕ) (e : Lot) → i < length front → (get_or front i e).1 ≢ t.1
    other_number i e inside is =
        let at_i : get_or whole i e ≡ get_or front i e = get_or_append_left front (t ∷ back) e i inside in
        let at_t : get_or whole (length front) e ≡ t = get_or_at front t back e (length front) refl in
        let long = length-append front (t ∷ back) in
        let here : length front < length whole = omega (arith, long) in
        apart_now i (length front) 0 inside (omega (arith, length-map whole number, here))
        (get_or-map number whole i e 0 (omega (arith, here, inside)) ∙ ap number at_i ∙ is ∙ sym (ap number at_t) ∙ sym (get_or-map number whole (length front) e 0 here))

    front_before : All (λ y. before y t ≡ true) front
    front_before i e inside = no_tie (get_or front i e) t (other_number i e inside) (around.0 i e inside)
