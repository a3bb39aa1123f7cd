-- A core opens as the withdrawing phase over its set.
use Rattle.std.proofs.Common.{◌≡◌, ◌≢◌, ◌^◌, ℕ, ◌+◌, ◌-◌, ◌<◌, ◌≤◌, List, [], ◌++◌, length, get_or, take, map, replicate, refl, sym, ap, ◌∙◌, subst, arith}
use Rattle.store_spec.proofs.Common.{All, AllPairs, Contains, Contains-get_or, ascending, home_of, layout_of, pow_mono, take_all}
use Rattle.step_core.proofs.WithdrawFirst.{one_place}
use Rattle.step_core.proofs.WithdrawingBase.{base_layout}
use Rattle.step_core.proofs.WithdrawingEnds.{opens, same_base}
use Rattle.step_core.specs.CellIndex.{StandOnce}
use Rattle.step_core.specs.WithdrawCore.{IsShape}
use Rattle.step_core.specs.Withdrawing.{Withdrawing, opened, opened_tab}
use Rattle.step_core.specs.WithdrawingInvariant.{IsWithdrawing}
use Rattle.step_core.specs.Withdrawing as phase
use Rattle.step_core.specs.declared.shape.Shape.{Shape}
use Rattle.probe_order.specs.declared.Salted.{Salted}

module _ (bits salt limit homes : ℕ) (start laid : List ℕ) (few : bits ≤ 16) (within : length start ≤ limit) (some : All (λ x. x ≢ 0) start) (distinct : AllPairs (λ a b. a ≢ b) start) (so_many : homes ≡ 2 ^ bits) (is : laid ≡ layout_of (home_of bits salt) (homes + limit) start) where
  laid_is : laid ≡ layout_of (home_of bits salt) (2 ^ bits + limit) start
  laid_is = is ∙ ap (λ n. layout_of (home_of bits salt) (n + limit) start) so_many

  -- each number stands in a cell, and in no other
  pub each_stands : (seen : List ℕ) → seen ≡ laid → All (Contains seen) start
  each_stands seen same = λ k d lt. subst (λ (l : List ℕ). Contains l (get_or start k d)) (sym (same ∙ laid_is))
      ((base_layout bits salt limit start few within some distinct).exactly.each (get_or start k d) (Contains-get_or start k d lt))

  pub stand_once : (seen : List ℕ) → seen ≡ laid → StandOnce seen
  stand_once seen same = subst StandOnce (sym (same ∙ laid_is))
      (λ p q n e. one_place (home_of bits salt) (layout_of (home_of bits salt) (2 ^ bits + limit) start) _ p q
      (base_layout bits salt limit start few within some distinct).ordered n refl (sym e))

  pub laid_size : length laid ≡ homes + limit
  laid_size = ap length laid_is ∙ (base_layout bits salt limit start few within some distinct).size ∙ ap (λ n. n + limit) (sym so_many)

  pub few_cells : limit ≤ 32768 → homes + limit < 2 ^ 17
  few_cells short = let most : 2 ^ bits ≤ 2 ^ 16 = pow_mono few in omega arith

  -- the words after the flags come behind the cells
  pub words_are : (words : List ℕ) (many : ℕ) → many ≡ length laid → words ≡ take (homes + limit + (homes + limit)) laid ++ replicate (homes + limit + (homes + limit) - many) 0 → words ≡ layout_of (home_of bits salt) (2 ^ bits + limit) start ++ replicate (2 ^ bits + limit) 0
  words_are words many counted made =
      let size = laid_size in
      let all : take (homes + limit + (homes + limit)) laid ≡ laid = take_all (homes + limit + (homes + limit)) laid (omega arith) in
      let rest : homes + limit + (homes + limit) - many ≡ 2 ^ bits + limit = omega arith in
      made
      ∙ ap (λ l. l ++ replicate (homes + limit + (homes + limit) - many) 0) (all ∙ laid_is)
      ∙ ap (λ n. layout_of (home_of bits salt) (2 ^ bits + limit) start ++ replicate n 0) rest

  pub phase_is : (numbers words : List ℕ) (tabs : List phase.Withdrawer) (lists : List (List ℕ)) → numbers ≡ ascending start → words ≡ layout_of (home_of bits salt) (2 ^ bits + limit) start ++ replicate (2 ^ bits + limit) 0 → tabs ≡ map (opened_tab numbers) lists → let now : Withdrawing = record { bits = bits; salt = salt; limit = limit; held = numbers; words = words; tabs = tabs } in now ≡ opened bits salt limit start lists
  phase_is numbers words tabs lists are made each =
      ap (λ t. record { bits = bits; salt = salt; limit = limit; held = numbers; words = words; tabs = t }) each
      ∙ ap (λ l. record { bits = bits; salt = salt; limit = limit; held = numbers; words = l; tabs = map (opened_tab numbers) lists }) made
      ∙ ap (λ h. record { bits = bits; salt = salt; limit = limit; held = h; words = layout_of (home_of bits salt) (2 ^ bits + limit) start ++ replicate (2 ^ bits + limit) 0; tabs = map (opened_tab h) lists }) are

  pub phase_holds : (now : Withdrawing) (lists : List (List ℕ)) → now ≡ opened bits salt limit start lists → IsWithdrawing now
  phase_holds now lists e = subst IsWithdrawing (sym e) (opens bits salt limit start lists few within some distinct)

  -- the cells that the core knows of are those that were laid out
  pub known_base : (numbers : List ℕ) → numbers ≡ ascending start → layout_of (home_of bits salt) (homes + limit) numbers ≡ laid
  known_base numbers are =
      ap (layout_of (home_of bits salt) (homes + limit)) are
      ∙ ap (λ n. layout_of (home_of bits salt) (n + limit) (ascending start)) so_many
      ∙ sym (same_base bits salt limit start [] few within some distinct)
      ∙ sym laid_is

  pub shape_fits : (order : Salted) (numbers : List ℕ) → limit ≤ 32768 → order.bits ≡ bits → order.salt ≡ salt → numbers ≡ ascending start → let shape : Shape = record { order = order; cells = homes + limit; claims = 0 } in IsShape shape (layout_of (home_of bits salt) (homes + limit) numbers)
  shape_fits order numbers short e f are = record {
    cells = ap length (known_base numbers are) ∙ laid_size;
    small = let few_there = few_cells short in omega arith;
  }
