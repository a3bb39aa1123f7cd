-- What a core is made of is the phase at its opening.
use Rattle.std.proofs.Common.{◌≡◌, ℕ, ◌+◌, ◌-◌, ◌^◌, ◌<◌, ◌≤◌, List, ◌++◌, length, replicate, take, sym, ap, ◌∙◌, arith}
use Rattle.store_spec.proofs.Common.{HasRoom, IsNonDecreasing, IsPermutation, ascending, home_of, layout_of, pow_mono, take_all}
use Rattle.probe_order.specs.Below.{home_of-lt}
use Rattle.step_core.specs.Casting.{Casting, MayOpen, Tabulator, opened, opened_tabs}
use Rattle.layout_def.proofs.Ascending.{ascending-IsPermutation, ascending_rising, length-ascending}
use Rattle.layout_def.proofs.LaidOut.{layout_of_is}

-- numbers that are sorted are those in ascending order
pub sorted_is : (start sorted : List ℕ) → IsPermutation start sorted → IsNonDecreasing sorted → sorted ≡ ascending start
sorted_is start sorted same up = sym (ascending_rising sorted up) ∙ ascending-IsPermutation start sorted same

-- as many cells as there are to be
pub cells_size : (bits salt limit : ℕ) (start : List ℕ) (lists : List (List ℕ)) → MayOpen bits limit start lists → length (layout_of (home_of bits salt) (2 ^ bits + limit) start) ≡ 2 ^ bits + limit
cells_size bits salt limit start lists may =
    let few = may.few in
    let room : HasRoom (home_of bits salt) (2 ^ bits) (2 ^ bits + limit) start = record {
      distinct = may.distinct;
      some = may.some;
      homed = λ k d lt. home_of-lt bits salt _ may.few_bits;
      room = omega arith;
    } in
    let layout = layout_of_is (home_of bits salt) (2 ^ bits) (2 ^ bits + limit) start room in
    layout.size

-- the cells, and behind them free claim words
pub words_are : (cells : List ℕ) (size claims : ℕ) → length cells ≡ size → take (size + claims) cells ++ replicate (size + claims - size) 0 ≡ cells ++ replicate claims 0
words_are cells size claims is =
    let more : size + claims - size ≡ claims = omega arith in
    ap (λ (xs : List ℕ). xs ++ replicate (size + claims - size) 0) (take_all (size + claims) cells (omega arith))
    ∙ ap (λ n. cells ++ replicate n 0) more

pub opened_by : (bits salt limit : ℕ) (start base words : List ℕ) (tabs : List Tabulator) (lists : List (List ℕ)) → base ≡ ascending start → length start ≤ limit → words ≡ layout_of (home_of bits salt) (2 ^ bits + limit) start ++ replicate (limit - length start) 0 → tabs ≡ opened_tabs base (limit - length start) lists → (let c : Casting = record { bits = bits; salt = salt; limit = limit - length start + length base; base = base; words = words; tabs = tabs } in c) ≡ opened bits salt limit start lists
opened_by bits salt limit start base words tabs lists sorted few words_is tabs_is =
    let size : length base ≡ length start = ap length sorted ∙ length-ascending start in
    let whole : limit - length start + length base ≡ limit = omega arith in
    let claims : limit - length start ≡ limit - length (ascending start) = ap (λ n. limit - n) (sym (length-ascending start)) in
    let phase = λ (l : ℕ) (b w : List ℕ) (t : List Tabulator). (let c : Casting = record { bits = bits; salt = salt; limit = l; base = b; words = w; tabs = t } in c) in
    ap (λ n. phase n base words tabs) whole
    ∙ ap (λ b. phase limit b words tabs) sorted
    ∙ ap (λ w. phase limit (ascending start) w tabs) (words_is ∙ ap (λ n. layout_of (home_of bits salt) (2 ^ bits + limit) start ++ replicate n 0) claims)
    ∙ ap (phase limit (ascending start) (layout_of (home_of bits salt) (2 ^ bits + limit) start ++ replicate (limit - length (ascending start)) 0))
    (tabs_is ∙ ap (λ b. opened_tabs b (limit - length start) lists) sorted ∙ ap (λ n. opened_tabs (ascending start) n lists) claims)

pub resized_is : (bits salt limit homes len claims : ℕ) (start words now : List ℕ) (lists : List (List ℕ)) → MayOpen bits limit start lists → homes ≡ 2 ^ bits → words ≡ layout_of (home_of bits salt) (homes + limit) start → len ≡ length words → now ≡ take (homes + limit + claims) words ++ replicate (homes + limit + claims - len) 0 → now ≡ layout_of (home_of bits salt) (2 ^ bits + limit) start ++ replicate claims 0
resized_is bits salt limit homes len claims start words now lists may homes_are words_are_cells len_is now_is =
    let size = 2 ^ bits + limit in
    let cells = layout_of (home_of bits salt) size start in
    let cells_are : words ≡ cells = words_are_cells ∙ ap (λ n. layout_of (home_of bits salt) (n + limit) start) homes_are in
    let long = cells_size bits salt limit start lists may in
    let len_now : len ≡ size = len_is ∙ ap length cells_are ∙ long in
    now_is
    ∙ ap (λ n. take (n + limit + claims) words ++ replicate (n + limit + claims - len) 0) homes_are
    ∙ ap (λ ws. take (size + claims) ws ++ replicate (size + claims - len) 0) cells_are
    ∙ ap (λ n. take (size + claims) cells ++ replicate (size + claims - n) 0) len_now
    ∙ words_are cells size claims long

-- the words are few
pub few_words : (bits limit : ℕ) (start : List ℕ) → bits ≤ 16 → limit ≤ 32768 → 2 ^ bits + limit + (limit - length start) < 2 ^ 32
few_words bits limit start few small = let homes : 2 ^ bits ≤ 2 ^ 16 = pow_mono few in omega arith
