-- Counts of copies and of debts: how they go with a place, and what one word or one withdrawer changes.
use Rattle.std.proofs.Common.{◌≡◌, ◌≢◌, ◌==◌, ℕ, ◌+◌, ◌<◌, ◌≤◌, cond, List, length, get_or, set, take, sym, ap, ◌∙◌, arith}
use Rattle.store_spec.proofs.Common.{copies, eq-eqb, get_or-take, length-take, ne_eqb, sum_by-set, take-set-le, take-set-lt, take-take, times}
use Rattle.std.proofs.lemmas.List.Sums.{sum_by_more, sum_by-take-le}

-- 1 where a word holds the number, and else 0
abbrev pub hit : ℕ → ℕ → ℕ
hit x word = cond (word == x) 1 0

pub hit_yes : (x word : ℕ) → word ≡ x → hit x word ≡ 1
hit_yes x word e = ap (λ b. cond b 1 0) (eq-eqb word x e)

pub hit_no : (x word : ℕ) → word ≢ x → hit x word ≡ 0
hit_no x word n = ap (λ b. cond b 1 0) (ne_eqb word x n)

-- one cell more
pub copies_more : (cells : List ℕ) (x n : ℕ) → n < length cells → copies cells x (n + 1) ≡ copies cells x n + hit x (get_or cells n 0)
copies_more cells x n lt = sum_by_more (hit x) cells n 0 lt

-- more cells, more copies
pub copies_rise : (cells : List ℕ) (x m n : ℕ) → m ≤ n → copies cells x m ≤ copies cells x n
copies_rise cells x m n le = omega (arith, sum_by-take-le (hit x) (take n cells) m, ap (λ l. times l x) (take-take m n cells le))

-- a cell that holds the number is a copy
pub copy_here : (cells : List ℕ) (x place n : ℕ) → place < length cells → get_or cells place 0 ≡ x → place < n → 0 < copies cells x n
copy_here cells x place n lt e before =
    omega (arith, copies_more cells x place lt, hit_yes x (get_or cells place 0) e, copies_rise cells x (place + 1) n (omega arith))

-- a cell that holds another word is none
pub copy_elsewhere : (cells : List ℕ) (x place : ℕ) → place < length cells → get_or cells place 0 ≢ x → copies cells x (place + 1) ≡ copies cells x place
copy_elsewhere cells x place lt n = omega (arith, copies_more cells x place lt, hit_no x (get_or cells place 0) n)

-- one cell written: the first cells have the old word no more, and the new one
pub copies_set : (cells : List ℕ) (x place word n : ℕ) → place < length cells → place < n → copies (set cells place word) x n + hit x (get_or cells place 0) ≡ copies cells x n + hit x word
copies_set cells x place word n lt before =
    ap (λ (l : List ℕ). times l x + hit x (get_or cells place 0)) (take-set-lt n cells place word before)
    ∙ ap (λ (v : ℕ). times (set (take n cells) place word) x + hit x v) (sym (get_or-take n cells place 0 before))
    ∙ sum_by-set (hit x) (take n cells) place word 0 (omega (arith, length-take n cells))

pub copies_set_past : (cells : List ℕ) (x place word n : ℕ) → n ≤ place → copies (set cells place word) x n ≡ copies cells x n
copies_set_past cells x place word n past = ap (λ l. times l x) (take-set-le n cells place word past)
