-- A line says one thing, in few bytes.
use Rattle.std.proofs.Common.{◌≡◌, ℕ, ◌+◌, ◌^◌, ◌<◌, ◌≤◌, List, ◌∷◌, ◌++◌, get_or, length, refl, sym, ap, subst, ◌∙◌, arith, length-append}
use Rattle.store_spec.proofs.Common.{Cast, CastInvalid, Casting, Checkpoint, Close, Election, Export, Find, Finding, IsMalformed, IsTab, Open, Says, ScriptLine, Spells, Tally, Withdraw, Withdrawing, Work, decimal, decimal_injective, item_text, length-decimal-le, open_text, work_text}
use Rattle.ballot_record.proofs.Versions.{few_bytes}
use Rattle.ballot_record.proofs.LineLaws.{one_ballot, short_lines}
use Rattle.script_lines.proofs.Forms.{no_work, one_item, one_work}
use Rattle.script_lines.specs.Words.{IsNoCommand, LacksWork}

-- the fourth byte of a line, which tells its form
fourth : ScriptLine → ℕ
fourth (Open w tabs) = 110
fourth (Cast tab b) = 116
fourth (CastInvalid tab) = 116
fourth (Withdraw tab number) = 104
fourth (Find tab number) = 100
fourth Close = 115
fourth Checkpoint = 99
fourth Tally = 108
fourth Export = 111

-- it stands in each line of the form
fourth_byte : (e : Election) (bytes : List ℕ) (line : ScriptLine) → Says e bytes line → get_or bytes 3 0 ≡ fourth line
unfolding fourth
fourth_byte e bytes (Open w tabs) says = ap (λ l. get_or l 3 0) says.1
fourth_byte e bytes (Cast tab b) says = ap (λ l. get_or l 3 0) says.2
fourth_byte e bytes (CastInvalid tab) says = ap (λ l. get_or l 3 0) says.2
fourth_byte e bytes (Withdraw tab number) says = ap (λ l. get_or l 3 0) says.2
fourth_byte e bytes (Find tab number) says = ap (λ l. get_or l 3 0) says.2
fourth_byte e bytes Close says = ap (λ l. get_or l 3 0) says
fourth_byte e bytes Checkpoint says = ap (λ l. get_or l 3 0) says
fourth_byte e bytes Tally says = ap (λ l. get_or l 3 0) says
fourth_byte e bytes Export says = ap (λ l. get_or l 3 0) says

-- some bytes open one phase
one_opening : (v w : Work) (m n : ℕ) → IsTab m → IsTab n → open_text v m ≡ open_text w n → (v ≡ w) × (m ≡ n)
one_opening v w m n first second same =
    let behind : work_text v ++ 32 ∷ decimal m ≡ work_text w ++ 32 ∷ decimal n = cc in
    let works = one_work v w (decimal m) (decimal n) behind in
    (works.0, decimal_injective m n (omega (arith, first.1)) (omega (arith, second.1)) works.1)

-- lines of one form say one thing
by_form : (e : Election) (bytes : List ℕ) (a b : ScriptLine) → fourth a ≡ fourth b → Says e bytes a → Says e bytes b → a ≡ b
unfolding fourth
by_form e bytes (Open v m) (Open w n) form x y = let same = one_opening v w m n x.0 y.0 (sym x.1 ∙ y.1) in cc
by_form e bytes (Cast m a) (Cast n b) form x y =
    let same = one_item Casting Casting m n x.1 y.1 x.0 y.0 (sym x.2 ∙ y.2) in
    let ballots = one_ballot e x.1 a b x.3 (subst (λ rest. Spells e rest b) (sym same.2) y.3) in
    cc
by_form e bytes (Cast m a) (CastInvalid n) form x y =
    let same = one_item Casting Casting m n x.1 y.1 x.0 y.0 (sym x.2 ∙ y.2) in
    absurd (y.4 (a, subst (λ rest. Spells e rest a) same.2 x.3))
by_form e bytes (CastInvalid m) (Cast n b) form x y =
    let same = one_item Casting Casting m n x.1 y.1 x.0 y.0 (sym x.2 ∙ y.2) in
    absurd (x.4 (b, subst (λ rest. Spells e rest b) (sym same.2) y.3))
by_form e bytes (CastInvalid m) (CastInvalid n) form x y = let same = one_item Casting Casting m n x.1 y.1 x.0 y.0 (sym x.2 ∙ y.2) in cc
by_form e bytes (Withdraw m a) (Withdraw n b) form x y =
    let same = one_item Withdrawing Withdrawing m n (decimal a) (decimal b) x.0 y.0 (sym x.2 ∙ y.2) in
    let numbers = decimal_injective a b x.1.1 y.1.1 same.2 in
    cc
by_form e bytes (Find m a) (Find n b) form x y =
    let same = one_item Finding Finding m n (decimal a) (decimal b) x.0 y.0 (sym x.2 ∙ y.2) in
    let numbers = decimal_injective a b x.1.1 y.1.1 same.2 in
    cc
by_form e bytes Close Close form x y = refl
by_form e bytes Checkpoint Checkpoint form x y = refl
by_form e bytes Tally Tally form x y = refl
by_form e bytes Export Export form x y = refl
by_form e bytes a b form x y = absurd (omega arith)

-- a line says one thing
pub one_meaning : (e : Election) (bytes : List ℕ) (a b : ScriptLine) → Says e bytes a → Says e bytes b → a ≡ b
one_meaning e bytes a b x y = by_form e bytes a b (sym (fourth_byte e bytes a x) ∙ fourth_byte e bytes b y) x y

-- ---- what a line says that names no work

pub no_command : (e : Election) (bytes : List ℕ) → LacksWork bytes → IsNoCommand bytes → IsMalformed e bytes
no_command e bytes none told line says = told e line (λ item. no_work e bytes none line item says) says

-- ---- how long a line is

-- the longest word of a work is `withdraw`
pub work_length : (w : Work) → length (work_text w) ≤ 8
work_length Casting = omega arith
work_length Withdrawing = omega arith
work_length Finding = omega arith

-- the words and the tabulator of what is for a list
pub item_length : (w : Work) (tab : ℕ) (rest : List ℕ) → IsTab tab → length (item_text w tab rest) ≤ 12 + length rest
item_length w tab rest is_tab =
    let digits = length-decimal-le 2 tab (omega arith) (omega (arith, is_tab.1)) (omega (arith, is_tab.1)) in
    let word = work_length w in
    omega (arith, length-append (work_text w) (32 ∷ (decimal tab ++ 32 ∷ rest)), length-append (decimal tab) (32 ∷ rest))

-- a line for a list with a number is short
number_length : (w : Work) (tab number : ℕ) (bytes : List ℕ) → IsTab tab → number < 2 ^ 64 → bytes ≡ item_text w tab (decimal number) → length bytes ≤ 4428
number_length w tab number bytes is_tab small spelled = omega (arith, ap length spelled, item_length w tab (decimal number) is_tab, length-decimal-le 20 number (omega arith) (omega (arith, small)) small)

-- a line that says something is short: the longest one casts
pub short : (e : Election) (bytes : List ℕ) (line : ScriptLine) → Says e bytes line → length bytes ≤ 4428
short e bytes (Open w tabs) says =
    let digits = length-decimal-le 2 tabs (omega arith) (omega (arith, says.0.1)) (omega (arith, says.0.1)) in
    omega (arith, ap length says.1, work_length w, length-append (work_text w) (32 ∷ decimal tabs))
short e bytes (Cast tab b) says = omega (arith, ap length says.2, item_length Casting tab says.1 says.0, short_lines e says.1 (says.3.line, says.3.reads), few_bytes e)
short e bytes (CastInvalid tab) says = omega (arith, ap length says.2, item_length Casting tab says.1 says.0, short_lines e says.1 says.3, few_bytes e)
short e bytes (Withdraw tab number) says = number_length Withdrawing tab number bytes says.0 says.1.1 says.2
short e bytes (Find tab number) says = number_length Finding tab number bytes says.0 says.1.1 says.2
short e bytes Close says = omega (arith, ap length says)
short e bytes Checkpoint says = omega (arith, ap length says)
short e bytes Tally says = omega (arith, ap length says)
short e bytes Export says = omega (arith, ap length says)
