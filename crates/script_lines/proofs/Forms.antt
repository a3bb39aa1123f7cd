-- A line has one form, and a part that is missing leaves no form.
use Rattle.std.proofs.Common.{◌≡◌, ◌≢◌, ℕ, List, ◌∷◌, ◌++◌, get_or, Option, Some, None, refl, sym, ap, subst, ◌∙◌, arith}
use Rattle.store_spec.proofs.Common.{Cast, CastInvalid, Casting, Checkpoint, Close, Election, Export, Find, Finding, IsRecordLine, IsTab, MatchOption, Open, Says, ScriptLine, Tally, Withdraw, Withdrawing, Work, decimal, item_text, work_text}
use Rattle.script_lines.proofs.Decimals.{one_tab}
use Rattle.ballot_record.specs.declared.record.Record.{Record}
use Rattle.script_lines.specs.Line.{IsSaid}
use Rattle.script_lines.specs.declared.line.Said.{Said}
use Rattle.script_lines.specs.Words.{IsItem, IsNoItem, IsNotUpTo, LacksTab, LacksWork}

-- some bytes name one work
pub one_work : (v w : Work) (a b : List ℕ) → work_text v ++ 32 ∷ a ≡ work_text w ++ 32 ∷ b → (v ≡ w) × (a ≡ b)
one_work Casting Casting a b e = (refl, cc)
one_work Withdrawing Withdrawing a b e = (refl, cc)
one_work Finding Finding a b e = (refl, cc)
one_work v w a b e = absurd (omega (arith, ap (λ l. get_or l 0 0) e))

-- some bytes are for one list, with one work and one rest
pub one_item : (v w : Work) (m n : ℕ) (a b : List ℕ) → IsTab m → IsTab n → item_text v m a ≡ item_text w n b → (v ≡ w) × (m ≡ n) × (a ≡ b)
one_item v w m n a b first second same =
    let works = one_work v w (decimal m ++ 32 ∷ a) (decimal n ++ 32 ∷ b) same in
    let tabs = one_tab m n a b first second works.1 in
    (works.0, tabs.0, tabs.1)

-- ---- what is for no list

-- what is for a list names its work and its tabulator
item_front : (e : Election) (bytes : List ℕ) (line : ScriptLine) → IsItem line → Says e bytes line → (w : Work) × (tab : ℕ) × (rest : List ℕ) × IsTab tab × (bytes ≡ item_text w tab rest)
item_front e bytes (Open w tabs) item says = absurd item
item_front e bytes (Cast tab b) item says = (Casting, tab, says.1, says.0, says.2)
item_front e bytes (CastInvalid tab) item says = (Casting, tab, says.1, says.0, says.2)
item_front e bytes (Withdraw tab number) item says = (Withdrawing, tab, decimal number, says.0, says.2)
item_front e bytes (Find tab number) item says = (Finding, tab, decimal number, says.0, says.2)
item_front e bytes Close item says = absurd item
item_front e bytes Checkpoint item says = absurd item
item_front e bytes Tally item says = absurd item
item_front e bytes Export item says = absurd item

-- with no work there is no line for a list
pub no_work : (e : Election) (bytes : List ℕ) → LacksWork bytes → IsNoItem e bytes
no_work e bytes none line item says = let front = item_front e bytes line item says in none front.0 (decimal front.1 ++ 32 ∷ front.2) front.4

-- with a work and no tabulator behind it there is none either
pub no_tab : (e : Election) (w : Work) (behind : List ℕ) → LacksTab behind → IsNoItem e (work_text w ++ 32 ∷ behind)
no_tab e w behind none line item says =
    let front = item_front e (work_text w ++ 32 ∷ behind) line item says in
    none front.1 front.2 front.3 (one_work w front.0 behind (decimal front.1 ++ 32 ∷ front.2) front.4).1

-- what is behind the work and what is behind the tabulator, as one text
pub item_named : (v w : Work) (bytes behind rest : List ℕ) (tab : ℕ) → bytes ≡ work_text v ++ 32 ∷ behind → v ≡ w → behind ≡ decimal tab ++ 32 ∷ rest → bytes ≡ item_text w tab rest
item_named v w bytes behind rest tab named same front = named ∙ ap (λ x. work_text x ++ 32 ∷ behind) same ∙ ap (λ bs. work_text w ++ 32 ∷ bs) front

-- without a record line nothing is cast
no_record : (e : Election) (bytes : List ℕ) (tab : ℕ) (rest : List ℕ) → IsTab tab → bytes ≡ item_text Casting tab rest → ¬ IsRecordLine e rest → IsNoItem e bytes
no_record e bytes tab rest is_tab named none (Open w tabs) item says = item
no_record e bytes tab rest is_tab named none (Cast t b) item says =
    let same = one_item Casting Casting tab t rest says.1 is_tab says.0 (sym named ∙ says.2) in
    none (subst (IsRecordLine e) (sym same.2) (says.3.line, says.3.reads))
no_record e bytes tab rest is_tab named none (CastInvalid t) item says =
    let same = one_item Casting Casting tab t rest says.1 is_tab says.0 (sym named ∙ says.2) in
    none (subst (IsRecordLine e) (sym same.2) says.3)
no_record e bytes tab rest is_tab named none (Withdraw t n) item says = absurd (let same = (one_item Casting Withdrawing tab t rest (decimal n) is_tab says.0 (sym named ∙ says.2)).0 in cc)
no_record e bytes tab rest is_tab named none (Find t n) item says = absurd (let same = (one_item Casting Finding tab t rest (decimal n) is_tab says.0 (sym named ∙ says.2)).0 in cc)
no_record e bytes tab rest is_tab named none Close item says = item
no_record e bytes tab rest is_tab named none Checkpoint item says = item
no_record e bytes tab rest is_tab named none Tally item says = item
no_record e bytes tab rest is_tab named none Export item says = item

-- what is told of what is cast is told of the line
pub cast_told : (e : Election) (bytes : List ℕ) (tab : ℕ) (rest : List ℕ) (read : Option Said) (r : Record) → IsTab tab → bytes ≡ item_text Casting tab rest
    → MatchOption read (¬ IsRecordLine e rest) (λ said. IsSaid e (item_text Casting tab rest) said r) → MatchOption read (IsNoItem e bytes) (λ said. IsSaid e bytes said r)
cast_told e bytes tab rest None r is_tab named told = no_record e bytes tab rest is_tab named told
cast_told e bytes tab rest (Some said) r is_tab named told = subst (λ bs. IsSaid e bs said r) (sym named) told

-- without a number there is no other work
pub no_number : (e : Election) (bytes : List ℕ) (w : Work) (tab : ℕ) (rest : List ℕ) → w ≢ Casting → IsTab tab → bytes ≡ item_text w tab rest → IsNotUpTo 18446744073709551615 rest → IsNoItem e bytes
no_number e bytes w tab rest other is_tab named none (Open v tabs) item says = item
no_number e bytes w tab rest other is_tab named none (Cast t b) item says = other (one_item w Casting tab t rest says.1 is_tab says.0 (sym named ∙ says.2)).0
no_number e bytes w tab rest other is_tab named none (CastInvalid t) item says = other (one_item w Casting tab t rest says.1 is_tab says.0 (sym named ∙ says.2)).0
no_number e bytes w tab rest other is_tab named none (Withdraw t n) item says =
    none n says.1.0 (omega (arith, says.1.1)) (one_item w Withdrawing tab t rest (decimal n) is_tab says.0 (sym named ∙ says.2)).2
no_number e bytes w tab rest other is_tab named none (Find t n) item says =
    none n says.1.0 (omega (arith, says.1.1)) (one_item w Finding tab t rest (decimal n) is_tab says.0 (sym named ∙ says.2)).2
no_number e bytes w tab rest other is_tab named none Close item says = item
no_number e bytes w tab rest other is_tab named none Checkpoint item says = item
no_number e bytes w tab rest other is_tab named none Tally item says = item
no_number e bytes w tab rest other is_tab named none Export item says = item
