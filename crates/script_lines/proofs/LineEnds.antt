-- No line that says something has a line end in it, so that lines stand apart in a text.
use Rattle.std.proofs.Common.{◌≡◌, ℕ, ◌+◌, ◌*◌, ◌%◌, ◌^◌, ◌<◌, ◌≤◌, List, [], ◌∷◌, ◌++◌, length, map, refl, sym, Bool, true, false, cond, leb, Some, None, ap, ◌∙◌, arith, append_assoc, length-append}
use Rattle.store_spec.proofs.Common.{All-append, All-cons, All-nil, All-push, AllByRecursion, AllZip, Cast, CastInvalid, Casting, Checkpoint, Close, Election, Export, Find, Finding, IsGroup, IsRecordLine, IsTab, Open, Says, ScriptLine, Tally, Withdraw, Withdrawing, Work, begun_with, codes, decimal, group_text, item_text, join_with_byte, le-leb, leb-true, line_text, lines_of, lines_text, list_all, most_choices, ne_eqb, open_text, taken_lines, work_text}
use Rattle.std.specs.Prelude.{All, ◌&&◌}
use Rattle.std.proofs.lemmas.Fmt.{decimal_by_steps}
use Rattle.std.proofs.lemmas.List.Elements.{All-same, recursion_from_All}
use Rattle.script_lines.proofs.Meanings.{short}
use Rattle.ballot_record.proofs.Versions.{few_choices}

-- the bytes are no control codes
abbrev pub ArePrinted : List ℕ → Type 0
ArePrinted bytes = All (λ byte. 32 ≤ byte) bytes

nothing : ArePrinted []
nothing = All-nil (λ byte. 32 ≤ byte)

behind : (byte : ℕ) (bytes : List ℕ) → 32 ≤ byte → ArePrinted bytes → ArePrinted (byte ∷ bytes)
behind = All-cons (λ byte. 32 ≤ byte)

joined : (front rest : List ℕ) → ArePrinted front → ArePrinted rest → ArePrinted (front ++ rest)
joined = All-append (λ byte. 32 ≤ byte)

digits : (n : ℕ) → n < 2 ^ 64 → ArePrinted (decimal n)
digits = decimal_by_steps (λ n text. ArePrinted text)
    (λ n one. behind (48 + n) [] (omega arith) nothing)
    (λ n text more so_far. All-push (λ byte. 32 ≤ byte) text (48 + n % 10) so_far (omega arith))

-- ---- a record line

all_joined : (between : ℕ) (parts : List (List ℕ)) → 32 ≤ between → AllByRecursion ArePrinted parts → ArePrinted (join_with_byte between parts)
all_joined between [] some each = nothing
all_joined between (x ∷ []) some each = each.0
all_joined between (x ∷ y ∷ parts) some each = joined x (between ∷ join_with_byte between (y ∷ parts)) each.0 (behind between (join_with_byte between (y ∷ parts)) some (all_joined between (y ∷ parts) some each.1))

choices : (most : ℕ) → most ≤ 64 → (cs : List ℕ) → AllByRecursion (λ c. (1 ≤ c) × (c ≤ most)) cs → AllByRecursion ArePrinted (map decimal cs)
choices most few [] each = tt
choices most few (c ∷ cs) each = (digits c (omega (arith, each.0.1)), choices most few cs each.1)

group : (e : Election) (cs : List ℕ) → IsGroup e cs → ArePrinted (group_text cs)
group e [] is = behind 45 [] (omega arith) nothing
group e (c ∷ cs) is = all_joined 44 (map decimal (c ∷ cs)) (omega arith) (choices (most_choices e) (few_choices e) (c ∷ cs) (recursion_from_All (λ n. (1 ≤ n) × (n ≤ most_choices e)) (c ∷ cs) is.within))

groups : (e : Election) (gs : List (List ℕ)) → AllByRecursion (IsGroup e) gs → AllByRecursion ArePrinted (map group_text gs)
groups e [] each = tt
groups e (g ∷ gs) each = (group e g each.0, groups e gs each.1)

record_printed : (e : Election) (bytes : List ℕ) → IsRecordLine e bytes → ArePrinted bytes
record_printed e bytes is =
    let line = is.0 in
    let p = is.1.parts in
    let marks = join_with_byte 47 (map group_text line.groups) in
    let front = joined (decimal line.number) (32 ∷ decimal line.style) (digits line.number p.short_number) (behind 32 (decimal line.style) (omega arith) (digits line.style (omega (arith, p.short_style)))) in
    let rest = behind 32 marks (omega arith) (all_joined 47 (map group_text line.groups) (omega arith) (groups e line.groups (recursion_from_All (IsGroup e) line.groups p.each_group))) in
    All-same (λ byte. 32 ≤ byte) bytes (line_text line) is.1.spelled (joined (decimal line.number ++ (32 ∷ decimal line.style)) (32 ∷ marks) front rest)

-- ---- a line of a script

-- bytes that are written out are printed where each is tested so
written : (bytes : List ℕ) → list_all (λ byte. leb 32 byte) bytes ≡ true → ArePrinted bytes
written [] each = nothing
written (byte ∷ bytes) each =
    let both : (b : Bool) → b ≡ leb 32 byte → b && list_all (λ byte. leb 32 byte) bytes ≡ true → ArePrinted (byte ∷ bytes) = elim [
      | true ↦ λ is rest. behind byte bytes (leb-true 32 byte (sym is)) (written bytes rest)
      | false ↦ λ is rest. absurd cc
    ] in
    both (leb 32 byte) refl each

word : (w : Work) → ArePrinted (work_text w)
word Casting = written (codes "cast") refl
word Withdrawing = written (codes "withdraw") refl
word Finding = written (codes "find") refl

item : (w : Work) (tab : ℕ) (bytes rest : List ℕ) → IsTab tab → ArePrinted rest → bytes ≡ item_text w tab rest → ArePrinted bytes
item w tab bytes rest is_tab printed is =
    let behind_tab = joined (decimal tab) (32 ∷ rest) (digits tab (omega (arith, is_tab.1))) (behind 32 rest (omega arith) printed) in
    All-same (λ byte. 32 ≤ byte) bytes (item_text w tab rest) is
    (joined (work_text w) (32 ∷ (decimal tab ++ 32 ∷ rest)) (word w) (behind 32 (decimal tab ++ 32 ∷ rest) (omega arith) behind_tab))

plain : (bytes text : List ℕ) → list_all (λ byte. leb 32 byte) text ≡ true → bytes ≡ text → ArePrinted bytes
plain bytes text each is = All-same (λ byte. 32 ≤ byte) bytes text is (written text each)

-- a line that says something is printed
pub printed : (e : Election) (bytes : List ℕ) (line : ScriptLine) → Says e bytes line → ArePrinted bytes
printed e bytes (Open w tabs) says =
    All-same (λ byte. 32 ≤ byte) bytes (open_text w tabs) says.1
    (joined (codes "open ") (work_text w ++ 32 ∷ decimal tabs) (written (codes "open ") refl)
    (joined (work_text w) (32 ∷ decimal tabs) (word w) (behind 32 (decimal tabs) (omega arith) (digits tabs (omega (arith, says.0.1))))))
printed e bytes (Cast tab b) says = item Casting tab bytes says.1 says.0 (record_printed e says.1 (says.3.line, says.3.reads)) says.2
printed e bytes (CastInvalid tab) says = item Casting tab bytes says.1 says.0 (record_printed e says.1 says.3) says.2
printed e bytes (Withdraw tab number) says = item Withdrawing tab bytes (decimal number) says.0 (digits number says.1.1) says.2
printed e bytes (Find tab number) says = item Finding tab bytes (decimal number) says.0 (digits number says.1.1) says.2
printed e bytes Close says = plain bytes (codes "close") refl says
printed e bytes Checkpoint says = plain bytes (codes "checkpoint") refl says
printed e bytes Tally says = plain bytes (codes "tally") refl says
printed e bytes Export says = plain bytes (codes "export") refl says

-- ---- lines in a text

-- a first line that is printed
first_line : (line rest : List ℕ) → AllByRecursion (λ byte. 32 ≤ byte) line → lines_of (line ++ 10 ∷ rest) ≡ line ∷ lines_of rest
first_line [] rest each = refl
first_line (byte ∷ line) rest each =
    ap (λ (b : Bool). cond b ([] ∷ lines_of (line ++ 10 ∷ rest)) (begun_with byte (lines_of (line ++ 10 ∷ rest)))) (ne_eqb byte 10 (λ ends. let printed = each.0 in omega arith))
    ∙ ap (begun_with byte) (first_line line rest each.1)

-- the lines that say something are those of their text
pub lines_again : (e : Election) (lines : List (List ℕ)) (said : List ScriptLine) → AllZip (Says e) lines said → lines_of (lines_text lines) ≡ lines
lines_again e [] [] says = refl
lines_again e [] (line ∷ said) says = absurd says
lines_again e (bytes ∷ lines) [] says = absurd says
lines_again e (bytes ∷ lines) (line ∷ said) says =
    ap lines_of (append_assoc bytes (10 ∷ []) (lines_text lines))
    ∙ first_line bytes (lines_text lines) (recursion_from_All (λ byte. 32 ≤ byte) bytes (printed e bytes line says.0))
    ∙ ap (λ rest. bytes ∷ rest) (lines_again e lines said says.1)

-- and none is too wide
pub lines_taken : (e : Election) (lines : List (List ℕ)) (said : List ScriptLine) → AllZip (Says e) lines said → taken_lines lines ≡ map (λ line. Some line) lines
lines_taken e [] [] says = refl
lines_taken e [] (line ∷ said) says = absurd says
lines_taken e (bytes ∷ lines) [] says = absurd says
lines_taken e (bytes ∷ lines) (line ∷ said) says =
    ap (λ (b : Bool). cond b (Some bytes) None ∷ taken_lines lines) (le-leb (length bytes) 8192 (omega (arith, short e bytes line says.0)))
    ∙ ap (λ rest. Some bytes ∷ rest) (lines_taken e lines said says.1)

-- how long the text of lines is that are no longer than this
pub text_length : (lines : List (List ℕ)) → AllByRecursion (λ line. length line ≤ 200) lines → length (lines_text lines) ≤ 201 * length lines
text_length [] each = omega arith
text_length (bytes ∷ lines) each =
    omega (arith, each.0, text_length lines each.1, length-append (bytes ++ 10 ∷ []) (lines_text lines), length-append bytes (10 ∷ []))
