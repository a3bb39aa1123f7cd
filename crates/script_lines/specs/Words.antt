-- What the readers of a line's words find, and what it means that they find nothing.
use Rattle.std.specs.Prelude.{◌≢◌, ℕ, ◌≤◌, List, ◌∷◌, ◌++◌}
use Rattle.std.specs.Fmt.{decimal}
use Rattle.script_lines.specs.declared.words.Work.{Work}
use Rattle.script_lines.specs.declared.words.Work.TheVariants as works
use Rattle.store_spec.specs.BallotLine.{space}
use Rattle.store_spec.specs.Election.{Election}
use Rattle.store_spec.specs.ScriptLine as definition
use Rattle.store_spec.specs.ScriptLine.{IsTab, Says, ScriptLine, open_text, work_text}
use Rattle.store_spec.specs.ScriptLine.ScriptLine.{Cast, CastInvalid, Withdraw, Find}
use Rattle.store_spec.specs.ScriptLine.Work.{Casting, Withdrawing, Finding}

-- a work of the program, as the definitions see it
abbrev pub work : Work → definition.Work
work works.Casting = Casting
work works.Withdrawing = Withdrawing
work works.Finding = Finding

-- a word does not stand first
abbrev pub LacksWord : List ℕ → List ℕ → Type 0
LacksWord word bytes = (rest : List ℕ) → bytes ≢ word ++ rest

-- no work stands first, with a space behind it
abbrev pub LacksWork : List ℕ → Type 0
LacksWork bytes = (w : definition.Work) (rest : List ℕ) → bytes ≢ work_text w ++ space ∷ rest

-- no tabulator stands first, with a space behind it
abbrev pub LacksTab : List ℕ → Type 0
LacksTab bytes = (tab : ℕ) (rest : List ℕ) → IsTab tab → bytes ≢ decimal tab ++ space ∷ rest

-- the bytes are no number from 1 to the limit
abbrev pub IsNotUpTo : ℕ → List ℕ → Type 0
IsNotUpTo limit bytes = (n : ℕ) → 1 ≤ n → n ≤ limit → bytes ≢ decimal n

-- the bytes open no phase
abbrev pub IsNoOpening : List ℕ → Type 0
IsNoOpening bytes = (w : definition.Work) (tabs : ℕ) → IsTab tabs → bytes ≢ open_text w tabs

-- what is for one of the lists
abbrev pub IsItem : ScriptLine → Type 0
IsItem (Cast tab b) = Unit {0}
IsItem (CastInvalid tab) = Unit {0}
IsItem (Withdraw tab number) = Unit {0}
IsItem (Find tab number) = Unit {0}
IsItem other = ⊥

-- the bytes say nothing that is for one of the lists
abbrev pub IsNoItem : Election → List ℕ → Type 0
IsNoItem e bytes = (line : ScriptLine) → IsItem line → ¬ Says e bytes line

-- the bytes say nothing that is for none of the lists
abbrev pub IsNoCommand : List ℕ → Type 0
IsNoCommand bytes = (e : Election) (line : ScriptLine) → ¬ IsItem line → ¬ Says e bytes line
