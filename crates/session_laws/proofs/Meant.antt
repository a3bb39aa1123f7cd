-- Each line says something or is malformed.
use Rattle.std.proofs.Common.{◌≡◌, ◌≢◌, ℕ, ◌-◌, ◌^◌, ◌<◌, ◌≤◌, ◌⊎◌, inl, inr, List, [], ◌∷◌, ◌++◌, length, codes, refl, sym, ap, subst, ◌∙◌, arith, append_assoc}
use Rattle.store_spec.proofs.Common.{Ballot, Cast, CastInvalid, Casting, Checkpoint, Close, Election, Export, Find, Finding, IsLineOf, IsMalformed, IsNumber, IsRecordLine, IsTab, IsValid, Open, RecordLine, Says, ScriptLine, Tally, Withdraw, Withdrawing, Work, append_cancel_left, ballot_of_line, cases_eq, decimal, item_text, open_text, work_text}
use Rattle.ballot_record.proofs.CellCases.{same_or_not, valid_or_not}
use Rattle.ballot_record.proofs.LineLaws.{not_read, one_reading}
use Rattle.ballot_record.proofs.LineWhole.{line_takes}
use Rattle.ballot_record.proofs.Lookups.{option_cases}
use Rattle.ballot_record.specs.LineReading.{digits_at, parsed_line}
use Rattle.script_lines.proofs.Decimals.{lacks_number, lacks_space, more_behind, none_whole, tab_read, whole}
use Rattle.script_lines.proofs.Forms.{one_item}
use Rattle.script_lines.specs.Words.{IsNotUpTo, LacksTab}

-- ---- parts of a line

-- bytes begin with a text, or not
front_or_not : (text bytes : List ℕ) → ((rest : List ℕ) × (bytes ≡ text ++ rest)) ⊎ ((rest : List ℕ) → bytes ≢ text ++ rest)
front_or_not [] bytes = inl (bytes, refl)
front_or_not (t ∷ text) [] = inr (λ rest same. absurd cc)
front_or_not (t ∷ text) (byte ∷ bytes) =
    elim (cases_eq byte t) [
      | inr other ↦ inr (λ rest same. other cc)
      | inl same ↦ elim (front_or_not text bytes) [
        | inr other ↦ inr (λ rest is. other rest cc)
        | inl front ↦ inl (front.0, cc (front.1))
      ]
    ]

-- bytes are a number up to a limit, or not
number_or_not : (limit : ℕ) → limit < 2 ^ 64 → (bytes : List ℕ) → ((n : ℕ) × (1 ≤ n) × (n ≤ limit) × (bytes ≡ decimal n)) ⊎ IsNotUpTo limit bytes
number_or_not limit short bytes =
    elim (option_cases (digits_at limit 0 bytes)) [
      | inl none ↦ inr (none_whole limit short bytes (sym none))
      | inr some ↦ elim (cases_eq (length some.0.1) 0) [
        | inr more ↦ inr (more_behind limit short bytes some.0.0 some.0.1 (sym some.1) more)
        | inl end ↦ let is = whole limit short bytes some.0.0 some.0.1 (sym some.1) end in inl (some.0.0, is.0, is.1, is.2)
      ]
    ]

-- a tabulator stands first, with a space behind it, or not
tab_or_not : (bytes : List ℕ) → ((tab : ℕ) × (rest : List ℕ) × IsTab tab × (bytes ≡ decimal tab ++ 32 ∷ rest)) ⊎ LacksTab bytes
tab_or_not bytes =
    elim (option_cases (digits_at 64 0 bytes)) [
      | inl none ↦ inr (lacks_number bytes (sym none))
      | inr some ↦ elim (front_or_not (32 ∷ []) some.0.1) [
        | inr other ↦ inr (lacks_space bytes some.0.0 some.0.1 (sym some.1) other)
        | inl space ↦ let is = tab_read bytes some.0.0 some.0.1 space.0 (sym some.1) space.1 in inl (some.0.0, space.0, is.0, is.1)
      ]
    ]

-- a work and a tabulator stand first, or not
item_or_not : (w : Work) (bytes : List ℕ) → ((tab : ℕ) × (rest : List ℕ) × IsTab tab × (bytes ≡ item_text w tab rest)) ⊎ ((tab : ℕ) (rest : List ℕ) → IsTab tab → bytes ≢ item_text w tab rest)
item_or_not w bytes =
    elim (front_or_not (work_text w ++ 32 ∷ []) bytes) [
      | inr other ↦ inr (λ tab rest is same. other (decimal tab ++ 32 ∷ rest) (same ∙ sym (append_assoc (work_text w) (32 ∷ []) (decimal tab ++ 32 ∷ rest))))
      | inl front ↦ elim (tab_or_not front.0) [
        | inr none ↦ inr (λ tab rest is same.
            none tab rest is (append_cancel_left (work_text w ++ 32 ∷ []) front.0 (decimal tab ++ 32 ∷ rest) (sym front.1 ∙ same ∙ sym (append_assoc (work_text w) (32 ∷ []) (decimal tab ++ 32 ∷ rest)))))
        | inl tab ↦ inl (tab.0, tab.1, tab.2, front.1 ∙ append_assoc (work_text w) (32 ∷ []) front.0 ∙ ap (λ rest. work_text w ++ 32 ∷ rest) tab.3)
      ]
    ]

-- ---- each form

-- a line opens a phase of this work, or not
opening_or_not : (w : Work) (bytes : List ℕ) → ((tabs : ℕ) × IsTab tabs × (bytes ≡ open_text w tabs)) ⊎ ((tabs : ℕ) → IsTab tabs → bytes ≢ open_text w tabs)
opening_or_not w bytes =
    let text = codes "open " ++ work_text w ++ 32 ∷ [] in
    let regrouped : (digits : List ℕ) → text ++ digits ≡ codes "open " ++ work_text w ++ 32 ∷ digits = λ digits. append_assoc (codes "open " ++ work_text w) (32 ∷ []) digits in
    elim (front_or_not text bytes) [
      | inr other ↦ inr (λ tabs is same. other (decimal tabs) (same ∙ sym (regrouped (decimal tabs))))
      | inl front ↦ elim (number_or_not 64 (omega arith) front.0) [
        | inr none ↦ inr (λ tabs is same. none tabs is.0 is.1 (append_cancel_left text front.0 (decimal tabs) (sym front.1 ∙ same ∙ sym (regrouped (decimal tabs)))))
        | inl some ↦ inl (some.0, (some.1, some.2), front.1 ∙ regrouped front.0 ∙ ap (λ digits. codes "open " ++ work_text w ++ 32 ∷ digits) some.3)
      ]
    ]

-- a line is for a list, with a number, or not
numbered_or_not : (w : Work) (bytes : List ℕ) → ((tab : ℕ) × (number : ℕ) × IsTab tab × IsNumber number × (bytes ≡ item_text w tab (decimal number)))
    ⊎ ((tab number : ℕ) → IsTab tab → IsNumber number → bytes ≢ item_text w tab (decimal number))
numbered_or_not w bytes =
    elim (item_or_not w bytes) [
      | inr none ↦ inr (λ tab number is some. none tab (decimal number) is)
      | inl item ↦ elim (number_or_not (2 ^ 64 - 1) (omega arith) item.1) [
        | inr none ↦ inr (λ tab number is some same.
            none number some.0 (omega (arith, some.1)) (one_item w w item.0 tab item.1 (decimal number) item.2 is (sym item.3 ∙ same)).2)
        | inl number ↦ inl (item.0, number.0, item.2, (number.1, omega (arith, number.2)), item.3 ∙ ap (item_text w item.0) number.3)
      ]
    ]

-- bytes are a record line, or not
record_line_or_not : (e : Election) (rest : List ℕ) → IsRecordLine e rest ⊎ ¬ IsRecordLine e rest
record_line_or_not e rest =
    elim (option_cases (parsed_line e rest)) [
      | inl none ↦ inr (not_read e rest none)
      | inr some ↦ inl (some.0, line_takes e rest some.0 some.1)
    ]

-- a record line spells a ballot, or none
ballot_or_not : (e : Election) (rest : List ℕ) → IsRecordLine e rest → IsLineOf e rest ⊎ ¬ IsLineOf e rest
ballot_or_not e rest (line, reads) =
    elim (cases_eq (length line.groups) (length e.contests)) [
      | inr other ↦ inr (λ is. let spelled = is.1 in other (ap (λ (line : RecordLine). length line.groups) (one_reading e rest line spelled.line reads spelled.reads) ∙ spelled.a_group_each))
      | inl all ↦ elim (valid_or_not e (ballot_of_line line)) [
        | inr not ↦ inr (λ is.
            let spelled = is.1 in
            not (subst (IsValid e) (spelled.is ∙ ap ballot_of_line (one_reading e rest spelled.line line spelled.reads reads)) spelled.valid))
        | inl valid ↦ inl (ballot_of_line line, record { line = line; reads = reads; a_group_each = all; is = refl; valid = valid })
      ]
    ]

-- a line casts nothing
record SaysNoCast (e : Election) (bytes : List ℕ) : Type 0 where
  valid : (tab : ℕ) (b : Ballot) → ¬ Says e bytes (Cast tab b)
  invalid : (tab : ℕ) → ¬ Says e bytes (CastInvalid tab)

-- a line casts a ballot or an invalid one, or nothing
cast_or_not : (e : Election) (bytes : List ℕ) → ((line : ScriptLine) × Says e bytes line) ⊎ SaysNoCast e bytes
cast_or_not e bytes =
    elim (item_or_not Casting bytes) [
      | inr none ↦ inr (record { valid = λ tab b says. none tab says.1 says.0 says.2; invalid = λ tab says. none tab says.1 says.0 says.2 })
      | inl item ↦ elim (record_line_or_not e item.1) [
        | inr none ↦
            let other : (tab : ℕ) (rest : List ℕ) → IsTab tab → bytes ≡ item_text Casting tab rest → ¬ IsRecordLine e rest = λ tab rest is same.
            subst (λ (rest : List ℕ). ¬ IsRecordLine e rest) (one_item Casting Casting item.0 tab item.1 rest item.2 is (sym item.3 ∙ same)).2 none in
            inr (record {
              valid = λ tab b says. other tab says.1 says.0 says.2 (says.3.line, says.3.reads);
              invalid = λ tab says. other tab says.1 says.0 says.2 says.3;
            })
        | inl is ↦ elim (ballot_or_not e item.1 is) [
          | inl spelled ↦ inl (Cast item.0 spelled.0, (item.2, item.1, item.3, spelled.1))
          | inr none ↦ inl (CastInvalid item.0, (item.2, item.1, item.3, is, none))
        ]
      ]
    ]

-- ---- a line

-- a line is none of the four words
record SaysNoWord (bytes : List ℕ) : Type 0 where
  close : bytes ≢ codes "close"
  checkpoint : bytes ≢ codes "checkpoint"
  tally : bytes ≢ codes "tally"
  export : bytes ≢ codes "export"

-- a line is one of the four words, or none
word_or_not : (e : Election) (bytes : List ℕ) → ((line : ScriptLine) × Says e bytes line) ⊎ SaysNoWord bytes
word_or_not e bytes =
    elim (same_or_not bytes (codes "close")) [
      | inl close ↦ inl (Close, close)
      | inr no_close ↦ elim (same_or_not bytes (codes "checkpoint")) [
        | inl checkpoint ↦ inl (Checkpoint, checkpoint)
        | inr no_checkpoint ↦ elim (same_or_not bytes (codes "tally")) [
          | inl tally ↦ inl (Tally, tally)
          | inr no_tally ↦ elim (same_or_not bytes (codes "export")) [
            | inl export ↦ inl (Export, export)
            | inr no_export ↦ inr (record { close = no_close; checkpoint = no_checkpoint; tally = no_tally; export = no_export })
          ]
        ]
      ]
    ]

-- what is left where the bytes are of no form
malformed : (e : Election) (bytes : List ℕ) → SaysNoWord bytes → ((w : Work) (tabs : ℕ) → IsTab tabs → bytes ≢ open_text w tabs) → SaysNoCast e bytes
    → ((tab number : ℕ) → IsTab tab → IsNumber number → bytes ≢ item_text Withdrawing tab (decimal number))
    → ((tab number : ℕ) → IsTab tab → IsNumber number → bytes ≢ item_text Finding tab (decimal number)) → IsMalformed e bytes
malformed e bytes word opening cast withdraw find (Open w tabs) says = opening w tabs says.0 says.1
malformed e bytes word opening cast withdraw find (Cast tab b) says = cast.valid tab b says
malformed e bytes word opening cast withdraw find (CastInvalid tab) says = cast.invalid tab says
malformed e bytes word opening cast withdraw find (Withdraw tab number) says = withdraw tab number says.0 says.1 says.2
malformed e bytes word opening cast withdraw find (Find tab number) says = find tab number says.0 says.1 says.2
malformed e bytes word opening cast withdraw find Close says = word.close says
malformed e bytes word opening cast withdraw find Checkpoint says = word.checkpoint says
malformed e bytes word opening cast withdraw find Tally says = word.tally says
malformed e bytes word opening cast withdraw find Export says = word.export says

-- an opening of one of the three phases, or none
any_opening_or_not : (e : Election) (bytes : List ℕ) → ((line : ScriptLine) × Says e bytes line) ⊎ ((w : Work) (tabs : ℕ) → IsTab tabs → bytes ≢ open_text w tabs)
any_opening_or_not e bytes =
    elim (opening_or_not Casting bytes) [
      | inl one ↦ inl (Open Casting one.0, (one.1, one.2))
      | inr no_cast ↦ elim (opening_or_not Withdrawing bytes) [
        | inl one ↦ inl (Open Withdrawing one.0, (one.1, one.2))
        | inr no_withdraw ↦ elim (opening_or_not Finding bytes) [
          | inl one ↦ inl (Open Finding one.0, (one.1, one.2))
          | inr no_find ↦ inr (elim [ Casting ↦ no_cast | Withdrawing ↦ no_withdraw | Finding ↦ no_find ])
        ]
      ]
    ]

-- bytes say something, or are malformed
pub meant_or_malformed : (e : Election) (bytes : List ℕ) → ((line : ScriptLine) × Says e bytes line) ⊎ IsMalformed e bytes
meant_or_malformed e bytes =
    elim (word_or_not e bytes) [
      | inl one ↦ inl one
      | inr no_word ↦ elim (any_opening_or_not e bytes) [
        | inl one ↦ inl one
        | inr no_opening ↦ elim (cast_or_not e bytes) [
          | inl one ↦ inl one
          | inr no_cast ↦ elim (numbered_or_not Withdrawing bytes) [
            | inl one ↦ inl (Withdraw one.0 one.1, (one.2, one.3, one.4))
            | inr no_withdraw ↦ elim (numbered_or_not Finding bytes) [
              | inl one ↦ inl (Find one.0 one.1, (one.2, one.3, one.4))
              | inr no_find ↦ inr (malformed e bytes no_word no_opening no_cast no_withdraw no_find)
            ]
          ]
        ]
      ]
    ]
