-- The rows of all commands: their laws, and that their words tell them apart.
use Rattle.std.proofs.Common.{◌≡◌, ℕ, ◌+◌, ◌-◌, ◌*◌, ◌≤◌, ⊎_elim, List, [], ◌∷◌, Option, Some, None, Result, Ok, Err, ap, arith, refl, subst, sym, true, ◌∙◌}
use Rattle.std.specs.Prelude.{IfErr, IfNone, IfOk, IfSome, codes, length}
use Rattle.run_command.specs.Command.{Forms, row}
use Rattle.run_command.specs.declared.command.Command.{Command}
use Rattle.run_command.specs.declared.command.Command.TheVariants.{Build, Init, Session, Audit, Replay, Large, Sample, Compare, Merge, Migrate, Twin, Part}
use Rattle.large_options.proofs.Orders.{one_reading, ordered}
use Rattle.large_options.specs.Options.{AreOptions, IsOptions}
use Rattle.large_options.specs.declared.options.Options.{Options}
use Rattle.medium_commands.proofs.AuditLaws.{audit_laws}
use Rattle.medium_commands.proofs.InitLaws.{init_laws}
use Rattle.merge_commands.proofs.MergeLaws.{merge_laws}
use Rattle.merge_commands.specs.Merge.{AreFew, merge_row}
use Rattle.migrate_commands.proofs.MigrateLaws.{migrate_laws}
use Rattle.part_commands.proofs.PartLaws.{part_laws}
use Rattle.part_commands.specs.Part.{ArePartWords, part_row}
use Rattle.partition_store.specs.Parted.{AreFurther}
use Rattle.run_outcome.proofs.Laws.{Laws}
use Rattle.run_outcome.specs.Row.{AreMediaIf, IsNamed, IsOne}
use Rattle.sample_commands.proofs.Asking.{none_asked, one_asked}
use Rattle.sample_commands.proofs.CompareLaws.{compare_laws}
use Rattle.sample_commands.proofs.SampleLaws.{sample_laws}
use Rattle.sample_commands.specs.Asked.{IsAsked}
use Rattle.sample_commands.specs.declared.asked.Asked.{Asked}
use Rattle.script_commands.proofs.BuildLaws.{build_laws}
use Rattle.script_commands.proofs.ReplayLaws.{replay_laws}
use Rattle.session_commands.proofs.LargeLaws.{large_laws}
use Rattle.session_commands.proofs.SessionLaws.{session_laws}
use Rattle.twin_commands.proofs.TwinLaws.{twin_laws}

-- the laws of each row
pub laws : (c : Command) → Laws (row c)
laws Build = build_laws
laws Init = init_laws
laws Session = session_laws
laws Audit = audit_laws
laws Replay = replay_laws
laws (Large o) = large_laws o
laws (Sample asked) = sample_laws asked
laws (Compare asked) = compare_laws asked
laws Merge = merge_laws
laws Migrate = migrate_laws
laws Twin = twin_laws
laws Part = part_laws

-- ---- commands are told apart by their words

one_large : (words : List (List ℕ)) (o p : Options) → IsOptions words o.seed o.count o.tabs → IsOptions words p.seed p.count p.tabs → Large o ≡ Large p
one_large words o p x y =
    let one = one_reading words o.seed o.count o.tabs p.seed p.count p.tabs x y in
    ap (λ (seed : ℕ). Large (record { seed = seed; count = o.count; tabs = o.tabs })) one.0
    ∙ ap (λ (count : ℕ). Large (record { seed = p.seed; count = count; tabs = o.tabs })) one.1
    ∙ ap (λ (tabs : ℕ). Large (record { seed = p.seed; count = p.count; tabs = tabs })) one.2

-- a word as a number
abbrev number_of : List ℕ → ℕ
number_of [] = 0
number_of (byte ∷ bytes) = byte + 256 * number_of bytes

pub one_row : (a b : Command) (words : List (List ℕ)) → (row a).word ≡ (row b).word → (row a).further words → (row b).further words → a ≡ b
one_row Build Build words same x y = refl
one_row Init Init words same x y = refl
one_row Session Session words same x y = refl
one_row Audit Audit words same x y = refl
one_row Replay Replay words same x y = refl
one_row (Large o) (Large p) words same x y = one_large words o p x y
one_row (Sample a) (Sample b) words same x y = ap Sample (one_asked words a b x y)
one_row (Compare a) (Compare b) words same x y = ap Compare (one_asked words a b x y)
one_row Merge Merge words same x y = refl
one_row Migrate Migrate words same x y = refl
one_row Twin Twin words same x y = refl
one_row Part Part words same x y = refl
one_row a b words same x y = absurd (omega (arith, ap number_of same))

-- ---- a word alone

-- no words are no options
none_given : (words : List (List ℕ)) → words ≡ [] → AreOptions words → ⊥
none_given words none o =
    let order = ordered words o.0 o.1 o.2 o.3 in
    let few : length words ≡ 0 = ap length none in
    let many : length words ≡ 6 = ap length order.spelled in
    omega (arith, few, many)

no_media : AreFew [] → ⊥
no_media few = absurd (omega (arith, few.some))

none_further : IsOne [] → ⊥
none_further one = absurd (omega (arith, one))

no_parts : ArePartWords [] → ⊥
no_parts parts = ⊎_elim
    (λ (one : 0 ≡ 1). absurd (omega (arith, one)))
    (λ more. ⊎_elim
    (λ (three : 0 ≡ 3). absurd (omega (arith, three)))
    (λ (seven : 0 ≡ 7). absurd (omega (arith, seven)))
    more)
    parts

-- it is the word of no command that takes no further words
pub record IsOther (word : List ℕ) : Type 0 where
  pub build : word ≡ codes "build" → ⊥
  pub init : word ≡ codes "init" → ⊥
  pub session : word ≡ codes "session" → ⊥
  pub audit : word ≡ codes "audit" → ⊥
  pub replay : word ≡ codes "replay" → ⊥

pub names_none : (word : List ℕ) → IsOther word → (c : Command) (medium : List ℕ) → IsNamed (row c) medium word [] → ⊥
names_none word other Build medium is = other.build is.word
names_none word other Init medium is = other.init is.word
names_none word other Session medium is = other.session is.word
names_none word other Audit medium is = other.audit is.word
names_none word other Replay medium is = other.replay is.word
names_none word other (Large o) medium is = none_given [] refl (o.seed, o.count, o.tabs, is.further)
names_none word other (Sample asked) medium is = none_asked asked is.further
names_none word other (Compare asked) medium is = none_asked asked is.further
names_none word other Merge medium is = no_media is.further
names_none word other Migrate medium is = none_further is.further
names_none word other Twin medium is = none_further is.further
names_none word other Part medium is = no_parts is.further

-- ---- a word with others behind it

-- what names a command behind each word for the medium names it behind this one
pub found_behind : (medium word : List ℕ) (words : List (List ℕ)) (found : Option Command)
    → IfSome found (λ c. (medium : List ℕ) → IsNamed (row c) medium word words) → IfSome found (λ c. IsNamed (row c) medium word words)
found_behind medium word words (Some c) is = is medium
found_behind medium word words None is = tt

pub named_behind : {E : Type 0} (medium word : List ℕ) (words : List (List ℕ)) (r : Result (Option Command) E)
    → IfOk r (λ o. IfSome o (λ c. (medium : List ℕ) → IsNamed (row c) medium word words)) → IfOk r (λ o. IfSome o (λ c. IsNamed (row c) medium word words))
named_behind medium word words (Ok found) is = found_behind medium word words found is
named_behind medium word words (Err fault) is = tt

-- what holds of no command holds where none was found
none_found : {P Q : Type 0} (found : Option Command) → (P → Q) → IfNone found P → IfNone found Q
none_found None step none = step none
none_found (Some c) step none = tt

module _ (medium word : List ℕ) (words : List (List ℕ)) where
  abbrev NamesNone : Type 0
  NamesNone = (c : Command) → IsNamed (row c) medium word words → ⊥

  names_no_large : word ≡ codes "large" → (AreOptions words → ⊥) → NamesNone
  names_no_large same none (Large o) is = none (o.seed, o.count, o.tabs, is.further)
  names_no_large same none other is = omega (arith, ap number_of (sym is.word ∙ same))

  names_no_sample : word ≡ codes "sample" → ((asked : Asked) → IsAsked words asked → ⊥) → NamesNone
  names_no_sample same none (Sample asked) is = none asked is.further
  names_no_sample same none other is = omega (arith, ap number_of (sym is.word ∙ same))

  names_no_compare : word ≡ codes "compare" → ((asked : Asked) → IsAsked words asked → ⊥) → NamesNone
  names_no_compare same none (Compare asked) is = none asked is.further
  names_no_compare same none other is = omega (arith, ap number_of (sym is.word ∙ same))

  names_no_merge : word ≡ codes "merge" → (IsNamed merge_row medium (codes "merge") words → ⊥) → NamesNone
  names_no_merge same none Merge is = none (record { word = refl; further = is.further; media = is.media })
  names_no_merge same none other is = omega (arith, ap number_of (sym is.word ∙ same))

  names_no_migrate : word ≡ codes "migrate" → ((IsOne words × AreMediaIf true medium words) → ⊥) → NamesNone
  names_no_migrate same none Migrate is = none (is.further, is.media)
  names_no_migrate same none other is = omega (arith, ap number_of (sym is.word ∙ same))

  names_no_twin : word ≡ codes "twin" → ((IsOne words × AreMediaIf true medium words) → ⊥) → NamesNone
  names_no_twin same none Twin is = none (is.further, is.media)
  names_no_twin same none other is = omega (arith, ap number_of (sym is.word ∙ same))

  names_no_part : word ≡ codes "part" → (IsNamed part_row medium (codes "part") words → ⊥) → NamesNone
  names_no_part same none Part is = none (record { word = refl; further = is.further; media = is.media })
  names_no_part same none other is = omega (arith, ap number_of (sym is.word ∙ same))

  -- words that ask for no sample name none
  pub no_sample : (found : Option Command) → word ≡ codes "sample" → IfNone found ((asked : Asked) → IsAsked words asked → ⊥) → IfNone found NamesNone
  no_sample found same none = none_found found (names_no_sample same) none

  pub no_compare : (found : Option Command) → word ≡ codes "compare" → IfNone found ((asked : Asked) → IsAsked words asked → ⊥) → IfNone found NamesNone
  no_compare found same none = none_found found (names_no_compare same) none

  pub no_merge : (found : Option Command) → word ≡ codes "merge" → IfNone found (IsNamed merge_row medium (codes "merge") words → ⊥) → IfNone found NamesNone
  no_merge found same none = none_found found (names_no_merge same) none

  pub no_migrate : (found : Option Command) → word ≡ codes "migrate" → IfNone found ((IsOne words × AreMediaIf true medium words) → ⊥) → IfNone found NamesNone
  no_migrate found same none = none_found found (names_no_migrate same) none

  pub no_twin : (found : Option Command) → word ≡ codes "twin" → IfNone found ((IsOne words × AreMediaIf true medium words) → ⊥) → IfNone found NamesNone
  no_twin found same none = none_found found (names_no_twin same) none

  pub no_part : (found : Option Command) → word ≡ codes "part" → IfNone found (IsNamed part_row medium (codes "part") words → ⊥) → IfNone found NamesNone
  no_part found same none = none_found found (names_no_part same) none

  -- a command that one further medium names
  pub named_one : (command : Command) (found : Option Command) → (IsOne words → AreMediaIf true medium words → IsNamed (row command) medium word words)
      → IfSome found (λ c. (c ≡ command) × IsOne words × AreMediaIf true medium words) → IfSome found (λ c. IsNamed (row c) medium word words)
  named_one command (Some c) so is = subst (λ c. IsNamed (row c) medium word words) (sym is.0) (so is.1 is.2)
  named_one command None so is = tt

  pub no_large : {E : Type 0} (r : Result (Option Command) E) → word ≡ codes "large" → IfOk r (λ o. IfNone o (AreOptions words → ⊥)) → IfOk r (λ o. IfNone o NamesNone)
  no_large (Ok found) same none = none_found found (names_no_large same) none
  no_large (Err fault) same none = tt

  -- where there was no memory for options, they name a large run
  pub names_large : {T E : Type 0} (r : Result T E) → word ≡ codes "large" → IfErr r (λ x. AreOptions words) → IfErr r (λ x. (c : Command) × IsNamed (row c) medium word words)
  names_large (Ok value) is o = tt
  names_large (Err fault) is o = (Large (record { seed = o.0; count = o.1; tabs = o.2 }), record { word = is; further = o.3; media = tt })

-- ---- how many further media there are

-- behind a word and two others these are the further words of the command that they form
pub further_of : (words : List (List ℕ)) (c : Command) → Forms words c → (more : List (List ℕ)) × (row c).further more × (length words ≡ length more + 3)
further_of (medium ∷ election ∷ word ∷ words) c forms = (words, forms.2.further, omega arith)
further_of words c forms = absurd forms

pub few_media : (words : List (List ℕ)) (c : Command) → Forms words c → c ≡ Merge → length words ≤ 11
few_media words Merge forms is = let more = further_of words Merge forms in omega (arith, more.1.few, more.2)
few_media words other forms is = absurd cc

pub one_target : (words : List (List ℕ)) (c : Command) → Forms words c → c ≡ Migrate → length words ≡ 4
one_target words Migrate forms is = let more = further_of words Migrate forms in omega (arith, more.1, more.2)
one_target words other forms is = absurd cc

pub further_parts : (words : List (List ℕ)) (c : Command) → Forms words c → c ≡ Part → AreFurther (length words - 3)
further_parts words Part forms is =
    let more = further_of words Part forms in
    let count : length more.0 ≡ length words - 3 = omega (arith, more.2) in
    subst AreFurther count more.1
further_parts words other forms is = absurd cc

pub one_second : (words : List (List ℕ)) (c : Command) → Forms words c → c ≡ Twin → length words ≡ 4
one_second words Twin forms is = let more = further_of words Twin forms in omega (arith, more.1, more.2)
one_second words other forms is = absurd cc
