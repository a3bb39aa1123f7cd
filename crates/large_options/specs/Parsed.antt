-- The command that takes the words apart, and what it finds in them.
use Rattle.std.specs.Prelude.{◌≡◌, ℕ, List, Some, true, codes}
use Rattle.std.specs.Fmt.{decimal}
use Rattle.clap.specs.Walk.{Rule}
use Rattle.clap.specs.Matches.{first_value}
use Rattle.clap.specs.Simple.{App, new_app, new_rule, on_top, with_rule}
use Rattle.clap.specs.declared.builder.action.ArgAction.TheVariants.{Set}
use Rattle.clap.specs.declared.parser.matches.Found.{Found}
use Rattle.large_options.specs.Given.{HasValue, id_of}
use Rattle.large_options.specs.Options.{IsOptions}
use Rattle.large_options.specs.declared.name.Name.{Name}
use Rattle.large_options.specs.declared.name.Name.TheVariants.{Seed, Count, Tabs}

-- a required option with one value, which is any text
abbrev pub rule : List ℕ → Rule
rule id = record (new_rule id) { long = Some id; action = Some Set; required = true }

-- the command `large`, without help, and with all the words as its arguments
abbrev pub large : App
large = with_rule (with_rule (with_rule
    (on_top (λ s. record s { no_binary_name = true; disable_help_flag = true }) (new_app (codes "large")))
    (rule (id_of Seed))) (rule (id_of Count))) (rule (id_of Tabs))

-- the option was found, with a value that it takes
abbrev pub IsValueOf : Name → Found → Type 0
IsValueOf name f = (n : ℕ) × HasValue name (decimal n) n × (first_value f (id_of name) ≡ Some (decimal n))

-- the values that were found are those of the options that the words are
abbrev pub HasValues : List (List ℕ) → Found → Type 0
HasValues words f = (seed count tabs : ℕ) × IsOptions words seed count tabs
    × (first_value f (id_of Seed) ≡ Some (decimal seed))
    × (first_value f (id_of Count) ≡ Some (decimal count))
    × (first_value f (id_of Tabs) ≡ Some (decimal tabs))
