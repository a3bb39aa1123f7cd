-- What the source of the generated script has left to give: the rest of the line that stands ready, and the lines that
-- were not made yet.
use Rattle.std.specs.Prelude.{ℕ, List, ◌++◌, drop}
use Rattle.script_lines.specs.Generated.{generated}
use Rattle.script_lines.specs.declared.generated_script.GeneratedScript.{GeneratedScript}
use Rattle.store_spec.specs.Report.{lines_text}

abbrev pub script_left : GeneratedScript → List ℕ
script_left source = drop source.given source.line.items
    ++ lines_text (drop source.index (generated source.election source.seed source.count source.tabs))
