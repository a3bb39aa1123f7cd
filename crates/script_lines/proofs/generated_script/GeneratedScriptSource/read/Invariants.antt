use Rattle.std.proofs.Common.{◌≡◌, ◌-◌, ◌≤◌, ◌++◌, length, take}
use Rattle.script_lines.specs.Script.{script_left}
use Rattle.script_lines.proofs.generated_script.GeneratedScriptSource.read.Given as goal

-- what was left is what the front of the buffer has, and what is left now
abbrev pub invariant-pieces : goal.invariant-pieces
invariant-pieces l = record {
  given : script_left l.fn.self ≡ take l.count l.buf ++ script_left l.self;
  within : l.count ≤ length l.buf;
}

abbrev pub decreases-pieces : goal.decreases-pieces
decreases-pieces l = length l.initial.buf - l.count
