-- What a command meets outside, and what it reports.
use Rattle.std.specs.Prelude.{◌≡◌, ◌<◌, ℕ, List, [], map, Option, None}
use Rattle.outside_io.specs.Outside.{Input, Outside, Output, outside}
use Rattle.store_spec.specs.Fault.{last_count}

-- the script's source, the sink, the disk of the medium, and those of the further media
pub record World (S K D : Type 0) : Type 0 where
  pub streams : Outside S K
  pub disk : D
  pub more : List D

abbrev pub world : {S K D : Type 0} → Input S → Output K → D → List D → World S K D
world script sink disk more = record { streams = outside script sink; disk = disk; more = more }

-- How many calls the disk had seen at each checkpoint, and how many the further disks, one list for each; how many two
-- disks had seen when they were paired, if two were; and how many ballots the last closed store held.
pub record Reported : Type 0 where
  pub marks : List ℕ
  pub others : List (List ℕ)
  pub begun : Option (ℕ × ℕ)
  pub held : ℕ

-- what is reported where no session began
abbrev pub nothing_reported : Reported
nothing_reported = record { marks = []; others = []; begun = None; held = 0 }

-- there are no further disks
pub record IsAlone (report : Reported) : Type 0 where
  pub others : report.others ≡ map (λ _. []) report.marks
  pub begun : report.begun ≡ None

-- a count of faults did not rise, and can still rise
pub record IsSteady (before after : ℕ) : Type 0 where
  pub same : after ≡ before
  pub below : before < last_count
