-- What a session meets outside beside its script, and its report.
use Rattle.std.specs.Prelude.{ℕ, List, map}
use Rattle.outside_io.specs.Outside.{Output}
use Rattle.phase_gate.specs.declared.report.Report.{Report}

pub record Around (K D : Type 0) : Type 0 where
  pub sink : Output K
  pub disk : D
  pub marks : List ℕ
  pub others : List (List ℕ)
  pub held : ℕ

-- the rows of a report: the calls of the further disks, a row beside each mark
abbrev pub rows_of : Report → List (List ℕ)
rows_of report = map (λ list. list.items) report.others.items

abbrev pub around : {K D : Type 0} → Output K → D → Report → Around K D
around sink disk report = record {
  sink = sink;
  disk = disk;
  marks = report.marks.items;
  others = rows_of report;
  held = report.held;
}

-- the same, with these rows
abbrev pub with_rows : {K D : Type 0} → Around K D → List (List ℕ) → Around K D
with_rows around rows =
    record { sink = around.sink; disk = around.disk; marks = around.marks; others = rows; held = around.held }
