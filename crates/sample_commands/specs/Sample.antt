-- What the command `sample` makes of a medium. `old` and `new` are the sink before and after, and `before` and `after` the
-- disk.
use Rattle.std.specs.Prelude.{◌≡◌, ℕ, List, ◌∷◌, codes, length, map, true, false}
use Rattle.outside_io.specs.Outside.{Output}
use Rattle.outside_io.specs.Stream.{TakesAll, TakesSome}
use Rattle.recovery.specs.ReadsOnly.{WritesNothing}
use Rattle.run_outcome.specs.Row.{EndsWell, HoldsAny, Row}
use Rattle.run_outcome.specs.World.{Reported, World}
use Rattle.run_outcome.specs.declared.status.Status.{Status}
use Rattle.run_outcome.specs.declared.status.Status.TheVariants as status
use Rattle.sample_commands.specs.Asked.{IsAsked, dice_of}
use Rattle.sample_commands.specs.Looked.{ShowsNone, ShowsSet}
use Rattle.sample_commands.specs.declared.asked.Asked.{Asked}
use Rattle.store_spec.specs.Ballot.{Ballot}
use Rattle.store_spec.specs.BallotLine.{record_line}
use Rattle.store_spec.specs.Disk.{DiskModel}
use Rattle.store_spec.specs.Election.{Election}
use Rattle.store_spec.specs.Fault.{Rose}
use Rattle.store_spec.specs.Report.{count_line, lines_text}
use Rattle.ticket_sample.specs.Sample.{sample_of}

-- how many ballots there are, and the line of each
abbrev pub ballots_text : Election → List Ballot → List ℕ
ballots_text e ballots = lines_text (count_line (codes "sample") (length ballots) ∷ map (record_line e) ballots)

-- the sample that is asked for
abbrev pub asked_sample : Asked → List Ballot → List Ballot
asked_sample asked set = sample_of set (dice_of asked) asked.count

-- the disk holds a set, of whose sample's text the sink took what this says
pub record WritesSample {D : Type 0} (model : DiskModel D) (e : Election) (asked : Asked) (before after : D) (Takes : List ℕ → Type 0) : Type 0 where
  pub set : List Ballot
  pub shows : ShowsSet model e set before after
  pub takes : Takes (ballots_text e (asked_sample asked set))

-- what becomes of the sink where a run of `sample` ends so, and why it does
abbrev pub SampleWrites : {K D : Type 0} → DiskModel D → Election → Asked → Status → Output K → Output K → D → D → Type 0
SampleWrites model e asked status.Ok old new before after =
    WritesSample model e asked before after (λ text. TakesAll old.taken text new.taken) × (new.faults ≡ old.faults)
SampleWrites model e asked status.WriteFault old new before after =
    WritesSample model e asked before after (λ text. TakesSome old.taken text new.taken) × Rose old.faults new.faults
SampleWrites model e asked other old new before after = ShowsNone model e other before after × (new ≡ old)

-- All that a run of `sample` promises under an election. Nothing is written to the disk: a read gives what it gave, and a
-- crash at each moment leaves what it might have left before.
pub record SampleEnds {K D : Type 0} (model : DiskModel D) (e : Election) (asked : Asked) (status : Status) (old new : Output K) (before after : D) : Type 0 where
  pub tells : SampleWrites model e asked status old new before after
  pub writes_nothing : WritesNothing model.seen model.calls model.may_leave before after

-- ---- the row

abbrev sample_ends : {S K D : Type 0} → Asked → DiskModel D → Election → Status → Reported → World S K D → World S K D → Type 0
sample_ends asked model e status report before after =
    SampleEnds model e asked status before.streams.sink after.streams.sink before.disk after.disk

abbrev pub sample_row : Asked → Row
sample_row asked = record {
  word = codes "sample";
  further = λ words. IsAsked words asked;
  touches = record { script = false; disk = true; more = false; report = false };
  served = HoldsAny;
  done = EndsWell;
  ends = sample_ends asked;
}
