-- What becomes of a sample that was drawn.
use Rattle.std.proofs.Common.{◌≡◌, ℕ, ◌<◌, ◌≤◌, List, ap, arith, length, sym, subst, ◌∙◌}
use Rattle.store_spec.proofs.Common.{All, AllPairs, Ballot, DiskModel, Election, IsElection, IsValid, length-map, most_ballots}
use Rattle.ballot_record.specs.Record.{ballot}
use Rattle.body_store.specs.Contents.{ballots_of}
use Rattle.ballot_record.specs.declared.record.Record.{Record}
use Rattle.sample_commands.specs.Asked.{dice_of}
use Rattle.sample_commands.specs.Looked.{ShowsSet}
use Rattle.sample_commands.specs.Sample.{WritesSample, asked_sample, ballots_text}
use Rattle.sample_commands.specs.declared.asked.Asked.{Asked}
use Rattle.ticket_sample.proofs.Samples.{sample_fewer, sample_set}

-- the sample was drawn, and these are its records
abbrev pub IsDrawn : {D : Type 0} → DiskModel D → Election → Asked → List Record → D → D → Type 0
IsDrawn model e asked records before after = (set : List Ballot) × ShowsSet model e set before after × (ballots_of records ≡ asked_sample asked set)

pub drawn_valid : {D : Type 0} (model : DiskModel D) (e : Election) (asked : Asked) (records shown : List Record) (before after : D) → IsDrawn model e asked records before after → shown ≡ records → All (IsValid e) (ballots_of shown)
drawn_valid model e asked records shown before after drawn same =
    subst (All (IsValid e)) (sym (ap ballots_of same ∙ drawn.2)) (sample_set e drawn.0 (dice_of asked) asked.count drawn.1.is_set).valid

pub drawn_ascending : {D : Type 0} (model : DiskModel D) (e : Election) (asked : Asked) (records : List Record) (before after : D) → IsDrawn model e asked records before after → AllPairs (λ a b. a.number < b.number) (ballots_of records)
drawn_ascending model e asked records before after drawn =
    subst (AllPairs (λ a b. a.number < b.number)) (sym drawn.2) (sample_set e drawn.0 (dice_of asked) asked.count drawn.1.is_set).ascending

pub drawn_few : {D : Type 0} (model : DiskModel D) (e : Election) (asked : Asked) (records : List Record) (before after : D) → IsElection e → IsDrawn model e asked records before after → length records ≤ most_ballots
drawn_few model e asked records before after valid drawn =
    omega (arith, length-map records ballot, ap length drawn.2, sample_fewer drawn.0 (dice_of asked) asked.count, drawn.1.within_limit, valid.few_ballots)

-- the text of these records is that of the sample
pub text_drawn : {D : Type 0} (model : DiskModel D) (e : Election) (asked : Asked) (records shown : List Record) (text : List ℕ) (before after : D) (Takes : List ℕ → Type 0) → IsDrawn model e asked records before after → shown ≡ records → text ≡ ballots_text e (ballots_of shown) → Takes text → WritesSample model e asked before after Takes
text_drawn model e asked records shown text before after Takes drawn same is takes = record {
  set = drawn.0;
  shows = drawn.1;
  takes = subst Takes (is ∙ ap (ballots_text e) (ap ballots_of same ∙ drawn.2)) takes;
}
