use Rattle.std.proofs.Common.{◌∙◌, sym, refl}
use Rattle.store_spec.proofs.Common.{false≢true}
use Rattle.ballot_record.specs.Record.{ballot}
use Rattle.ballot_record.proofs.LineAnswers.{not_a_line, line_read, spells, other_groups, not_valid}
use Rattle.ballot_record.proofs.line.read_line_into.Goals as goal
use Rattle.ballot_record.proofs.line.read_line_into.Goals.{then-groups-contests-via-then-groups-contests, then-groups-contests-via-else-groups-contests+then-not-valid_up_to}

pub returns-in_default-clause-malformed : goal.returns-in_default-clause-malformed
returns-in_default-clause-malformed c = (λ _. not_a_line c.args.election.now c.args.line.now c.in_default.ensures, λ _. refl)

pub returns-in_default-clause-invalid : goal.returns-in_default-clause-invalid
returns-in_default-clause-invalid c = (λ wrong. absurd cc, λ invalid. absurd (not_a_line c.args.election.now c.args.line.now c.in_default.ensures invalid.0))

pub returns-then-groups-contests-clause-malformed : goal.returns-then-groups-contests-clause-malformed
returns-then-groups-contests-clause-malformed c =
    let read = line_read c.args.election.now c.args.line.now (ballot c.put_parts.new.parts) c.in-Some.groups c.in-Some.ensures in
    (λ wrong. absurd cc, λ none. absurd (none (read.line, read.reads)))

pub returns-then-groups-contests-clause-invalid : goal.returns-then-groups-contests-clause-invalid
returns-then-groups-contests-clause-invalid c =
    let e = c.args.election.now in
    let b = ballot c.put_parts.new.parts in
    let read = line_read c.args.election.now c.args.line.now b c.in-Some.groups c.in-Some.ensures in (
      λ _. (
        (read.line, read.reads),
        elim c.then-groups-contests.branch [
          | then-groups-contests-via-then-groups-contests w ↦
              other_groups e c.args.line.now b c.in-Some.groups read (λ same. w.if-groups-contests.true (same ∙ sym c.contests.ensures.count))
          | then-groups-contests-via-else-groups-contests+then-not-valid_up_to w ↦
              not_valid e c.args.line.now b c.in-Some.groups read (λ valid. false≢true (w.if-not-valid_up_to.ensures.1 valid))
        ],
      ),
      λ _. refl,
    )

pub returns-clause-read : goal.returns-clause-read
returns-clause-read c =
    let b = ballot c.put_parts.new.parts in
    let read = line_read c.args.election.now c.args.line.now b c.in-Some.groups c.in-Some.ensures in
    spells c.args.election.now c.args.line.now b c.in-Some.groups read (c.if-groups-contests.false ∙ c.contests.ensures.count) (c.if-not-valid_up_to.ensures.0 refl)

pub returns-clause-malformed : goal.returns-clause-malformed
returns-clause-malformed c =
    let read = line_read c.args.election.now c.args.line.now (ballot c.put_parts.new.parts) c.in-Some.groups c.in-Some.ensures in
    (λ wrong. absurd cc, λ none. absurd (none (read.line, read.reads)))

pub returns-clause-invalid : goal.returns-clause-invalid
returns-clause-invalid c =
    let b = ballot c.put_parts.new.parts in
    let read = line_read c.args.election.now c.args.line.now b c.in-Some.groups c.in-Some.ensures in (
      λ wrong. absurd cc,
      λ invalid. absurd (invalid.1 (b, spells c.args.election.now c.args.line.now b c.in-Some.groups read (c.if-groups-contests.false ∙ c.contests.ensures.count) (c.if-not-valid_up_to.ensures.0 refl))),
    )
