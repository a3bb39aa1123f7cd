use Rattle.std.proofs.Common.{◌≡◌, ◌≢◌, ◌<◌, ◌++◌, [], ◌∷◌, length, Some, ap, sym, subst, ◌∙◌, arith, rules, length-append}
use Rattle.store_spec.proofs.Common.{Ballot, IsListing, get_or_from_slice_get, length-map, map_push, numbers_of, slice_get_within}
use Rattle.ballot_record.proofs.BallotLists.{number_at_place}
use Rattle.ballot_record.specs.BallotList.{ListedBallots, with_more}
use Rattle.ballot_record.specs.declared.record.Record.{Record}
use Rattle.ballot_record.specs.Record.{ballot}
use Rattle.script_commands.specs.Index.{IsIndexOf}
use Rattle.script_commands.proofs.Index.{ballot_missing, listing_grown, stands}
use Rattle.script_commands.proofs.build.ballots.Ballots.add.Goals as goal

abbrev record_like : Ballot → Record
record_like b = record { number = b.number; style = b.style; marks = b.marks }

pub record-requires : goal.record-requires
record-requires c =
    let ballots = c.args.self.now.list.ballots in
    let within = slice_get_within (numbers_of ballots) c.in-Ok.held c.args.cast.now.number c.in-Ok.ensures in
    record {
      within = omega (arith, within, length-map ballots (λ (b : Ballot). b.number));
      election = sym c.requires.sound.election;
    }

pub returns-then-eq : goal.returns-then-eq
returns-then-eq c =
    let same : c.record.result ≡ c.args.cast.now = search rules in
    stands c.args.self.now.list.ballots c.in-Ok.held (ballot c.args.cast.now) (c.record.ensures ∙ ap (λ r. Some (ballot r)) same)

pub returns-else-eq : goal.returns-else-eq
returns-else-eq c =
    let ballots = c.args.self.now.list.ballots in
    let number = c.args.cast.now.number in
    let held = ballot c.record.result in
    let there = stands ballots c.in-Ok.held held c.record.ensures in
    let other : c.record.result ≢ c.args.cast.now = search rules in
    let numbered : held.number ≡ number =
    sym (number_at_place ballots c.in-Ok.held held c.record.ensures) ∙ get_or_from_slice_get (numbers_of ballots) c.in-Ok.held number 0 c.in-Ok.ensures in
    (there.0, held, there.1, there.2, (numbered, λ same. other (ap (λ (b : Ballot). record_like b) same)))

pub returns-then-len-limit : goal.returns-then-len-limit
returns-then-len-limit c =
    let ballots = c.args.self.now.list.ballots in (
      λ any. ballot_missing ballots c.args.cast.now.number c.in-Err.ensures.0 any.0 any.1 any.2 (ap (λ (b : Ballot). b.number) any.3 ∙ any.4),
      omega (arith, c.len.ensures.count, c.limit.ensures.limit, c.requires.sound.within_limit, c.if-len-limit.true),
    )

pub note-requires-clause-few : goal.note-requires-clause-few
note-requires-clause-few c = omega (arith, c.len.ensures.count, c.limit.ensures.limit, c.if-len-limit.false, c.limit.ensures.valid.few_ballots)

pub push-requires-clause-election : goal.push-requires-clause-election
push-requires-clause-election c = sym c.requires.sound.election

pub returns : goal.returns
returns c =
    let e = c.args.election.now in
    let old = c.args.self.now.list in
    let b = ballot c.args.cast.now in
    let list = c.push.new.self in
    let pushed : list ≡ with_more old b = c.in_ok-push.ensures.pushed in
    let so_far : list.ballots ≡ old.ballots ++ b ∷ [] = ap (λ (list : ListedBallots). list.ballots) pushed in
    let room : length old.ballots < e.limit = omega (arith, c.len.ensures.count, c.if-len-limit.false, c.limit.ensures.limit) in
    let listing = listing_grown e old.ballots b c.requires.sound.listing c.requires.valid c.in-Err.ensures.0 in
    let numbers : numbers_of old.ballots ++ b.number ∷ [] ≡ numbers_of list.ballots =
    sym (map_push (λ (b : Ballot). b.number) old.ballots b) ∙ ap numbers_of (sym so_far) in (
      so_far,
      record {
        election = ap (λ (list : ListedBallots). list.election) pushed ∙ c.requires.sound.election;
        listing = subst (IsListing e) (sym so_far) listing;
        within_limit = omega (arith, ap length so_far, length-append old.ballots (b ∷ []), room);
        indexed = subst (IsIndexOf c.note.new.self) numbers c.in_ok-note.ensures;
      },
    )
