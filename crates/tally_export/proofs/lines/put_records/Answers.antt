use Rattle.std.proofs.Common.{◌≡◌, ℕ, ◌+◌, ◌<◌, List, [], ◌∷◌, ◌++◌, Some, drop, get_or, length, Option, ap, subst, sym, ◌∙◌, arith}
use Rattle.store_spec.proofs.Common.{Ballot, Election, IsCellOf, ballot_of, cells_of, line_end, record_line}
use Rattle.body_store.specs.Contents.{Contents}
use Rattle.body_store.specs.declared.lookup.Place.{Place}
use Rattle.outside_io.specs.Stream.{TakesAll, TakesSome}
use Rattle.tally_export.proofs.Listed.{as_many, cell_at, cell_within, next_found}
use Rattle.outside_io.proofs.Written.{IsWritten, all_written, front_written, gathered_written, on_failure, some_written}
use Rattle.tally_export.proofs.Writing.{ballot_gathered, no_line_left}
use Rattle.tally_export.specs.Exported.{IsListed, records_text}
use Rattle.tally_export.proofs.lines.put_records.Goals as goal
use Rattle.tally_export.proofs.lines.put_records.Goals.{then-len-gt-FULL+in_ok-write_all, else-len-gt-FULL}

-- the line of a ballot was put, as the store's election has it
line_put : (own e : Election) (text more : List ℕ) (b : Ballot) → own ≡ e → more ≡ text ++ (record_line own b ++ line_end ∷ [])
    → more ≡ text ++ (record_line e b ++ line_end ∷ [])
line_put own e text more b same put = put ∙ ap (λ e. text ++ (record_line e b ++ line_end ∷ [])) same

-- it was that of the next ballot, whose cell it is
line_of_next : (store : Contents) (places : List Place) (i : ℕ) (is : IsListed store places) (lt : i < length places) (own : Election) (cell text more : List ℕ)
    → own ≡ store.election
    → ((b : Ballot) → ballot_of store.ballots (get_or (cells_of store.election store.ballots) (cell_at places i) 0) ≡ Some b → IsCellOf store.election cell b)
    → ((b : Ballot) → IsCellOf own cell b → more ≡ text ++ (record_line own b ++ line_end ∷ []))
    → more ≡ text ++ (record_line store.election (next_found store places i is lt).0 ++ line_end ∷ [])
line_of_next store places i is lt own cell text more same held put =
    let there = next_found store places i is lt in
    let b = there.0 in
    line_put own store.election text more b same (put b (subst (λ (e : Election). IsCellOf e cell b) (sym same) (held b there.1)))

pub cell-cell-requires : goal.cell-cell-requires
cell-cell-requires g c =
    cell_within c.args.closed.now c.args.places.now c.records.place-index c.requires (omega arith)

pub returns-in_err-put_ballot-clause-some : goal.returns-in_err-put_ballot-clause-some
returns-in_err-put_ballot-clause-some g c =
    let store = c.args.closed.now in
    let taken = g.K.Sink.taken in
    let whole = c.args.text.items ++ records_text store.election store.ballots in
    let l = c.records in
    on_failure c.from_residual.result (TakesSome (taken c.args.out.now) whole (taken l.out))
    (front_written (taken c.args.out.now) (taken l.out) l.text.items
    (records_text store.election (drop l.place-index store.ballots)) whole l.invariant.written)

pub returns-in_err-write_all-clause-some : goal.returns-in_err-write_all-clause-some
returns-in_err-write_all-clause-some g c =
    let store = c.args.closed.now in
    let e = store.election in
    let places = c.args.places.now in
    let l = c.records in
    let lt : l.place-index < length places = omega arith in
    let there = next_found store places l.place-index c.requires lt in
    let taken = g.K.Sink.taken in
    let whole = c.args.text.items ++ records_text e store.ballots in
    let text = c.put_ballot.new.text.items in
    let after = taken c.write_all.new.self in
    let gathered = ballot_gathered e store.ballots l.place-index there.0 (taken c.args.out.now)
    (taken l.out) l.text.items text whole there.2 there.3 l.invariant.written
    (line_of_next store places l.place-index c.requires lt c.election-election.result.now c.cell-cell.result.now l.text.items text c.election-election.ensures.election c.cell-cell.ensures.held c.in_ok-put_ballot.ensures) in
    on_failure c.from_residual-in_err-write_all.result (TakesSome (taken c.args.out.now) whole after)
    (some_written (taken c.args.out.now) (taken l.out) after text
    (records_text e (drop (l.place-index + 1) store.ballots)) whole gathered
    (subst (λ (bytes : List ℕ). TakesSome (taken l.out) bytes after) c.deref.ensures.value
    c.in_err-write_all.ensures.some))

pub records-preserved : goal.records-preserved
records-preserved g c =
    let store = c.args.closed.now in
    let e = store.election in
    let places = c.args.places.now in
    let l = c.records in
    let lt : l.place-index < length places = omega arith in
    let there = next_found store places l.place-index c.requires lt in
    let taken = g.K.Sink.taken in
    let whole = c.args.text.items ++ records_text e store.ballots in
    let next = c.if-len-gt-FULL in
    let before = taken c.args.out.now in
    let text = c.put_ballot.new.text.items in
    let left = records_text e (drop (l.place-index + 1) store.ballots) in
    let gathered = ballot_gathered e store.ballots l.place-index there.0 before
    (taken l.out) l.text.items text whole there.2 there.3 l.invariant.written
    (line_of_next store places l.place-index c.requires lt c.election-election.result.now c.cell-cell.result.now l.text.items text c.election-election.ensures.election c.cell-cell.ensures.held c.in_ok-put_ballot.ensures) in
    elim c.if-len-gt-FULL.branch [
      | then-len-gt-FULL+in_ok-write_all w ↦
          let after = taken w.write_all.new.self in
          let takes = subst (λ (bytes : List ℕ). TakesAll (taken l.out) bytes after) w.deref.ensures.value
          w.in_ok-write_all.ensures.all in
          record {
            written = subst (λ (now : Option (List ℕ)). IsWritten before now next.text.items left whole)
                (ap taken (sym w.out-is))
                (gathered_written before (taken l.out) after text next.text.items left whole gathered takes
                (ap (λ v. v.items) w.text-is ∙ w.clear.ensures.items));
            steady = ap g.K.Sink.faults w.out-is ∙ w.in_ok-write_all.ensures.fault.steady ∙ l.invariant.steady;
          }
      | else-len-gt-FULL w ↦ record {
        written = subst (λ (now : Option (List ℕ)). IsWritten before now next.text.items left whole)
            (ap taken (sym w.out-is))
            (subst (λ (gathered : List ℕ). IsWritten before (taken l.out) gathered left whole)
            (ap (λ v. v.items) (sym w.text-is)) gathered);
        steady = ap g.K.Sink.faults w.out-is ∙ l.invariant.steady;
      }
    ]

pub returns-in_err-write_all-2-clause-some : goal.returns-in_err-write_all-2-clause-some
returns-in_err-write_all-2-clause-some g c =
    let store = c.args.closed.now in
    let taken = g.K.Sink.taken in
    let whole = c.args.text.items ++ records_text store.election store.ballots in
    let l = c.records in
    let after = taken c.write_all-2.new.self in
    on_failure c.from_residual-in_err-write_all-2.result (TakesSome (taken c.args.out.now) whole after)
    (some_written (taken c.args.out.now) (taken l.out) after l.text.items
    (records_text store.election (drop l.place-index store.ballots)) whole l.invariant.written
    (subst (λ (bytes : List ℕ). TakesSome (taken l.out) bytes after) c.deref-2.ensures.value
    c.in_err-write_all-2.ensures.some))

pub returns-clause-all : goal.returns-clause-all
returns-clause-all g c =
    let store = c.args.closed.now in
    let taken = g.K.Sink.taken in
    let l = c.records in
    let after = taken c.write_all-2.new.self in
    let size = as_many store c.args.places.now c.requires in
    all_written (taken c.args.out.now) (taken l.out) after l.text.items
    (records_text store.election (drop l.place-index store.ballots))
    (c.args.text.items ++ records_text store.election store.ballots) l.invariant.written
    (no_line_left store.election store.ballots l.place-index (omega arith))
    (subst (λ (bytes : List ℕ). TakesAll
    (taken l.out) bytes after) c.deref-2.ensures.value c.in_ok-write_all-2.ensures.all)
