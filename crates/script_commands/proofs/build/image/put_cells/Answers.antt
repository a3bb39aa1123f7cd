use Rattle.std.proofs.Common.{◌≡◌, ℕ, ◌+◌, List, ◌++◌, drop, take, ap, subst, ◌∙◌, arith}
use Rattle.store_spec.proofs.Common.{Ballot, Election, cell_bytes, flat_map}
use Rattle.std.proofs.lemmas.Result.{on_err_weaker}
use Rattle.ballot_record.proofs.CellFormat.{largest_cell_width}
use Rattle.outside_io.proofs.Written.{gathered_written, on_failure, some_written}
use Rattle.outside_io.specs.Stream.{TakesAll, TakesSome}
use Rattle.script_commands.proofs.Gathered.{cells_gathered}
use Rattle.script_commands.specs.Ballots.{ballots_so_far, election_of}
use Rattle.script_commands.proofs.build.image.put_cells.Goals as goal

-- the bytes of the next cells were put, as the election of the ballots has them
cells_put : (own e : Election) (ballots : List Ballot) (next gathered bytes more : List ℕ) → own ≡ e → more ≡ gathered ++ bytes
    → bytes ≡ flat_map (cell_bytes own ballots) next → more ≡ gathered ++ flat_map (cell_bytes e ballots) next
cells_put own e ballots next gathered bytes more same put is =
    put ∙ ap (λ bytes. gathered ++ bytes) (is ∙ ap (λ e. flat_map (cell_bytes e ballots) next) same)

pub next_cells-count-requires-clause-narrow : goal.next_cells-count-requires-clause-narrow
next_cells-count-requires-clause-narrow g c = omega (arith, c.cell_bytes-size.ensures.at_most, largest_cell_width)

pub returns-in_err-write_out-clause-some : goal.returns-in_err-write_out-clause-some
returns-in_err-write_out-clause-some g c =
    let e = c.args.election.now in
    let ballots = ballots_so_far c.args.ballots.now in
    let cells = c.args.cells.now in
    let count = c.next_cells-count.result.0 in
    let l = c.cells in
    let taken = g.K.Sink.taken in
    let before = taken c.args.out.now in
    let after = taken c.write_out.new.out in
    let page = c.put.new.page.items in
    let whole = c.args.page.items ++ flat_map (cell_bytes e ballots) cells in
    let gathered = cells_gathered (cell_bytes e ballots) cells l.at count before (taken l.out) l.page.items page whole l.invariant.written
    (cells_put (election_of c.args.ballots.now) e ballots (take count (drop l.at cells)) l.page.items c.next_cells-count.result.1.now page
    c.requires.sound.election c.put.ensures.put c.next_cells-count.ensures.bytes) in
    on_failure c.from_residual.result (TakesSome before whole after)
    (some_written before (taken l.out) after page (flat_map (cell_bytes e ballots) (drop (l.at + count) cells)) whole gathered
    (subst (λ (bytes : List ℕ). TakesSome (taken l.out) bytes after) c.deref.ensures.value c.in_err-write_out.ensures.some))

pub cells-preserved-then-len-gt-FULL : goal.cells-preserved-then-len-gt-FULL
cells-preserved-then-len-gt-FULL g c =
    let e = c.args.election.now in
    let ballots = ballots_so_far c.args.ballots.now in
    let cells = c.args.cells.now in
    let count = c.next_cells-count.result.0 in
    let l = c.cells in
    let taken = g.K.Sink.taken in
    let before = taken c.args.out.now in
    let after = taken c.write_out.new.out in
    let page = c.put.new.page.items in
    let whole = c.args.page.items ++ flat_map (cell_bytes e ballots) cells in
    let gathered = cells_gathered (cell_bytes e ballots) cells l.at count before (taken l.out) l.page.items page whole l.invariant.written
    (cells_put (election_of c.args.ballots.now) e ballots (take count (drop l.at cells)) l.page.items c.next_cells-count.result.1.now page
    c.requires.sound.election c.put.ensures.put c.next_cells-count.ensures.bytes) in
    record {
      within = c.next_cells-count.ensures.within;
      written = gathered_written before (taken l.out) after page c.clear.new.self.items (flat_map (cell_bytes e ballots) (drop (l.at + count) cells)) whole gathered
          (subst (λ (bytes : List ℕ). TakesAll (taken l.out) bytes after) c.deref.ensures.value c.in_ok-write_out.ensures.all)
          c.clear.ensures.items;
      steady = c.in_ok-write_out.ensures.fault.steady ∙ l.invariant.steady;
      short = omega (arith, c.clear.ensures.len);
      room = omega (arith, c.clear.ensures.capacity, c.put.ensures.capacity, l.invariant.room);
    }

pub cells-preserved : goal.cells-preserved
cells-preserved g c =
    let e = c.args.election.now in
    let ballots = ballots_so_far c.args.ballots.now in
    let cells = c.args.cells.now in
    let count = c.next_cells-count.result.0 in
    let l = c.cells in
    let taken = g.K.Sink.taken in
    let page = c.put.new.page.items in
    let whole = c.args.page.items ++ flat_map (cell_bytes e ballots) cells in
    record {
      within = c.next_cells-count.ensures.within;
      written = cells_gathered (cell_bytes e ballots) cells l.at count (taken c.args.out.now) (taken l.out) l.page.items page whole l.invariant.written
          (cells_put (election_of c.args.ballots.now) e ballots (take count (drop l.at cells)) l.page.items c.next_cells-count.result.1.now page
          c.requires.sound.election c.put.ensures.put c.next_cells-count.ensures.bytes);
      steady = l.invariant.steady;
      short = omega (arith, c.len.ensures, c.if-len-gt-FULL.false);
      room = omega (arith, c.put.ensures.capacity, l.invariant.room);
    }

pub returns-clause-some : goal.returns-clause-some
returns-clause-some g c =
    let e = c.args.election.now in
    let ballots = ballots_so_far c.args.ballots.now in
    let l = c.cells in
    let taken = g.K.Sink.taken in
    let after = taken c.write_out-2.new.out in
    let f = cell_bytes e ballots in
    on_err_weaker c.write_out-2.result
    (λ some. some_written (taken c.args.out.now) (taken l.out) after l.page.items (flat_map f (drop l.at c.args.cells.now))
    (c.args.page.items ++ flat_map f c.args.cells.now) l.invariant.written
    (subst (λ (bytes : List ℕ). TakesSome (taken l.out) bytes after) c.deref-2.ensures.value some))
    c.write_out-2.ensures.some
