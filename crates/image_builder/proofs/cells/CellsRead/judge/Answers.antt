use Rattle.std.proofs.Common.{◌≡◌, ◌==◌, ℕ, ◌<◌, ◌≤◌, ⊎_elim, true, List, [], ◌++◌, Result, Ok, Err, OnOk, length, take, sym, ap, subst, subst₂, ◌∙◌, arith, length-append}
use Rattle.store_spec.proofs.Common.{Election, IfErr-weaker, IsElection, cases_lt, eq-eqb, err_from_is_err_and, false≢true, header_of, header_size}
use Rattle.std.specs.Vec.{vec_len}
use Rattle.ballot_record.proofs.CellFormat.{header_width}
use Rattle.image_builder.proofs.Judged.{first_more, first_none, judged_front, refused_header, refused_on}
use Rattle.image_builder.proofs.cells.CellsRead.judge.Goals as goal
use Rattle.image_builder.proofs.cells.CellsRead.judge.Goals.{then-is_empty+in_ok-check_header, else-is_empty}
use Rattle.image_builder.specs.Cells.{AreFirst, AreJudged, IsRead, numbers_read}
use Rattle.image_builder.specs.declared.cells.CellsRead.{CellsRead}

pub returns-then-bank-lt-HEADER_BYTES-clause-judged : goal.returns-then-bank-lt-HEADER_BYTES-clause-judged
returns-then-bank-lt-HEADER_BYTES-clause-judged c =
    let given = c.requires.judged in
    let less = c.if-bank-lt-HEADER_BYTES.true in
    record {
      waits = λ _. given.2.waits (omega (arith, header_width, less, ap length given.3, length-append given.0 given.1));
      first = λ whole. absurd (omega (arith, header_width, less, whole));
      short = λ whole. absurd (omega (arith, header_width, less, whole));
      wide = given.2.wide;
    }

pub returns-in_err-check_header-clause-refused : goal.returns-in_err-check_header-clause-refused
returns-in_err-check_header-clause-refused c fed more judged is =
    let said = c.in_err-check_header.ensures in
    let p = err_from_is_err_and c.from_residual.result c.from_residual.ensures.1 in
    rw (p.1, p.2, said.told) (refused_header c.args.election.now c.args.self.now fed more c.args.bank.now judged is (omega (arith, header_width, c.if-bank-lt-HEADER_BYTES.false)) said.other)

-- the cells so far are first in the bank, whose header was tested where there were none
first_here : (e : Election) (cells : CellsRead) (fed more bank : List ℕ) → IsElection e → AreJudged e cells fed → bank ≡ fed ++ more → header_size ≤ length bank → (numbers_read cells ≡ [] → take header_size bank ≡ header_of e) → IsRead e cells bank
first_here e cells fed more bank election judged is whole tested = ⊎_elim
    (λ (less : length fed < header_size).
    let none = judged.waits less in
    subst₂ (λ (ns rs : List ℕ). AreFirst e ns rs bank) (sym none.0) (sym none.1) (first_none e bank election whole (tested none.0)))
    (λ (most : header_size ≤ length fed). subst (λ (bank : List ℕ). IsRead e cells bank) (sym is) (first_more e (numbers_read cells) cells.reaches.items fed more election (judged.first most)))
    (cases_lt (length fed) header_size)

no_numbers : (cells : CellsRead) → numbers_read cells ≡ [] → vec_len cells.numbers == 0 ≡ true
no_numbers cells none = eq-eqb (vec_len cells.numbers) 0 (omega (arith, ap length none))

pub read_whole_cells-requires-clause-read : goal.read_whole_cells-requires-clause-read
read_whole_cells-requires-clause-read c =
    let given = c.requires.judged in
    first_here c.args.election.now c.args.self.now given.0 given.1 c.args.bank.now c.requires.election given.2 given.3 (omega (arith, header_width, c.if-bank-lt-HEADER_BYTES.false))
    (λ none. elim c.if-is_empty.branch [
      | then-is_empty+in_ok-check_header w ↦ w.in_ok-check_header.ensures.own
      | else-is_empty w ↦ absurd (false≢true (sym w.if-is_empty.false ∙ c.is_empty.ensures ∙ no_numbers c.args.self.now none))
    ])

on_ok_both : {T E P Q R : Type 0} (r : Result T E) → OnOk r P → OnOk r Q → (P → Q → R) → OnOk r R
on_ok_both (Ok x) p q f = f p q
on_ok_both (Err e) p q f = tt

pub returns-clause-front : goal.returns-clause-front
returns-clause-front c =
    let now = c.read_whole_cells.new.cells in
    on_ok_both c.read_whole_cells.result c.read_whole_cells.ensures.read c.read_whole_cells.ensures.short
    (λ first short. judged_front c.args.election.now (numbers_read now) now.reaches.items c.args.bank.now c.requires.election first short c.requires.within)

pub returns-clause-refused : goal.returns-clause-refused
returns-clause-refused c fed more judged is =
    let cells = c.args.self.now in
    let first = first_here c.args.election.now cells fed more c.args.bank.now c.requires.election judged is (omega (arith, header_width, c.if-bank-lt-HEADER_BYTES.false))
    (λ none. elim c.if-is_empty.branch [
      | then-is_empty+in_ok-check_header w ↦ w.in_ok-check_header.ensures.own
      | else-is_empty w ↦ absurd (false≢true (sym w.if-is_empty.false ∙ c.is_empty.ensures ∙ no_numbers cells none))
    ]) in
    IfErr-weaker c.read_whole_cells.result _ _
    (λ fault refused. refused_on c.args.election.now (numbers_read cells) cells.reaches.items fed more c.args.bank.now fault first judged.short is refused)
    c.read_whole_cells.ensures.refused
