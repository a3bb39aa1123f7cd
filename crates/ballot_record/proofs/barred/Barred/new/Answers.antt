use Rattle.std.proofs.Common.{◌≡◌, ℕ, ◌+◌, List, [], ◌∷◌, Some, None, ap, length, length-append, slice_get, sym, subst, ◌∙◌, arith}
use Rattle.std.proofs.lemmas.Option.{slice_get_past}
use Rattle.ballot_record.proofs.Barring.{rows_pushed}
use Rattle.ballot_record.specs.Barred.{IsBarredOn}
use Rattle.ballot_record.specs.Format.{largest_cell}
use Rattle.ballot_record.proofs.barred.Barred.new.Goals as goal

pub loop-place-init : goal.loop-place-init
loop-place-init c =
    let none = c.in_ok-rows.ensures.items in
    record {
      count = ap length none;
      each = λ k row is. absurd (let nothing : None ≡ Some row = sym (ap (λ rows. slice_get rows k) none ∙ slice_get_past [] k (omega arith)) ∙ is in cc);
    }

pub loop-place-preserved : goal.loop-place-preserved
loop-place-preserved c =
    let l = c.loop-place in
    let e = c.args.election.now in
    let row = c.row_of.result in
    let pushed = c.in_ok-push.ensures.items in
    let IsRow : ℕ → List ℕ → Type 0 = λ k row. (length row ≡ largest_cell) × IsBarredOn e (k + 1) row in
    let last : IsRow (length l.rows.items) row = subst (λ k. IsRow k row) (sym l.invariant.count) (c.row_of.ensures.long, c.row_of.ensures.barred) in
    record {
      count = omega (arith, ap length pushed, length-append l.rows.items (row ∷ []), l.invariant.count);
      each = λ k one is. rows_pushed IsRow l.rows.items row l.invariant.each last k one (ap (λ rows. slice_get rows k) (sym pushed) ∙ is);
    }
