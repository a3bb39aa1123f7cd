use Rattle.std.proofs.Common.{length, sym, ◌∙◌, arith}
use Rattle.store_spec.proofs.Common.{Decides-eqb, take-replicate}
use Rattle.std.proofs.lemmas.Slice.Eq.{slice_eq-Decides}
use Rattle.ballot_record.proofs.FormatReading.{zeros_from_all}
use Rattle.ballot_record.proofs.FormatAnswers.{each_zero}
use Rattle.ballot_record.proofs.format.are_zero.Goals as goal

pub returns : goal.returns
returns c =
    let bytes = c.args.bytes.now in
    let is = slice_eq-Decides Decides-eqb _ _ _ c.eq.ensures in
    let zeros = take-replicate (length bytes) 201 0 (omega (arith, c.requires)) in
    (λ same. each_zero bytes (length bytes) (is.0 same ∙ zeros), λ all. is.1 (zeros_from_all bytes all ∙ sym zeros))
