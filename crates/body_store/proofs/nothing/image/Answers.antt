use Rattle.std.proofs.Common.{◌≡◌, [], ◌++◌, ◌-◌, ◌*◌, List, ℕ, length, replicate, refl, sym, ap, ap₂, ◌∙◌, arith}
use Rattle.store_spec.proofs.Common.{cell_bytes, cell_count, cell_size, header_of}
use Rattle.ballot_record.proofs.CellFormat.{length-header_of}
use Rattle.body_store.proofs.Images.{pieces_of_one}
use Rattle.body_store.proofs.nothing.image.Goals as goal

pub lengthen-requires : goal.lengthen-requires
lengthen-requires c =
    let e = c.args.election.now in
    let front = c.extend_from_slice.new.self.items in
    let header : front ≡ header_of e = c.in_ok-extend_from_slice.ensures.items ∙ ap (λ (xs : List ℕ). xs ++ c.of-header.result.bytes) c.in_ok-bank.ensures.items ∙ c.of-header.ensures.bytes in
    omega (arith, ap length header, length-header_of e, c.bank_bytes-size.ensures.size)

pub returns-clause-image : goal.returns-clause-image
returns-clause-image c =
    let e = c.args.election.now in
    let front = c.extend_from_slice.new.self.items in
    let size = c.bank_bytes-size.result in
    let header : front ≡ header_of e = c.in_ok-extend_from_slice.ensures.items ∙ ap (λ (xs : List ℕ). xs ++ c.of-header.result.bytes) c.in_ok-bank.ensures.items ∙ c.of-header.ensures.bytes in
    let rest : size - length front ≡ cell_count e * cell_size e = omega (arith, ap length header, length-header_of e, c.bank_bytes-size.ensures.size) in
    c.in_ok-lengthen.ensures
    ∙ ap₂ (λ (xs : List ℕ) n. xs ++ replicate n 0) header rest
    ∙ ap (λ (bytes : List ℕ). header_of e ++ bytes) (sym (pieces_of_one (cell_bytes e []) (cell_size e) 0 (cell_count e) refl))
