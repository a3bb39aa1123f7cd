use Rattle.std.proofs.Common.{◌≡◌, ℕ, ◌+◌, ◌*◌, ◌<◌, List, length, drop, inl, inr, sym, ap, ◌∙◌}
use Rattle.store_spec.proofs.Common.{Ballot, Election, IsCellOf, IsElection, set_width, slice_index}
use Rattle.byteorder.specs.Endian.{big_number}
use Rattle.ballot_record.specs.Format.{IsSetWidth}
use Rattle.ballot_record.proofs.FormatReading.{marks_read}
use Rattle.ballot_record.proofs.format.set_of.Goals as goal

-- what stands behind the sets before it, read in the bytes of a set
read_in : (e : Election) (width : ℕ) (bytes onward : List ℕ) (place : ℕ) (b : Ballot) → IsElection e → width ≡ set_width e
    → place < length e.contests → onward ≡ drop (9 + width * place) bytes → IsCellOf e bytes b
    → big_number width onward ≡ slice_index b.marks place
read_in e width bytes onward place b election is within behind cell =
    ap (big_number width) behind
    ∙ ap (λ width. big_number width (drop (9 + width * place) bytes)) is
    ∙ marks_read e bytes b place election cell within

four : (width : ℕ) → IsSetWidth width → (width ≡ 8 → ⊥) → 4 ≡ width
four width (inl is) not = sym is
four width (inr is) not = absurd (not is)

pub returns-then-set_bytes-eq-MAX_SET_BYTES : goal.returns-then-set_bytes-eq-MAX_SET_BYTES
returns-then-set_bytes-eq-MAX_SET_BYTES c b cell =
    c.read_u64.ensures
    ∙ read_in c.args.election.now 8 c.args.bytes.now c.split_at.result.1.now c.args.place b c.requires.valid
    (sym c.if-set_bytes-eq-MAX_SET_BYTES.true ∙ c.set_bytes.ensures.width) c.requires.within c.split_at.ensures.back cell

pub returns-else-set_bytes-eq-MAX_SET_BYTES : goal.returns-else-set_bytes-eq-MAX_SET_BYTES
returns-else-set_bytes-eq-MAX_SET_BYTES c b cell =
    let at = c.split_at-else-set_bytes-eq-MAX_SET_BYTES in
    c.from.ensures ∙ c.read_u32.ensures
    ∙ read_in c.args.election.now 4 c.args.bytes.now at.result.1.now c.args.place b c.requires.valid
    (four c.set_bytes.result c.set_bytes.ensures.known c.if-set_bytes-eq-MAX_SET_BYTES.false ∙ c.set_bytes.ensures.width) c.requires.within at.ensures.back cell
