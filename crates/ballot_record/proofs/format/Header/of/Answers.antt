use Rattle.std.proofs.Common.{◌≡◌, ◌%◌, length, refl, arith}
use Rattle.store_spec.specs.Image.{header_of}
use Rattle.std.proofs.Math.Nat.{mod-eq_of_lt}
use Rattle.ballot_record.proofs.Versions.{contests_fit}
use Rattle.ballot_record.proofs.format.Header.of.Goals as goal

pub returns-clause-bytes : goal.returns-clause-bytes
unfolding header_of
returns-clause-bytes c =
    let e = c.args.election.now in
    let bits : e.bits % 256 ≡ e.bits = mod-eq_of_lt (omega (arith, c.bits.ensures.valid.few_bits)) in
    let contests : length e.contests % 256 ≡ length e.contests = mod-eq_of_lt (omega (arith, contests_fit e c.bits.ensures.valid)) in
    rw (bits, contests) (rw (c.write_u64.ensures, c.write_u32.ensures, c.write_u16.ensures, c.copy_from_slice.ensures.after, c.version.ensures.version, c.bits.ensures.bits, c.contests.ensures.count, c.limit.ensures.limit, c.salt.ensures) refl)
