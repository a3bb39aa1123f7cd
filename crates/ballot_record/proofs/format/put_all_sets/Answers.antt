use Rattle.std.proofs.Common.{◌≡◌, ◌*◌, ◌+◌, ◌≤◌, arith, length, sym, ap, ◌∙◌, refl, take}
use Rattle.store_spec.proofs.Common.{bytes_high_first, flat_map, mul-le-mul_left, mul-suc, take_all}
use Rattle.byteorder.proofs.Slices.{write_step}
use Rattle.byteorder.specs.Numbers.{length-bytes_high_first}
use Rattle.ballot_record.proofs.format.put_all_sets.Goals as goal

pub sets-init : goal.sets-init
sets-init c = ap (λ k. take k c.args.out.now) (let none : c.args.width * 0 ≡ 0 = omega arith in none)

pub sets-preserved : goal.sets-preserved
sets-preserved c =
    let width = c.args.width in
    let place = c.sets.place in
    let onward : width * (place + 1) ≡ width * place + width = omega (arith, mul-suc width place) in
    let whole : width * place ≤ width * length c.args.sets.now = mul-le-mul_left width (omega arith) in
    let long = c.sets.auto.out in
    rw (onward, c.put_set.ensures)
    (write_step (bytes_high_first width) width c.args.sets.now 0 c.sets.out _ _ _ place (omega (arith, whole, long, c.requires.room)) (omega arith) (length-bytes_high_first width _) refl c.sets.invariant)

pub returns : goal.returns
returns c =
    let long = c.sets.auto.out in
    let done : c.sets.place ≡ length c.args.sets.now = omega arith in
    let bytes : length c.sets.out ≤ c.args.width * c.sets.place = rw done (omega (arith, long, c.requires.room)) in
    sym (take_all (c.args.width * c.sets.place) c.sets.out bytes)
    ∙ c.sets.invariant
    ∙ ap (flat_map (bytes_high_first c.args.width)) (take_all c.sets.place c.args.sets.now (omega (arith, done)))
