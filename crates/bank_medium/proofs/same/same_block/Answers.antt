use Rattle.std.proofs.Common.{get_or, ap, arith}
use Rattle.store_spec.proofs.Common.{ext_get_or}
use Rattle.bank_medium.proofs.same.same_block.Goals as goal

pub returns : goal.returns
returns c =
    let one = c.args.one.now in
    let two = c.args.two.now in (
      λ same. ext_get_or 0 one two c.requires (λ k less. c.loop-place.invariant.0 same k (omega (arith, less, c.loop-place))),
      λ same. c.loop-place.invariant.1 (λ k less. ap (λ bytes. get_or bytes k 0) same),
    )
