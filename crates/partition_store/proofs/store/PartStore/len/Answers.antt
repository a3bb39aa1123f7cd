use Rattle.std.proofs.Common.{length, refl, ap, ◌∙◌, arith}
use Rattle.store_spec.proofs.Common.{take_all}
use Rattle.partition_store.proofs.Keeping.{counted_on, few_more, kept_few}
use Rattle.partition_store.proofs.store.PartStore.len.Goals as goal
use Rattle.partition_store.specs.Parted.{Parted, joined}
use Rattle.partition_store.specs.PartedKept.{sets_of}

pub loop-part-init : goal.loop-part-init
loop-part-init c = record { count = refl; few = omega arith }

pub overflow_add-count : goal.overflow_add-count
overflow_add-count c =
    let more = few_more c.part-item.result c.len-count.ensures.stored in
    let few = kept_few c.self.inside c.self.invariant in
    let same = ap length c.deref-part-items.ensures.value in
    omega (arith, more, few, same, c.loop-part.invariant.few, c.loop-part-test.true, c.len-count.ensures.count)

pub loop-part-preserved : goal.loop-part-preserved
loop-part-preserved c =
    let more = few_more c.part-item.result c.len-count.ensures.stored in
    record {
      count = omega (arith, c.loop-part.invariant.count, c.len-count.ensures.count, counted_on c.deref-part-items.result.now c.loop-part.part-index c.part-item.result c.loop-part-test.true c.part-item.is);
      few = omega (arith, more, c.loop-part.invariant.few, c.len-count.ensures.count);
    }

pub returns-clause-count : goal.returns-clause-count
returns-clause-count c =
    c.loop-part.invariant.count
    ∙ ap (λ stores. length (joined (sets_of stores))) (take_all c.loop-part.part-index c.deref-part-items.result.now c.loop-part-test.false ∙ c.deref-part-items.ensures.value)
    ∙ ap (λ (p : Parted). length (joined p.sets)) c.self.view_is

pub returns-clause-few : goal.returns-clause-few
returns-clause-few c =
    let few = kept_few c.self.inside c.self.invariant in
    let same = ap length c.deref-part-items.ensures.value in
    omega (arith, few, same, c.loop-part.invariant.few, c.loop-part.auto.part-index-end)
