use Rattle.std.proofs.Common.{◌^◌, ◌∙◌, ap, length, sym}
use Rattle.store_spec.proofs.Common.{length-map}
use Rattle.body_store.specs.Contents.{Contents}
use Rattle.part_tests.proofs.phases.withdraws.Goals as goal

pub play_withdrawing-requires-clause-parts : goal.play_withdrawing-requires-clause-parts
play_withdrawing-requires-clause-parts g c κs within = c.requires.two ∙ ap (λ n. 2 ^ n) (sym c.new-spread.ensures)

pub returns : goal.returns
returns g c =
    let election = λ (store : Contents). store.election in
    sym (length-map c.in_ok-after.after.items election) ∙ ap length c.in_ok-after.ensures.elections ∙ length-map c.args.stores.items election ∙ c.requires.two
