use Rattle.std.proofs.Common.{◌^◌, ◌∙◌, ap, length, sym}
use Rattle.part_tests.proofs.phases.finds.Goals as goal

pub play_finding-requires-clause-parts : goal.play_finding-requires-clause-parts
play_finding-requires-clause-parts g c κs within = ap length c.as_slice-held.ensures.value ∙ c.requires ∙ ap (λ n. 2 ^ n) (sym c.new-spread.ensures)
