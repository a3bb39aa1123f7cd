use Rattle.std.proofs.Common.{◌≡◌, ◌^◌, false, ltb, refl, arith}
use Rattle.store_spec.proofs.Common.{common_steps, count_ones}
use Rattle.tally_export.proofs.OneMark.{no_overvote, ones_of_one}
use Rattle.tally_export.proofs.counts.Tally.count_mark.Goals as goal

pub returns : goal.returns
returns c =
    let few : ltb c.args.allowed (count_ones (2 ^ c.args.choice)) ≡ false = no_overvote c.args.allowed c.args.choice c.requires.some in
    let one = ones_of_one c.args.choice in
    record {
      choices = λ k within. rw few (grind (arith, common_steps, c.add_choice.ensures k));
      under = rw one (grind (arith, common_steps));
      over = rw few (omega arith);
      other_choices = λ k other. grind (arith, common_steps);
      other_under = λ k other. grind (arith, common_steps);
      other_over = λ k other. refl;
    }
