use Rattle.std.proofs.Common.{◌∙◌, ap, sym, arith}
use Rattle.store_spec.proofs.Common.{nat_cmp}
use Rattle.std.specs.BTreeMap.{is_at}
use Rattle.std.specs.Map.{lookup}
use Rattle.script_commands.proofs.Slots.{all_free}
use Rattle.script_commands.proofs.build.index.Index.new.Goals as goal

pub returns : goal.returns
returns c =
    let free = all_free c.in_ok-vec.field-0.items c.in_ok-vec.ensures.items in
    record {
      slots = omega (arith, c.in_ok-vec.field-0.ok.0, c.in_ok-vec.ensures.len);
      places = λ at. omega (arith, free at);
      noted = λ k number is. absurd cc;
      others = λ number k is. let none = sym (ap (lookup (is_at (nat_cmp number))) c.new.ensures.empty) ∙ is in absurd cc;
    }
