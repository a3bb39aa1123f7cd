use Rattle.std.proofs.Common.{◌≡◌, [], ◌∷◌, map, String, Global, string_bytes, arith}
use Rattle.large_options.proofs.Given.{not_six, six, told}
use Rattle.large_options.proofs.options.are_options.Goals as goal

pub returns-in-len6 : goal.returns-in-len6
returns-in-len6 c =
    let is : map (λ (s : String Global). string_bytes s) c.args.words.now
    ≡ c.deref.result.now ∷ c.deref-in-len6.result.now ∷ c.deref-in-len6-2.result.now ∷ c.deref-in-len6-3.result.now ∷ c.deref-in-len6-4.result.now ∷ c.deref-in-len6-5.result.now ∷ [] =
    rw (c.deref.ensures, c.deref-in-len6.ensures, c.deref-in-len6-2.ensures, c.deref-in-len6-3.ensures, c.deref-in-len6-4.ensures, c.deref-in-len6-5.ensures)
    (six (λ (s : String Global). string_bytes s) c.args.words.now c.first-item.result c.first_value-item.result c.second-item.result c.second_value-item.result c.third-item.result c.third_value-item.result
    c.in-len6.len_at_least c.in-len6.len_below c.first-item.is c.first_value-item.is c.second-item.is c.second_value-item.is c.third-item.is c.third_value-item.is) in
    told _ _ _ _ _ _ _ c.of.result c.of-in-len6.result c.of-in-len6-2.result c.all_differ.result is c.of.ensures c.of-in-len6.ensures c.of-in-len6-2.ensures c.all_differ.ensures

pub returns-in_default : goal.returns-in_default
returns-in_default c = not_six (λ (s : String Global). string_bytes s) c.args.words.now (λ same. omega (arith, c.in_default.len_below))

pub returns-in_default-2 : goal.returns-in_default-2
returns-in_default-2 c = not_six (λ (s : String Global). string_bytes s) c.args.words.now (λ same. omega (arith, c.in_default.len_at_least))
