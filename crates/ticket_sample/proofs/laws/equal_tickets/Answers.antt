use Rattle.std.proofs.Common.{◌∙◌, ap, arith}
use Rattle.store_spec.proofs.Common.{nat_cmp, nat_tests}
use Rattle.std.proofs.lemmas.Cmp.{nat_list_cmp_total, tied_itself}
use Rattle.std.specs.Ordering.{is_lt, ordering_then}
use Rattle.ticket_sample.proofs.laws.equal_tickets.Goals as goal

pub returns : goal.returns
returns c ticket a b less = ap (λ o. is_lt (ordering_then o (nat_cmp a b))) (tied_itself nat_list_cmp_total ticket) ∙ grind (arith, nat_tests, less)
