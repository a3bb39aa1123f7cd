use Rattle.std.proofs.Common.{◌≡◌, ◌++◌, length, map, take, subst, ap, ◌∙◌, arith}
use Rattle.store_spec.proofs.Common.{OnOk, choices_in, decimal, number_at}
use Rattle.ballot_record.proofs.CellFormat.{number_fits, number_of_bytes}
use Rattle.ballot_record.proofs.LinePrints.{parts_put}
use Rattle.ballot_record.proofs.LineWhole.{groups_text}
use Rattle.ballot_record.proofs.print.put_parts.Goals as goal

pub number_of-requires : goal.number_of-requires
number_of-requires c = omega (arith, number_fits c.args.election.now, c.requires.long)

pub returns-clause-text : goal.returns-clause-text
returns-clause-text c b is =
    let e = c.args.election.now in
    let groups = groups_text (map (choices_in e) (take (length e.contests) b.marks)) in
    let number : c.number_of.result ≡ b.number = c.number_of.ensures ∙ ap number_at is.1 ∙ number_of_bytes e b is.0.short_number in
    let style : c.from.result ≡ b.style = c.from.ensures ∙ c.style_of.ensures b is in
    let put = parts_put (decimal b.number) (decimal b.style) groups c.args.out.now.items
    c.put_number.new.out.items c.push.new.self.items c.put_number-2.new.out.items c.push-2.new.self.items
    (c.in_ok-put_number.ensures.text ∙ ap (λ n. c.args.out.now.items ++ decimal n) number) c.in_ok-push.ensures.items
    (c.in_ok-put_number-2.ensures.text ∙ ap (λ n. c.push.new.self.items ++ decimal n) style)
    c.in_ok-push-2.ensures.items in
    subst (λ text. OnOk c.put_groups.result (c.put_groups.new.out.items ≡ text)) put (c.put_groups.ensures.text b is)
