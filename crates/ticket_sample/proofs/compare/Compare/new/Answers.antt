use Rattle.std.proofs.Common.{◌≡◌, ◌∙◌, false, ap, length, replicate, rules, sym, vec_len}
use Rattle.store_spec.proofs.Common.{length-map}
use Rattle.ballot_record.specs.Record.{ballot}
use Rattle.body_store.specs.Contents.{ballots_of}
use Rattle.ticket_sample.proofs.Flags.{none_set}
use Rattle.ticket_sample.proofs.compare.Compare.new.Goals as goal

pub returns-clause-rest : goal.returns-clause-rest
returns-clause-rest c =
    let records = c.args.sample.items in
    none_set (ballots_of records) c.in_ok-compared.compared.items (c.in_ok-compared.ensures.items_if_clones_equal (λ y is. is) ∙ ap (λ n. replicate n false) (c.len.ensures ∙ (let long : vec_len c.args.sample ≡ length records = search rules in long) ∙ sym (length-map records ballot)))
