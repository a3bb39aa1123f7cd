use Rattle.std.proofs.Common.{◌∙◌, ap, length, not, sym}
use Rattle.store_spec.proofs.Common.{count_by, length-map}
use Rattle.ballot_record.specs.Record.{ballot}
use Rattle.body_store.specs.Contents.{ballots_of}
use Rattle.ticket_sample.proofs.Flags.{count_unset}
use Rattle.ticket_sample.proofs.compare.Compare.missing.Goals as goal

pub returns : goal.returns
returns c =
    let a = c.self.inside in
    c.count_unset.ensures
    ∙ ap (λ flags. count_by (λ flag. not flag) flags) c.deref.ensures.value
    ∙ sym (count_unset (ballots_of a.sample.items) a.compared.items (c.self.invariant.flags ∙ sym (length-map a.sample.items ballot)))
    ∙ ap (λ now. length now.rest) c.self.view_is
