use Rattle.std.proofs.Common.{◌<◌, ◌≤◌, ⊎_elim, length, sym, ◌∙◌, arith, rules}
use Rattle.store_spec.proofs.Common.{IsNonDecreasingBy, cases_lt, get_or_default, nat_cmp, numbers_of, ordering_index}
use Rattle.std.proofs.lemmas.List.Sorted.{answers_always}
use Rattle.body_store.proofs.Lookups.{cmp_equal, cmp_less, cmp_greater, cmp_rises}
use Rattle.body_store.specs.Contents.{ballots_of}
use Rattle.ticket_sample.proofs.Searching.{as_many, no_record, number_there, rising}
use Rattle.ticket_sample.proofs.compare.place_of.Goals as goal

pub returns-in-Ok : goal.returns-in-Ok
returns-in-Ok c =
    let equal = c.in-Ok.ensures.position (λ one. one.number) (answers_always _ _ _ (λ f a r g h. search rules)) in
    (c.in-Ok.ensures.bound, number_there c.args.sample.now c.in-Ok.place c.in-Ok.ensures.bound ∙ cmp_equal _ _ (equal no_record))

pub returns-in-Err : goal.returns-in-Err
returns-in-Err c there =
    let apart = c.in-Err.ensures.position (λ one. one.number) (answers_always _ _ _ (λ f a r g h. search rules)) in
    let sample = c.args.sample.now in
    let up = rising sample c.requires in
    let rises : IsNonDecreasingBy (λ one. ordering_index (nat_cmp one.number c.args.number)) sample = λ i j d le within.
    cmp_rises _ _ c.args.number (up i j d le within) in
    let parts = apart rises in
    let within : there.0 < length sample = omega (arith, there.1, as_many sample) in
    let found = sym (number_there sample there.0 within) ∙ get_or_default (numbers_of (ballots_of sample)) there.0 0 c.args.number there.1 ∙ there.2 in
    ⊎_elim (λ (before : there.0 < c.in-Err.field-0). cmp_less _ _ (parts.0 there.0 no_record (omega arith) before) found)
    (λ (after : c.in-Err.field-0 ≤ there.0). cmp_greater _ _ (parts.1 there.0 no_record after within) found)
    (cases_lt there.0 c.in-Err.field-0)
