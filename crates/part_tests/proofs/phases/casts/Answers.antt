use Rattle.std.proofs.Common.{◌≡◌, ◌^◌, ◌∙◌, [], ◌∷◌, All, ap, get_or, length, subst, sym}
use Rattle.store_spec.proofs.Common.{All-cons, All-nil, length-map}
use Rattle.body_store.specs.Contents.{Contents}
use Rattle.part_tests.proofs.phases.casts.Goals as goal

pub play_casting-requires-clause-parts : goal.play_casting-requires-clause-parts
play_casting-requires-clause-parts g c κs within = ap length c.in_ok-stores.ensures ∙ ap (λ n. 2 ^ n) (sym c.new-spread.ensures)

pub play_casting-requires-clause-some_list : goal.play_casting-requires-clause-some_list
play_casting-requires-clause-some_list g c κs within = c.requires.some

pub play_casting-requires-clause-few_lists : goal.play_casting-requires-clause-few_lists
play_casting-requires-clause-few_lists g c κs within = c.requires.few

pub play_casting-requires-clause-elections : goal.play_casting-requires-clause-elections
play_casting-requires-clause-elections g c κs within k d below =
    let first = c.in_ok-first.first in
    let second = c.in_ok-second.second in
    let own = c.requires.lists k d below in
    let Own : Contents → Type 0 = λ store. (get_or c.args.work.items k d).election ≡ store.election in
    subst (All Own) (sym c.in_ok-stores.ensures)
    (All-cons Own first (second ∷ []) (own ∙ sym (ap (λ (s : Contents). s.election) c.in_ok-first.ensures))
    (All-cons Own second [] (own ∙ sym (ap (λ (s : Contents). s.election) c.in_ok-second.ensures)) (All-nil Own)))

pub returns : goal.returns
returns g c =
    let election = λ (store : Contents). store.election in
    sym (length-map c.in_ok-after.after.items election) ∙ ap length c.in_ok-after.ensures.elections ∙ length-map c.in_ok-stores.stores.items election ∙ ap length c.in_ok-stores.ensures
