use Rattle.std.proofs.Common.{◌^◌, ◌<◌, All, List, get_or, subst, sym, take}
use Rattle.store_spec.proofs.Common.{All-nil, All-push, take_all, take_more}
use Rattle.part_play.proofs.spread.all_go_within.Goals as goal
use Rattle.partition_store.proofs.Shares.{each_in_part}

pub loop-list-init : goal.loop-list-init
loop-list-init g c = All-nil (λ (list : g.row.K-List.Denot). All (λ x. g.K.Kind.number x < 2 ^ 64) (g.K.Kind.items list))

pub loop-list-preserved : goal.loop-list-preserved
loop-list-preserved g c =
    let Short : g.row.K-List.Denot → Type 0 = λ list. All (λ x. g.K.Kind.number x < 2 ^ 64) (g.K.Kind.items list) in
    let work = c.args.work.now in
    let index = c.loop-list.list-index in
    let list = c.list-item.result in
    subst (All Short) (sym (take_more work index list c.loop-list-test.true))
    (All-push Short (take index work) (get_or work index list) c.loop-list.invariant (subst Short c.list-item.is c.short_numbers.ensures))

pub returns : goal.returns
returns g c =
    let work = c.args.work.now in
    let short = subst (λ (l : List g.row.K-List.Denot). All (λ list. All (λ x. g.K.Kind.number x < 2 ^ 64) (g.K.Kind.items list)) l) (take_all c.loop-list.list-index work c.loop-list-test.false) c.loop-list.invariant in
    λ k d below i e within. each_in_part c.args.spread.now (g.K.Kind.number (get_or (g.K.Kind.items (get_or work k d)) i e)) (record { some = c.bits.ensures.some; few = c.bits.ensures.few }) (short k d below i e within)
