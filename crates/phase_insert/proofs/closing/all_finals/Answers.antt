use Rattle.std.proofs.Common.{◌≡◌, ◌≢◌, ◌<◌, Vec, Global, List, [], ◌∷◌, ◌++◌, get_or, length, map, take, sym, ap, ◌∙◌, subst, subst₂, arith, vec_capacity}
use Rattle.std.proofs.lemmas.List.{get_or-map, get_or-set_other, length-map, map_push, take_all, take_more, take_more_set}
use Rattle.phase_insert.proofs.Rows.{all_finals_more}
use Rattle.phase_insert.proofs.closing.all_finals.Goals as goal
use Rattle.phase_insert.specs.Ends.{AreAllFinals}
use Rattle.phase_insert.specs.Tray.{CastTray, IsTrayPaired, casts_of}
use Rattle.phase_insert.specs.declared.reply.Final.{Final}

-- as many lists as trays
as_many : (lists : List (Vec Final Global)) (trays : List CastTray)
    → map (λ list. vec_capacity list) lists ≡ map (λ tray. length tray.replies.items) trays → length lists ≡ length trays
as_many lists trays room =
    sym (length-map lists (λ (list : Vec Final Global). vec_capacity list)) ∙ ap length room
    ∙ length-map trays (λ (tray : CastTray). length tray.replies.items)

pub tray_finals-requires-clause-election : goal.tray_finals-requires-clause-election
tray_finals-requires-clause-election c =
    let tray = c.index-trays-place.result in
    ap (λ (tray : CastTray). tray.items.election) c.index-trays-place.is ∙ c.requires.elections c.loop-place.place tray c.loop-place-test.true

pub tray_finals-requires-clause-paired : goal.tray_finals-requires-clause-paired
tray_finals-requires-clause-paired c = subst IsTrayPaired (sym c.index-trays-place.is) (c.requires.paired c.loop-place.place c.index-trays-place.result c.loop-place-test.true)

pub tray_finals-requires-clause-room : goal.tray_finals-requires-clause-room
tray_finals-requires-clause-room c =
    let i = c.loop-place.place in
    let trays = c.args.trays.now in
    let first = c.args.lists.now in
    let tray = c.index-trays-place.result in
    let list = c.index-lists-place.result in
    let within : i < length first = let size = as_many first trays c.requires.room in omega arith in
    let capacity : vec_capacity (get_or c.loop-place.lists i list) ≡ length (get_or trays i tray).replies.items =
    ap (λ (list : Vec Final Global). vec_capacity list) (c.loop-place.invariant.rest i list (omega arith))
    ∙ sym (get_or-map (λ (list : Vec Final Global). vec_capacity list) first i list 0 within)
    ∙ ap (λ ns. get_or ns i 0) c.requires.room
    ∙ get_or-map (λ (tray : CastTray). length tray.replies.items) trays i tray 0 c.loop-place-test.true in
    let size : length tray.replies.items ≡ length (get_or trays i tray).replies.items = ap (λ (tray : CastTray). length tray.replies.items) c.index-trays-place.is in
    omega arith

pub loop-place-preserved : goal.loop-place-preserved
loop-place-preserved c =
    let i = c.loop-place.place in
    let trays = c.args.trays.now in
    let lists = c.loop-place.lists in
    let tray = c.index-trays-place.result in
    let list = c.tray_finals.new.finals in
    let after = c.args.after.now.ballots in
    let within : i < length lists = let size = as_many c.args.lists.now trays c.requires.room in omega arith in
    record {
      told = all_finals_more after (map casts_of (take i trays)) _
          (map (λ list. list.items) (take i lists)) _ (casts_of tray) list.items
          (ap (map casts_of)
          (take_more trays i tray c.loop-place-test.true ∙ ap (λ t. take i trays ++ t ∷ []) (sym c.index-trays-place.is))
          ∙ map_push casts_of (take i trays) tray)
          (ap (map (λ list. list.items)) (take_more_set lists i list within)
          ∙ map_push (λ list. list.items) (take i lists) list)
          c.loop-place.invariant.told
          c.tray_finals.ensures;
      rest = λ k d le.
          let other : k ≢ i = omega arith in
          get_or-set_other lists i k list d other ∙ c.loop-place.invariant.rest k d (omega arith);
    }

pub returns : goal.returns
returns c =
    let i = c.loop-place.place in
    let trays = c.args.trays.now in
    let lists = c.loop-place.lists in
    let size = as_many c.args.lists.now trays c.requires.room in
    subst₂ (λ ts ls. AreAllFinals c.args.after.now.ballots (map casts_of ts) (map (λ list. list.items) ls))
    (take_all i trays (omega arith)) (take_all i lists (omega arith)) c.loop-place.invariant.told
