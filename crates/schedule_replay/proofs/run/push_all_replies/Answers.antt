use Rattle.std.proofs.Common.{◌≡◌, ◌+◌, ◌-◌, ◌<◌, get_or, length, [], ap, arith, ◌∙◌}
use Rattle.store_spec.proofs.Common.{reply_lines, slice_get, string_bytes}
use Rattle.reply_lines.proofs.Texts.{next_list, one_written, stands}
use Rattle.schedule_replay.proofs.run.push_all_replies.Goals as goal

pub tabs-preserved : goal.tabs-preserved
tabs-preserved g c =
    let m = g.C.Machine in
    let lists = m.words c.args.core.now in
    let tab = c.tabs.tab in
    let within : tab < length lists = omega (arith, g.met.C.Machine.counted c.args.core.now) in
    let back : tab + 1 - 1 ≡ tab = omega arith in
    one_written (string_bytes c.tabs.text) (reply_lines (tab + 1) 1 (get_or lists tab [])) (string_bytes c.push_replies.new.text) _ _ _ c.tabs.invariant (next_list lists tab within)
    (c.in_ok-push_replies.ensures (get_or lists tab []) (ap (slice_get lists) back ∙ stands lists tab within))
