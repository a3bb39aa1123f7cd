use Rattle.std.proofs.Common.{◌≡◌, ◌+◌, ◌<◌, ◌++◌, drop, get_or, length, map, [], arith, ap, sym, ◌∙◌}
use Rattle.store_spec.proofs.Common.{all_reply_lines, get_or-map, length-map, reply_lines, string_bytes}
use Rattle.reply_lines.proofs.Texts.{next_list, one_written}
use Rattle.reply_lines.proofs.lines.push_all_replies.Goals as goal

pub lists-preserved : goal.lists-preserved
lists-preserved g c =
    let word = g.R.Reply.word in
    let lists = c.args.lists.now in
    let words = map (λ list. map word list.items) lists in
    let at = c.lists.at in
    let within : at < length words = omega (arith, length-map lists (λ list. map word list.items)) in
    let here : at < length lists = omega arith in
    let list = c.index-lists-at.result in
    let is : get_or words at [] ≡ map word c.deref.result.now = get_or-map (λ list. map word list.items) lists at list [] here ∙ ap (λ l. map word l.items) (sym c.index-lists-at.is) ∙ ap (map word) (sym c.deref.ensures.value) in
    one_written (string_bytes c.lists.text) (reply_lines (at + 1) 1 (map word c.deref.result.now)) (string_bytes c.push_replies.new.text) _ _ _ c.lists.invariant
    (next_list words at within ∙ ap (λ ws. reply_lines (at + 1) 1 ws ++ all_reply_lines (at + 1 + 1) (drop (at + 1) words)) is)
    c.in_ok-push_replies.ensures
