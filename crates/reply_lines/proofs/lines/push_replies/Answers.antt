use Rattle.std.proofs.Common.{◌≡◌, ◌+◌, ◌<◌, get_or, length, map, take, arith, sym, ap, refl, ◌∙◌}
use Rattle.store_spec.proofs.Common.{get_or-map, length-map, reply_line, string_bytes}
use Rattle.std.proofs.lemmas.Str.{IsUtf8-nil}
use Rattle.reply_lines.proofs.Texts.{next_reply, one_gathered}
use Rattle.reply_lines.proofs.lines.push_replies.Goals as goal

pub replies-init : goal.replies-init
replies-init g c = (omega arith, IsUtf8-nil, refl)

pub replies-preserved : goal.replies-preserved
replies-preserved g c =
    let word = g.R.Reply.word in
    let replies = c.args.replies.now in
    let words = map word replies in
    let at = c.replies.at in
    let within : at < length words = omega (arith, length-map replies word) in
    let here : at < length replies = omega arith in
    let reply = c.index-replies-at.result in
    let is : get_or words at c.word.result.now ≡ c.word.result.now =
    get_or-map word replies at reply c.word.result.now here ∙ ap word (sym c.index-replies-at.is)
    ∙ sym c.word.ensures.word in (
      c.put_reply-filled.ensures.within,
      c.put_reply-filled.ensures.utf8,
      one_gathered (string_bytes c.replies.text) (take c.replies.filled c.replies.block)
          (string_bytes c.make_room.new.text) (take c.in_ok-free.free c.replies.block)
          (reply_line c.args.list (at + 1) c.word.result.now) (take c.put_reply-filled.result c.put_reply-filled.new.block) _ _ _
          c.replies.invariant.2 c.in_ok-free.ensures.text c.put_reply-filled.ensures.text
          (next_reply c.args.list words at c.word.result.now within is),
    )
