use Rattle.std.proofs.Common.{◌≡◌, ◌<◌, [], ◌∷◌, ◌++◌, List, Some, ap, arith, drop, length, length-append, slice_get, subst, sym, ◌∙◌}
use Rattle.store_spec.proofs.Common.{slice_get_within}
use Rattle.phase_kind.proofs.Trays.{first_there, first_told, first_waits, still_tells, told_of}
use Rattle.phase_kind.proofs.worker.Worker.answer_next.Goals as goal
use Rattle.phase_kind.specs.AnsweredItem.{answered_items}
use Rattle.phase_kind.specs.Worker.{WorkerView}
use Rattle.word_rule.specs.Seats.{SharedWords}

pub invariant_of-self : goal.invariant_of-self
invariant_of-self g c =
    let W = WorkerView g.row.K-Sight.Denot g.row.K-Item.Denot g.row.K-Reply.Denot in
    let k = g.K.Kind in
    let a = c.self.inside in
    let kept = c.self.invariant in
    let phase = c.args.phase.now in
    let old = (k.standing a.seat).view in
    let now = (k.standing c.reply-reply.new.seat).view in
    let items = k.items a.tray.items in
    let replies = a.tray.replies.items in
    let next = first_there items replies (subst (λ (w : W). 0 < length w.waiting) (sym c.self.view_is) c.requires.waits) in
    let reply = c.reply-reply.result in
    let at : slice_get items c.len-next.result ≡ Some next.0 = ap (slice_get items) (omega (arith, c.len-next.ensures, a.tray.replies.ok.0)) ∙ next.1 in
    let was = ap (λ (w : W). w.phase) c.self.view_is ∙ c.requires.belongs in
    let is = ap (λ (w : SharedWords). record { base = a.base.value; words = w }) c.reply-reply.ensures.words ∙ was in
    let more = ap length c.push_reserved.ensures.items ∙ length-append replies (reply ∷ []) in
    record {
      told = still_tells k.tells phase (record { base = a.base.value; words = (k.standing a.seat).words }) (record { base = a.base.value; words = (k.standing c.reply-reply.new.seat).words }) old now items replies c.push_reserved.new.self.items next.0 reply
          was is next.1 c.push_reserved.ensures.items
          (λ told. c.trays_tell.ensures.more phase old now (answered_items items replies) next.0 reply told (c.reply-reply.ensures.answers next.0 at)) kept.told;
      is_of = kept.is_of;
      paired = omega (arith, more, slice_get_within items (length replies) next.0 next.1);
      within = kept.within;
      reserved = omega (arith, kept.reserved, c.push_reserved.ensures.capacity);
      listed = kept.listed;
    }

pub returns-clause-answers : goal.returns-clause-answers
returns-clause-answers g c =
    let W = WorkerView g.row.K-Sight.Denot g.row.K-Item.Denot g.row.K-Reply.Denot in
    let k = g.K.Kind in
    let a = c.self.inside in
    let items = k.items a.tray.items in
    let replies = a.tray.replies.items in
    let next = first_there items replies (subst (λ (w : W). 0 < length w.waiting) (sym c.self.view_is) c.requires.waits) in
    let reply = c.reply-reply.result in
    let at : slice_get items c.len-next.result ≡ Some next.0 = ap (slice_get items) (omega (arith, c.len-next.ensures, a.tray.replies.ok.0)) ∙ next.1 in (
      next.0,
      sym (ap (λ (w : W). w.waiting) c.self.view_is) ∙ first_waits items replies next.0 reply next.1 ∙ ap (λ (l : List g.row.K-Reply.Denot). next.0 ∷ drop (length l) items) (sym c.push_reserved.ensures.items),
      ap (answered_items items) c.push_reserved.ensures.items ∙ first_told items replies next.0 reply next.1 ∙ ap (λ (w : W). w.tray ++ told_of next.0 reply ∷ []) c.self.view_is,
      subst (λ (w : W). k.answers c.args.phase.now w.seat next.0 reply (k.standing c.reply-reply.new.seat).view) c.self.view_is (c.reply-reply.ensures.answers next.0 at),
    )

pub returns-clause-at_rest : goal.returns-clause-at_rest
returns-clause-at_rest g c = c.trays_tell.ensures.at_rest _ _ _ (invariant_of-self g c).told
