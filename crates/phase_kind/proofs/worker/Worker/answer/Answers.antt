use Rattle.std.proofs.Common.{◌≡◌, [], ◌∷◌, ◌++◌, ap, subst, ◌∙◌}
use Rattle.phase_kind.proofs.Trays.{only_first, told_of}
use Rattle.phase_kind.proofs.worker.Worker.answer.Goals as goal

pub returns-clause-idle : goal.returns-clause-idle
returns-clause-idle g c =
    let queued = c.queue.ensures.waits in
    let next = c.answer_next.ensures.answers in
    (only_first c.args.self.now.waiting c.queue.new.self.waiting c.answer_next.new.self.waiting queued.0 next.0 c.requires.idle queued.2 next.1).1

pub returns-clause-answers : goal.returns-clause-answers
returns-clause-answers g c =
    let queued = c.queue.ensures.waits in
    let next = c.answer_next.ensures.answers in
    let is = (only_first c.args.self.now.waiting c.queue.new.self.waiting c.answer_next.new.self.waiting queued.0 next.0 c.requires.idle queued.2 next.1).0 in
    let old = c.args.self.now in
    let now = c.answer_next.new.self in
    let reply = c.answer_next.result in (
      queued.0,
      queued.1,
      subst (λ (x : g.row.K-Item.Denot). now.tray ≡ old.tray ++ told_of x reply ∷ []) is (next.2 ∙ ap (λ l. l ++ told_of next.0 reply ∷ []) c.queue.ensures.tray),
      subst (λ (x : g.row.K-Item.Denot). g.K.Kind.answers c.args.phase.now old.seat x reply now.seat) is
          (subst (λ (seat : g.row.K-Sight.Denot). g.K.Kind.answers c.args.phase.now seat next.0 reply now.seat) c.queue.ensures.seat next.3),
    )
