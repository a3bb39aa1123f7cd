use Rattle.std.proofs.Common.{refl, sym, ◌∙◌, arith}
use Rattle.run_command.proofs.Media.{may_follow_there, media_all, media_none, media_to}
use Rattle.run_command.proofs.command.are_media.Goals as goal

pub words-init : goal.words-init
words-init c = media_none c.args.medium.now

pub returns-then-not-may_follow : goal.returns-then-not-may_follow
returns-then-not-may_follow c = (
  λ wrong. absurd cc,
  λ media.
      sym c.if-not-may_follow.true
      ∙ c.may_follow.ensures.1 (may_follow_there c.args.medium.now c.args.words.now c.words.at c.index-words-at.result c.deref.result.now
      (omega (arith, c.words-test.true)) c.index-words-at.is c.deref.ensures media),
)

pub words-preserved : goal.words-preserved
words-preserved c =
    media_to c.args.medium.now c.args.words.now c.words.at c.index-words-at.result c.deref.result.now
    (omega (arith, c.words-test.true)) c.index-words-at.is c.deref.ensures c.words.invariant (c.may_follow.ensures.0 c.if-not-may_follow.false)

pub returns : goal.returns
returns c =
    let media = media_all c.args.medium.now c.args.words.now c.words.at (omega (arith, c.words-test.false)) c.words.invariant in
    (λ _. media, λ _. refl)
