use Rattle.std.proofs.Common.{subst, sym}
use Rattle.store_spec.proofs.Common.{IfOk-weaker, fresh_cast_view, map-id}
use Rattle.phase_insert.proofs.kind.CastingKind.begin.Goals as goal
use Rattle.word_rule.specs.Places.{AreAll}

pub returns-clause-words : goal.returns-clause-words
returns-clause-words c = c.begin_words.ensures.words

pub returns-clause-seats : goal.returns-clause-seats
returns-clause-seats c =
    IfOk-weaker c.begin_words.result _ _ (λ made all. subst (AreAll fresh_cast_view made.0) (sym (map-id made.1.items)) all) c.begin_words.ensures.seats
