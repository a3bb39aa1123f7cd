use Rattle.std.proofs.Common.{◌++◌, replicate, sym, ap, ◌∙◌, subst}
use Rattle.std.specs.Result.{IfOk}
use Rattle.word_rule.proofs.Opened.{base_is}
use Rattle.word_rule.proofs.words.WordsOf.new.Goals as goal
use Rattle.word_rule.specs.Places.{AreMadeOf}

pub of_words-requires-clause-may_open : goal.of_words-requires-clause-may_open
of_words-requires-clause-may_open g c =
    let q = g.Q.PhaseRule in
    let shape = c.args.shape in
    let cells = c.args.cells.now in
    let laid = c.in_ok-words.ensures ∙ ap (λ n. cells ++ replicate n 0) c.words_behind.ensures in
    let base = base_is q.holds q.fresh (q.behind shape) shape cells c.in_ok-words.words.items (c.laws.ensures.opens shape cells c.requires.may_open) laid in
    subst (q.may_open shape) (sym base) c.requires.may_open

pub of_words-requires-clause-zeros : goal.of_words-requires-clause-zeros
of_words-requires-clause-zeros g c =
    let q = g.Q.PhaseRule in
    let shape = c.args.shape in
    let cells = c.args.cells.now in
    let laid = c.in_ok-words.ensures ∙ ap (λ n. cells ++ replicate n 0) c.words_behind.ensures in
    let base = base_is q.holds q.fresh (q.behind shape) shape cells c.in_ok-words.words.items (c.laws.ensures.opens shape cells c.requires.may_open) laid in
    laid ∙ ap (λ cells. cells ++ replicate (q.behind shape) 0) (sym base)

pub returns-clause-words : goal.returns-clause-words
returns-clause-words g c =
    let q = g.Q.PhaseRule in
    let shape = c.args.shape in
    let cells = c.args.cells.now in
    let laid = c.in_ok-words.ensures ∙ ap (λ n. cells ++ replicate n 0) c.words_behind.ensures in
    let base = base_is q.holds q.fresh (q.behind shape) shape cells c.in_ok-words.words.items (c.laws.ensures.opens shape cells c.requires.may_open) laid in
    subst (λ cells. IfOk c.of_words.result (λ made. AreMadeOf shape cells c.args.seats made.0)) base c.of_words.ensures.words
