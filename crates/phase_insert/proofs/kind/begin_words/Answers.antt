use Rattle.std.proofs.Common.{◌≡◌, ◌++◌, ◌+◌, ◌-◌, List, ℕ, length, refl, replicate, take, sym, ap, ◌∙◌, subst, arith}
use Rattle.std.specs.Result.{IfOk}
use Rattle.store_spec.proofs.Common.{cell_count, cells_of, take-append_seam}
use Rattle.phase_insert.proofs.Opened.{may_hold}
use Rattle.phase_insert.proofs.kind.begin_words.Goals as goal
use Rattle.word_rule.specs.CastWords.{MayHold}
use Rattle.word_rule.specs.Places.{AreMadeOf}

-- words that are cells and so many zeros
zeros_behind : (cells words : List ℕ) (count claims size : ℕ) → words ≡ cells ++ replicate (length words - count) 0 → length words ≡ size + claims → length cells ≡ size
    → count ≡ size → words ≡ cells ++ replicate claims 0
zeros_behind cells words count claims size laid long whole own =
    laid ∙ ap (λ n. cells ++ replicate n 0) (let behind : length words - count ≡ claims = omega (arith, long, own) in behind)

cells_first : (cells words : List ℕ) (claims size : ℕ) → words ≡ cells ++ replicate claims 0 → length cells ≡ size → take size words ≡ cells
cells_first cells words claims size laid whole =
    ap (take size) laid ∙ ap (λ n. take n (cells ++ replicate claims 0)) (sym whole) ∙ take-append_seam cells (replicate claims 0)

pub of_words-requires-clause-may_open : goal.of_words-requires-clause-may_open
of_words-requires-clause-may_open c =
    let e = c.args.closed.now.election in
    let cells = cells_of e c.args.closed.now.ballots in
    let told = c.words-words.ensures in
    let words = c.words-words.result.now.items in
    let may = may_hold e c.args.closed.now c.args.shape cells refl told.stored c.requires.shape c.requires.few_cells (omega (arith, c.requires.claims)) refl in
    let laid = zeros_behind cells words (cell_count e) c.args.shape.claims c.args.shape.cells told.words (omega (arith, c.if-len-shape.true, c.len.ensures, c.words-words.result.now.ok.0)) may.size
    (sym c.requires.shape.cells) in
    subst (MayHold c.args.shape) (sym (cells_first cells words c.args.shape.claims c.args.shape.cells laid may.size)) may

pub of_words-requires-clause-zeros : goal.of_words-requires-clause-zeros
of_words-requires-clause-zeros c =
    let e = c.args.closed.now.election in
    let cells = cells_of e c.args.closed.now.ballots in
    let told = c.words-words.ensures in
    let words = c.words-words.result.now.items in
    let may = may_hold e c.args.closed.now c.args.shape cells refl told.stored c.requires.shape c.requires.few_cells (omega (arith, c.requires.claims)) refl in
    let laid = zeros_behind cells words (cell_count e) c.args.shape.claims c.args.shape.cells told.words (omega (arith, c.if-len-shape.true, c.len.ensures, c.words-words.result.now.ok.0)) may.size
    (sym c.requires.shape.cells) in
    laid ∙ ap (λ cells. cells ++ replicate c.args.shape.claims 0) (sym (cells_first cells words c.args.shape.claims c.args.shape.cells laid may.size))

pub returns-then-len-shape-clause-words : goal.returns-then-len-shape-clause-words
returns-then-len-shape-clause-words c =
    let e = c.args.closed.now.election in
    let cells = cells_of e c.args.closed.now.ballots in
    let told = c.words-words.ensures in
    let words = c.words-words.result.now.items in
    let may = may_hold e c.args.closed.now c.args.shape cells refl told.stored c.requires.shape c.requires.few_cells (omega (arith, c.requires.claims)) refl in
    let laid = zeros_behind cells words (cell_count e) c.args.shape.claims c.args.shape.cells told.words (omega (arith, c.if-len-shape.true, c.len.ensures, c.words-words.result.now.ok.0)) may.size
    (sym c.requires.shape.cells) in
    subst (λ cells. IfOk c.of_words.result (λ made. AreMadeOf c.args.shape cells c.args.seats made.0))
    (cells_first cells words c.args.shape.claims c.args.shape.cells laid may.size) c.of_words.ensures.words

pub new-requires-clause-may_open : goal.new-requires-clause-may_open
new-requires-clause-may_open c =
    may_hold c.args.closed.now.election c.args.closed.now c.args.shape c.cells.result.now refl c.cells.ensures.stored c.requires.shape c.requires.few_cells (omega (arith, c.requires.claims)) c.cells.ensures.cells

pub returns-clause-words : goal.returns-clause-words
returns-clause-words c =
    subst (λ cells. IfOk c.new.result (λ made. AreMadeOf c.args.shape cells c.args.seats made.0)) c.cells.ensures.cells c.new.ensures.words
