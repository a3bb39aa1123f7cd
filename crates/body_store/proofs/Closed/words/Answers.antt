use Rattle.std.proofs.Common.{◌≡◌, ◌++◌, ◌-◌, List, ℕ, length, replicate, ap, ◌∙◌, subst}
use Rattle.store_spec.proofs.Common.{cell_count, cells_of}
use Rattle.body_store.proofs.Closed.words.Goals as goal
use Rattle.body_store.proofs.Keeping.{shown_layout}
use Rattle.body_store.specs.Contents.{Contents}
use Rattle.body_store.specs.Kept.{contents_of}

abbrev HasWords : List ℕ → Contents → Type 0
HasWords words store = words ≡ cells_of store.election store.ballots ++ replicate (length words - cell_count store.election) 0

pub returns-clause-words : goal.returns-clause-words
returns-clause-words c =
    let a = c.self.inside in
    let own = contents_of a in
    let words = c.words.result.now.items in
    let size = (shown_layout own.election own.ballots a.image.items a.cells c.self.invariant.shown).size in
    subst (HasWords words) c.self.view_is
    (c.words.ensures ∙ ap (λ cells. cells ++ replicate (length words - length a.cells) 0) c.self.invariant.shown.cells
    ∙ ap (λ n. cells_of own.election own.ballots ++ replicate (length words - n) 0) size)
