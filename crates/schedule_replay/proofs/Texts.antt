-- Lines of cells that are written one after another.
use Rattle.std.proofs.Common.{◌≡◌, ℕ, suc, ◌+◌, ◌<◌, List, ◌∷◌, ◌++◌, length, get_or, drop, sym, ap, ◌∙◌, add-one}
use Rattle.std.proofs.Math.Seq.{drop-cons}
use Rattle.schedule_replay.specs.Replayed.{cell_lines, cell_lines_at}

pub next_cell : (cells : List ℕ) (place number : ℕ) → place < length cells → get_or cells place 0 ≡ number → cell_lines place (drop place cells) ≡ cell_lines_at place number ++ cell_lines (place + 1) (drop (place + 1) cells)
next_cell cells place number within is =
    ap (cell_lines place) (drop-cons cells place 0 within ∙ ap (λ n. n ∷ drop (suc place) cells) is)
    ∙ ap (λ i. cell_lines_at place number ++ cell_lines (place + 1) (drop i cells)) (sym (add-one place))
