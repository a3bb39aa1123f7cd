use Rattle.std.proofs.Common.{◌≡◌, ◌<◌, ◌≤◌, ℕ, List, ⊎_elim, ap, ◌∙◌, arith, eqb, get_or, length, replicate, take}
use Rattle.store_spec.proofs.Common.{cases_lt, get_or-replicate, get_or_past, length-replicate, not, take-replicate}
use Rattle.std.specs.Int.{from_bool}
use Rattle.body_store.proofs.lookup.filled_cells.Goals as goal

-- no cell has a number
empty_everywhere : (n k : ℕ) → get_or {A = ℕ} (replicate n 0) k 0 ≡ 0
empty_everywhere n k =
    ⊎_elim
    (λ (within : k < n). get_or-replicate n k 0 0 within)
    (λ (past : n ≤ k). get_or_past (replicate n 0) k 0 (omega (arith, past, length-replicate {A = ℕ} n 0)))
    (cases_lt k n)

pub returns : goal.returns
returns c k =
    let block = c.args.block.now in
    let count = length block in
    c.other_cells.ensures k
    ∙ ap (λ v. from_bool (not (eqb (get_or block k 0) v)))
    (ap (λ cells. get_or cells k 0) (take-replicate count 64 0 (omega (arith, c.requires))) ∙ empty_everywhere count k)
