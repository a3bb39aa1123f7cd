-- What a phase begins with.
use Rattle.std.proofs.Common.{◌≡◌, ℕ, ◌-◌, ◌≤◌, List, get_or, sym, ap, ◌∙◌, subst, arith}
use Rattle.store_spec.proofs.Common.{Election, IsLayout, cell_count, home_in, most_cells, numbers_of}
use Rattle.body_store.specs.Contents.{Contents, IsStored}
use Rattle.step_core.specs.declared.shape.Shape.{Shape}
use Rattle.word_rule.proofs.Stores.{ordered_by}
use Rattle.word_rule.specs.Stores.{IsShapeOf}
use Rattle.word_rule.specs.WithdrawWords.{MayEmpty}

pub may_empty : (e : Election) (store : Contents) (shape : Shape) (cells : List ℕ) → e ≡ store.election → IsStored store → IsShapeOf e shape → shape.cells ≤ most_cells → shape.claims ≡ 0
    → IsLayout (home_in store.election) (cell_count store.election) (numbers_of store.ballots) cells → MayEmpty shape cells
may_empty e store shape cells own h of few none layout =
    let is = subst (λ (f : Election). IsShapeOf f shape) own of in
    record {
      base = record {
        ordered = ordered_by store.election shape is cells layout.ordered;
        last_empty = ap (λ n. get_or cells (n - 1) 0) layout.size ∙ layout.last_empty;
      };
      size = layout.size ∙ sym is.cells;
      some = omega (arith, is.cells, h.election.some_ballot);
      small = omega (arith, few);
      no_claims = none;
    }
