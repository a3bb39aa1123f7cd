-- What a phase begins with.
use Rattle.std.proofs.Common.{◌≡◌, ℕ, ◌-◌, ◌^◌, ◌≤◌, List, length, sym, ap, ◌∙◌, subst, arith}
use Rattle.store_spec.proofs.Common.{Election, IsOrdered, cells_of, most_cells, numbers_in}
use Rattle.ballot_record.proofs.BallotNumbers.{length-numbers_of}
use Rattle.body_store.proofs.BallotSets.{stored_layout}
use Rattle.body_store.specs.Contents.{Contents, IsStored}
use Rattle.phase_insert.proofs.HeldNumbers.{room}
use Rattle.step_core.specs.Shape.{homes_of}
use Rattle.step_core.specs.declared.shape.Shape.{Shape}
use Rattle.word_rule.proofs.Stores.{as_many, ordered_by}
use Rattle.word_rule.specs.CastWords.{MayHold}
use Rattle.word_rule.specs.Stores.{IsShapeOf}

pub may_hold : (e : Election) (store : Contents) (shape : Shape) (cells : List ℕ) → e ≡ store.election → IsStored store → IsShapeOf e shape → shape.cells ≤ most_cells → shape.claims ≡ e.limit - length store.ballots
    → cells ≡ cells_of store.election store.ballots → MayHold shape cells
may_hold e store shape cells own h of few is_rest held =
    let election = store.election in
    let is = subst (λ (f : Election). IsShapeOf f shape) own of in
    let claims : shape.claims ≡ election.limit - length store.ballots = is_rest ∙ ap (λ (f : Election). f.limit - length store.ballots) own in
    let power : 2 ^ shape.order.bits ≡ 2 ^ election.bits = ap (λ n. 2 ^ n) is.bits in
    let layout = stored_layout store h in
    record {
      ordered = subst (λ (l : List ℕ). IsOrdered (homes_of shape) l) (sym held) (ordered_by election shape is (cells_of election store.ballots) layout.ordered);
      size = ap length held ∙ layout.size ∙ sym is.cells;
      small = omega (arith, few, claims, h.election.few_ballots);
      room = omega (arith, ap (λ (l : List ℕ). length (numbers_in l)) held, as_many election store.ballots (room store h), length-numbers_of store.ballots, claims, power, is.cells, h.within_limit);
    }
