use Rattle.std.proofs.Common.{◌≡◌, ℕ, ◌+◌, ◌<◌, ◌≤◌, ⊎_elim, length, get_or, sym, subst, ◌∙◌, arith}
use Rattle.store_spec.proofs.Common.{cases_lt, numbers_of}
use Rattle.body_store.proofs.NewBallots.{new_waits, number_some, same_number}
use Rattle.body_store.specs.Moves.{IsSought, WaitsIn, arriving_bytes}
use Rattle.body_store.proofs.relay.take_list.Goals as goal

pub note-requires : goal.note-requires
note-requires g c =
    let place = c.ballots.place in
    let within : place < length c.args.list.now.ballots = omega (arith, c.ballots-test.true, c.len-place-end.ensures.count) in
    let same = c.number.ensures ∙ same_number c.args.first place c.args.list.now.ballots g.new.ballots c.requires.1.1.1.0 within in
    let first = c.requires.1.1.1.0.within in
    let few = c.requires.1.1.0.few in
    record {
      some = λ none. number_some g.new (c.args.first + place) c.requires.1.1.0 (omega (arith, within, first)) (sym same ∙ none);
      ordered = c.requires.0;
      few_cells = c.requires.1.0;
      short = omega (arith, within, first, few);
    }

pub ballots-preserved : goal.ballots-preserved
ballots-preserved g c =
    let cells = c.args.cells.now in
    let numbers = numbers_of g.new.ballots in
    let place = c.ballots.place in
    let within : place < length c.args.list.now.ballots = omega (arith, c.ballots-test.true, c.len-place-end.ensures.count) in
    let same = c.number.ensures ∙ same_number c.args.first place c.args.list.now.ballots g.new.ballots c.requires.1.1.1.0 within in
    let at = c.args.first + place in
    let plan = c.note.new.self in
    let before = c.ballots.invariant in
    let now = c.in_ok-note.ensures in
    record {
      right = now.right g.new.bytes_of (arriving_bytes g.new)
          (subst (λ v. WaitsIn g.new.bytes_of (arriving_bytes g.new) c.ballots.plan.bytes.items at v) (sym same)
          (new_waits g.new at c.ballots.plan.bytes.items c.requires.1.1.0 (omega (arith, within, c.requires.1.1.1.0.within))))
          before.right;
      sought = λ k from lt.
          ⊎_elim
          (λ (early : k < at). λ (cell : ℕ) is. now.still cell (before.sought k from early cell is))
          (λ (last : at ≤ k).
          let here : at ≡ k = omega arith in
          subst (λ k. IsSought cells plan (get_or numbers k 0)) here
          (λ cell is. now.sought cell (is ∙ sym same)))
          (cases_lt k at);
      still = λ cell noted. now.still cell (before.still cell noted);
      bytes = now.bytes ∙ before.bytes;
    }

pub returns-clause-sought : goal.returns-clause-sought
returns-clause-sought g c k from lt = c.ballots.invariant.sought k from (omega (arith, lt, c.len-place-end.ensures.count))
