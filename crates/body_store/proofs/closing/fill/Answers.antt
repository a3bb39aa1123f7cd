use Rattle.std.proofs.Common.{◌≡◌, ℕ, ◌+◌, ◌*◌, List, length, sym, ap, subst, ◌∙◌, arith}
use Rattle.store_spec.proofs.Common.{IsOrdered, cell_bytes, cell_size, cells_of, header_size, home_of, on_ok_weaker, with_items_is}
use Rattle.std.proofs.lemmas.Result.{on_err_weaker}
use Rattle.body_store.proofs.Keeping.{few_cells, shown_layout, shown_size}
use Rattle.body_store.proofs.Relaying.{cells_before, each_wide, empty_blank, laid_ordered, laid_size, new_in_cells, number_from, relaid, rest_held}
use Rattle.body_store.proofs.closing.fill.Goals as goal
use Rattle.body_store.specs.Contents.{all_listed}
use Rattle.body_store.specs.Held.{Shows}
use Rattle.body_store.specs.Moves.{AreImageCells}

pub relay-requires : goal.relay-requires
relay-requires g c =
    let e = c.args.election.now in
    let more = all_listed c.args.lists.now in
    let bytes = c.deref_mut.result.now in
    let was = cells_of e g.change.old in
    let cells = c.args.cells.now in
    let close = c.requires.0 in
    let laid = c.requires.1.1.1.0 in
    let shown = subst (λ (bytes : List ℕ). Shows e g.change.old bytes was) (sym c.deref_mut.ensures.value) c.requires.1.1.0 in
    let held = rest_held e more g.change close in
    let size = laid_size e g.change.rest cells close.election held laid in
    let before = (shown_layout e g.change.old bytes was shown).size in (
      c.requires.1.0,
      (
        record {
          election = close.election;
          wide = each_wide e more g.change close;
          blank = empty_blank e more g.change close;
          new_ballots = new_in_cells e more g.change close;
          as_many = before ∙ sym size;
          before = record {
            long = shown_size e g.change.old bytes was shown ∙ ap (λ n. header_size + n * cell_size e) (sym before);
            each = λ cell lt. cells_before e more g.change bytes was close shown cell (omega (arith, lt, before));
          };
          known = number_from e more g.change bytes was cells close shown laid;
          ordered = subst (λ (b : ℕ). IsOrdered (home_of b c.order-order.result.salt) cells) (sym c.order-order.ensures.bits)
              (subst (λ (s : ℕ). IsOrdered (home_of e.bits s) cells) (sym c.order-order.ensures.salt) (laid_ordered e g.change.rest cells close.election held laid));
          few_cells = omega (arith, size, few_cells e close.election);
          few_ballots = close.few;
        },
        c.requires.1.1.1.1,
      ),
    )

pub returns-clause-shown : goal.returns-clause-shown
returns-clause-shown g c =
    let e = c.args.election.now in
    let more = all_listed c.args.lists.now in
    let bytes = c.deref_mut.result.now in
    let was = cells_of e g.change.old in
    let cells = c.args.cells.now in
    let now = c.relay.new.image in
    let close = c.requires.0 in
    let laid = c.requires.1.1.1.0 in
    let shown = subst (λ (bytes : List ℕ). Shows e g.change.old bytes was) (sym c.deref_mut.ensures.value) c.requires.1.1.0 in
    let size = laid_size e g.change.rest cells close.election (rest_held e more g.change close) laid in
    on_ok_weaker c.relay.result
    (λ (is : AreImageCells e (cell_bytes e g.change.all) cells now).
    let long : length now ≡ length bytes = is.long ∙ ap (λ n. header_size + n * cell_size e) size ∙ sym (shown_size e g.change.old bytes was shown) in
    subst (λ (bytes : List ℕ). Shows e g.change.rest bytes cells) (sym (with_items_is c.args.image.now now (omega (arith, long, c.deref_mut.ensures.len))))
    (relaid e more g.change bytes was now cells close shown laid is.each c.relay.ensures.header long))
    c.relay.ensures.after

pub returns-clause-unchanged : goal.returns-clause-unchanged
returns-clause-unchanged g c =
    on_err_weaker c.relay.result
    (λ (same : c.relay.new.image ≡ c.deref_mut.result.now).
    with_items_is c.args.image.now c.relay.new.image (omega (arith, ap length same, c.deref_mut.ensures.len)) ∙ same ∙ c.deref_mut.ensures.value)
    c.relay.ensures.unchanged
