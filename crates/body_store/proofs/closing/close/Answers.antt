use Rattle.std.proofs.Common.{◌≡◌, List, sym, subst, subst₂, ◌∙◌, arith}
use Rattle.store_spec.proofs.Common.{cells_of, with_items_is}
use Rattle.body_store.proofs.closing.close.Goals as goal
use Rattle.body_store.specs.Held.{Shows}
use Rattle.layout_def.specs.Changes.{AreChanges}
use Rattle.layout_def.specs.declared.changes.CellChange.{CellChange}

pub fill-requires : goal.fill-requires
fill-requires g c =
    let e = c.args.election.now in
    let after = cells_of e g.change.rest in
    let given = c.requires.1.1.0 in
    let now = c.exchange.ensures after (subst (AreChanges c.args.cells.now after) (sym c.deref_mut.ensures.value) c.requires.1.1.1) in
    let laid : c.numbers-numbers.result.now ≡ after = c.numbers-numbers.ensures.value ∙ now.0 in
    let noted = c.deref.ensures.value ∙ with_items_is c.args.changes c.exchange.new.changes (omega (arith, c.exchange.auto.changes, c.deref_mut.ensures.len)) in (
      c.requires.0,
      (
        c.requires.1.0,
        (
          subst (Shows e g.change.old c.args.image.now.items) given.cells given,
          (
            laid,
            subst₂ (λ now (changes : List CellChange). AreChanges now (cells_of e g.change.old) changes) (sym laid) (sym noted)
                (subst (λ was. AreChanges after was c.exchange.new.changes) given.cells now.1),
          ),
        ),
      ),
    )
