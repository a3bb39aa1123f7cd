use Rattle.std.proofs.Common.{arith, ◌≡◌, ℕ, List, [], ◌∷◌, take, sym, ap, ◌∙◌, subst}
use Rattle.word_rule.proofs.Opened.{base_is, first_seated, kept_laid, laid_size}
use Rattle.word_rule.proofs.words.WordsOf.of_words.Goals as goal
use Rattle.word_rule.specs.Seats.{base_of}
use Rattle.word_rule.specs.declared.seats.Opening.{Opening}

pub of_words-requires : goal.of_words-requires
of_words-requires g c =
    let q = g.Q.PhaseRule in
    let shape = c.args.shape in
    let cells = take shape.cells c.args.words.now.items in
    let words = c.deref.result.now in
    let laid = c.deref.ensures.value ∙ c.requires.zeros in
    let kept = kept_laid q.holds q.fresh (q.behind shape) shape cells words (c.laws.ensures.opens shape cells c.requires.may_open) laid in
    let stored : words ≡ c.of.result.value.items = c.deref.ensures.value ∙ ap (λ v. v.items) (sym c.of.ensures) in
    first_seated q.fresh (record { shape = shape; seats = c.args.seats; words = c.of.result }) q.holds words
    (subst (λ (l : List ℕ). q.holds shape (take shape.cells l) words (q.fresh ∷ [])) stored kept)

pub invariant_of-result : goal.invariant_of-result
invariant_of-result g c =
    let q = g.Q.PhaseRule in
    let shape = c.args.shape in
    let cells = take shape.cells c.args.words.now.items in
    let words = c.deref.result.now in
    let opens = c.laws.ensures.opens shape cells c.requires.may_open in
    let laid = c.deref.ensures.value ∙ c.requires.zeros in
    let base = ap (λ v. take shape.cells v.items) c.of.ensures ∙ ap (take shape.cells) (sym c.deref.ensures.value) ∙ base_is q.holds q.fresh (q.behind shape) shape cells words opens laid in
    let made = c.in_ok-table.ensures in
    record {
      shape_is = ap (λ k. k.shape) (sym made.5);
      opened = subst (λ (k : Opening). q.may_open k.shape (base_of k)) (sym made.5) (subst (q.may_open shape) (sym base) c.requires.may_open);
      count = made.0 ∙ laid_size q.holds q.fresh (q.behind shape) shape cells words opens laid;
      no_slots = made.1;
      some = opens.some;
      small = opens.small;
      some_seat = omega (arith, ap (λ k. k.seats) made.5, c.requires.some_seat);
    }

pub returns-clause-words : goal.returns-clause-words
returns-clause-words g c =
    let q = g.Q.PhaseRule in
    let shape = c.args.shape in
    let cells = take shape.cells c.args.words.now.items in
    let words = c.deref.result.now in
    let opens = c.laws.ensures.opens shape cells c.requires.may_open in
    let laid = c.deref.ensures.value ∙ c.requires.zeros in
    let base = ap (λ v. take shape.cells v.items) c.of.ensures ∙ ap (take shape.cells) (sym c.deref.ensures.value) ∙ base_is q.holds q.fresh (q.behind shape) shape cells words opens laid in
    let key = c.in_ok-table.ensures.5 in
    record {
      shape_is = ap (λ k. k.shape) key;
      base_is = ap base_of key ∙ base;
      seats_are = ap (λ k. k.seats) key;
    }
