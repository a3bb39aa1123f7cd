use Rattle.std.proofs.Common.{◌≡◌, ◌∷◌, [], All, ap, sym, ◌∙◌, subst, length}
use Rattle.store_spec.proofs.Common.{All-cons, All-nil, CastView, Rest}
use Rattle.step_tests.proofs.cast_words.close.Goals as goal
use Rattle.word_rule.specs.Places.{Place}

pub close-requires-clause-whole : goal.close-requires-clause-whole
close-requires-clause-whole c =
    let one = c.args.one in
    let two = c.args.two in
    let items = c.in_ok-seats.ensures.items in
    let Belongs : Place CastView → Type 0 = λ seat. seat.words ≡ c.args.words in
    let Rests : Place CastView → Type 0 = λ seat. seat.view.state ≡ Rest in
    record {
      count = ap length items ∙ sym c.requires.two;
      belong = subst (All Belongs) (sym items) (All-cons Belongs one (two ∷ []) c.requires.belong.0 (All-cons Belongs two [] c.requires.belong.1 (All-nil Belongs)));
      such = subst (All Rests) (sym items) (All-cons Rests one (two ∷ []) c.requires.at_rest.0 (All-cons Rests two [] c.requires.at_rest.1 (All-nil Rests)));
    }
