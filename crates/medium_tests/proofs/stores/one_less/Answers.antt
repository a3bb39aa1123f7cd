use Rattle.std.proofs.Common.{◌∙◌, [], ◌∷◌, ap, sym}
use Rattle.body_store.specs.Contents.{ballots_without}
use Rattle.medium_tests.proofs.stores.one_less.Goals as goal

pub remove-requires-clause-rest : goal.remove-requires-clause-rest
remove-requires-clause-rest g c =
    (9 ∷ [], c.in_ok-two.ensures.blank ∙ ap (λ bs. ballots_without bs (9 ∷ [])) (sym c.in_ok-store.ensures.blank))
