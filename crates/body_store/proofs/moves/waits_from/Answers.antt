use Rattle.std.proofs.Common.{◌≡◌, ℕ, ◌<◌, ◌≤◌, ⊎_elim, get_or, ap, ◌∙◌, arith, rules}
use Rattle.store_spec.proofs.Common.{IsNonDecreasingBy, cases_lt, get_or_default, nat_cmp, ordering_index}
use Rattle.std.proofs.lemmas.List.Sorted.{answers_always}
use Rattle.body_store.proofs.Lookups.{cmp_equal, cmp_less, cmp_greater, cmp_rises}
use Rattle.layout_def.proofs.Keyed.{among_at}
use Rattle.body_store.specs.declared.moves.Waiting.{Waiting}
use Rattle.body_store.proofs.moves.waits_from.Goals as goal

abbrev waiting_at : ℕ → ℕ → Waiting
waiting_at number from = record { number = number; from = from }

pub returns-in-Ok : goal.returns-in-Ok
returns-in-Ok c =
    let equal = c.in-Ok.ensures.position (λ one. one.number) (answers_always _ _ _ (λ f a r g h. search rules)) in
    let far = c.args.far.now in
    let at = c.in-Ok.at in
    let none = waiting_at 0 0 in
    let number : (get_or far at none).number ≡ c.args.number = cmp_equal _ _ (equal none) in (
      at,
      c.in-Ok.ensures.bound,
      get_or_default far at _ none c.in-Ok.ensures.bound
          ∙ ap (λ n. waiting_at n (get_or far at none).from) number,
    )

pub returns-in-Err : goal.returns-in-Err
returns-in-Err c there =
    let apart = c.in-Err.ensures.position (λ one. one.number) (answers_always _ _ _ (λ f a r g h. search rules)) in
    let far = c.args.far.now in
    let none = waiting_at 0 0 in
    let rises : IsNonDecreasingBy (λ one. ordering_index (nat_cmp one.number c.args.number)) far = λ i j d le within.
    cmp_rises _ _ c.args.number (c.requires i j d le within) in
    let parts = apart rises in
    let found = among_at (λ (one : Waiting). one.number) far c.args.number none there in
    ⊎_elim (λ (before : found.0 < c.in-Err.field-0). cmp_less _ _
    (parts.0 found.0 none (omega arith) before) found.2)
    (λ (after : c.in-Err.field-0 ≤ found.0). cmp_greater _ _ (parts.1 found.0 none after found.1) found.2)
    (cases_lt found.0 c.in-Err.field-0)
