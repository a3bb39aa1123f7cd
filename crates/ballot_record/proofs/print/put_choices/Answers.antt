use Rattle.std.proofs.Common.{◌≡◌, ◌+◌, ◌-◌, ◌*◌, ◌%◌, ◌^◌, ◌<◌, ◌≤◌, ◌++◌, [], ◌∷◌, false, cond, map, rules, sym, ap, subst, ◌∙◌, arith, pow_pos, ℕ}
use Rattle.store_spec.proofs.Common.{bit_at-trailing_zeros, decimal, trailing_zeros}
use Rattle.ballot_record.proofs.Fronts.{IsFrontOf-more}
use Rattle.ballot_record.proofs.Joining.{joined_after}
use Rattle.ballot_record.proofs.LineGroups.{choices_text}
use Rattle.ballot_record.proofs.LinePrints.{no_choice_put, choice_put, choices_put}
use Rattle.ballot_record.proofs.MarkSets.{choices_from, lowest_fits}
use Rattle.ballot_record.specs.Record.{set_word}
use Rattle.ballot_record.proofs.print.put_choices.Goals as goal

-- a word has room for its lowest choice, which is no more than the set
lowest : (set : ℕ) → 0 < set → set < 2 ^ 64
    → (1 * 2 ^ trailing_zeros set_word set % 2 ^ 64 ≡ 2 ^ trailing_zeros set_word set) × (2 ^ trailing_zeros set_word set ≤ set)
lowest set some small =
    let fits = lowest_fits set (trailing_zeros set_word set) ((bit_at-trailing_zeros set_word set some small).1) in
    (omega (arith, fits), fits)

pub choices-init : goal.choices-init
choices-init c = record {
  put = no_choice_put c.args.set c.args.out.now.items;
  front = search rules;
}

pub overflow_sub-rest : goal.overflow_sub-rest
overflow_sub-rest c =
    let is = lowest c.choices.rest (omega arith) (omega (arith, c.choices.auto.rest-fits)) in
    omega (arith, is.0, is.1)

pub choices-preserved : goal.choices-preserved
choices-preserved c =
    let l = c.choices in
    let place = trailing_zeros set_word l.rest in
    let some : 0 < l.rest = omega arith in
    let small : l.rest < 2 ^ 64 = omega (arith, l.auto.rest-fits) in
    let first = bit_at-trailing_zeros set_word l.rest some small in
    let apart = c.put_between.new.out.items in
    let now = c.put_number.new.out.items in
    let whole = c.args.out.now.items ++ choices_text (choices_from 64 0 c.args.set) in
    let put : now ≡ apart ++ decimal (place + 1) = c.in_ok-put_number.ensures.text ∙ ap (λ n. apart ++ decimal (n + 1)) c.from.ensures in
    record {
      put = subst (λ bit. now ++ joined_after false 44 (map decimal (choices_from 64 0 (l.rest - bit))) ≡ whole) (sym (lowest l.rest some small).0)
          (choice_put l.first place l.rest l.out.items apart now whole first.0 first.1 first.2 l.invariant.put c.in_ok-put_between.ensures.text put);
      front = IsFrontOf-more c.args.out.now.items apart now (decimal (place + 1))
          (IsFrontOf-more c.args.out.now.items l.out.items apart (cond l.first [] (44 ∷ [])) l.invariant.front c.in_ok-put_between.ensures.text) put;
    }

pub choices-smaller : goal.choices-smaller
choices-smaller c =
    let is = lowest c.choices.rest (omega arith) (omega (arith, c.choices.auto.rest-fits)) in
    omega (arith, is.0, is.1, pow_pos (trailing_zeros set_word c.choices.rest))

pub returns-clause-text : goal.returns-clause-text
returns-clause-text c e small =
    choices_put e c.args.set c.choices.first c.choices.rest c.args.out.now.items c.choices.out.items small c.choices.invariant.put c.choices-test.false
