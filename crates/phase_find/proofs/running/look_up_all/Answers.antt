use Rattle.std.proofs.Common.{◌≡◌, ◌∙◌, ℕ, ◌<◌, Bool, Global, List, Vec, ap, arith, get_or, length, map, rules, sym, vec_len}
use Rattle.store_spec.proofs.Common.{length-map}
use Rattle.phase_find.proofs.Rows.{rows_alike, same_rows}
use Rattle.phase_find.specs.Present.{is_present}
use Rattle.phase_find.proofs.running.look_up_all.Goals as goal

abbrev answers_in : Vec Bool Global → ℕ
answers_in answers = vec_len answers

abbrev numbers_in : Vec ℕ Global → ℕ
numbers_in list = vec_len list

-- there are as many lists of answers as of numbers
as_many_lists : (found : List (Vec Bool Global)) (work : List (Vec ℕ Global))
    → map answers_in found ≡ map numbers_in work → length found ≡ length work
as_many_lists found work same = omega (arith, ap length same, length-map found answers_in, length-map work numbers_in)

pub for_each_mut-requires-clause-accepts : goal.for_each_mut-requires-clause-accepts
for_each_mut-requires-clause-accepts g c κs within i p below at =
    let many = as_many_lists c.args.found.now c.args.work.now c.requires in
    let listed : i < length c.args.work.now = omega (arith, many, below) in (
      listed,
      (
        λ list. ap answers_in at ∙ rows_alike answers_in numbers_in c.args.found.now
            c.args.work.now i p.now list c.requires listed,
        search rules,
      ),
    )

pub returns-clause-answers : goal.returns-clause-answers
returns-clause-answers g c =
    let found = c.for_each_mut.new.s in
    let work = c.args.work.now in
    let answer = is_present c.args.closed.now.ballots in
    let many = as_many_lists c.args.found.now work c.requires in
    same_rows (λ (list : Vec Bool Global). list.items) (λ (list : Vec ℕ Global). map answer list.items) found work
    (omega (arith, many, c.for_each_mut.auto.s))
    (λ i answers list within.
    let change = (c.for_each_mut.ensures i answers (omega (arith, within, c.for_each_mut.auto.s))).1 in
    let left : (get_or found i answers).items ≡ change.after_call.now.items =
    ap (λ (list : Vec Bool Global). list.items) (sym change.left) in
    let told : change.after_call.now.items ≡ map answer (get_or work i list).items = change.call list in
    left ∙ told)
