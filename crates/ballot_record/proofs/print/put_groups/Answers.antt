use Rattle.std.proofs.Common.{◌≡◌, ◌<◌, ◌++◌, ◌∷◌, [], cond, eqb, get_or, length, map, sym, take, ap, ◌∙◌, arith, rules, get_or-take, length-take}
use Rattle.store_spec.proofs.Common.{choices_in, group_text}
use Rattle.ballot_record.proofs.Fronts.{IsFrontOf-more, IsFrontOf-after}
use Rattle.ballot_record.proofs.LinePrints.{no_group_put, group_put, groups_put}
use Rattle.ballot_record.proofs.LineWhole.{groups_text}
use Rattle.ballot_record.proofs.ValidMarks.{small_set}
use Rattle.ballot_record.proofs.Versions.{contests_fit}
use Rattle.ballot_record.proofs.print.put_groups.Goals as goal

pub groups-init : goal.groups-init
groups-init c = record {
  put =
      λ b is. no_group_put c.args.out.now.items
      (map group_text (map (choices_in c.args.election.now) (take (length c.args.election.now.contests) b.marks)));
  front = search rules;
}

pub returns-in_err-put_between-clause-front : goal.returns-in_err-put_between-clause-front
returns-in_err-put_between-clause-front c =
    let front = IsFrontOf-after c.args.out.now.items c.groups.out.items c.put_between.new.out.items
    c.groups.invariant.front c.in_err-put_between.ensures.front in
    search rules

pub returns-in_err-put_group-clause-front : goal.returns-in_err-put_group-clause-front
returns-in_err-put_group-clause-front c =
    let front = IsFrontOf-after c.args.out.now.items c.put_between.new.out.items c.put_group.new.out.items
    (IsFrontOf-more c.args.out.now.items c.groups.out.items c.put_between.new.out.items
    (cond (eqb c.groups.place 0) [] (47 ∷ [])) c.groups.invariant.front c.in_ok-put_between.ensures.text)
    c.put_group.ensures.front in
    search rules

pub groups-preserved : goal.groups-preserved
groups-preserved c =
    let e = c.args.election.now in
    let n = length e.contests in
    let old = c.args.out.now.items in
    let l = c.groups in
    let apart = c.put_between.new.out.items in
    let now = c.put_group.new.out.items in
    record {
      put = λ b is.
          let sets = take n b.marks in
          let within : l.place < n = omega arith in
          let small = small_set e b c.requires.valid is.0 l.place in
          let set : c.set_of.result ≡ get_or sets l.place 0 = c.set_of.ensures b is ∙ sym (get_or-take n b.marks l.place 0 within) in
          group_put e sets l.place l.out.items apart now (old ++ groups_text (map (choices_in e) sets))
          (omega (arith, length-take n b.marks, is.0.every_set, contests_fit e c.requires.valid))
          (l.invariant.put b is) c.in_ok-put_between.ensures.text
          (c.in_ok-put_group.ensures.text e (rw (c.set_of.ensures b is) small) ∙ ap (λ set. apart ++ group_text (choices_in e set)) set);
      front = IsFrontOf-after old apart now
          (IsFrontOf-more old l.out.items apart
          (cond (eqb l.place 0) [] (47 ∷ [])) l.invariant.front c.in_ok-put_between.ensures.text)
          c.put_group.ensures.front;
    }

pub returns-clause-text : goal.returns-clause-text
returns-clause-text c b is =
    let e = c.args.election.now in
    let n = length e.contests in
    groups_put e (take n b.marks) c.groups.place c.groups.out.items
    (c.args.out.now.items ++ groups_text (map (choices_in e) (take n b.marks)))
    (omega (arith, length-take n b.marks)) (c.groups.invariant.put b is)
