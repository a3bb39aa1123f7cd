use Rattle.std.proofs.Common.{◌≡◌, ◌-◌, ◌≤◌, get_or, length, length-take, get_or-take, sym, ap, subst, ◌∙◌, arith}
use Rattle.store_spec.proofs.Common.{Election}
use Rattle.ballot_record.proofs.OnStyle.{contest_of_bit, no_contest_of_0, told_by_word}
use Rattle.ballot_record.proofs.election.Election.contests_on.Goals as goal

pub returns-then-style-eq0-clause-known : goal.returns-then-style-eq0-clause-known
returns-then-style-eq0-clause-known c = no_contest_of_0 c.args.self.now

pub returns-clause-these : goal.returns-clause-these
returns-clause-these c k first =
    let a = c.self.inside in
    let e = c.args.self.now in
    let at = c.from-style.result - 1 in
    let front : length e.styles ≤ a.style_count =
    subst (λ (e : Election). length e.styles ≤ a.style_count) c.self.view_is (omega (arith, length-take a.style_count a.styles)) in
    let word : get_or a.styles at 0 ≡ get_or e.styles (c.args.style - 1) 0 =
    sym (get_or-take a.style_count a.styles at 0 (omega arith))
    ∙ ap (λ (e : Election). get_or e.styles at 0) c.self.view_is
    ∙ ap (λ s. get_or e.styles (s - 1) 0) c.from-style.ensures in
    told_by_word e c.args.style k (get_or a.styles at 0) (λ none. omega arith) (λ none. omega arith) word

pub returns-clause-known : goal.returns-clause-known
returns-clause-known c =
    let a = c.self.inside in
    let e = c.args.self.now in
    let at = c.from-style.result - 1 in
    let front : length e.styles ≤ a.style_count =
    subst (λ (e : Election). length e.styles ≤ a.style_count) c.self.view_is (omega (arith, length-take a.style_count a.styles)) in
    let word : get_or a.styles at 0 ≡ get_or e.styles at 0 =
    sym (get_or-take a.style_count a.styles at 0 (omega arith)) ∙ ap (λ (e : Election). get_or e.styles at 0) c.self.view_is in
    contest_of_bit e at (get_or a.styles at 0) c.styles.ensures.valid (omega arith) word
