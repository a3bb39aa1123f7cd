use Rattle.std.proofs.Common.{◌≡◌, ◌++◌, ◌+◌, ◌-◌, List, ℕ, drop, length, sym, take, ap, ◌∙◌, arith, length-take}
use Rattle.store_spec.proofs.Common.{take-add}
use Rattle.word_rule.proofs.words.lay_out.Goals as goal

pub loop-words-preserved : goal.loop-words-preserved
loop-words-preserved c =
    let cells = c.args.cells.now in
    let before = c.loop-words.words.items in
    let at = c.len-at.result in
    let count = c.min-count.result in
    let now = c.extend_from_slice.new.self.items in
    let same : at ≡ length before = c.len-at.ensures ∙ c.loop-words.words.ok.0 in
    let more = take count (drop at cells) in
    let put : now ≡ take (at + count) cells =
    c.in_ok-extend_from_slice.ensures.items
    ∙ ap (λ n. before ++ take n (drop at cells)) (let all : at + count - at ≡ count = omega arith in all)
    ∙ ap (λ (xs : List ℕ). xs ++ more) (c.loop-words.invariant.same ∙ ap (λ n. take n cells) (sym same))
    ∙ sym (take-add at count cells) in
    let long : length now ≡ at + count = ap length put ∙ omega (arith, length-take (at + count) cells, c.min-count.ensures, c.loop-words-test.true) in
    record {
      within = omega (arith, long, c.min-count.ensures, c.loop-words-test.true);
      same = put ∙ ap (λ n. take n cells) (sym long);
    }
