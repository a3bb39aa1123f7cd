use Rattle.std.proofs.Common.{◌∙◌, ◌++◌, ap, drop, length, replicate}
use Rattle.std.proofs.lemmas.List.{drop-replicate}
use Rattle.sample_commands.proofs.asked.filled_up.Goals as goal

pub returns : goal.returns
returns c =
    let dice = c.args.dice.now in
    ap (λ front. front ++ drop (length dice) (replicate 64 0)) c.copy_from_slice.ensures.after
    ∙ ap (λ zeros. dice ++ zeros) (drop-replicate (length dice) 64 0)
