use Rattle.std.proofs.Common.{sym, ◌∙◌}
use Rattle.election_def.proofs.Keys.{no_other_key, all_from_no_other}
use Rattle.election_def.proofs.parts.has_no_key_but.Goals as goal

pub returns-in-Some : goal.returns-in-Some
returns-in-Some c =
    let entries = c.in-Some.members.now.entries in (
      λ all. no_other_key c.args.keys.now entries _ c.in-Some.ensures (sym c.all_among.ensures ∙ all),
      λ each. c.all_among.ensures ∙ all_from_no_other c.args.keys.now entries _ c.in-Some.ensures each,
    )
