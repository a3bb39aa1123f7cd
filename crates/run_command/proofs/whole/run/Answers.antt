use Rattle.std.proofs.Common.{ℕ, ◌-◌, ◌∙◌, Option, ap, arith, map, subst, string_bytes, sym}
use Rattle.store_spec.proofs.Common.{IfSome, length-map}
use Rattle.run_command.proofs.Rows.{few_media, further_parts, one_second, one_target}
use Rattle.run_command.proofs.whole.run.Goals as goal
use Rattle.run_command.specs.Command.{Forms}
use Rattle.run_command.specs.declared.command.Command.{Command}
use Rattle.partition_store.specs.Parted.{AreFurther}

pub carry_out-requires-clause-more : goal.carry_out-requires-clause-more
carry_out-requires-clause-more g c _ _ is =
    let words = map string_bytes c.args.words.now in
    let formed : Forms words c.in-Ok-Some.command = subst (λ (o : Option Command). IfSome o (Forms words)) c.in-Ok-Some.field-0-is c.in-Ok-Some.ensures.formed in
    let few = few_media words c.in-Ok-Some.command formed is in
    omega (arith, few, c.requires.more, length-map c.args.words.now string_bytes)

pub carry_out-requires-clause-target : goal.carry_out-requires-clause-target
carry_out-requires-clause-target g c _ _ is =
    let words = map string_bytes c.args.words.now in
    let formed : Forms words c.in-Ok-Some.command = subst (λ (o : Option Command). IfSome o (Forms words)) c.in-Ok-Some.field-0-is c.in-Ok-Some.ensures.formed in
    let four = one_target words c.in-Ok-Some.command formed is in
    omega (arith, four, c.requires.more, length-map c.args.words.now string_bytes)

pub carry_out-requires-clause-second : goal.carry_out-requires-clause-second
carry_out-requires-clause-second g c _ _ is =
    let words = map string_bytes c.args.words.now in
    let formed : Forms words c.in-Ok-Some.command = subst (λ (o : Option Command). IfSome o (Forms words)) c.in-Ok-Some.field-0-is c.in-Ok-Some.ensures.formed in
    let four = one_second words c.in-Ok-Some.command formed is in
    omega (arith, four, c.requires.more, length-map c.args.words.now string_bytes)

pub carry_out-requires-clause-parts : goal.carry_out-requires-clause-parts
carry_out-requires-clause-parts g c _ _ is =
    let words = map string_bytes c.args.words.now in
    let formed : Forms words c.in-Ok-Some.command = subst (λ (o : Option Command). IfSome o (Forms words)) c.in-Ok-Some.field-0-is c.in-Ok-Some.ensures.formed in
    subst AreFurther (ap (λ (n : ℕ). n - 3) (length-map c.args.words.now string_bytes) ∙ sym c.requires.more)
    (further_parts words c.in-Ok-Some.command formed is)

pub carry_out-requires-clause-told : goal.carry_out-requires-clause-told
carry_out-requires-clause-told g c _ _ is =
    let words = map string_bytes c.args.words.now in
    let formed : Forms words c.in-Ok-Some.command = subst (λ (o : Option Command). IfSome o (Forms words)) c.in-Ok-Some.field-0-is c.in-Ok-Some.ensures.formed in
    c.requires.told (subst (λ (command : Command). Forms words command) is formed)
