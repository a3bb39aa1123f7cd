use Rattle.std.proofs.Common.{◌≡◌, ◌++◌, [], List, ℕ, sym, ap, subst, ◌∙◌}
use Rattle.store_spec.proofs.Common.{append-nil, err_from_is_err_and}
use Rattle.image_builder.proofs.Judged.{header_of_image, only_memory}
use Rattle.image_builder.proofs.OneSet.{one_set}
use Rattle.image_builder.proofs.reader.read_image.Goals as goal
use Rattle.image_builder.specs.Reading.{IsRefusedBank}

pub returns-in_err-check_header-clause-back : goal.returns-in_err-check_header-clause-back
returns-in_err-check_header-clause-back c ballots is =
    absurd (c.in_err-check_header.ensures.other (header_of_image c.args.election.now c.args.bytes.now ballots is))

pub returns-in_err-reader-2-clause-refused : goal.returns-in_err-reader-2-clause-refused
returns-in_err-reader-2-clause-refused c =
    let e = c.args.election.now in
    let bytes = c.args.bytes.now in
    let fault = c.in_err-reader-2.field-0.0 in
    let all : (c.in_ok-reader.reader.fed ++ bytes) ++ [] ≡ bytes = append-nil (c.in_ok-reader.reader.fed ++ bytes) ∙ ap (λ reader. reader.fed ++ bytes) c.in_ok-reader.ensures in
    let p = err_from_is_err_and c.from_residual-in_err-reader-2.result c.from_residual-in_err-reader-2.ensures.1 in
    rw (p.1, p.2) (subst (λ (bank : List ℕ). IsRefusedBank e bank fault) all (c.in_err-reader-2.ensures.refused.each_bank []))

pub returns-in_err-reader-2-clause-back : goal.returns-in_err-reader-2-clause-back
returns-in_err-reader-2-clause-back c ballots is =
    let e = c.args.election.now in
    let bytes = c.args.bytes.now in
    let fault = c.in_err-reader-2.field-0.0 in
    let all : (c.in_ok-reader.reader.fed ++ bytes) ++ [] ≡ bytes = append-nil (c.in_ok-reader.reader.fed ++ bytes) ∙ ap (λ reader. reader.fed ++ bytes) c.in_ok-reader.ensures in
    let refused = subst (λ (bank : List ℕ). IsRefusedBank e bank fault) all (c.in_err-reader-2.ensures.refused.each_bank []) in
    let p = err_from_is_err_and c.from_residual-in_err-reader-2.result c.from_residual-in_err-reader-2.ensures.1 in
    rw (p.1, p.2) (only_memory e bytes ballots fault is refused)

pub returns-clause-back : goal.returns-clause-back
returns-clause-back c ballots is =
    let e = c.args.election.now in
    let bytes = c.args.bytes.now in
    let own = c.in_ok-finish.ensures.image in
    let fed : c.in_ok-reader-2.reader.fed ≡ bytes = ap (λ reader. reader.fed) c.in_ok-reader-2.ensures.fed ∙ ap (λ reader. reader.fed ++ bytes) c.in_ok-reader.ensures in
    one_set e c.in_ok-finish.field-0.ballots ballots c.in_ok-check_header.ensures.valid own.set own.within_limit is.set is.within_limit (sym own.bytes ∙ fed ∙ is.bytes)
