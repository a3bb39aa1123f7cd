use Rattle.std.proofs.Common.{◌≡◌, ◌++◌, List, ℕ, length, drop, take, sym, ap, subst, ◌∙◌, refl, arith}
use Rattle.store_spec.proofs.Common.{IsImageOf, append-nil, append_assoc, common_steps, err_from_is_err_and, length-append, take-append-drop, take_all, take_at}
use Rattle.medium_tests.proofs.images.read_in_pieces.Goals as goal
use Rattle.image_builder.specs.Reading.{IsRefusedBank}

-- a list that is parted in two
parted : (front rest first last : List ℕ) (n : ℕ) → first ≡ take n rest → last ≡ drop n rest → (front ++ first) ++ last ≡ front ++ rest
parted front rest first last n is_first is_last =
    append_assoc front first last ∙ ap (λ bytes. front ++ (bytes ++ last)) is_first ∙ ap (λ bytes. front ++ (take n rest ++ bytes)) is_last ∙ ap (λ bytes. front ++ bytes) (take-append-drop n rest)

pub returns-in_err-reader-3-clause-refused : goal.returns-in_err-reader-3-clause-refused
returns-in_err-reader-3-clause-refused c =
    let e = c.args.election.now in
    let l = c.loop-rest in
    let fed = c.in_ok-reader-2.reader.fed in
    let piece = c.split_at.result.0.now in
    let behind = c.split_at.result.1.now in
    let fault = c.in_err-reader-3.field-0.0 in
    let all : (fed ++ piece) ++ behind ≡ c.args.bank.now =
    parted fed l.rest.now piece behind c.min.result c.split_at.ensures.front c.split_at.ensures.back
    ∙ ap (λ reader. reader.fed ++ l.rest.now) c.in_ok-reader-2.ensures.fed ∙ ap (λ fed. fed ++ l.rest.now) (append-nil l.reader.fed) ∙ l.invariant.joined in
    let p = err_from_is_err_and c.from_residual-in_err-reader-3.result c.from_residual-in_err-reader-3.ensures.1 in
    rw (p.1, p.2) (λ _. subst (λ (bank : List ℕ). IsRefusedBank e bank fault) all (c.in_err-reader-3.ensures.refused.each_bank behind))

pub returns-clause-image : goal.returns-clause-image
returns-clause-image c =
    let l = c.loop-rest in
    let bank = c.args.bank.now in
    let none : length l.rest.now ≡ 0 = grind (arith, common_steps) in
    let all : l.reader.fed ≡ bank =
    sym (take_at l.reader.fed l.rest.now (length l.reader.fed) refl) ∙ ap (take (length l.reader.fed)) l.invariant.joined
    ∙ take_all (length l.reader.fed) bank (omega (arith, none, ap length l.invariant.joined, length-append l.reader.fed l.rest.now)) in
    subst (λ (fed : List ℕ). IsImageOf c.args.election.now fed c.in_ok-finish.field-0.ballots) all c.in_ok-finish.ensures.image
