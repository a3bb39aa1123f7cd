use Rattle.std.proofs.Common.{◌≡◌, ℕ, ◌*◌, List, [], ◌∷◌, ◌++◌, length, Option, sym, ◌∙◌, ap, subst, arith, length-append}
use Rattle.store_spec.proofs.Common.{Ballot, Election, bank_size, image_of, open_gate, option_map, overwritten}
use Rattle.checkpoint.proofs.Pages.{on_ok, pages_begin, stored_fits}
use Rattle.checkpoint.proofs.Starting.{made_told, run_opening, run_writing}
use Rattle.checkpoint.proofs.fresh.fill_unused.Goals as goal

-- both banks have the image that was made
both_made : (e : Election) (ballots : List Ballot) (made : List ℕ) (now old : Option (List ℕ)) → made ≡ image_of e ballots → now ≡ option_map (overwritten 0 (made ++ made)) old
    → now ≡ option_map (overwritten 0 (image_of e ballots ++ image_of e ballots)) old
both_made e ballots made now old is written = subst (λ (xs : List ℕ). now ≡ option_map (overwritten 0 (xs ++ xs)) old) is written

pub open_both_gates-requires-clause-banks : goal.open_both_gates-requires-clause-banks
open_both_gates-requires-clause-banks g c y is =
    let e = c.args.election.now in
    let store = c.args.closed.now in
    let fits = stored_fits e store (sym c.requires.own) c.image.ensures.stored in
    let image = image_of e store.ballots in
    let long : length (image ++ image) ≡ 2 * bank_size e = omega (arith, length-append image image, fits.long) in
    let here = pages_begin (g.D.Disk.seen c.write_banks.new.disk) (g.D.Disk.seen c.args.disk.now) (image ++ image) 0 (2 * bank_size e) long (λ x _. omega arith) (both_made e store.ballots c.image.result.now (g.D.Disk.seen c.write_banks.new.disk) (g.D.Disk.seen c.args.disk.now) (c.image.ensures.image ∙ ap (λ (x : Election). image_of x store.ballots) c.requires.own) c.in_ok-write_banks.ensures.written) y is in
    omega (arith, here)

pub returns-in_err-write_banks-clause-any_moment : goal.returns-in_err-write_banks-clause-any_moment
returns-in_err-write_banks-clause-any_moment g c bytes sees =
    run_writing g.D.Disk.calls g.D.Disk.may_leave c.args.election.now c.args.closed.now.ballots bytes c.args.disk.now c.write_banks.new.disk c.write_banks.ensures.any_moment

pub returns-clause-medium : goal.returns-clause-medium
returns-clause-medium g c =
    let e = c.args.election.now in
    let store = c.args.closed.now in
    let fits = stored_fits e store (sym c.requires.own) c.image.ensures.stored in
    on_ok (g.D.Disk.seen c.open_both_gates.new.disk ≡ option_map (overwritten (2 * bank_size e) (open_gate ∷ open_gate ∷ [])) (g.D.Disk.seen c.write_banks.new.disk)) c.open_both_gates.result c.open_both_gates.ensures.written
    (made_told e (g.D.Disk.seen c.open_both_gates.new.disk) (g.D.Disk.seen c.write_banks.new.disk) (g.D.Disk.seen c.args.disk.now) store.ballots fits c.requires.unused
    (both_made e store.ballots c.image.result.now (g.D.Disk.seen c.write_banks.new.disk) (g.D.Disk.seen c.args.disk.now) (c.image.ensures.image ∙ ap (λ (x : Election). image_of x store.ballots) c.requires.own) c.in_ok-write_banks.ensures.written))

pub returns-clause-any_moment : goal.returns-clause-any_moment
returns-clause-any_moment g c bytes sees =
    let e = c.args.election.now in
    let store = c.args.closed.now in
    let fits = stored_fits e store (sym c.requires.own) c.image.ensures.stored in
    let image = image_of e store.ballots in
    let written = (both_made e store.ballots c.image.result.now (g.D.Disk.seen c.write_banks.new.disk) (g.D.Disk.seen c.args.disk.now) (c.image.ensures.image ∙ ap (λ (x : Election). image_of x store.ballots) c.requires.own) c.in_ok-write_banks.ensures.written) ∙ ap (option_map (overwritten 0 (image ++ image))) sees in
    run_opening g.D.Disk.calls g.D.Disk.may_leave e store.ballots bytes c.args.disk.now c.write_banks.new.disk c.open_both_gates.new.disk fits (c.requires.unused bytes sees)
    c.write_banks.ensures.any_moment (c.open_both_gates.ensures.any_moment (overwritten 0 (image ++ image) bytes) written)
