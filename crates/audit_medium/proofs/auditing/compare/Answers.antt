use Rattle.std.proofs.Common.{◌≡◌, ℕ, List, Option, subst, ap, ◌∙◌}
use Rattle.store_spec.proofs.Common.{Ballot, Bank, Election, IfSome, bank_of, image_of}
use Rattle.bank_medium.specs.Banks.{bank_named, gate_of, place_of}
use Rattle.audit_medium.proofs.Comparing.{bank_told, canonical_told, gate_told}
use Rattle.recovery.proofs.Differences.{none_of}
use Rattle.recovery.specs.Differing.{IsFirstDifference}
use Rattle.audit_medium.proofs.auditing.compare.Goals as goal

-- the bytes of the bank that was read are the image of the set
agrees : (e : Election) (set : List Ballot) (other : Bank) (made : List ℕ) (first : Option ℕ) (seen : Option (List ℕ)) → made ≡ image_of e set
    → IfSome seen (λ bytes. IsFirstDifference (bank_of e other bytes) made first) → IfSome seen (λ bytes. IsFirstDifference (bank_of e other bytes) (image_of e set) first)
agrees e set other made first seen is differs = subst (λ (xs : List ℕ). IfSome seen (λ bytes. IsFirstDifference (bank_of e other bytes) xs first)) is differs

-- what is found under an election that is the store's
under : (e : Election) (seen : Option (List ℕ)) (other : Bank) (made : List ℕ) (first : Option ℕ) (f : Election) → f ≡ e
    → IfSome seen (λ bytes. IsFirstDifference (bank_of f other bytes) made first) → IfSome seen (λ bytes. IsFirstDifference (bank_of e other bytes) made first)
under e seen other made first f own differs = subst (λ (e : Election). IfSome seen (λ bytes. IsFirstDifference (bank_of e other bytes) made first)) own differs

pub returns-in-Some-clause-audited : goal.returns-in-Some-clause-audited
returns-in-Some-clause-audited g c =
    let e = c.args.closed.now.election in
    let store = c.args.closed.now in
    bank_told e store.ballots c.election-election.ensures.stored.election (bank_named c.args.bank) (bank_named c.other_of-other.result) c.other_of-other.ensures c.in_ok-first.first
    (g.D.Disk.seen c.args.disk.now) c.in-Some.at c.bank_place.result c.in-Some.is (c.bank_place.ensures.place ∙ ap (λ e. place_of e c.other_of-other.result) c.election-election.ensures.election) c.requires.read (agrees e store.ballots (bank_named c.other_of-other.result) c.image.result.now c.in_ok-first.first (g.D.Disk.seen c.args.disk.now) c.image.ensures.image (under c.args.closed.now.election (g.D.Disk.seen c.args.disk.now) (bank_named c.other_of-other.result) c.image.result.now c.in_ok-first.first c.election-election.result.now c.election-election.ensures.election c.in_ok-first.ensures.difference))

pub returns-then-open_too-clause-audited : goal.returns-then-open_too-clause-audited
returns-then-open_too-clause-audited g c =
    let e = c.args.closed.now.election in
    let store = c.args.closed.now in
    canonical_told e store.ballots c.election-election.ensures.stored.election (bank_named c.args.bank) (bank_named c.other_of-other.result) c.other_of-other.ensures c.in_ok-first.first
    (g.D.Disk.seen c.args.disk.now) c.args.open_too c.len-held.result (none_of c.in_ok-first.first c.in_default.not-Some) c.if-open_too.true c.len-held.ensures.count c.requires.read c.requires.gate (agrees e store.ballots (bank_named c.other_of-other.result) c.image.result.now c.in_ok-first.first (g.D.Disk.seen c.args.disk.now) c.image.ensures.image (under c.args.closed.now.election (g.D.Disk.seen c.args.disk.now) (bank_named c.other_of-other.result) c.image.result.now c.in_ok-first.first c.election-election.result.now c.election-election.ensures.election c.in_ok-first.ensures.difference))

pub returns-clause-audited : goal.returns-clause-audited
returns-clause-audited g c =
    let e = c.args.closed.now.election in
    let store = c.args.closed.now in
    gate_told e store.ballots c.election-election.ensures.stored.election (bank_named c.args.bank) (bank_named c.other_of-other.result) c.other_of-other.ensures c.in_ok-first.first
    (g.D.Disk.seen c.args.disk.now) c.args.open_too c.gate_place-place.result (none_of c.in_ok-first.first c.in_default.not-Some) c.if-open_too.false (c.gate_place-place.ensures ∙ ap (λ e. gate_of e c.other_of-other.result) c.election-election.ensures.election) c.requires.read c.requires.gate (agrees e store.ballots (bank_named c.other_of-other.result) c.image.result.now c.in_ok-first.first (g.D.Disk.seen c.args.disk.now) c.image.ensures.image (under c.args.closed.now.election (g.D.Disk.seen c.args.disk.now) (bank_named c.other_of-other.result) c.image.result.now c.in_ok-first.first c.election-election.result.now c.election-election.ensures.election c.in_ok-first.ensures.difference))
