use Rattle.std.proofs.Common.{◌≡◌, List, drop, length, sym, ap, subst, ◌∙◌}
use Rattle.store_spec.proofs.Common.{Ballot, IfOk-weaker, IsPermutation, IsPermutation-trans, append-nil, header_size, length-replicate}
use Rattle.body_store.proofs.BallotSets.{MayHold}
use Rattle.body_store.proofs.ByNumber.{by_number-IsPermutation}
use Rattle.body_store.proofs.Closed.from_records.Goals as goal
use Rattle.body_store.proofs.Keeping.{shown_anew, shown_by_number}
use Rattle.body_store.proofs.Relaying.{laid_size}
use Rattle.body_store.specs.ByNumber.{by_number}
use Rattle.body_store.specs.Contents.{Contents, all_listed}
use Rattle.body_store.specs.Held.{Shows, spelled_in}

pub changes_between-requires-clause-as_many : goal.changes_between-requires-clause-as_many
changes_between-requires-clause-as_many c =
    let e = c.args.election.now in
    let held : MayHold e c.args.ballots.now.ballots = record { listing = c.requires.listing; within_limit = c.requires.within_limit } in
    laid_size e c.args.ballots.now.ballots c.deref.result.now c.in_ok-cells.ensures.election held (c.deref.ensures.value ∙ c.in_ok-cells.ensures.cells)
    ∙ sym (ap length (c.deref-2.ensures.value ∙ c.in_ok-none.ensures) ∙ length-replicate c.cells.result 0 ∙ c.cells.ensures.count)

pub from_image-requires : goal.from_image-requires
from_image-requires c =
    let e = c.args.election.now in
    let rest = all_listed c.from_ref.result.now in
    let image = c.fill.new.image.items in
    let cells = c.in_ok-cells.cells.items in
    let shown = subst (Shows e rest image) c.deref-3.ensures.value c.in_ok-fill.ensures.shown in
    subst (λ (ballots : List Ballot). Shows e ballots image cells) (sym (shown_by_number e rest image cells shown))
    (shown_anew e rest (by_number rest) image cells (by_number-IsPermutation rest) shown)

pub returns-clause-same : goal.returns-clause-same
returns-clause-same c =
    let e = c.args.election.now in
    let rest = all_listed c.from_ref.result.now in
    let image = c.fill.new.image.items in
    let cells = c.in_ok-cells.cells.items in
    let ballots = c.args.ballots.now.ballots in
    let shown = subst (Shows e rest image) c.deref-3.ensures.value c.in_ok-fill.ensures.shown in
    let all : rest ≡ ballots = ap all_listed c.from_ref.ensures.value ∙ append-nil ballots in
    let spelled = by_number (spelled_in e cells (drop header_size image)) in
    let same = subst (λ (bs : List Ballot). IsPermutation rest bs) (sym (shown_by_number e rest image cells shown)) (by_number-IsPermutation rest) in
    let given = subst (λ (bs : List Ballot). IsPermutation bs spelled) all same in
    IfOk-weaker c.from_image.result _ _ (λ (store : Contents) kept. IsPermutation-trans ballots spelled store.ballots given kept) c.from_image.ensures.same
