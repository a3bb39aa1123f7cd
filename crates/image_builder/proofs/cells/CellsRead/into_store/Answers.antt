use Rattle.std.proofs.Common.{◌≡◌, List, ℕ, length, Result, Ok, Err, IfOk, ap, subst, ◌∙◌, arith}
use Rattle.store_spec.proofs.Common.{Ballot, Election, IfOk-weaker, IsBallotSet, IsElection, IsImageOf, IsPermutation, IsWithinLimit, bank_size}
use Rattle.body_store.proofs.Listings.{image_of-IsPermutation}
use Rattle.body_store.specs.Contents.{Contents, IsStored}
use Rattle.body_store.specs.Held.{Shows}
use Rattle.image_builder.proofs.Judged.{first_header, judged_whole}
use Rattle.image_builder.proofs.cells.CellsRead.into_store.Goals as goal
use Rattle.image_builder.specs.Cells.{AreJudged, numbers_read, spelled_ballots}
use Rattle.image_builder.specs.declared.cells.CellsRead.{CellsRead}

shown : (e : Election) (cells : CellsRead) (bank : List ℕ) → IsElection e → AreJudged e cells bank → length bank ≡ bank_size e → Shows e (spelled_ballots e (numbers_read cells) bank) bank (numbers_read cells)
shown e cells bank election judged whole =
    let first = judged.first (omega (arith, whole)) in
    judged_whole e (numbers_read cells) cells.reaches.items bank election first (judged.short (omega (arith, whole))) whole

-- a store that holds what is shown
image_held : (e : Election) (ballots : List Ballot) (bank numbers : List ℕ) (store : Contents) → Shows e ballots bank numbers → store.election ≡ e → IsPermutation ballots store.ballots → IsStored store → IsImageOf e bank store.ballots
image_held e ballots bank numbers store shown same order stored = record {
  set = subst (λ (e : Election). IsBallotSet e store.ballots) same stored.set;
  within_limit = subst (λ (e : Election). IsWithinLimit e store.ballots) same stored.within_limit;
  bytes = shown.image ∙ image_of-IsPermutation e ballots store.ballots shown.listing.distinct order;
}

pub from_image-requires : goal.from_image-requires
from_image-requires c = shown c.args.election.now c.args.self c.args.bank.items c.contests.ensures.valid c.requires.judged c.requires.whole

image_told : {E : Type 0} (e : Election) (ballots : List Ballot) (bank numbers : List ℕ) (r : Result Contents E) → Shows e ballots bank numbers → IfOk r (λ store. store.election ≡ e) → IfOk r (λ store. IsPermutation ballots store.ballots) → IfOk r IsStored
    → IfOk r (λ store. IsImageOf e bank store.ballots)
image_told e ballots bank numbers (Ok store) shown same order stored = image_held e ballots bank numbers store shown same order stored
image_told e ballots bank numbers (Err memory) shown same order stored = tt

pub returns-clause-image : goal.returns-clause-image
returns-clause-image c =
    let e = c.args.election.now in
    let bank = c.args.bank.items in
    let numbers = numbers_read c.args.self in
    let made = c.from_image.ensures in
    image_told e (spelled_ballots e numbers bank) bank numbers c.from_image.result (shown e c.args.self bank c.contests.ensures.valid c.requires.judged c.requires.whole)
    (IfOk-weaker c.from_image.result _ _ (λ store is. ap (λ (store : Contents). store.election) is) made.contents) made.same made.stored

pub returns-clause-header : goal.returns-clause-header
returns-clause-header c =
    first_header c.args.election.now (numbers_read c.args.self) c.args.self.reaches.items c.args.bank.items (c.requires.judged.first (omega (arith, c.requires.whole)))
