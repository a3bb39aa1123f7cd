use Rattle.std.proofs.Common.{◌≡◌, ◌∙◌, Bool, Global, List, Vec, ap, map, subst, ℕ}
use Rattle.store_spec.proofs.Common.{Ballot}
use Rattle.part_play.specs.Plays.{PlaysFindingInParts}
use Rattle.part_session.proofs.Found.{found_closes}
use Rattle.part_session.proofs.Stores.{election_before}
use Rattle.part_session.proofs.playing.find.Goals as goal
use Rattle.partition_store.specs.PartedKept.{sets_of}

pub returns-clause-store : goal.returns-clause-store
returns-clause-store g c =
    let store = c.args.store in
    let stores = c.into_parts-stores in
    let election = election_before store stores.result.items stores.ensures.sets stores.ensures.stores stores.ensures.parted in
    c.of_parts.ensures.store
    ∙ ap (λ e. record { election = e; bits = c.bits-bits.result; sets = sets_of stores.result.items }) election
    ∙ ap (λ (bits : ℕ). record { election = store.election; bits = bits; sets = sets_of stores.result.items }) c.bits-bits.ensures.bits
    ∙ ap (λ (sets : List (List Ballot)). record { election = store.election; bits = store.bits; sets = sets }) stores.ensures.sets

pub returns-clause-closes : goal.returns-clause-closes
returns-clause-closes g c =
    let store = c.args.store in
    let stores = c.into_parts-stores in
    let items : Vec Bool Global → List Bool = λ list. list.items in
    let work = map (λ (list : Vec ℕ Global). list.items) c.args.lists.now in
    let found = map items c.in_ok-found.found.items in
    let is : c.new-spread.result ≡ store.bits = c.new-spread.ensures ∙ c.bits-bits.ensures.bits in
    let sets : sets_of c.deref.result.now ≡ store.sets = ap sets_of c.deref.ensures.value ∙ stores.ensures.sets in
    let plays = subst (λ n. PlaysFindingInParts n (sets_of c.deref.result.now) work found) is c.in_ok-found.ensures in
    found_closes store.bits store.sets stores.ensures.parted.parts items work c.in_ok-found.found.items
    (subst (λ (all : List (List Ballot)). PlaysFindingInParts store.bits all work found) sets plays)
