-- A ballot beside those that are held.
use Rattle.std.proofs.Common.{◌≡◌, ◌≢◌, ℕ, true, false, List, bytes_eq, get_or, Some, None, refl, sym, ap, ◌∙◌, subst}
use Rattle.store_spec.proofs.Common.{Ballot, Contains, Election, HasNumber, IsCellOf, IsElection, IsValid, ballot_bytes, ballot_of, bytes_eq-Decides, numbers_of}
use Rattle.std.specs.List.{slice_get}
use Rattle.std.specs.Prelude.{◌↔◌}
use Rattle.ballot_record.proofs.BallotLists.{number_at_place}
use Rattle.ballot_record.proofs.BallotSets.{listing_from_set}
use Rattle.ballot_record.proofs.CellFormat.{same_ballot}
use Rattle.ballot_record.proofs.Lookups.{found_in, found_once, missing_from}
use Rattle.body_store.specs.Contents.{Contents, IsStored}
use Rattle.phase_insert.specs.Gains.{IsMet}
use Rattle.phase_insert.specs.Tray.{AnotherHas, ComparesWithBase}
use Rattle.phase_insert.specs.declared.reply.CastReply.{CastReply}
use Rattle.phase_insert.specs.declared.reply.CastReply.TheVariants.{Accepted, Duplicate, Conflict, Taken, Full}

-- ---- the cell of a list and the cell of a store

-- the bytes of a ballot's cell, which stands at a place of a list
abbrev pub IsCellAt : Election → List Ballot → ℕ → List ℕ → Type 0
IsCellAt e ballots place cell = (b : Ballot) × (slice_get ballots place ≡ Some b) × IsCellOf e cell b

-- the bytes of the cell of a store's ballot with a number
abbrev pub IsHeldCell : Contents → ℕ → List ℕ → Type 0
IsHeldCell store number held = (b : Ballot) × (ballot_of store.ballots number ≡ Some b) × IsCellOf store.election held b

one_there : (ballots : List Ballot) (place : ℕ) (a b : Ballot) → slice_get ballots place ≡ Some a → slice_get ballots place ≡ Some b → a ≡ b
one_there ballots place a b first second = let both : Some a ≡ Some b = sym first ∙ second in cc

module _ (store : Contents) (e : Election) (own : e ≡ store.election) (ballots : List Ballot) (place number : ℕ) (cell : List ℕ) (is : IsCellAt e ballots place cell) (b : Ballot) (there : slice_get ballots place ≡ Some b) where
  cell_of_it : IsCellOf store.election cell b
  cell_of_it = subst (λ (e : Election). IsCellOf e cell b) own (subst (IsCellOf e cell) (one_there ballots place is.0 b is.1 there) is.2)

  pub valid_there : IsValid store.election b
  valid_there = cell_of_it.0

  module _ (named : number ≡ get_or (numbers_of ballots) place 0) where
    pub number_there : number ≡ b.number
    number_there = named ∙ number_at_place ballots place b there

    module _ (held : List ℕ) (has : IsHeldCell store number held) where
      found : ballot_of store.ballots b.number ≡ Some has.0
      found = ap (ballot_of store.ballots) (sym number_there) ∙ has.1

      -- equal bytes are the cells of one ballot
      pub same_held : IsElection e → bytes_eq held cell ≡ true → ballot_of store.ballots b.number ≡ Some b
      same_held election test =
          let same = same_ballot store.election has.0 b (subst IsElection own election) has.2.0 cell_of_it.0 (sym has.2.1 ∙ (bytes_eq-Decides held cell).0 test ∙ cell_of_it.1) in
          found ∙ ap (λ (b : Ballot). Some b) same

      -- and others are not
      pub other_held : bytes_eq held cell ≡ false → (other : Ballot) × (ballot_of store.ballots b.number ≡ Some other) × (other ≢ b)
      other_held test = (
        has.0,
        found,
        λ same.
            let holds : bytes_eq held cell ≡ true = (bytes_eq-Decides held cell).1 (has.2.1 ∙ ap (ballot_bytes store.election) same ∙ sym cell_of_it.1) in
            absurd cc,
      )

-- ---- a ballot and the one that is held with its number

pub holds_same : (base : List Ballot) (b : Ballot) → ballot_of base b.number ≡ Some b → Contains base b
holds_same base b held = (found_in base b.number b held).0

pub holds_other : (base : List Ballot) (a b : Ballot) → ballot_of base b.number ≡ Some a → a ≢ b → AnotherHas base b
holds_other base a b held other =
    let found = found_in base b.number a held in
    ((found.0).0, a, (found.0).1, (found.0).2, (found.1, other))

pub holds_none : (base : List Ballot) (number : ℕ) → ballot_of base number ≡ None → ¬ HasNumber base number
holds_none base number none h = missing_from base number none h.1 (h.0, h.2, h.3) h.4

-- what the claim words answer, where no held ballot has the number
pub compares_new : (base : List Ballot) (b : Ballot) (reply : CastReply) → IsMet reply → ballot_of base b.number ≡ None → ComparesWithBase base b reply
compares_new base b Accepted met none = holds_none base b.number none
compares_new base b Duplicate met none = absurd met
compares_new base b Conflict met none = absurd met
compares_new base b Taken met none = holds_none base b.number none
compares_new base b Full met none = holds_none base b.number none

-- ---- what a reply says, exactly

pub has_own_number : (base : List Ballot) (b : Ballot) → Contains base b → HasNumber base b.number
has_own_number base b c = (c.0, b, c.1, c.2, refl)

pub another_number : (base : List Ballot) (b : Ballot) → AnotherHas base b → HasNumber base b.number
another_number base b h = (h.0, h.1, h.2, h.3, (h.4).0)

-- of a set only one ballot has a number
pub alone : (store : Contents) → IsStored store → (a b : Ballot) → Contains store.ballots a → Contains store.ballots b → a.number ≡ b.number → a ≡ b
alone store h a b first second same =
    let distinct = (listing_from_set store.election store.ballots h.set).distinct in
    let one = found_once store.ballots b.number a distinct first same in
    let other = found_once store.ballots b.number b distinct second refl in
    let both : Some a ≡ Some b = sym one ∙ other in
    cc

not_both : (store : Contents) → IsStored store → (b : Ballot) → Contains store.ballots b → AnotherHas store.ballots b → ⊥
not_both store h b there another = (another.4).1 (alone store h another.1 b (another.0, another.2, another.3) there (another.4).0)

pub duplicate_exactly : (store : Contents) → IsStored store → (b : Ballot) (reply : CastReply) → ComparesWithBase store.ballots b reply → (reply ≡ Duplicate) ↔ Contains store.ballots b
duplicate_exactly store h b Accepted none = (λ e. absurd cc, λ there. absurd (none (has_own_number store.ballots b there)))
duplicate_exactly store h b Duplicate there = (λ e. there, λ c. refl)
duplicate_exactly store h b Conflict another = (λ e. absurd cc, λ there. absurd (not_both store h b there another))
duplicate_exactly store h b Taken none = (λ e. absurd cc, λ there. absurd (none (has_own_number store.ballots b there)))
duplicate_exactly store h b Full none = (λ e. absurd cc, λ there. absurd (none (has_own_number store.ballots b there)))

pub conflict_exactly : (store : Contents) → IsStored store → (b : Ballot) (reply : CastReply) → ComparesWithBase store.ballots b reply → (reply ≡ Conflict) ↔ AnotherHas store.ballots b
conflict_exactly store h b Accepted none = (λ e. absurd cc, λ another. absurd (none (another_number store.ballots b another)))
conflict_exactly store h b Duplicate there = (λ e. absurd cc, λ another. absurd (not_both store h b there another))
conflict_exactly store h b Conflict another = (λ e. another, λ c. refl)
conflict_exactly store h b Taken none = (λ e. absurd cc, λ another. absurd (none (another_number store.ballots b another)))
conflict_exactly store h b Full none = (λ e. absurd cc, λ another. absurd (none (another_number store.ballots b another)))
