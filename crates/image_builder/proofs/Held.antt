-- Bytes hold one thing.
use Rattle.std.proofs.Common.{◌≡◌, ℕ, List, Option, Some, None, refl, sym, ◌∙◌, ap, subst, length}
use Rattle.store_spec.proofs.Common.{A, B, Ballot, Bank, Election, Holds, HoldsSet, IsBallotSet, IsChosen, IsElection, IsMediumOf, IsWithinLimit, bank_of, bank_size, image_of}
use Rattle.body_store.proofs.BallotSets.{may_hold_set}
use Rattle.body_store.proofs.Images.{length-image_of}
use Rattle.image_builder.proofs.MediumParts.{AreBoth, both_of, both_is}
use Rattle.image_builder.proofs.OneSet.{one_set}

-- one bank is read
pub one_bank : (e : Election) (bytes : List ℕ) (a b : Bank) → IsChosen e bytes a → IsChosen e bytes b → a ≡ b
one_bank e bytes A A one two = refl
one_bank e bytes A B one two = absurd (two.0 one)
one_bank e bytes B A one two = absurd (one.0 two)
one_bank e bytes B B one two = refl

one_held_set : (e : Election) (bytes : List ℕ) (xs ys : List Ballot) → IsElection e → HoldsSet e bytes xs → HoldsSet e bytes ys → xs ≡ ys
one_held_set e bytes xs ys election one two =
    let same : bank_of e one.bank bytes ≡ bank_of e two.bank bytes = ap (λ (b : Bank). bank_of e b bytes) (one_bank e bytes one.bank two.bank one.chosen two.chosen) in
    one_set e xs ys election one.image.set one.image.within_limit two.image.set two.image.within_limit (sym one.image.bytes ∙ same ∙ two.image.bytes)

pub one_held : (e : Election) (bytes : List ℕ) (a b : Option (List Ballot)) → IsElection e → Holds e bytes a → Holds e bytes b → a ≡ b
one_held e bytes None None election one two = refl
one_held e bytes None (Some ys) election one two = absurd (one ys two)
one_held e bytes (Some xs) None election one two = absurd (two xs one)
one_held e bytes (Some xs) (Some ys) election one two = ap Some (one_held_set e bytes xs ys election one two)

-- the image of a set is as long as a bank
pub image_fits : (e : Election) (ballots : List Ballot) → IsElection e → IsBallotSet e ballots → IsWithinLimit e ballots → length (image_of e ballots) ≡ bank_size e
image_fits e ballots election set few = length-image_of e ballots election (may_hold_set e ballots set few)

-- the parts of the medium of a set
pub medium_parts : (e : Election) (bytes : List ℕ) (ballots : List Ballot) → IsElection e → IsMediumOf e bytes ballots → AreBoth e (image_of e ballots) bytes
medium_parts e bytes ballots election is =
    subst (λ (xs : List ℕ). AreBoth e (image_of e ballots) xs) (sym is.bytes) (both_of e (image_of e ballots) (image_fits e ballots election is.set is.within_limit))

-- and back
pub parts_medium : (e : Election) (bytes : List ℕ) (ballots : List Ballot) → IsBallotSet e ballots → IsWithinLimit e ballots → AreBoth e (image_of e ballots) bytes → IsMediumOf e bytes ballots
parts_medium e bytes ballots set few both = record { set = set; within_limit = few; bytes = both_is e (image_of e ballots) bytes both }

pub medium_holds : (e : Election) (bytes : List ℕ) (ballots : List Ballot) → IsElection e → IsMediumOf e bytes ballots → HoldsSet e bytes ballots
medium_holds e bytes ballots election is =
    let both = medium_parts e bytes ballots election is in
    record {
      size = both.size;
      bank = A;
      chosen = both.gates A;
      image = record { set = is.set; within_limit = is.within_limit; bytes = both.banks A };
    }
