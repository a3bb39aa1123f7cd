-- The image of a set, whichever way its ballots are listed.
use Rattle.std.proofs.Common.{◌≡◌, ℕ, List, [], ◌∷◌, ◌++◌, replicate, refl, sym, ap, ◌∙◌}
use Rattle.store_spec.proofs.Common.{Ballot, Contains-permutation, Election, IsListing, IsPermutation, IsPermutation-sym, ballot_bytes, ballot_of, cell_bytes, cell_size, cells_of, flat_map, flat_map-cons, header_of, image_of, option_map_or}
use Rattle.ballot_record.proofs.BallotSets.{members-IsPermutation}
use Rattle.ballot_record.proofs.Lookups.{AreDistinct, AreAmong, ballot_of-same}
use Rattle.body_store.proofs.BallotSets.{cells_of-IsPermutation}

flat_map-same : (f g : ℕ → List ℕ) (xs : List ℕ) → ((x : ℕ) → f x ≡ g x) → flat_map f xs ≡ flat_map g xs
flat_map-same f g [] same = refl
flat_map-same f g (x ∷ xs) same =
    flat_map-cons f x xs ∙ ap (λ bytes. bytes ++ flat_map f xs) (same x) ∙ ap (λ bytes. g x ++ bytes) (flat_map-same f g xs same) ∙ sym (flat_map-cons g x xs)

image_of-same : (e : Election) (xs ys : List Ballot) → cells_of e xs ≡ cells_of e ys → ((number : ℕ) → ballot_of xs number ≡ ballot_of ys number) → image_of e xs ≡ image_of e ys
image_of-same e xs ys cells found =
    let same = λ (number : ℕ). ap (λ o. option_map_or (ballot_bytes e) o (replicate (cell_size e) 0)) (found number) in
    ap (λ bytes. header_of e ++ bytes) (flat_map-same (cell_bytes e xs) (cell_bytes e ys) (cells_of e xs) same ∙ ap (flat_map (cell_bytes e ys)) cells)

pub image_of-IsPermutation : (e : Election) (xs ys : List Ballot) → AreDistinct xs → IsPermutation xs ys → image_of e xs ≡ image_of e ys
image_of-IsPermutation e xs ys distinct p =
    image_of-same e xs ys (cells_of-IsPermutation e xs ys p)
    (λ number. ballot_of-same xs ys number distinct (λ b c. Contains-permutation xs ys b p c) (λ b c. Contains-permutation ys xs b (IsPermutation-sym xs ys p) c))

pub image_of-members : (e : Election) (xs ys : List Ballot) → IsListing e xs → IsListing e ys → AreAmong xs ys → AreAmong ys xs → image_of e xs ≡ image_of e ys
image_of-members e xs ys first second there back = image_of-IsPermutation e xs ys first.distinct (members-IsPermutation e xs ys first second there back)
