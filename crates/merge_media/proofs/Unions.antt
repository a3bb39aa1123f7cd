-- The laws of unions.
use Rattle.std.proofs.Common.{◌≡◌, ℕ, ⊎_elim, List, ◌∷◌, Option, Some, None, Result, Ok, Err, refl, sym, subst, ◌∙◌, arith}
use Rattle.store_spec.proofs.Common.{Ballot, Contains, Contains-permutation, IfOk, IsPermutation}
use Rattle.std.specs.Prelude.{◌↔◌}
use Rattle.ballot_record.proofs.BallotSets.{Ascend, same_in_order, same_members}
use Rattle.ballot_record.proofs.Lookups.{AreDistinct, found_once}
use Rattle.body_store.specs.Contents.{Contents, IsStored}
use Rattle.merge_media.proofs.Joining.{joined_union}
use Rattle.merge_media.proofs.Standing.{StandsWithin, stands_cases}
use Rattle.merge_media.specs.Union.{Agree, IsJoinedOf, IsUnion, StandsInOne}

pub union_same : (xs ys : List (List Ballot)) (union : List Ballot) → StandsWithin xs ys → StandsWithin ys xs → IsUnion xs union → IsUnion ys union
union_same xs ys union there back is = record {
  each = λ b stands. is.each b (back b stands);
  only = λ b c. there b (is.only b c);
  ascending = is.ascending;
}

pub permuted : (xs ys : List (List Ballot)) → IsPermutation xs ys → StandsWithin xs ys
permuted xs ys p b stands = (stands.0, Contains-permutation xs ys stands.0 p stands.1, stands.2)

pub repeated : (sets : List (List Ballot)) (set : List Ballot) → Contains sets set → StandsWithin (set ∷ sets) sets
repeated sets set c b stands = ⊎_elim (λ here. (set, c, here)) (λ other. other) (stands_cases set sets b stands)

-- of two ballots with one number in a list in ascending order, both are one
one_with : (ballots : List Ballot) (a b : Ballot) → Ascend ballots → Contains ballots a → Contains ballots b → a.number ≡ b.number → a ≡ b
one_with ballots a b up x y same =
    let apart : AreDistinct ballots = λ i j d less within is. let above = up i j d less within in omega arith in
    let both : Some a ≡ Some b = sym (found_once ballots b.number a apart x same) ∙ found_once ballots b.number b apart y refl in
    cc

pub union_agrees : (sets : List (List Ballot)) (union : List Ballot) → IsUnion sets union → Agree sets
union_agrees sets union is n d =
    d.differ (one_with union d.one d.other is.ascending (is.each d.one d.one_stands) (is.each d.other d.other_stands) (d.one_number ∙ sym d.other_number))

pub one_union : (sets : List (List Ballot)) (a b : List Ballot) → IsUnion sets a → IsUnion sets b → a ≡ b
one_union sets a b x y =
    same_members a b x.ascending y.ascending (λ c here. y.each c (x.only c here)) (λ c here. x.each c (y.only c here))

pub split_union : (parts : List (List Ballot)) (set : List Ballot) → Ascend set → ((b : Ballot) → StandsInOne parts b ↔ Contains set b) → IsUnion parts set
split_union parts set up split = record {
  each = λ b stands. (split b).0 stands;
  only = λ b c. (split b).1 c;
  ascending = up;
}

-- ---- the store that is made of what is kept

pub closed_same : {E : Type 0} (r : Result Contents E) (kept : List Ballot) → Ascend kept → IfOk r (λ store. IsPermutation kept store.ballots) → IfOk r IsStored
    → IfOk r (λ store. store.ballots ≡ kept)
closed_same (Ok store) kept up same stored = sym (same_in_order kept store.ballots up stored.set.ascending same)
closed_same (Err e) kept up same stored = tt

pub closed_union : {E : Type 0} (r : Result Contents E) (kept : List Ballot) (dispute : Option ℕ) → dispute ≡ None → IfOk r (λ store. store.ballots ≡ kept)
    → IfOk r (λ store. (sets : List (List Ballot)) → IsJoinedOf sets kept dispute → IsUnion sets store.ballots)
closed_union (Ok store) kept dispute none same =
    λ sets j. subst (IsUnion sets) (sym same) (joined_union sets kept (subst (IsJoinedOf sets kept) none j))
closed_union (Err e) kept dispute none same = tt
