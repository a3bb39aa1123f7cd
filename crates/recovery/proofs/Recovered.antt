-- A medium was recovered, and then a checkpoint follows.
use Rattle.std.proofs.Common.{◌≡◌, ℕ, List, Option, sym, ◌∙◌, subst}
use Rattle.store_spec.proofs.Common.{Ballot, Election, ForSome, IsMediumOf}
use Rattle.checkpoint.proofs.Pages.{told_back}
use Rattle.outside_io.specs.Told.{IfTold}

-- a disk that is the medium of a set now
pub medium_now : (e own : Election) (set : List Ballot) (old mid : Option (List ℕ)) → own ≡ e → IfTold old mid (λ _ y. IsMediumOf e y set)
    → ForSome mid (λ bytes. (was : List Ballot) × IsMediumOf own bytes was)
medium_now e own set old mid same told y is =
    let x = told_back old mid y told.told is in
    (set, subst (λ e. IsMediumOf e y set) (sym same) (told.related x.0 y x.1 is))

-- and that of another then
pub medium_then : (e own : Election) (set union : List Ballot) (old mid new : Option (List ℕ)) → own ≡ e → IfTold old mid (λ _ y. IsMediumOf e y set) → IfTold mid new (λ _ y. IsMediumOf own y union)
    → IfTold old new (λ _ y. IsMediumOf e y union)
medium_then e own set union old mid new same one two = record {
  told = two.told ∙ one.told;
  related = λ x z was is.
      let y = told_back mid new z two.told is in
      subst (λ e. IsMediumOf e z union) same (two.related y.0 z y.1 is);
}
