-- What a contract sees of an election's contests and styles, and where they are kept.
use Rattle.std.proofs.Common.{◌≡◌, ℕ, zero, suc, ◌<◌, ◌≤◌, List, [], ◌∷◌, length, get_or, take, map, Some, refl, ap, sym, ◌∙◌, arith}
use Rattle.store_spec.proofs.Common.{Election, length-map, length-take-le, slice_get}
use Rattle.std.specs.Prelude.{All}
use Rattle.ballot_record.specs.declared.contest.Contest.{Contest}
use Rattle.ballot_record.specs.Contest.{contest_of, contests_of}
use Rattle.ballot_record.specs.Kept.{election_of, IsKept}
use Rattle.ballot_record.specs.declared.election.Election.TheInside.{Inside}

pub contest_count : (a : Inside) (e : Election) → IsKept a → election_of a ≡ e → length e.contests ≡ a.contest_count
contest_count a e kept seen =
    ap (λ (e : Election). length e.contests) (sym seen) ∙ length-map (take a.contest_count a.contests) contest_of
    ∙ length-take-le a.contest_count a.contests (omega (arith, kept.contest_places, kept.contest_count))

pub contest_count_of : (contests : List Contest) (n : ℕ) → n ≤ length contests → length (take n contests) ≡ n
contest_count_of contests n within = length-take-le n contests within

pub style_count : (a : Inside) (e : Election) → IsKept a → election_of a ≡ e → length e.styles ≡ a.style_count
style_count a e kept seen =
    ap (λ (e : Election). length e.styles) (sym seen)
    ∙ length-take-le a.style_count a.styles (omega (arith, kept.style_places, kept.style_count))

-- the contest at a place of the front
pub contest_at : (contests : List Contest) (n i : ℕ) (d : Contest) → i < n → n ≤ length contests → slice_get (contests_of (take n contests)) i ≡ Some (contest_of (get_or contests i d))
contest_at [] n i d before within = absurd (omega arith)
contest_at (contest ∷ contests) zero i d before within = absurd (omega arith)
contest_at (contest ∷ contests) (suc n) zero d before within = refl
contest_at (contest ∷ contests) (suc n) (suc i) d before within = contest_at contests n i d (omega arith) (omega arith)

-- and back from the images of the elements to the elements
pub All-unmap : {X Y : Type 0} (f : X → Y) (P : Y → Type 0) (xs : List X) → All P (map f xs) → All (λ x. P (f x)) xs
All-unmap f P [] all k d below = absurd (omega arith)
All-unmap f P (x ∷ xs) all zero d below = all zero (f x) (omega arith)
All-unmap f P (x ∷ xs) all (suc k) d below = All-unmap f P xs (λ i e within. all (suc i) e (omega arith)) k d (omega arith)
