-- What holds of the shared words of a casting phase between any two steps, over the cells, the claim words, the views of
-- all tabulators, and the base: the set that was held at the opening.
use Rattle.std.specs.Prelude.{◌≡◌, ◌≢◌, ℕ, ◌+◌, ◌<◌, ◌≤◌, ◌==◌, List, ◌++◌, length, take, drop, map, flat_map, count_by, slice_index, All, Contains, IsPermutation}
use Rattle.store_spec.specs.CastStep.{CastState, CastView, Table, claim_place}
use Rattle.store_spec.specs.CastStep.CastState.{Rest, Probing, Carrying, Ready}
use Rattle.store_spec.specs.Layout.{IsOrdered, MayStand, numbers_in}

-- Two lists hold the same numbers, each as often, in any order. 0 is no number.
pub record HoldSame (xs ys : List ℕ) : Type 0 where
  pub reordered : IsPermutation (numbers_in xs) (numbers_in ys)

-- how often a number stands in a list
abbrev pub count_of : ℕ → List ℕ → ℕ
count_of v xs = count_by (λ x. x == v) xs

-- no number stands twice
abbrev pub EachOnce : List ℕ → Type 0
EachOnce xs = (v : ℕ) → v ≢ 0 → count_of v xs ≤ 1

-- ---- cells and hands

-- the number that a tabulator has in hand, or 0
abbrev pub in_hand : CastState → ℕ
in_hand Rest = 0
in_hand (Probing x k) = 0
in_hand (Carrying v i) = v
in_hand (Ready v i s) = v

abbrev pub hands_of : List CastView → List ℕ
hands_of views = map (λ view. in_hand view.state) views

-- a number in hand is not 0, and may stand at its place
abbrev pub IsHand : (ℕ → ℕ) → List ℕ → CastState → Type 0
IsHand home cells Rest = Unit {0}
IsHand home cells (Probing x k) = Unit {0}
IsHand home cells (Carrying v i) = (v ≢ 0) × MayStand home cells v i
IsHand home cells (Ready v i s) = (v ≢ 0) × MayStand home cells v i

-- the word that was seen is less than the number in hand, and the cell holds no less by now
abbrev pub HasSeen : List ℕ → CastState → Type 0
HasSeen cells Rest = Unit {0}
HasSeen cells (Probing x k) = Unit {0}
HasSeen cells (Carrying v i) = Unit {0}
HasSeen cells (Ready v i s) = (s < v) × (s ≤ slice_index cells i)

pub record ArePlaced (home : ℕ → ℕ) (cells : List ℕ) (views : List CastView) : Type 0 where
  pub ordered : IsOrdered home cells
  pub hands : All (λ view. IsHand home cells view.state) views
  pub seen : All (λ view. HasSeen cells view.state) views

-- ---- claim words

abbrev pub accepted_of : List CastView → List ℕ
accepted_of views = flat_map (λ view. view.accepted) views

-- the claim word at a place holds a number other than x
pub record HoldsOther (claims : List ℕ) (x place : ℕ) : Type 0 where
  pub some : slice_index claims place ≢ 0
  pub other : slice_index claims place ≢ x

-- Each claimed number stands in the first claim word of its own order that was free: those before it are filled.
abbrev pub AreInOrder : ℕ → List ℕ → Type 0
AreInOrder count claims = (x tries before : ℕ) → x ≢ 0 → before < tries → tries < count
    → slice_index claims (claim_place x tries count) ≡ x → slice_index claims (claim_place x before count) ≢ 0

-- A number that is tried is not of the base, a claim word is left for it, and those tried hold others.
pub record IsTried (count : ℕ) (base claims : List ℕ) (x k : ℕ) : Type 0 where
  pub some : x ≢ 0
  pub not_held : ¬ Contains base x
  pub one_left : k < count
  pub others : (before : ℕ) → before < k → HoldsOther claims x (claim_place x before count)

abbrev pub IsProbing : ℕ → List ℕ → List ℕ → CastState → Type 0
IsProbing count base claims Rest = Unit {0}
IsProbing count base claims (Probing x k) = IsTried count base claims x k
IsProbing count base claims (Carrying v i) = Unit {0}
IsProbing count base claims (Ready v i s) = Unit {0}

-- a number, and a claim word holds it
abbrev pub IsClaimed : List ℕ → ℕ → Type 0
IsClaimed claims x = (x ≢ 0) × Contains claims x

-- a number found taken is claimed, and where the claim words were full for a number, each holds another
pub record HasMet (claims : List ℕ) (view : CastView) : Type 0 where
  pub taken : All (IsClaimed claims) view.taken
  pub full : All (λ x. (place : ℕ) → place < length claims → HoldsOther claims x place) view.full

pub record AreClaimed (count : ℕ) (base claims : List ℕ) (views : List CastView) : Type 0 where
  pub once : EachOnce (base ++ claims)
  pub accepted : HoldSame (accepted_of views) claims
  pub some : All (λ x. x ≢ 0) (accepted_of views)
  pub in_order : AreInOrder count claims
  pub probing : All (λ view. IsProbing count base claims view.state) views
  pub met : All (HasMet claims) views

-- ---- both

-- What the table and the base are like all the time: there is a cell for each home, each number of the base and each
-- claim word.
pub record HasRoomFor (t : Table) (base : List ℕ) : Type 0 where
  pub some : All (λ v. v ≢ 0) base
  pub homes : ℕ
  pub homed : (v : ℕ) → t.home v < homes
  pub room : homes + length base + t.claims ≤ t.cells

pub record CastInvariant (t : Table) (base words : List ℕ) (views : List CastView) : Type 0 where
  pub size : length words ≡ t.cells + t.claims
  pub placed : ArePlaced t.home (take t.cells words) views
  pub owned : HoldSame (take t.cells words ++ hands_of views) (base ++ drop t.cells words)
  pub claimed : AreClaimed t.claims base (drop t.cells words) views
