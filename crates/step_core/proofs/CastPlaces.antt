-- Cells and hands: the cells stay ordered and the hands placed where one view changes, and where a number takes a cell
-- from a lower one. Nothing here asks for the claim words.
use Rattle.std.proofs.Common.{◌≡◌, ◌≢◌, ℕ, ◌<◌, ◌≤◌, ⊎_elim, List, length, get_or, set, ap, ◌∙◌, arith}
use Rattle.store_spec.proofs.Common.{All, All-set, All-weaker, ArePlaced, Carrying, CastState, CastView, HasSeen, IsHand, MayStand, Probing, Ready, Rest, cases_eq, get_or-set_other, get_or-set_same}
use Rattle.layout_def.proofs.StandsStill.{stands_still}
use Rattle.layout_def.proofs.Displaced.{displaced_ordered}

-- the cells stay as they are
pub placed_still : (home : ℕ → ℕ) (cells : List ℕ) (views : List CastView) (id : ℕ) (now : CastView) → ArePlaced home cells views → IsHand home cells now.state → HasSeen cells now.state → ArePlaced home cells (set views id now)
placed_still home cells views id now h hand seen = record {
  ordered = h.ordered;
  hands = All-set (λ view. IsHand home cells view.state) views id now hand h.hands;
  seen = All-set (λ view. HasSeen cells view.state) views id now seen h.seen;
}

-- ---- a number takes a cell from a lower one, or an empty one

raised : (cells : List ℕ) (place v k : ℕ) → place < length cells → get_or cells place 0 < v → get_or cells k 0 ≤ get_or (set cells place v) k 0
raised cells place v k within less = ⊎_elim
    (λ (e : k ≡ place).
    let new : get_or (set cells place v) k 0 ≡ v = ap (λ j. get_or (set cells place v) j 0) e ∙ get_or-set_same cells place v 0 within in
    let was : get_or cells k 0 ≡ get_or cells place 0 = ap (λ j. get_or cells j 0) e in
    omega arith)
    (λ (d : k ≢ place). let old = get_or-set_other cells place k v 0 d in omega arith)
    (cases_eq k place)

-- where no cell falls, each hand stays placed, and what was seen is no more than what stands there
hand_still : (home : ℕ → ℕ) (cells now : List ℕ) (state : CastState) → ((k : ℕ) → get_or cells k 0 ≤ get_or now k 0) → IsHand home cells state → IsHand home now state
hand_still home cells now Rest up h = h
hand_still home cells now (Probing x k) up h = h
hand_still home cells now (Carrying v i) up h = (h.0, stands_still home cells now v i up h.1)
hand_still home cells now (Ready v i s) up h = (h.0, stands_still home cells now v i up h.1)

seen_still : (cells now : List ℕ) (state : CastState) → ((k : ℕ) → get_or cells k 0 ≤ get_or now k 0) → HasSeen cells state → HasSeen now state
seen_still cells now Rest up h = h
seen_still cells now (Probing x k) up h = h
seen_still cells now (Carrying v i) up h = h
seen_still cells now (Ready v i s) up h = (h.0, omega (arith, h.1, up i))

pub placed_over : (home : ℕ → ℕ) (cells : List ℕ) (views : List CastView) (id place v : ℕ) (now : CastView) → ArePlaced home cells views → MayStand home cells v place → place < length cells → get_or cells place 0 < v → IsHand home (set cells place v) now.state → HasSeen (set cells place v) now.state → ArePlaced home (set cells place v) (set views id now)
placed_over home cells views id place v now h may within less hand seen =
    let new = set cells place v in
    let up = λ (k : ℕ). raised cells place v k within less in
    let hands : All (λ view. IsHand home new view.state) views =
    All-weaker (λ view. IsHand home cells view.state) (λ view. IsHand home new view.state) (λ view. hand_still home cells new view.state up) views h.hands in
    let seen_all : All (λ view. HasSeen new view.state) views =
    All-weaker (λ view. HasSeen cells view.state) (λ view. HasSeen new view.state) (λ view. seen_still cells new view.state up) views h.seen in
    record {
      ordered = displaced_ordered home cells v place h.ordered may within less;
      hands = All-set (λ view. IsHand home new view.state) views id now hand hands;
      seen = All-set (λ view. HasSeen new view.state) views id now seen seen_all;
    }
