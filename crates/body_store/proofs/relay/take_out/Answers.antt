use Rattle.std.proofs.Common.{ℕ, ◌≡◌, ◌+◌, ◌-◌, ◌*◌, ◌<◌, ◌≤◌, List, ⊎_elim, get_or, take, drop, length, subst₂, sym, ap, ◌∙◌, arith, length-append}
use Rattle.store_spec.proofs.Common.{cell_size, get_or_default}
use Rattle.ballot_record.proofs.CellFormat.{header_width}
use Rattle.ballot_record.specs.declared.format.TheConstants.{HEADER_BYTES}
use Rattle.body_store.proofs.NewBallots.{length-front}
use Rattle.body_store.proofs.Planning.{IsAdded, sought_more}
use Rattle.body_store.specs.Moves.{arriving_bytes}
use Rattle.body_store.specs.declared.moves.Plan.{Plan}
use Rattle.layout_def.specs.declared.changes.CellChange.{CellChange}
use Rattle.body_store.proofs.relay.take_out.Goals as goal
use Rattle.body_store.proofs.relay.take_out.Goals.{then-change-ne0+in_ok-place, else-change-ne0}

-- so many bytes stand in front
front_size : (front count size cell : ℕ) → front ≡ count * cell → size ≡ cell → front ≡ count * size
front_size front count size cell long wide = long ∙ ap (λ n. count * n) (sym wide)

-- what a number of before adds to a plan, and the place for the next
abbrev IsTaken : (ℕ → List ℕ) → List ℕ → List ℕ → ℕ → Plan → ℕ → ℕ → Plan → ℕ → Type 0
IsTaken f cells front size was before number plan place =
    IsAdded f cells front was plan number × ((length front + length plan.bytes.items ≡ place * size) × (place ≤ before + 1))

pub loop-change-init : goal.loop-change-init
loop-change-init g c =
    let size = c.args.size in
    let long = length-front g.new c.requires.0 in
    record {
      right = c.requires.1.1.1.1.1.1.1.1.0;
      sought = λ k d lt. absurd (omega (arith, lt));
      still = λ _ noted. noted;
      place =
          let front : length (arriving_bytes g.new) ≡ c.args.front * size =
          front_size _ _ size _ (long ∙ ap (λ n. n * cell_size g.new.election) (sym c.requires.1.0)) c.requires.1.1.0 in
          omega (arith, front, ap length c.requires.1.1.1.1.1.1.1.1.1);
      few = omega arith;
    }

pub loop-change-preserved : goal.loop-change-preserved
loop-change-preserved g c =
    let cells = c.args.cells.now in
    let changes = c.args.changes.now in
    let front = arriving_bytes g.new in
    let f = g.new.bytes_of in
    let n = c.loop-change.change-index in
    let none : CellChange = record { cell = 0; number = 0 } in
    let one = get_or changes n none in
    let cell = one.cell in
    let was = c.loop-change.plan in
    let plan = c.if-change-ne0.plan in
    let before = c.loop-change.invariant in
    let size = c.args.size in
    let image = c.args.image.now in
    let at = HEADER_BYTES + cell * size in
    let own = take (at + size - at) (drop at image) in
    let known = c.requires.1.1.1.1.1.0.up_to.each n none c.loop-change-test.true in
    let within : cell < length cells = omega (arith, known.0, c.requires.1.1.1.1.1.0.as_many) in
    let bytes : own ≡ f one.number =
    ap (λ n. take n (drop at image)) (let all : at + size - at ≡ size = omega arith in all)
    ∙ ap (λ header. take size (drop (header + cell * size) image)) (sym header_width)
    ∙ c.requires.1.1.1.1.1.1.1.0 cell within
    ∙ ap f known.1 in
    let wide : length own ≡ size = ap length bytes ∙ c.requires.0.wide one.number ∙ sym c.requires.1.1.0 in
    let taken : IsTaken f cells front size was c.loop-change.place one.number plan c.if-change-ne0.place =
    elim c.if-change-ne0.branch [
      | then-change-ne0+in_ok-place w ↦
          let now = w.in_ok-place.ensures in
          subst₂ (λ (plan : Plan) place. IsTaken f cells front size was c.loop-change.place one.number plan place) (sym w.plan-is) (sym w.place-is) (
            record {
              right = now.right f front (before.place ∙ ap (λ n. c.loop-change.place * n) (sym wide)) bytes before.right;
              still = now.still;
              sought = λ _. now.sought;
            },
            ⊎_elim
                (λ kept. (omega (arith, before.place, ap length kept.1, ap (λ n. n * size) kept.0), omega (arith, kept.0)))
                (λ more.
                let next : (c.loop-change.place + 1) * size ≡ c.loop-change.place * size + size = omega arith in
                (omega (arith, before.place, ap length more.1, length-append was.bytes.items own, wide, next, ap (λ n. n * size) more.0), omega (arith, more.0)))
                now.next,
          )
      | else-change-ne0 w ↦
          subst₂ (λ (plan : Plan) place. IsTaken f cells front size was c.loop-change.place one.number plan place) (sym w.plan-is) (sym w.place-is) (
            record { right = before.right; still = λ _ noted. noted; sought = λ some. absurd (some w.if-change-ne0.false) },
            (before.place, omega arith),
          )
    ] in
    record {
      right = taken.0.right;
      sought = sought_more cells was plan changes n one before.sought taken.0.still (λ d lt. get_or_default changes n d none lt) taken.0.sought;
      still = λ k noted. taken.0.still k (before.still k noted);
      place = taken.1.0;
      few = omega (arith, taken.1.1, before.few);
    }

pub add-requires : goal.add-requires
add-requires g c =
    let new = c.requires.0.few in
    let changes = c.requires.1.1.1.1.1.0 in
    record {
      some = c.if-change-ne0.true;
      ordered = c.requires.1.1.1.0;
      few_cells = c.requires.1.1.1.1.0;
      short = omega (arith, new, c.requires.1.0, c.loop-change.invariant.few, c.loop-change-test.true, changes.up_to.few, changes.as_many, c.requires.1.1.1.1.0);
    }
