use Rattle.std.proofs.Common.{◌≡◌, ◌++◌, ◌≤◌, Bool, true, List, ℕ, length, if◌then◌else◌, sym, ap, subst, ◌∙◌, arith}
use Rattle.store_spec.proofs.Common.{Election, IsElection, bank_size, err_from_is_err_and}
use Rattle.image_builder.proofs.reader.ImageReader.feed.Goals as goal
use Rattle.image_builder.specs.Cells.{AreJudged}
use Rattle.image_builder.specs.Feeding.{Feeding, IsFront}
use Rattle.image_builder.specs.Kept.{IsKept, feeding_of}
use Rattle.image_builder.specs.declared.reader.ImageReader.TheInside.{Inside}

-- what was judged is that of the election given, and of the bytes that were fed
record IsOwn (e : Election) (a : Inside) (fed : List ℕ) : Type 0 where
  election : IsElection e
  judged : AreJudged e a.cells fed
  is : a.image.items ≡ fed

own : (e : Election) (a : Inside) (before : Feeding) → feeding_of a ≡ before → e ≡ before.election → IsKept a → IsOwn e a before.fed
own e a before view same kept =
    let one : a.election.value ≡ e = ap (λ (f : Feeding). f.election) view ∙ sym same in
    let fed : a.image.items ≡ before.fed = ap (λ (f : Feeding). f.fed) view in
    record {
      election = subst (λ (e : Election). IsElection e) one kept.election;
      judged = subst (λ (bytes : List ℕ). AreJudged e a.cells bytes) fed (subst (λ (e : Election). AreJudged e a.cells a.image.items) one kept.judged);
      is = fed;
    }

-- there was room for the bytes
joined : (fed bytes image items : List ℕ) (fits ok : Bool) → image ≡ fed → items ≡ (if ok then image ++ bytes else image) → fits ≡ ok → fits ≡ true → items ≡ fed ++ bytes
joined fed bytes image items fits ok is put same fit =
    subst (λ (b : Bool). items ≡ (if b then image ++ bytes else image)) (sym same ∙ fit) put ∙ ap (λ (xs : List ℕ). xs ++ bytes) is

pub judge-requires : goal.judge-requires
judge-requires c =
    let is = own c.args.election.now c.self.inside c.args.self c.self.view_is c.requires.own c.self.invariant in
    let all = c.deref.ensures.value ∙ joined c.args.self.fed c.args.bytes.now c.self.inside.image.items c.extend_from_slice.new.self.items c.is_ok-fits.result _ is.is c.extend_from_slice.ensures.items c.is_ok-fits.ensures.value c.if-prove.false in
    record {
      judged = (c.args.self.fed, c.args.bytes.now, is.judged, all);
      within = subst (λ (xs : List ℕ). length xs ≤ bank_size c.args.election.now) (sym all) c.requires.within;
      election = is.election;
    }

pub returns-in_err-judge-clause-refused : goal.returns-in_err-judge-clause-refused
returns-in_err-judge-clause-refused c =
    let is = own c.args.election.now c.self.inside c.args.self c.self.view_is c.requires.own c.self.invariant in
    let all = c.deref.ensures.value ∙ joined c.args.self.fed c.args.bytes.now c.self.inside.image.items c.extend_from_slice.new.self.items c.is_ok-fits.result _ is.is c.extend_from_slice.ensures.items c.is_ok-fits.ensures.value c.if-prove.false in
    let p = err_from_is_err_and c.from_residual.result c.from_residual.ensures.1 in
    rw (p.1, p.2) (c.in_err-judge.ensures.refused c.args.self.fed c.args.bytes.now is.judged all)

pub returns-clause-fed : goal.returns-clause-fed
returns-clause-fed c =
    let a = c.self.inside in
    let is = own c.args.election.now a c.args.self c.self.view_is c.requires.own c.self.invariant in
    let all = joined c.args.self.fed c.args.bytes.now a.image.items c.extend_from_slice.new.self.items c.is_ok-fits.result _ is.is c.extend_from_slice.ensures.items c.is_ok-fits.ensures.value c.if-prove.false in
    let same : a.election.value ≡ c.args.election.now = ap (λ (f : Feeding). f.election) c.self.view_is ∙ sym c.requires.own in
    let feeding : Election → List ℕ → Feeding = λ e fed. record { election = e; fed = fed } in
    ap (feeding a.election.value) all ∙ ap (λ e. feeding e (c.args.self.fed ++ c.args.bytes.now)) same

pub invariant_of-result : goal.invariant_of-result
invariant_of-result c =
    let a = c.self.inside in
    let is = own c.args.election.now a c.args.self c.self.view_is c.requires.own c.self.invariant in
    let now = c.extend_from_slice.new.self.items in
    let all = joined c.args.self.fed c.args.bytes.now a.image.items now c.is_ok-fits.result _ is.is c.extend_from_slice.ensures.items c.is_ok-fits.ensures.value c.if-prove.false in
    let same : a.election.value ≡ c.args.election.now = ap (λ (f : Feeding). f.election) c.self.view_is ∙ sym c.requires.own in
    let judged : AreJudged c.args.election.now c.judge.new.self now = subst (λ (bytes : List ℕ). AreJudged c.args.election.now c.judge.new.self bytes) c.deref.ensures.value c.in_ok-judge.ensures.judged in
    record {
      election = c.self.invariant.election;
      judged = subst (λ (e : Election). AreJudged e c.judge.new.self now) (sym same) judged;
      within = subst (λ (e : Election). length now ≤ bank_size e) (sym same) (subst (λ (xs : List ℕ). length xs ≤ bank_size c.args.election.now) (sym all) c.requires.within);
      room = omega (arith, c.self.invariant.room, c.extend_from_slice.ensures.capacity);
    }

pub returns-clause-front : goal.returns-clause-front
returns-clause-front c =
    let is = own c.args.election.now c.self.inside c.args.self c.self.view_is c.requires.own c.self.invariant in
    let all = c.deref.ensures.value ∙ joined c.args.self.fed c.args.bytes.now c.self.inside.image.items c.extend_from_slice.new.self.items c.is_ok-fits.result _ is.is c.extend_from_slice.ensures.items c.is_ok-fits.ensures.value c.if-prove.false in
    subst (λ (bytes : List ℕ). IsFront c.args.election.now bytes) all c.in_ok-judge.ensures.front
