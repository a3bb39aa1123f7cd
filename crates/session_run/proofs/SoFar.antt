-- A session so far.
use Rattle.std.proofs.Common.{◌≡◌, ℕ, ◌+◌, List, [], ◌∷◌, ◌++◌, length, Option, Some, None, arith, ap, sym, subst, ◌∙◌, ⊎_elim, length-append}
use Rattle.store_spec.proofs.Common.{AnswersBy, Ballot, Cast, CastInvalid, Casting, Checkpoint, Close, Closes, Effect, Election, Export, Find, Finding, IsElection, Open, PlaysBy, Says, ScriptLine, State, Tally, Withdraw, Withdrawing, acknowledged_in, append-nil, append_assoc, begun, flat_map-append}
use Rattle.std.specs.Option.{option_map}
use Rattle.outside_io.specs.Stream.{TakesAll}
use Rattle.phase_gate.specs.Around.{Around}
use Rattle.any_store.specs.Disks.{StoreModel}
use Rattle.phase_gate.specs.Beside.{AddsRow}
use Rattle.phase_gate.specs.LineEnds.{IsHandled}
use Rattle.session_run.proofs.Acknowledging.{acknowledged_then}
use Rattle.session_run.proofs.Plays.{one_more}
use Rattle.session_run.specs.History.{AreAcknowledged, written_by}

-- these lines were handled, one after another, and their replies written
pub record SoFar {K D : Type 0} (model : StoreModel D) (write : List ℕ → List ℕ) (e : Election) (set : List Ballot)
    (lines : List (Option (List ℕ))) (state : State) (index : ℕ) (before now : Around K D) : Type 0 where
  pub effects : List Effect
  pub plays : PlaysBy (model.closes e) e 1 (begun set) lines effects state
  pub counted : index ≡ length lines
  pub taken : TakesAll before.sink.taken (written_by write effects) now.sink.taken
  pub acknowledged : AreAcknowledged model.disks e set (acknowledged_in effects) before.disk now.disk now.marks now.others
  pub held : now.held ≡ length state.set
  pub no_fault : now.sink.faults ≡ before.sink.faults

-- a sink that took some bytes and then others
pub taken_then : (was mid now : Option (List ℕ)) (first second : List ℕ) → TakesAll was first mid
    → TakesAll mid second now → TakesAll was (first ++ second) now
taken_then None mid now first second a b = b ∙ ap (option_map (λ front. front ++ second)) a
taken_then (Some x) mid now first second a b =
    b ∙ ap (option_map (λ front. front ++ second)) a ∙ ap Some (append_assoc x first second)

-- no line is said by no bytes
pub nothing_says : (e : Election) (line : ScriptLine) → Says e [] line → ⊥
nothing_says e (Open Casting tabs) says = cc
nothing_says e (Open Withdrawing tabs) says = cc
nothing_says e (Open Finding tabs) says = cc
nothing_says e (Cast tab b) says = cc
nothing_says e (CastInvalid tab) says = cc
nothing_says e (Withdraw tab number) says = cc
nothing_says e (Find tab number) says = cc
nothing_says e Close says = cc
nothing_says e Checkpoint says = cc
nothing_says e Tally says = cc
nothing_says e Export says = cc

-- a line that is too wide is answered as an empty one
pub answers_wide : (closes : Closes) (e : Election) (n : ℕ) (s : State) (effect : Effect)
    → AnswersBy closes e n s (Some []) effect → AnswersBy closes e n s None effect
answers_wide closes e n s effect answers =
    ⊎_elim (λ malformed. malformed.1) (λ says. absurd (nothing_says e says.0 says.1)) answers

-- the line that was taken, and what was handed to the session for it
pub data IsHanded : Option (List ℕ) → List ℕ → Type 0 where
  whole : (bytes : List ℕ) → IsHanded (Some bytes) bytes
  wide : IsHanded None []

pub answers_handed : (closes : Closes) (e : Election) (n : ℕ) (s : State) (line : Option (List ℕ)) (bytes : List ℕ) (effect : Effect)
    → IsHanded line bytes → AnswersBy closes e n s (Some bytes) effect → AnswersBy closes e n s line effect
answers_handed closes e n s _ _ effect (whole bytes) answers = answers
answers_handed closes e n s _ _ effect wide answers = answers_wide closes e n s effect answers

-- one line more
pub handled_more : {K D : Type 0} (model : StoreModel D) (write : List ℕ → List ℕ) (e : Election) (set : List Ballot)
    (lines : List (Option (List ℕ))) (state next : State) (index : ℕ) (before mid now : Around K D)
    (line : Option (List ℕ)) (bytes : List ℕ) (begun_with : Option (ℕ × ℕ))
    → IsElection e → IsHanded line bytes → SoFar model write e set lines state index before mid
    → IsHandled model write e (index + 1) state bytes next mid now
    → AddsRow model.disks now.disk begun_with mid.marks now.marks mid.others now.others
    → SoFar model write e set (lines ++ line ∷ []) next (index + 1) before now
handled_more model write e set lines state next index before mid now line bytes begun_with election handed so_far did adds =
    let effect = did.effect in
    let is : index + 1 ≡ 1 + length lines = omega (arith, so_far.counted) in
    let answers = subst (λ n. AnswersBy (model.closes e) e n state line effect) is
    (answers_handed (model.closes e) e (index + 1) state line bytes effect handed did.answers) in
    record {
      effects = so_far.effects ++ effect ∷ [];
      plays = subst (λ (s : State). PlaysBy (model.closes e) e 1 (begun set) (lines ++ line ∷ []) (so_far.effects ++ effect ∷ []) s)
          (sym did.next_state) (one_more (model.closes e) e 1 (begun set) lines so_far.effects state line effect so_far.plays answers);
      counted = omega (arith, so_far.counted, length-append lines (line ∷ []));
      taken = subst (λ bytes. TakesAll before.sink.taken bytes now.sink.taken)
          (sym (written_more so_far.effects effect)) (taken_then before.sink.taken mid.sink.taken now.sink.taken
          (written_by write so_far.effects) (write effect.reply) so_far.taken did.taken);
      acknowledged = subst (λ sets. AreAcknowledged model.disks e set sets before.disk now.disk now.marks now.others)
          (sym (acknowledged_more so_far.effects effect))
          (acknowledged_then e election set before.disk mid.disk now.disk model.disks (acknowledged_in so_far.effects)
          effect.acknowledged begun_with mid.marks now.marks mid.others now.others so_far.acknowledged
          did.done.acknowledged adds);
      held = did.done.held ∙ ap (λ (s : State). length s.set) (sym did.next_state);
      no_fault = did.no_fault ∙ so_far.no_fault;
    }
  where
    written_more : (effects : List Effect) (effect : Effect)
        → written_by write (effects ++ effect ∷ []) ≡ written_by write effects ++ write effect.reply
    written_more effects effect = flat_map-append (λ (x : Effect). write x.reply) effects (effect ∷ []) ∙ ap
        (λ l. written_by write effects ++ l) (append-nil (write effect.reply))

    acknowledged_more : (effects : List Effect) (effect : Effect)
        → acknowledged_in (effects ++ effect ∷ []) ≡ acknowledged_in effects ++ effect.acknowledged
    acknowledged_more effects effect = flat_map-append (λ (x : Effect). x.acknowledged) effects (effect ∷ []) ∙ ap
        (λ l. acknowledged_in effects ++ l) (append-nil effect.acknowledged)
