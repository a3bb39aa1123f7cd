-- A figure as a list of steps: what one line does, and what the lines after it do.
use Rattle.std.proofs.Common.{◌≡◌, ℕ, ◌+◌, List, [], ◌∷◌, ◌++◌, map, Option, Some, refl, ap, subst, ◌∙◌}
use Rattle.store_spec.proofs.Common.{Answers, Ballot, Effect, Plays, State, acknowledged_in, begun, example, line_of, written}
use Rattle.std.specs.Prelude.{flat_map}
use Rattle.session_laws.specs.SessionFigures.{PlaysOnlySo, PlaysOut}

-- what line number n may do in a state of a session of the example election
pub record MayDo (n : ℕ) (s : State) (bytes : List ℕ) (effect : Effect) : Type 0 where
  pub answers : Answers example n s (Some bytes) effect

-- and it can do nothing else
pub record Step (n : ℕ) (s : State) (bytes : List ℕ) (effect : Effect) : Type 0 where
  pub may : MayDo n s bytes effect
  pub only : (other : Effect) → Answers example n s (Some bytes) other → other ≡ effect

-- lines from number n on may lead from one state to another, with this text and these sets
pub record Run (n : ℕ) (s : State) (script : List (List ℕ)) (text : List ℕ) (sets : List (List Ballot)) (end : State) : Type 0 where
  pub effects : List Effect
  pub plays : Plays example n s (map (λ line. Some line) script) effects end
  pub told : written effects ≡ text
  pub acknowledged : acknowledged_in effects ≡ sets

-- and they can do nothing else
pub record OnlyRun (n : ℕ) (s : State) (script : List (List ℕ)) (text : List ℕ) (sets : List (List Ballot)) (end : State) : Type 0 where
  pub run : Run n s script text sets end
  pub only : (others : List Effect) (last : State) → Plays example n s (map (λ line. Some line) script) others last → (others ≡ run.effects) × (last ≡ end)

-- one line, and then more
pub then : {n : ℕ} {s end : State} {bytes text : List ℕ} {effect : Effect} {script : List (List ℕ)} {sets : List (List Ballot)}
    → MayDo n s bytes effect → Run (n + 1) effect.next script text sets end
    → Run n s (bytes ∷ script) (effect.reply ++ text) (effect.acknowledged ++ sets) end
then {effect = effect} one more = record {
  effects = effect ∷ more.effects;
  plays = (one.answers, more.plays);
  told = ap (λ text. effect.reply ++ text) more.told;
  acknowledged = ap (λ sets. effect.acknowledged ++ sets) more.acknowledged;
}

-- no lines lead nowhere
pub rests : (n : ℕ) (s : State) → Run n s [] [] [] s
rests n s = record { effects = []; plays = refl; told = refl; acknowledged = refl }

-- what is left of a play behind its first line
pub record Behind (n : ℕ) (effect : Effect) (lines : List (Option (List ℕ))) (effects : List Effect) (end : State) : Type 0 where
  pub rest : List Effect
  pub is : effects ≡ effect ∷ rest
  pub plays : Plays example (n + 1) effect.next lines rest end

-- behind a line that can do one thing only, the rest of the play
pub behind : {n : ℕ} {s : State} {bytes : List ℕ} {effect : Effect} → Step n s bytes effect → (lines : List (Option (List ℕ))) (effects : List Effect) (end : State) → Plays example n s (Some bytes ∷ lines) effects end → Behind n effect lines effects end
behind one lines [] end plays = absurd plays
behind {n = n} one lines (first ∷ rest) end plays =
    let same = one.only first plays.0 in
    record { rest = rest; is = ap (λ first. first ∷ rest) same; plays = subst (λ (first : Effect). Plays example (n + 1) first.next lines rest end) same plays.1 }

-- and they do nothing else
pub ends : (n : ℕ) (s : State) → OnlyRun n s [] [] [] s
unfolding rests
ends n s = record { run = rests n s; only = no_more n s }
  where
    no_more : (n : ℕ) (s : State) (others : List Effect) (last : State) → Plays example n s [] others last → (others ≡ []) × (last ≡ s)
    no_more n s [] last plays = (refl, plays)
    no_more n s (other ∷ others) last plays = absurd plays

-- one line that can do one thing only, and then more
pub step : {n : ℕ} {s end : State} {bytes text : List ℕ} {effect : Effect} {script : List (List ℕ)} {sets : List (List Ballot)}
    → Step n s bytes effect → OnlyRun (n + 1) effect.next script text sets end
    → OnlyRun n s (bytes ∷ script) (effect.reply ++ text) (effect.acknowledged ++ sets) end
unfolding then
step {effect = effect} {script = script} one more = record {
  run = then one.may more.run;
  only = λ others last plays.
      let left = behind one (map (λ line. Some line) script) others last plays in
      let same = more.only left.rest last left.plays in
      (left.is ∙ ap (λ rest. effect ∷ rest) same.0, same.1);
}

-- a run from a closed set to a closed set, by what is replied
pub plays_out : {before after : List Ballot} {script : List (List ℕ)} {text : List ℕ} {sets : List (List Ballot)}
    → Run 1 (begun before) script text sets (begun after) → (replies : List (List ℕ)) → text ≡ flat_map line_of replies → PlaysOut before script replies sets after
plays_out run replies same = record { effects = run.effects; plays = run.plays; replied = run.told ∙ same; acknowledged = run.acknowledged }

-- the same of one that can do nothing else
pub plays_only_so : {before after : List Ballot} {script : List (List ℕ)} {text : List ℕ} {sets : List (List Ballot)}
    → OnlyRun 1 (begun before) script text sets (begun after) → (replies : List (List ℕ)) → text ≡ flat_map line_of replies → PlaysOnlySo before script replies sets after
unfolding plays_out
plays_only_so sole replies same = record { way = plays_out sole.run replies same; no_other = sole.only }
