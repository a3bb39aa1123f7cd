-- A phase from its opening to its close, as a part of a script.
use Rattle.std.proofs.Common.{◌≡◌, ℕ, ◌+◌, leb, List, [], ◌∷◌, ◌++◌, length, map, replicate, Option, Some, None, codes, refl, ap, subst, ◌∙◌, arith}
use Rattle.store_spec.proofs.Common.{AllByRecursion, Answers, Ballot, Close, Does, Effect, Election, IsPermutation, IsTab, Open, Phase, Plays, Says, ScriptLine, State, Work, acknowledged_in, begun, cond-true, counted, flat_map-append, in_phase, le-leb, length-replicate, line_limit, map-append, open_text, opened, phase_text, replies, summary_of, taken_line, taken_lines, written}
use Rattle.script_lines.proofs.Meanings.{short}
use Rattle.session_laws.proofs.Spelled.{does_as_said}
use Rattle.session_laws.proofs.Summaries.{summary-append}
use Rattle.session_laws.proofs.Unheard.{opening_unheard}
use Rattle.session_laws.proofs.Waiting.{Waits, all_wait, items_of, nothing_waits}
use Rattle.session_laws.proofs.WholeReplies.{answer_whole}

-- ---- parts of a play

-- a line that says something is taken whole
pub taken_whole : (e : Election) (bytes : List ℕ) (line : ScriptLine) → Says e bytes line → taken_line bytes ≡ Some bytes
taken_whole e bytes line says = cond-true (leb (length bytes) line_limit) (Some bytes) None (le-leb (length bytes) line_limit (omega (arith, short e bytes line says)))

-- so it does what the form does that it is of
pub taken_does : (e : Election) (n : ℕ) (s : State) (bytes : List ℕ) (line : ScriptLine) → Says e bytes line → (effect : Effect) → Answers e n s (taken_line bytes) effect → Does e n s line s.phase effect
taken_does e n s bytes line says effect answers =
    does_as_said e n s bytes line says effect (subst (λ (l : Option (List ℕ)). Answers e n s l effect) (taken_whole e bytes line says) answers)

-- a play of lines and of those behind them
pub record Parted (e : Election) (n : ℕ) (s : State) (xs ys : List (Option (List ℕ))) (effects : List Effect) (end : State) : Type 0 where
  pub first : List Effect
  pub second : List Effect
  pub mid : State
  pub number : ℕ
  pub is : effects ≡ first ++ second
  pub begins : Plays e n s xs first mid
  pub behind : Plays e number mid ys second end

-- each play of both is such
pub parted : (e : Election) (n : ℕ) (s : State) (xs ys : List (Option (List ℕ))) (effects : List Effect) (end : State) → Plays e n s (xs ++ ys) effects end → Parted e n s xs ys effects end
parted e n s [] ys effects end plays = record { first = []; second = effects; mid = s; number = n; is = refl; begins = refl; behind = plays }
parted e n s (x ∷ xs) ys [] end plays = absurd plays
parted e n s (x ∷ xs) ys (effect ∷ effects) end plays =
    let more = parted e (n + 1) effect.next xs ys effects end plays.1 in
    record {
      first = effect ∷ more.first;
      second = more.second;
      mid = more.mid;
      number = more.number;
      is = ap (λ rest. effect ∷ rest) more.is;
      begins = (plays.0, more.begins);
      behind = more.behind;
    }

-- a play of a line that says something, and of those behind it
pub record Led (e : Election) (n : ℕ) (s : State) (line : ScriptLine) (rest : List (List ℕ)) (effects : List Effect) (end : State) : Type 0 where
  pub first : Effect
  pub more : List Effect
  pub is : effects ≡ first ∷ more
  pub does : Does e n s line s.phase first
  pub behind : Plays e (n + 1) first.next (taken_lines rest) more end
  pub summary : summary_of (written effects) ≡ summary_of first.reply ++ summary_of (written more)
  pub acknowledged : acknowledged_in effects ≡ first.acknowledged ++ acknowledged_in more

-- each play that begins with such a line is such
pub led : (e : Election) (n : ℕ) (s : State) (bytes : List ℕ) (line : ScriptLine) → Says e bytes line → (rest : List (List ℕ)) (effects : List Effect) (end : State) → Plays e n s (taken_lines (bytes ∷ rest)) effects end → Led e n s line rest effects end
led e n s bytes line says rest [] end plays = absurd plays
led e n s bytes line says rest (first ∷ more) end plays = record {
  first = first;
  more = more;
  is = refl;
  does = taken_does e n s bytes line says first plays.0;
  behind = plays.1;
  summary = summary-append first.reply (written more) (answer_whole e n s (taken_line bytes) first plays.0);
  acknowledged = refl;
}

-- ---- a phase

-- A phase of items: they waited in lists, the phase was closed, and then the rest was played.
pub record PlayedPhase {X : Type 0} (e : Election) (phase : List (List X) → Phase) (set : List Ballot) (items : List X) (rest : List (List ℕ)) (effects : List Effect) (end : State) : Type 0 where
  pub lists : List (List X)
  pub all : IsPermutation items (items_of lists)
  pub number : ℕ
  pub close : Effect
  pub closes : Does e number (in_phase (phase lists) set) Close (phase lists) close
  pub more : List Effect
  pub behind : Plays e (number + 1) close.next (taken_lines rest) more end
  pub summary : summary_of (written effects) ≡ summary_of close.reply ++ summary_of (written more)
  pub acknowledged : acknowledged_in effects ≡ close.acknowledged ++ acknowledged_in more

module _ {X : Type 0} (e : Election) (work : Work) (phase : List (List X) → Phase) (tabs : ℕ) (some : IsTab tabs) (opens : opened work tabs ≡ phase (replicate tabs [])) where
  -- each play of its lines is a phase
  pub played_phase : (set : List Ballot) (line : ℕ → List ℕ) (tab : ℕ → ℕ) (item : ℕ → X) (is : List ℕ) → AllByRecursion (Waits e phase set tabs line tab item) is
      → (rest : List (List ℕ)) (n : ℕ) (effects : List Effect) (end : State)
      → Plays e n (begun set) (taken_lines (open_text work tabs ∷ (map line is ++ codes "close" ∷ rest))) effects end → PlayedPhase e phase set (map item is) rest effects end
  played_phase set line tab item is wait rest n effects end plays =
      let opening = replies (counted (phase_text (opened work tabs)) tabs) (in_phase (opened work tabs) set) in
      let first = led e n (begun set) (open_text work tabs) (Open work tabs) (some, refl) (map line is ++ codes "close" ∷ rest) effects end plays in
      let next : first.first.next ≡ in_phase (phase (replicate tabs [])) set = ap (λ (effect : Effect). effect.next) first.does ∙ ap (λ phase. in_phase phase set) opens in
      let inside = parted e (n + 1) (in_phase (phase (replicate tabs [])) set) (taken_lines (map line is)) (taken_lines (codes "close" ∷ rest)) first.more end
      (subst (λ (lines : List (Option (List ℕ))). Plays e (n + 1) (in_phase (phase (replicate tabs [])) set) lines first.more end) (map-append taken_line (map line is) (codes "close" ∷ rest))
      (subst (λ (s : State). Plays e (n + 1) s (taken_lines (map line is ++ codes "close" ∷ rest)) first.more end) next first.behind)) in
      let waited = all_wait e phase set tabs line tab item is wait (n + 1) (replicate tabs []) (length-replicate tabs []) inside.first inside.mid inside.begins in
      let last = led e inside.number (in_phase (phase waited.lists) set) (codes "close") Close refl rest inside.second end
      (subst (λ (s : State). Plays e inside.number s (taken_lines (codes "close" ∷ rest)) inside.second end) waited.ends inside.behind) in
      let silent : written first.more ≡ written inside.second =
      ap written inside.is ∙ flat_map-append (λ (effect : Effect). effect.reply) inside.first inside.second ∙ ap (λ text. text ++ written inside.second) waited.silent in
      let unacknowledged : acknowledged_in first.more ≡ acknowledged_in inside.second =
      ap acknowledged_in inside.is ∙ flat_map-append (λ (effect : Effect). effect.acknowledged) inside.first inside.second ∙ ap (λ sets. sets ++ acknowledged_in inside.second) waited.unacknowledged in
      record {
        lists = waited.lists;
        all = subst (λ l. IsPermutation (l ++ map item is) (items_of waited.lists)) (nothing_waits tabs) waited.all;
        number = inside.number;
        close = last.first;
        closes = last.does;
        more = last.more;
        behind = last.behind;
        summary = first.summary ∙ ap (λ (effect : Effect). summary_of effect.reply ++ summary_of (written first.more)) first.does
            ∙ ap (λ text. text ++ summary_of (written first.more)) (opening_unheard work tabs).summary ∙ ap summary_of silent ∙ last.summary;
        acknowledged = first.acknowledged ∙ ap (λ (effect : Effect). effect.acknowledged ++ acknowledged_in first.more) first.does ∙ unacknowledged ∙ last.acknowledged;
      }
