use Rattle.std.proofs.Common.{◌≡◌, ◌⊎◌, ℕ, zero, suc, ◌<◌, List, [], ◌∷◌, Some, codes, map, length, inl, inr, refl, sym, ap, subst, ◌∙◌, arith}
use Rattle.store_spec.proofs.Common.{Accepted, All, All-from_recursion, All-permutation, Ballot, BallotOutcome, CastLine, CastReply, Casting, Casts, Close, ClosesCasting, Conflict, Contains, Duplicate, Effect, Full, IsBallotSet, IsPermutation, IsPermutation-refl, IsRightReply, MayBeCastBefore, Plays, State, begun, cast_text, closing, counted, example, flat_map, in_phase, length_permutation, line_of, replies, written}
use Rattle.std.specs.Fmt.{digits}
use Rattle.std.specs.List.{Any}
use Rattle.ballot_record.proofs.BallotSets.{same_in_order}
use Rattle.session_laws.specs.SessionFigures.{EndsSo, first_wins, one_way, other_way, second_wins, twice}
use Rattle.session_laws.proofs.Closing.{casting_closes, no_number}
use Rattle.session_laws.proofs.ExampleBallots.{spells_one_way, spells_other_way, apart}
use Rattle.session_laws.proofs.ExampleSets.{one_is_set}
use Rattle.session_laws.proofs.Lists.{all_each, pairs, pairs_each}
use Rattle.session_laws.proofs.Spelled.{casts, does_as_said, may_close, opens}
use Rattle.session_laws.proofs.Steps.{Step, behind, plays_out, rests, then}
use Rattle.session_laws.proofs.one_number_twice.Goals as goal

-- the two lists with their replies
abbrev lists : CastReply → CastReply → List (List CastLine)
lists first second = (record { ballot = one_way; reply = first } ∷ []) ∷ (record { ballot = other_way; reply = second } ∷ []) ∷ []

-- a line's reply is right
abbrev Right : List Ballot → CastLine → Type 0
Right after l = IsRightReply example [] after l.ballot l.reply

-- the first may be accepted
first_outcome : BallotOutcome example [] (lists Accepted Conflict) (one_way ∷ [])
first_outcome = record {
  gains = IsPermutation-refl (one_way ∷ []);
  set = one_is_set one_way spells_one_way.valid;
  within_limit = omega arith;
  replies = all_each (Right (one_way ∷ [])) (lists Accepted Conflict)
      (((no_number 6, (0, omega arith, refl)), tt), (((0, one_way, omega arith, refl, (refl, apart)), tt), tt));
  in_order = pairs_each MayBeCastBefore (lists Accepted Conflict) ((tt, tt), ((tt, tt), tt));
}

-- so may the second
second_outcome : BallotOutcome example [] (lists Conflict Accepted) (other_way ∷ [])
second_outcome = record {
  gains = IsPermutation-refl (other_way ∷ []);
  set = one_is_set other_way spells_other_way.valid;
  within_limit = omega arith;
  replies = all_each (Right (other_way ∷ [])) (lists Conflict Accepted)
      (((0, other_way, omega arith, refl, (refl, λ same. apart (sym same))), tt), (((no_number 6, (0, omega arith, refl)), tt), tt));
  in_order = pairs_each MayBeCastBefore (lists Conflict Accepted) ((tt, tt), ((tt, tt), tt));
}

-- ---- nothing else comes of it

-- the close with these replies
abbrev effect_of : CastReply → CastReply → List Ballot → Effect
effect_of first second after = closing (map (map (λ l. cast_text l.reply)) (lists first second)) after

-- the two closes that there may be
abbrev Either : Effect → Type 0
Either effect = (effect ≡ effect_of Accepted Conflict (one_way ∷ [])) ⊎ (effect ≡ effect_of Conflict Accepted (other_way ∷ []))

-- a set that gained one ballot is that ballot
only_one : (b : Ballot) (after : List Ballot) → IsBallotSet example after → IsPermutation (b ∷ []) after → b ∷ [] ≡ after
only_one b after set same = same_in_order (b ∷ []) after (pairs (λ (x y : Ballot). x.number < y.number) (b ∷ []) (tt, tt)) set.ascending same

-- a set that gained none is empty
none_at_all : (after : List Ballot) → IsBallotSet example after → IsPermutation [] after → [] ≡ after
none_at_all after set same = same_in_order [] after (pairs (λ (x y : Ballot). x.number < y.number) [] tt) set.ascending same

-- what is in a set of one ballot is that ballot
in_one : (b x : Ballot) → Contains (b ∷ []) x → b ≡ x
in_one b x (zero, within, is) = is
in_one b x (suc k, within, is) = absurd (omega arith)

-- where nothing is accepted no other reply is right
wrong_in_none : (b : Ballot) (reply : CastReply) (after : List Ballot) → [] ≡ after → IsRightReply example [] after b reply → reply ≡ Accepted
wrong_in_none b Accepted after none right = refl
wrong_in_none b Duplicate after none right = let in_none : Contains [] b = subst (λ (set : List Ballot). Contains set b) (sym none) right in absurd (omega (arith, in_none.1))
wrong_in_none b Conflict after none right =
    let in_none : Any (λ (other : Ballot). (other.number ≡ b.number) × (other ≡ b → ⊥)) [] = subst (Any (λ (other : Ballot). (other.number ≡ b.number) × (other ≡ b → ⊥))) (sym none) right in
    absurd (omega (arith, in_none.2))
wrong_in_none b Full after none right = let size : 0 ≡ length after = ap length none in absurd (omega (arith, right.1))

-- where one ballot is accepted another of its number is in conflict with it
right_beside : (b other : Ballot) (reply : CastReply) (after : List Ballot) → (b ≡ other → ⊥) → b ∷ [] ≡ after → IsRightReply example [] after other reply → (reply ≡ Accepted) ⊎ (reply ≡ Conflict)
right_beside b other Accepted after differ is right = inl refl
right_beside b other Conflict after differ is right = inr refl
right_beside b other Duplicate after differ is right = absurd (differ (in_one b other (subst (λ (set : List Ballot). Contains set other) (sym is) right)))
right_beside b other Full after differ is right = let size : 1 ≡ length after = ap length is in absurd (omega (arith, right.1))

-- no set has both
not_both : (after : List Ballot) → IsBallotSet example after → IsPermutation (one_way ∷ other_way ∷ []) after → ⊥
not_both after set same =
    let size = length_permutation (one_way ∷ other_way ∷ []) after same in
    let sixes : All (λ (b : Ballot). b.number ≡ 6) after =
    All-permutation (λ (b : Ballot). b.number ≡ 6) (one_way ∷ other_way ∷ []) after same (All-from_recursion (λ (b : Ballot). b.number ≡ 6) (one_way ∷ other_way ∷ []) (refl, (refl, tt))) in
    let first = sixes 0 one_way (omega arith) in
    let second = sixes 1 one_way (omega arith) in
    let less = set.ascending 0 1 one_way (omega arith) (omega arith) in
    omega arith

-- the first reply is right
first_right : (first second : CastReply) (after : List Ballot) → BallotOutcome example [] (lists first second) after → IsRightReply example [] after one_way first
first_right first second after outcome = outcome.replies 0 [] (omega arith) 0 (record { ballot = one_way; reply = first }) (omega arith)

-- so is the second
second_right : (first second : CastReply) (after : List Ballot) → BallotOutcome example [] (lists first second) after → IsRightReply example [] after other_way second
second_right first second after outcome = outcome.replies 1 [] (omega arith) 0 (record { ballot = one_way; reply = first }) (omega arith)

-- the first is accepted
first_accepted : (second : CastReply) (after : List Ballot) → BallotOutcome example [] (lists Accepted second) after → Either (effect_of Accepted second after)
first_accepted Accepted after outcome = absurd (not_both after outcome.set outcome.gains)
first_accepted Conflict after outcome = inl (sym (ap (effect_of Accepted Conflict) (only_one one_way after outcome.set outcome.gains)))
first_accepted Duplicate after outcome =
    elim (right_beside one_way other_way Duplicate after apart (only_one one_way after outcome.set outcome.gains) (second_right Accepted Duplicate after outcome)) [ inl e ↦ absurd cc | inr e ↦ absurd cc ]
first_accepted Full after outcome =
    elim (right_beside one_way other_way Full after apart (only_one one_way after outcome.set outcome.gains) (second_right Accepted Full after outcome)) [ inl e ↦ absurd cc | inr e ↦ absurd cc ]

-- the second is
second_accepted : (first : CastReply) (after : List Ballot) → BallotOutcome example [] (lists first Accepted) after → Either (effect_of first Accepted after)
second_accepted Accepted after outcome = absurd (not_both after outcome.set outcome.gains)
second_accepted Conflict after outcome = inr (sym (ap (effect_of Conflict Accepted) (only_one other_way after outcome.set outcome.gains)))
second_accepted Duplicate after outcome =
    elim (right_beside other_way one_way Duplicate after (λ same. apart (sym same)) (only_one other_way after outcome.set outcome.gains) (first_right Duplicate Accepted after outcome)) [ inl e ↦ absurd cc | inr e ↦ absurd cc ]
second_accepted Full after outcome =
    elim (right_beside other_way one_way Full after (λ same. apart (sym same)) (only_one other_way after outcome.set outcome.gains) (first_right Full Accepted after outcome)) [ inl e ↦ absurd cc | inr e ↦ absurd cc ]

-- none is
neither : (first second : CastReply) (after : List Ballot) → BallotOutcome example [] (lists first second) after → [] ≡ after → first ≡ Accepted
neither first second after outcome none = wrong_in_none one_way first after none (first_right first second after outcome)

-- the close goes one of two ways
either : (first second : CastReply) (after : List Ballot) → BallotOutcome example [] (lists first second) after → Either (effect_of first second after)
either Accepted second after outcome = first_accepted second after outcome
either Duplicate Accepted after outcome = second_accepted Duplicate after outcome
either Conflict Accepted after outcome = second_accepted Conflict after outcome
either Full Accepted after outcome = second_accepted Full after outcome
either Duplicate Duplicate after outcome = let e = neither Duplicate Duplicate after outcome (none_at_all after outcome.set outcome.gains) in absurd cc
either Duplicate Conflict after outcome = let e = neither Duplicate Conflict after outcome (none_at_all after outcome.set outcome.gains) in absurd cc
either Duplicate Full after outcome = let e = neither Duplicate Full after outcome (none_at_all after outcome.set outcome.gains) in absurd cc
either Conflict Duplicate after outcome = let e = neither Conflict Duplicate after outcome (none_at_all after outcome.set outcome.gains) in absurd cc
either Conflict Conflict after outcome = let e = neither Conflict Conflict after outcome (none_at_all after outcome.set outcome.gains) in absurd cc
either Conflict Full after outcome = let e = neither Conflict Full after outcome (none_at_all after outcome.set outcome.gains) in absurd cc
either Full Duplicate after outcome = let e = neither Full Duplicate after outcome (none_at_all after outcome.set outcome.gains) in absurd cc
either Full Conflict after outcome = let e = neither Full Conflict after outcome (none_at_all after outcome.set outcome.gains) in absurd cc
either Full Full after outcome = let e = neither Full Full after outcome (none_at_all after outcome.set outcome.gains) in absurd cc

-- ---- the lines of the two lists

-- a list of one ballot has one line
one_line : (lines : List CastLine) (b : Ballot) → map (λ l. l.ballot) lines ≡ b ∷ [] → (reply : CastReply) × (lines ≡ record { ballot = b; reply = reply } ∷ [])
one_line [] b is = absurd cc
one_line (l ∷ []) b is =
    let same : l.ballot ≡ b = cc in
    (l.reply, ap (λ (b : Ballot). record { ballot = b; reply = l.reply } ∷ []) same)
one_line (l ∷ m ∷ more) b is = absurd cc

-- so have both lists
two_lines : (lines : List (List CastLine)) → map (map (λ l. l.ballot)) lines ≡ (one_way ∷ []) ∷ (other_way ∷ []) ∷ [] → (first : CastReply) × (second : CastReply) × (lines ≡ lists first second)
two_lines [] is = absurd cc
two_lines (x ∷ []) is = absurd cc
two_lines (x ∷ y ∷ []) is =
    let one = one_line x one_way cc in
    let other = one_line y other_way cc in
    (one.0, other.0, cc (one.1, other.1))
two_lines (x ∷ y ∷ z ∷ more) is = absurd cc

-- each close goes one of two ways
no_other : (effect : Effect) → ClosesCasting example [] ((one_way ∷ []) ∷ (other_way ∷ []) ∷ []) effect → Either effect
no_other effect closes =
    let two = two_lines closes.lines closes.of_lists in
    let Closes : List (List CastLine) → Type 0 = λ lines. BallotOutcome example [] lines closes.after × (effect ≡ closing (map (map (λ l. cast_text l.reply)) lines) closes.after) in
    let same : Closes (lists two.0 two.1) = subst Closes two.2 (closes.outcome, closes.is) in
    subst Either (sym same.1) (either two.0 two.1 closes.after same.0)

-- ---- the script

-- what the opening does
abbrev opening : Effect
opening = replies (counted (codes "casting") 2) (in_phase (Casts ([] ∷ [] ∷ [])) [])

-- what a ballot that waits does
abbrev queueing : List (List Ballot) → Effect
queueing queue = replies [] (in_phase (Casts queue) [])

-- both ballots wait
abbrev both_wait : State
both_wait = in_phase (Casts ((one_way ∷ []) ∷ (other_way ∷ []) ∷ [])) []

-- the three lines before the close do one thing each
opens_step : Step 1 (begun []) (codes "open cast 2") opening
unfolding digits
opens_step = opens Casting 2 (omega arith, omega arith) refl

first_step : Step 2 (in_phase (Casts ([] ∷ [] ∷ [])) []) (codes "cast 1 6 1 1/-") (queueing ((one_way ∷ []) ∷ [] ∷ []))
unfolding digits
first_step = casts 1 (omega arith, omega arith) refl spells_one_way

second_step : Step 3 (in_phase (Casts ((one_way ∷ []) ∷ [] ∷ [])) []) (codes "cast 2 6 1 2/-") (queueing ((one_way ∷ []) ∷ (other_way ∷ []) ∷ []))
unfolding digits
second_step = casts 2 (omega arith, omega arith) refl spells_other_way

-- what the close and its end are
record LastLine (effects : List Effect) (end : State) : Type 0 where
  effect : Effect
  is : effects ≡ effect ∷ []
  ends : end ≡ effect.next
  either : Either effect

-- the last line is the close
last_line : (effects : List Effect) (end : State) → Plays example 4 both_wait (Some (codes "close") ∷ []) effects end → LastLine effects end
last_line [] end plays = absurd plays
last_line (effect ∷ []) end plays = record { effect = effect; is = refl; ends = plays.1; either = no_other effect (does_as_said example 4 both_wait (codes "close") Close refl effect plays.0) }
last_line (effect ∷ other ∷ more) end plays = absurd plays.1

-- what the close is, behind the three lines before it
abbrev whole : Effect → List Effect
whole effect = opening ∷ queueing ((one_way ∷ []) ∷ [] ∷ []) ∷ queueing ((one_way ∷ []) ∷ (other_way ∷ []) ∷ []) ∷ effect ∷ []

-- a play that is known by its close
ends_so : (text : List (List ℕ)) (after : List Ballot) (effects : List Effect) (end : State) (effect other : Effect) → effects ≡ whole effect → end ≡ effect.next → effect ≡ other → written (whole other) ≡ flat_map line_of text → other.next ≡ begun after
    → EndsSo text after effects end
ends_so text after effects end effect other all ends is told next = record {
  replied = ap written all ∙ ap (λ (effect : Effect). written (whole effect)) is ∙ told;
  ends = ends ∙ ap (λ (effect : Effect). effect.next) is ∙ next;
}

-- what is written then
first_text : written (whole (effect_of Accepted Conflict (one_way ∷ []))) ≡ flat_map line_of first_wins
unfolding digits
first_text = refl

second_text : written (whole (effect_of Conflict Accepted (other_way ∷ []))) ≡ flat_map line_of second_wins
unfolding digits
second_text = refl

-- the script plays in no other way
only_these : (effects : List Effect) (end : State) → Plays example 1 (begun []) (map (λ line. Some line) twice) effects end → EndsSo first_wins (one_way ∷ []) effects end ⊎ EndsSo second_wins (other_way ∷ []) effects end
only_these effects end plays =
    let one = behind opens_step (Some (codes "cast 1 6 1 1/-") ∷ Some (codes "cast 2 6 1 2/-") ∷ Some (codes "close") ∷ []) effects end plays in
    let two = behind first_step (Some (codes "cast 2 6 1 2/-") ∷ Some (codes "close") ∷ []) one.rest end one.plays in
    let three = behind second_step (Some (codes "close") ∷ []) two.rest end two.plays in
    let last = last_line three.rest end three.plays in
    let all : effects ≡ whole last.effect = cc (one.is, two.is, three.is, last.is) in
    elim last.either [
      | inl is ↦ inl (ends_so first_wins (one_way ∷ []) effects end last.effect (effect_of Accepted Conflict (one_way ∷ [])) all last.ends is first_text refl)
      | inr is ↦ inr (ends_so second_wins (other_way ∷ []) effects end last.effect (effect_of Conflict Accepted (other_way ∷ [])) all last.ends is second_text refl)
    ]

pub returns : goal.returns
unfolding digits
returns c = record {
  first = plays_out
      (then opens_step.may (then first_step.may (then second_step.may
      (then (may_close (casting_closes (lists Accepted Conflict) (one_way ∷ []) first_outcome)) (rests 5 _)))))
      _ refl;
  second = plays_out
      (then opens_step.may (then first_step.may (then second_step.may
      (then (may_close (casting_closes (lists Conflict Accepted) (other_way ∷ []) second_outcome)) (rests 5 _)))))
      _ refl;
  no_other = only_these;
}
