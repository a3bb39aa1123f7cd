-- One more line is answered.
use Rattle.std.proofs.Common.{◌≡◌, ◌≢◌, ℕ, zero, suc, ◌<◌, ◌⊎◌, inl, inr, ⊎_elim, List, [], ◌∷◌, ◌++◌, Bool, true, false, length, take, Some, None, refl, sym, ap, subst, ◌∙◌, arith, not, take_at, ◌==◌, ◌||◌}
use Rattle.store_spec.proofs.Common.{AllPairs, AllPairs-filter, Ballot, Contains, Contains-push_cases, Election, Spells, ballots_without, cases_eq, cases_lt, eq-eqb, get_or_append_left, length-append, list_any, ne_eqb, take-append-le}
use Rattle.std.proofs.lemmas.List.Quantifiers.{Any-push}
use Rattle.std.specs.List.{slice_get}
use Rattle.ballot_record.proofs.BallotNumbers.{ballot_with, contains_number}
use Rattle.ballot_record.proofs.LineLaws.{one_ballot}
use Rattle.ticket_sample.proofs.Samples.{among_passing, passing_among}
use Rattle.ticket_sample.specs.Compared.{AnsweredLine, AreAnswered, AreMissing, IsCompareReply, IsComparison, IsOfNumber, IsReplyTo, WasCompared}
use Rattle.ticket_sample.specs.Comparing.{IsNoneOfRest, Takes}
use Rattle.ticket_sample.specs.declared.compare.CompareReply.{CompareReply}
use Rattle.ticket_sample.specs.declared.compare.CompareReply.TheVariants.{Malformed, Invalid, Outside, Repeated, Match, Differs}

-- ---- the numbers that were compared

-- the lines so far, one of them with this number and the outcome of a comparison
compared_more : (e : Election) (answers : List AnsweredLine) (one : AnsweredLine) (number : ℕ) → WasCompared e answers number → WasCompared e (answers ++ one ∷ []) number
compared_more e answers one number was =
    (was.0, was.1, omega (arith, was.2, length-append answers (one ∷ [])), get_or_append_left answers (one ∷ []) was.1 was.0 was.2 ∙ was.3, was.4)

compared_now : (e : Election) (answers : List AnsweredLine) (one : AnsweredLine) (number : ℕ) → IsOfNumber e one.line number → IsComparison one.reply → WasCompared e (answers ++ one ∷ []) number
compared_now e answers one number of is = Any-push (λ one. IsOfNumber e one.line number × IsComparison one.reply) answers one (of, is)

compared_cases : (e : Election) (answers : List AnsweredLine) (one : AnsweredLine) (number : ℕ) → WasCompared e (answers ++ one ∷ []) number → WasCompared e answers number ⊎ (IsOfNumber e one.line number × IsComparison one.reply)
compared_cases e answers one number was =
    elim (Contains-push_cases answers one was.1 (was.0, was.2, was.3)) [
      | inl before ↦ inl (before.0, was.1, before.1, before.2, was.4)
      | inr now ↦ inr (subst (λ (x : AnsweredLine). IsOfNumber e x.line number × IsComparison x.reply) (sym now) was.4)
    ]

-- ---- the rest of the sample

-- After these answers these ballots of the sample are left: each ballot is one of them, or a line of its number was
-- compared.
pub record Leaves (e : Election) (sample : List Ballot) (answers : List AnsweredLine) (rest : List Ballot) : Type 0 where
  pub ascending : AllPairs (λ a b. a.number < b.number) rest
  pub split : (b : Ballot) → Contains sample b → Contains rest b ⊎ WasCompared e answers b.number
  pub left : (b : Ballot) → Contains rest b → Contains sample b × ¬ WasCompared e answers b.number

pub none_answered : (e : Election) (sample rest : List Ballot) → AllPairs (λ a b. a.number < b.number) sample → rest ≡ sample → Leaves e sample [] rest
none_answered e sample rest up same = subst (Leaves e sample []) (sym same) (record {
  ascending = up;
  split = λ b c. inl c;
  left = λ b c. (c, λ was. omega (arith, was.2));
})

pub are_missing : (e : Election) (sample : List Ballot) (answers : List AnsweredLine) (rest : List Ballot) (missing : ℕ) → Leaves e sample answers rest → missing ≡ length rest → AreMissing e sample answers missing
are_missing e sample answers rest missing leaves counted = record {
  rest = rest;
  ascending = leaves.ascending;
  each = λ b. (leaves.left b, λ both. ⊎_elim (λ there. there) (λ was. absurd (both.1 was)) (leaves.split b both.0));
  counted = counted;
}

-- the line was not compared: the rest stays
stays : (e : Election) (sample : List Ballot) (answers : List AnsweredLine) (one : AnsweredLine) (rest : List Ballot) → Leaves e sample answers rest → ¬ IsComparison one.reply → Leaves e sample (answers ++ one ∷ []) rest
stays e sample answers one rest leaves not_compared = record {
  ascending = leaves.ascending;
  split = λ b c. ⊎_elim inl (λ was. inr (compared_more e answers one b.number was)) (leaves.split b c);
  left = λ b c. ((leaves.left b c).0, λ was. ⊎_elim (leaves.left b c).1 (λ now. not_compared now.1) (compared_cases e answers one b.number was));
}

abbrev other_than : ℕ → Ballot → Bool
other_than number b = not (list_any (λ n. n == b.number) (number ∷ []))

is_other : (number : ℕ) (b : Ballot) → number ≢ b.number → other_than number b ≡ true
is_other number b apart = ap (λ one. not (one || false)) (ne_eqb number b.number apart)

not_other : (number : ℕ) (b : Ballot) → other_than number b ≡ true → number ≢ b.number
not_other number b is same = let clash : false ≡ true = sym (ap (λ one. not (one || false)) (eq-eqb number b.number same)) ∙ is in cc

-- a line of this ballot was compared: its number is taken away
taken : (e : Election) (sample : List Ballot) (answers : List AnsweredLine) (bytes : List ℕ) (reply : CompareReply) (b : Ballot) (rest : List Ballot) → Leaves e sample answers rest → Spells e bytes b → IsComparison reply
    → Leaves e sample (answers ++ record { line = Some bytes; reply = reply } ∷ []) (ballots_without rest (b.number ∷ []))
taken e sample answers bytes reply b rest leaves spells is = record {
  ascending = AllPairs-filter (λ a b. a.number < b.number) (other_than b.number) rest leaves.ascending;
  split = λ x c. ⊎_elim
      (λ there. elim (cases_eq b.number x.number) [
        | inl same ↦ inr (compared_now e answers one x.number (b, spells, same) is)
        | inr other ↦ inl (among_passing (other_than b.number) rest x there (is_other b.number x other))
      ])
      (λ was. inr (compared_more e answers one x.number was))
      (leaves.split x c);
  left = λ x c.
      let found = passing_among (other_than b.number) rest x c in (
        (leaves.left x found.0).0,
        λ was. ⊎_elim
            (leaves.left x found.0).1
            (λ now. not_other b.number x found.1 (ap (λ (b : Ballot). b.number) (one_ballot e bytes b now.0.0 spells now.0.1) ∙ now.0.2))
            (compared_cases e answers one x.number was),
      );
} where
  one : AnsweredLine
  one = record { line = Some bytes; reply = reply }

-- a line was answered, whatever the reply
pub leaves_more : (e : Election) (sample : List Ballot) (answers : List AnsweredLine) (bytes : List ℕ) (reply : CompareReply) (old new : List Ballot) → Leaves e sample answers old → Takes e bytes reply old new
    → Leaves e sample (answers ++ record { line = Some bytes; reply = reply } ∷ []) new
leaves_more e sample answers bytes Match old new leaves takes =
    subst (Leaves e sample (answers ++ record { line = Some bytes; reply = Match } ∷ [])) (sym takes.2) (taken e sample answers bytes Match takes.0 old leaves takes.1 tt)
leaves_more e sample answers bytes Differs old new leaves takes =
    subst (Leaves e sample (answers ++ record { line = Some bytes; reply = Differs } ∷ [])) (sym takes.2) (taken e sample answers bytes Differs takes.0 old leaves takes.1 tt)
leaves_more e sample answers bytes Malformed old new leaves takes = subst (Leaves e sample (answers ++ record { line = Some bytes; reply = Malformed } ∷ [])) (sym takes) (stays e sample answers (record { line = Some bytes; reply = Malformed }) old leaves (λ is. is))
leaves_more e sample answers bytes Invalid old new leaves takes = subst (Leaves e sample (answers ++ record { line = Some bytes; reply = Invalid } ∷ [])) (sym takes) (stays e sample answers (record { line = Some bytes; reply = Invalid }) old leaves (λ is. is))
leaves_more e sample answers bytes Outside old new leaves takes = subst (Leaves e sample (answers ++ record { line = Some bytes; reply = Outside } ∷ [])) (sym takes) (stays e sample answers (record { line = Some bytes; reply = Outside }) old leaves (λ is. is))
leaves_more e sample answers bytes Repeated old new leaves takes = subst (Leaves e sample (answers ++ record { line = Some bytes; reply = Repeated } ∷ [])) (sym takes) (stays e sample answers (record { line = Some bytes; reply = Repeated }) old leaves (λ is. is))

pub leaves_wide : (e : Election) (sample : List Ballot) (answers : List AnsweredLine) (rest : List Ballot) → Leaves e sample answers rest → Leaves e sample (answers ++ record { line = None; reply = Malformed } ∷ []) rest
leaves_wide e sample answers rest leaves = stays e sample answers (record { line = None; reply = Malformed }) rest leaves (λ is. is)

-- ---- the reply to a line

-- which numbers were compared is told by the rest, for those of the sample
pub reply_right : (e : Election) (sample : List Ballot) (answers : List AnsweredLine) (rest : List Ballot) (bytes : List ℕ) (reply : CompareReply) → Leaves e sample answers rest → IsReplyTo e sample (IsNoneOfRest rest) bytes reply → IsReplyTo e sample (WasCompared e answers) bytes reply
reply_right e sample answers rest bytes Malformed leaves is = is
reply_right e sample answers rest bytes Invalid leaves is = is
reply_right e sample answers rest bytes Outside leaves is = is
reply_right e sample answers rest bytes Repeated leaves is =
    let found = ballot_with sample is.0.number is.2 in (
      is.0,
      is.1,
      is.2,
      ⊎_elim
          (λ there. absurd (is.3 (contains_number rest found.0 is.0.number there found.2)))
          (λ was. subst (WasCompared e answers) found.2 was)
          (leaves.split found.0 found.1),
    )
reply_right e sample answers rest bytes Match leaves is = (is.0, is.1, is.2, λ was. is.3 (λ c. let found = ballot_with rest is.0.number c in (leaves.left found.0 found.1).1 (subst (WasCompared e answers) (sym found.2) was)))
reply_right e sample answers rest bytes Differs leaves is = (is.0, is.1, is.2, is.3, λ was. is.4 (λ c. let found = ballot_with rest is.0.number c in (leaves.left found.0 found.1).1 (subst (WasCompared e answers) (sym found.2) was)))

-- ---- all lines

no_place : {X : Type 0} (xs : List X) (x : X) (place : ℕ) → slice_get xs place ≡ Some x → place < length xs
no_place [] x place is = absurd cc
no_place (y ∷ xs) x zero is = omega arith
no_place (y ∷ xs) x (suc place) is = omega (arith, no_place xs x place is)

get_before : {X : Type 0} (xs : List X) (y : X) (place : ℕ) → place < length xs → slice_get (xs ++ y ∷ []) place ≡ slice_get xs place
get_before [] y place within = absurd (omega (arith, within))
get_before (x ∷ xs) y zero within = refl
get_before (x ∷ xs) y (suc place) within = get_before xs y place (omega (arith, within))

get_last : {X : Type 0} (xs : List X) (y : X) → slice_get (xs ++ y ∷ []) (length xs) ≡ Some y
get_last [] y = refl
get_last (x ∷ xs) y = get_last xs y

pub answered_none : (e : Election) (sample : List Ballot) → AreAnswered e sample []
answered_none e sample place one is = absurd (let short = no_place [] one place is in omega (arith, short))

pub answered_more : (e : Election) (sample : List Ballot) (answers : List AnsweredLine) (one : AnsweredLine) → AreAnswered e sample answers → IsCompareReply e sample answers one → AreAnswered e sample (answers ++ one ∷ [])
answered_more e sample answers one right reply place found is =
    let within = no_place (answers ++ one ∷ []) found place is in
    elim (cases_lt place (length answers)) [
      | inl before ↦
          subst (λ (front : List AnsweredLine). IsCompareReply e sample front found) (sym (take-append-le place answers (one ∷ []) (omega arith)))
          (right place found (sym (get_before answers one place before) ∙ is))
      | inr behind ↦
          let last : place ≡ length answers = omega (arith, within, length-append answers (one ∷ []), behind) in
          let same : Some one ≡ Some found = sym (get_last answers one) ∙ ap (slice_get (answers ++ one ∷ [])) (sym last) ∙ is in
          let found_is : one ≡ found = cc in
          subst (λ (x : AnsweredLine). IsCompareReply e sample (take place (answers ++ one ∷ [])) x) found_is
          (subst (λ (front : List AnsweredLine). IsCompareReply e sample front one) (sym (ap (λ n. take n (answers ++ one ∷ [])) last ∙ take_at answers (one ∷ []) (length answers) refl)) reply)
    ]
