-- The result of a large run, as a set.
use Rattle.std.proofs.Common.{◌≡◌, ◌≢◌, ℕ, ◌+◌, ◌<◌, ◌≤◌, ◌↔◌, inl, inr, Bool, List, ◌++◌, length, sym, ap, subst, ◌∙◌, arith, length-append}
use Rattle.store_spec.proofs.Common.{All, All-contains, All-filter, AllPairs, AllPairs-filter, Ballot, Contains, Contains-append_cases, Contains-append_left, Contains-append_right, Contains-get_or, Contains-permutation, Election, IsBallotSet, IsPermutation, IsPermutation-sym, IsPermutation-trans, IsValid, IsWithinLimit, ballots_without, count_by-le-length, length-filter, list_any, not}
use Rattle.std.specs.Prelude.{◌==◌}
use Rattle.ballot_record.proofs.BallotSets.{listing_from_set, same_in_order}
use Rattle.script_lines.specs.Generated.{cast_ballots, withdrawn_numbers}
use Rattle.session_laws.specs.LargeRun.{GainsNew, IsLargeSet, new_to}
use Rattle.session_laws.proofs.Filling.{Among, all_of, left_in, passed_in, passes}

-- ---- a set without some numbers

-- whether a ballot stays
abbrev stays : List ℕ → Ballot → Bool
stays numbers b = not (list_any (λ number. number == b.number) numbers)

-- less than one set is less than the other
pub without_among : (xs ys : List Ballot) (numbers : List ℕ) → Among xs ys → Among (ballots_without xs numbers) (ballots_without ys numbers)
without_among xs ys numbers among b at =
    left_in (stays numbers) ys b (among b (passed_in (stays numbers) xs b at)) (passes (stays numbers) xs b at)

-- a set stays one
pub without_is_set : (e : Election) (set : List Ballot) (numbers : List ℕ) → IsBallotSet e set → IsBallotSet e (ballots_without set numbers)
without_is_set e set numbers is = record {
  valid = All-filter (stays numbers) (IsValid e) set is.valid;
  ascending = AllPairs-filter (λ (a b : Ballot). a.number < b.number) (stays numbers) set is.ascending;
}

-- and gets no greater
pub without_less : (set : List Ballot) (numbers : List ℕ) → length (ballots_without set numbers) ≤ length set
without_less set numbers = omega (arith, length-filter (stays numbers) set, count_by-le-length (stays numbers) set)

-- ballots of a set are distinct
pub distinct : (e : Election) (set : List Ballot) → IsBallotSet e set → AllPairs (λ a b. a ≢ b) set
distinct e set is = λ i j d less within same. (listing_from_set e set is).distinct i j d less within (ap (λ (b : Ballot). b.number) same)

-- what holds of all of a list, holds of each that it contains
pub among_all : (xs ys : List Ballot) → All (Contains ys) xs → Among xs ys
among_all xs ys all b at = All-contains (Contains ys) xs b all at

-- and back
pub all_among : (xs ys : List Ballot) → Among xs ys → All (Contains ys) xs
all_among xs ys among = λ k d within. among _ (Contains-get_or xs k d within)

-- ---- what a set gains

-- with room for all, a set gains all that are new
pub gains_all : (e : Election) (set ballots after : List Ballot) → length set + length (new_to set ballots) ≤ e.limit → GainsNew e set ballots after → IsPermutation after (set ++ new_to set ballots)
gains_all e set ballots after room gains =
    all_of after (set ++ new_to set ballots) (distinct e after gains.is) (among_all after (set ++ new_to set ballots) gains.only)
    (omega (arith, gains.count, length-append set (new_to set ballots)))

-- in any case nothing but what is cast
pub gains_only : (e : Election) (set ballots after : List Ballot) → GainsNew e set ballots after → Among after (set ++ ballots)
gains_only e set ballots after gains b at =
    elim (Contains-append_cases set (new_to set ballots) b (among_all after (set ++ new_to set ballots) gains.only b at)) [
      | inl old ↦ Contains-append_left set ballots b old
      | inr new ↦ Contains-append_right set ballots b (passed_in _ ballots b new)
    ]

-- ---- the result

module _ (e : Election) (seed count : ℕ) (before : List Ballot) where
  -- the ballots that are cast, the new ones of them, and what is withdrawn
  abbrev cast : List Ballot
  cast = cast_ballots e seed count

  abbrev new : List Ballot
  new = new_to before cast

  abbrev gone : List ℕ
  gone = withdrawn_numbers e seed count

  -- it is a set
  pub result_is_set : (after : List Ballot) → IsLargeSet e seed count before after → IsBallotSet e after
  result_is_set after is = subst (IsBallotSet e) (sym is.rest) (without_is_set e is.cast gone is.gains.is)

  -- within the limit
  pub result_fits : (after : List Ballot) → IsLargeSet e seed count before after → IsWithinLimit e after
  result_fits after is = omega (arith, ap length is.rest, without_less is.cast gone, is.gains.count)

  -- with room for all it holds these ballots
  pub result_members : (after : List Ballot) → length before + length new ≤ e.limit → IsLargeSet e seed count before after → (b : Ballot) → Contains after b ↔ Contains (ballots_without (before ++ new) gone) b
  result_members after room is b =
      let same = gains_all e before cast is.cast room is.gains in (
        λ at. without_among is.cast (before ++ new) gone (λ b. Contains-permutation is.cast (before ++ new) b same) b (subst (λ (l : List Ballot). Contains l b) is.rest at),
        λ at. subst (λ (l : List Ballot). Contains l b) (sym is.rest)
            (without_among (before ++ new) is.cast gone (λ b. Contains-permutation (before ++ new) is.cast b (IsPermutation-sym is.cast (before ++ new) same)) b at),
      )

  -- and there is one
  pub one_result : (x y : List Ballot) → length before + length new ≤ e.limit → IsLargeSet e seed count before x → IsLargeSet e seed count before y → x ≡ y
  one_result x y room first second =
      let cast_alike : first.cast ≡ second.cast = same_in_order first.cast second.cast first.gains.is.ascending second.gains.is.ascending
      (IsPermutation-trans first.cast (before ++ new) second.cast (gains_all e before cast first.cast room first.gains)
      (IsPermutation-sym second.cast (before ++ new) (gains_all e before cast second.cast room second.gains))) in
      first.rest ∙ ap (λ set. ballots_without set gone) cast_alike ∙ sym second.rest

  -- what was held stays, but for what is withdrawn
  pub result_least : (after : List Ballot) → IsLargeSet e seed count before after → All (Contains after) (ballots_without before gone)
  result_least after is =
      subst (λ (l : List Ballot). All (Contains l) (ballots_without before gone)) (sym is.rest)
      (all_among (ballots_without before gone) (ballots_without is.cast gone) (without_among before is.cast gone (among_all before is.cast is.gains.keeps)))

  -- and nothing is held but that and what was cast
  pub result_most : (after : List Ballot) → IsLargeSet e seed count before after → All (Contains (ballots_without (before ++ cast) gone)) after
  result_most after is =
      subst (λ (l : List Ballot). All (Contains (ballots_without (before ++ cast) gone)) l) (sym is.rest)
      (all_among (ballots_without is.cast gone) (ballots_without (before ++ cast) gone) (without_among is.cast (before ++ cast) gone (gains_only e before cast is.cast is.gains)))
