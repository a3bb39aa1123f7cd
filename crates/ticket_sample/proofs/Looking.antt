-- A ballot that is looked for in a sample whose places have flags.
use Rattle.std.proofs.Common.{◌≡◌, ◌≢◌, ℕ, ◌<◌, ◌≤◌, ⊎_elim, List, [], ◌∷◌, Bool, true, false, length, get_or, set, sym, ap, subst, ◌∙◌, arith}
use Rattle.store_spec.proofs.Common.{Ballot, Contains, Contains-get_or, cases_lt, get_or-map, length-map, numbers_of}
use Rattle.ballot_record.proofs.BallotNumbers.{contains_number}
use Rattle.ballot_record.proofs.BallotSets.{Ascend}
use Rattle.ballot_record.specs.Record.{ballot}
use Rattle.ballot_record.specs.declared.record.Record.{Record}
use Rattle.body_store.specs.Contents.{ballots_of, ballots_without}
use Rattle.ticket_sample.proofs.Flags.{flag_set, flag_taken, flag_unset}
use Rattle.ticket_sample.proofs.Searching.{no_record}
use Rattle.ticket_sample.specs.Comparing.{IsNoneOfRest, unset}

module _ (records : List Record) (flags : List Bool) (b : Ballot) (place : ℕ) (up : Ascend (ballots_of records)) (long : length flags ≡ length records)
    (within : place < length records) (there : get_or (numbers_of (ballots_of records)) place 0 ≡ b.number) where
  abbrev sample : List Ballot
  sample = ballots_of records

  inside : place < length sample
  inside = omega (arith, within, length-map records ballot)

  flags_long : length flags ≡ length sample
  flags_long = omega (arith, long, length-map records ballot)

  -- what stands there has the number
  number_is : (d : Ballot) → (get_or sample place d).number ≡ b.number
  number_is d = sym (get_or-map (λ (b : Ballot). b.number) sample place d 0 inside) ∙ there

  pub in_sample : Contains (numbers_of sample) b.number
  in_sample = contains_number sample (get_or sample place b) b.number (Contains-get_or sample place b inside) (number_is b)

  pub done_there : get_or flags place false ≡ true → IsNoneOfRest (unset sample flags) b.number
  done_there is c = flag_set sample flags place b up inside flags_long is (subst (Contains (numbers_of (unset sample flags))) (sym (number_is b)) c)

  pub fresh_there : get_or flags place false ≡ false → ¬ IsNoneOfRest (unset sample flags) b.number
  fresh_there is done = done (contains_number (unset sample flags) (get_or sample place b) b.number (flag_unset sample flags place b inside flags_long is) (number_is b))

  pub same_there : ballot (get_or records place no_record) ≡ b → Contains sample b
  same_there same = (place, inside, get_or-map ballot records place no_record b within ∙ same)

  pub other_there : ballot (get_or records place no_record) ≢ b → ¬ Contains sample b
  other_there other c = ⊎_elim
      (λ (before : c.0 < place). let less = up c.0 place b before inside in omega (arith, less, at, number_is b))
      (λ (not_before : place ≤ c.0). ⊎_elim
      (λ (after : place < c.0). let less = up place c.0 b after c.1 in omega (arith, less, at, number_is b))
      (λ (not_after : c.0 ≤ place).
      let same : c.0 ≡ place = omega arith in
      other (sym (get_or-map ballot records place no_record b within) ∙ ap (λ n. get_or sample n b) (sym same) ∙ c.2))
      (cases_lt place c.0))
      (cases_lt c.0 place)
    where
      at : (get_or sample c.0 b).number ≡ b.number
      at = ap (λ (b : Ballot). b.number) c.2

  pub taken_there : (now : List Bool) → now ≡ set flags place true → unset sample now ≡ ballots_without (unset sample flags) (b.number ∷ [])
  taken_there now is = ap (unset sample) is ∙ flag_taken sample flags place b up inside flags_long ∙ ap (λ n. ballots_without (unset sample flags) (n ∷ [])) (number_is b)
