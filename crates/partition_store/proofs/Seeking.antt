-- The least number of a part that belongs to another part.
use Rattle.std.proofs.Common.{◌≡◌, ◌≢◌, ◌+◌, ◌<◌, ◌≤◌, ℕ, List, [], ◌∷◌, ◌++◌, length, length-append, get_or, false, Option, Some, None, refl, sym, ◌∙◌, ap, subst, min, ⊎_elim, arith}
use Rattle.store_spec.proofs.Common.{All, All-contains, Ballot, Contains, Contains-append_left, Contains-get_or, Contains-push, Contains-push_cases, Election, HoldsExactly, IsValid, cases_lt, get_or_append_left, numbers_of, part_of}
use Rattle.std.proofs.Math.Seq.{get_or-append_seam}
use Rattle.std.specs.Option.{is_some}
use Rattle.ballot_record.proofs.BallotNumbers.{ballot_with, contains_number}
use Rattle.partition_store.specs.Foreign.{IsAmong, IsFirstForeign, IsForeignIn, IsLeast, IsLeastForeign, first_foreign, least_with}
use Rattle.partition_store.specs.Parted.{BelongsTo}
use Rattle.partition_store.specs.declared.looking.Foreign.{Foreign}

module _ (bits part : ℕ) where
  -- the same of what is among others, and the other way round
  pub among_same : (P Q : ℕ → Type 0) → ((n : ℕ) → P n → Q n) → ((n : ℕ) → Q n → P n) → (least : Option ℕ) → IsLeastForeign bits part P least
      → IsLeastForeign bits part Q least
  among_same P Q there back None none = λ n q. none n (back n q)
  among_same P Q there back (Some m) one = record {
    among = there m one.among;
    foreign = one.foreign;
    least = λ other q. one.least other (back other q);
  }

  module _ (cells : List ℕ) (x : ℕ) where
    again : (n : ℕ) → IsAmong cells n → IsAmong (cells ++ x ∷ []) n
    again n among = (among.0, Contains-append_left cells (x ∷ []) n among.1)

    -- a cell that is empty or whose number belongs here
    pub passes : (least : Option ℕ) → ((x ≢ 0) → part_of bits x ≡ part) → IsLeastForeign bits part (IsAmong cells) least
        → IsLeastForeign bits part (IsAmong (cells ++ x ∷ [])) least
    passes None own none = λ n among. ⊎_elim
        (λ before. none n (among.0, before))
        (λ (is : x ≡ n). subst (λ n. part_of bits n ≡ part) is (own (λ zero. among.0 (sym is ∙ zero))))
        (Contains-push_cases cells x n among.1)
    passes (Some m) own one = record {
      among = again m one.among;
      foreign = one.foreign;
      least = λ other among not_own. ⊎_elim
          (λ before. one.least other (among.0, before) not_own)
          (λ (is : x ≡ other). absurd (not_own (subst (λ n. part_of bits n ≡ part) is (own (λ zero. among.0 (sym is ∙ zero))))))
          (Contains-push_cases cells x other among.1);
    }

    -- one whose number does not
    pub catches : (least : Option ℕ) → x ≢ 0 → part_of bits x ≢ part → IsLeastForeign bits part (IsAmong cells) least
        → IsLeast bits part (IsAmong (cells ++ x ∷ [])) (least_with least x)
    catches None some foreign none = record {
      among = (some, Contains-push cells x);
      foreign = foreign;
      least = λ other among not_own. ⊎_elim
          (λ before. absurd (not_own (none other (among.0, before))))
          (λ (is : x ≡ other). omega (arith, is))
          (Contains-push_cases cells x other among.1);
    }
    catches (Some m) some foreign one =
        let lower : (other : ℕ) → IsAmong (cells ++ x ∷ []) other → part_of bits other ≢ part → min m x ≤ other =
        λ other among not_own. ⊎_elim
        (λ before. let le = one.least other (among.0, before) not_own in omega arith)
        (λ (is : x ≡ other). omega (arith, is))
        (Contains-push_cases cells x other among.1)
        in
        ⊎_elim
        (λ (less : m < x).
        let is : m ≡ min m x = omega arith in
        subst (IsLeast bits part (IsAmong (cells ++ x ∷ []))) is (record { among = again m one.among; foreign = one.foreign; least = λ other among not_own. let le = lower other among not_own in omega arith }))
        (λ (not : x ≤ m).
        let is : x ≡ min m x = omega arith in
        subst (IsLeast bits part (IsAmong (cells ++ x ∷ []))) is (record { among = (some, Contains-push cells x); foreign = foreign; least = λ other among not_own. let le = lower other among not_own in omega arith }))
        (cases_lt m x)

-- ---- of a set

-- what is among the cells is what stands in the set
pub foreign_in : (e : Election) (bits part : ℕ) (set : List Ballot) (cells : List ℕ) (least : Option ℕ) → HoldsExactly cells (numbers_of set) → All (IsValid e) set
    → IsLeastForeign bits part (IsAmong cells) least → IsForeignIn bits part set least
foreign_in e bits part set cells least holds valid found =
    among_same bits part (IsAmong cells) (Contains (numbers_of set))
    (λ n among. holds.only n among.0 among.1)
    (λ n c.
    let b = ballot_with set n c in
    let some = (All-contains (IsValid e) set b.0 valid b.1).some_number in
    ((λ zero. omega (arith, b.2)), holds.each n c))
    least found

-- a set with no number of another part
pub belongs : (bits part : ℕ) (set : List Ballot) → IsForeignIn bits part set None → BelongsTo bits part set
belongs bits part set none k d lt = none (get_or set k d).number (contains_number set (get_or set k d) (get_or set k d).number (Contains-get_or set k d lt) refl)

-- ---- of several sets

module _ (bits : ℕ) (sets : List (List Ballot)) (next : List Ballot) where
  abbrev more : List (List Ballot)
  more = sets ++ next ∷ []

  size : length more ≡ length sets + 1
  size = length-append sets (next ∷ [])

  still : (part : ℕ) → part < length sets → get_or sets part [] ≡ get_or more part []
  still part lt = sym (get_or_append_left sets (next ∷ []) [] part lt)

  there : get_or more (length sets) [] ≡ next
  there = get_or-append_seam sets next [] []

  -- one more is looked at
  pub first_more : (so_far : Option Foreign) (index : ℕ) (number : Option ℕ) → index ≡ length sets → IsFirstForeign bits sets so_far → IsForeignIn bits index next number
      → IsFirstForeign bits more (first_foreign so_far index number)
  first_more (Some f) index number is found one = record {
    within = omega (arith, size, found.within);
    earlier = λ part lt. subst (BelongsTo bits part) (still part (omega (arith, found.within))) (found.earlier part lt);
    least = subst (λ set. IsForeignIn bits f.index set (Some f.number)) (still f.index found.within) found.least;
  }
  first_more None index (Some number) is found one = record {
    within = omega (arith, size);
    earlier = λ part lt. subst (BelongsTo bits part) (still part (omega (arith, is))) (found part (omega (arith, is)));
    least = subst (λ set. IsForeignIn bits index set (Some number)) (sym there ∙ ap (λ k. get_or more k []) (sym is)) one;
  }
  first_more None index None is found one = λ part lt. ⊎_elim
      (λ (before : part < length sets). subst (BelongsTo bits part) (still part before) (found part before))
      (λ (not : length sets ≤ part).
      let here : length sets ≡ part = omega (arith, size) in
      subst (λ part. BelongsTo bits part (get_or more part [])) here
      (subst (BelongsTo bits (length sets)) (sym there) (subst (λ part. BelongsTo bits part next) is (belongs bits index next one))))
      (cases_lt part (length sets))

pub none_of : {X : Type 0} (o : Option X) → is_some o ≡ false → o ≡ None
none_of None is = refl
none_of (Some x) is = absurd cc
