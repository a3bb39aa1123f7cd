-- Mark sets of groups, one after another.
use Rattle.std.proofs.Common.{◌≡◌, ℕ, suc, ◌+◌, ◌-◌, ◌<◌, ◌≤◌, true, false, eqb, List, [], ◌∷◌, ◌++◌, length, map, replicate, set, Option, Some, None, refl, sym, ap, ap₂, ◌∙◌, append_assoc, arith, length-append}
use Rattle.store_spec.proofs.Common.{MARK_SETS, length-map, map-append, mark_set, option_map, set_at, some_pair_parts}
use Rattle.ballot_record.specs.LineReading.{group_at, groups_of}
use Rattle.ballot_record.specs.Line.{set_seen, sets_seen}
use Rattle.ballot_record.proofs.LineSets.{rest_past, when_past, when_not_past}

-- the choices behind a mark set that was read
pub record IsGroupRead (most : ℕ) (rest : List ℕ) (set : ℕ) (after : List ℕ) : Type 0 where
  pub choices : List ℕ
  pub found : group_at most rest ≡ Some (choices, after)
  pub is : set ≡ mark_set choices

seen_from : (o : Option (List ℕ × List ℕ)) (set : ℕ) (after : List ℕ) → Some (set, after) ≡ option_map set_seen o → (choices : List ℕ) × (o ≡ Some (choices, after)) × (set ≡ mark_set choices)
seen_from None set after e = absurd cc
seen_from (Some found) set after e =
    let parts = some_pair_parts set (mark_set found.0) after found.1 e in
    (found.0, ap (λ rest. Some (found.0, rest)) (sym parts.1), parts.0)

none_from : (o : Option (List ℕ × List ℕ)) → None ≡ option_map set_seen o → o ≡ None
none_from None e = refl
none_from (Some found) e = absurd cc

pub group_read : (most : ℕ) (rest : List ℕ) (set : ℕ) (after : List ℕ) → Some (set, after) ≡ option_map set_seen (group_at most rest) → IsGroupRead most rest set after
group_read most rest set after e = let seen = seen_from (group_at most rest) set after e in record { choices = seen.0; found = seen.1; is = seen.2 }

-- what all groups are, where some were read before these
abbrev pub after_groups : List (List ℕ) → Option (List (List ℕ)) → Option (List (List ℕ))
after_groups before o = option_map (λ groups. before ++ groups) o

pub record IsSoFar (most groups : ℕ) (before : List (List ℕ)) (place : ℕ) (rest : List ℕ) (all : Option (List (List ℕ))) : Type 0 where
  pub counted : length before ≡ place
  pub more : after_groups before (groups_of most (groups - place) rest) ≡ all

nothing_before : (o : Option (List (List ℕ))) → after_groups [] o ≡ o
nothing_before None = refl
nothing_before (Some groups) = refl

pub no_groups_yet : (most groups : ℕ) (bytes : List ℕ) → IsSoFar most groups [] 0 bytes (groups_of most groups bytes)
no_groups_yet most groups bytes = record {
  counted = refl;
  more = nothing_before (groups_of most (groups - 0) bytes) ∙ ap (λ n. groups_of most n bytes) (let same : groups - 0 ≡ groups = omega arith in same);
}

pub no_group : (most groups : ℕ) (before : List (List ℕ)) (place : ℕ) (rest : List ℕ) (all : Option (List (List ℕ))) → place < groups → IsSoFar most groups before place rest all → None ≡ option_map set_seen (group_at most rest) → all ≡ None
unfolding groups_of
no_group most groups before place rest all within so_far none =
    let one_more : groups - place ≡ suc (groups - (place + 1)) = omega arith in
    sym so_far.more ∙ rw (one_more, none_from (group_at most rest) none) refl

pub last_group : (most groups : ℕ) (before : List (List ℕ)) (place : ℕ) (rest : List ℕ) (all : Option (List (List ℕ))) → place < groups → IsSoFar most groups before place rest all → (choices after : List ℕ) → group_at most rest ≡ Some (choices, after) → eqb (length after) 0 ≡ true → all ≡ Some (before ++ choices ∷ [])
unfolding groups_of
last_group most groups before place rest all within so_far choices after found empty =
    let one_more : groups - place ≡ suc (groups - (place + 1)) = omega arith in
    sym so_far.more ∙ rw (one_more, found, empty) refl

no_slash_after : (most more : ℕ) (rest choices after : List ℕ) → group_at most rest ≡ Some (choices, after) → eqb (length after) 0 ≡ false → None ≡ rest_past 47 after → groups_of most (suc more) rest ≡ None
unfolding groups_of
no_slash_after most more rest choices after found further none =
    let nothing : Option (List (List ℕ)) = None in
    rw (found, further) (when_not_past 47 after (λ rest. option_map (λ others. choices ∷ others) (groups_of most more rest)) nothing none)

slash_after : (most more : ℕ) (rest choices after next : List ℕ) → group_at most rest ≡ Some (choices, after) → eqb (length after) 0 ≡ false → Some next ≡ rest_past 47 after → groups_of most (suc more) rest ≡ option_map (λ others. choices ∷ others) (groups_of most more next)
unfolding groups_of
slash_after most more rest choices after next found further slash =
    let nothing : Option (List (List ℕ)) = None in
    rw (found, further) (when_past 47 after next (λ rest. option_map (λ others. choices ∷ others) (groups_of most more rest)) nothing slash)

pub no_slash : (most groups : ℕ) (before : List (List ℕ)) (place : ℕ) (rest : List ℕ) (all : Option (List (List ℕ))) → place < groups → IsSoFar most groups before place rest all → (choices after : List ℕ) → group_at most rest ≡ Some (choices, after) → eqb (length after) 0 ≡ false → None ≡ rest_past 47 after → all ≡ None
no_slash most groups before place rest all within so_far choices after found further none =
    let one_more : groups - place ≡ suc (groups - (place + 1)) = omega arith in
    sym so_far.more ∙ ap (λ n. after_groups before (groups_of most n rest)) one_more ∙ ap (after_groups before) (no_slash_after most (groups - (place + 1)) rest choices after found further none)

regrouped : (before : List (List ℕ)) (choices : List ℕ) (o : Option (List (List ℕ))) → after_groups (before ++ choices ∷ []) o ≡ after_groups before (option_map (λ others. choices ∷ others) o)
regrouped before choices None = refl
regrouped before choices (Some groups) = ap (λ groups. Some groups) (append_assoc before (choices ∷ []) groups)

pub next_group : (most groups : ℕ) (before : List (List ℕ)) (place : ℕ) (rest : List ℕ) (all : Option (List (List ℕ))) → place < groups → IsSoFar most groups before place rest all → (choices after next : List ℕ) → group_at most rest ≡ Some (choices, after) → eqb (length after) 0 ≡ false → Some next ≡ rest_past 47 after → IsSoFar most groups (before ++ choices ∷ []) (place + 1) next all
next_group most groups before place rest all within so_far choices after next found further slash =
    let one_more : groups - place ≡ suc (groups - (place + 1)) = omega arith in
    record {
      counted = omega (arith, length-append before (choices ∷ []), so_far.counted);
      more = regrouped before choices (groups_of most (groups - (place + 1)) next)
          ∙ sym (ap (λ n. after_groups before (groups_of most n rest)) one_more ∙ ap (after_groups before) (slash_after most (groups - (place + 1)) rest choices after next found further slash))
          ∙ so_far.more;
    }

pub no_more_groups : (most groups : ℕ) (before : List (List ℕ)) (place : ℕ) (rest : List ℕ) (all : Option (List (List ℕ))) → groups ≤ place → IsSoFar most groups before place rest all → all ≡ None
unfolding groups_of
no_more_groups most groups before place rest all past so_far =
    let none_left : groups - place ≡ 0 = omega arith in
    sym so_far.more ∙ rw none_left refl

-- ---- the array

abbrev pub sets_kept : List (List ℕ) → ℕ → List ℕ
sets_kept before place = map mark_set before ++ replicate (MARK_SETS - place) 0

pub set_written : (before : List (List ℕ)) (place : ℕ) (marks : List ℕ) (set_read : ℕ) (choices : List ℕ) → place < MARK_SETS → length before ≡ place → marks ≡ sets_kept before place → set_read ≡ mark_set choices
    → set marks place set_read ≡ sets_kept (before ++ choices ∷ []) (place + 1)
set_written before place marks set_read choices within counted kept is =
    let one_more : MARK_SETS - place ≡ suc (MARK_SETS - (place + 1)) = omega arith in
    let behind = replicate (MARK_SETS - (place + 1)) 0 in
    ap (λ marks. set marks place set_read) (kept ∙ ap (λ n. map mark_set before ++ replicate n 0) one_more)
    ∙ set_at (map mark_set before) 0 behind set_read place (length-map before mark_set ∙ counted)
    ∙ ap (λ s. map mark_set before ++ s ∷ behind) is
    ∙ sym (ap (λ sets. sets ++ behind) (map-append mark_set before (choices ∷ [])) ∙ append_assoc (map mark_set before) (mark_set choices ∷ []) behind)

pub sets_at_end : (before : List (List ℕ)) (place : ℕ) (marks : List ℕ) (all : Option (List (List ℕ))) → length before ≡ place → marks ≡ sets_kept before place → all ≡ Some before → Some (marks, place) ≡ option_map sets_seen all
sets_at_end before place marks all counted kept is =
    ap₂ (λ marks count. Some (marks, count)) (kept ∙ ap (λ n. sets_kept before n) (sym counted)) (sym counted) ∙ sym (ap (option_map sets_seen) is)
