-- The stores of all parts, before a phase and after it.
use Rattle.std.proofs.Common.{◌≡◌, ◌∙◌, ◌^◌, ◌<◌, ◌≤◌, ℕ, All, List, [], ◌∷◌, Some, ap, arith, get_or, length, map, refl, subst, sym}
use Rattle.store_spec.proofs.Common.{Ballot, CastReply, ClosesCastingInParts, ClosesWithdrawingInParts, Effect, Election, IsBallotSet, WithdrawReply, cast_text, closing, get_or-map, get_or_from_slice_get, length-map, map-map, slice_get-get_or, slice_get_within, withdraw_text}
use Rattle.body_store.specs.Contents.{Contents, IsStored}
use Rattle.part_play.specs.Plays.{AreSharesOf, HoldTheirOwn, PlaysCastingInParts, PlaysWithdrawingInParts}
use Rattle.partition_store.proofs.Keeping.{each_part, own_election, two_parts}
use Rattle.partition_store.proofs.Shares.{joined_set, share_joined}
use Rattle.partition_store.specs.Parted.{AreBits, AreParts, BelongsTo, IsParted, Parted, joined}
use Rattle.partition_store.specs.PartedKept.{AreStores, election_of, sets_of}

-- the words of replies, as a session tells them
pub words_told : {V X R : Type 0} (text : R → List ℕ) (of : X → R) (items : V → List X) (lists : List V)
    → map (λ v. map (λ x. text (of x)) (items v)) lists ≡ map (map text) (map (λ v. map of (items v)) lists)
words_told text of items [] = refl
words_told text of items (v ∷ lists) =
    ap (λ first. first ∷ map (λ v. map (λ x. text (of x)) (items v)) lists) (sym (map-map text of (items v)))
    ∙ ap (λ rest. map text (map of (items v)) ∷ rest) (words_told text of items lists)

-- ---- the sets of parts

pub own_held : (bits : ℕ) (sets : List (List Ballot)) → AreParts bits sets → HoldTheirOwn bits sets
own_held bits sets are part set there =
    subst (BelongsTo bits part) (get_or_from_slice_get sets part set [] there) (are.own part (slice_get_within sets part set there))

pub own_parts : (bits : ℕ) (sets : List (List Ballot)) → length sets ≡ 2 ^ bits → HoldTheirOwn bits sets → AreParts bits sets
own_parts bits sets many own = record {
  count = many;
  own = λ part lt. own part (get_or sets part []) (slice_get-get_or sets part [] lt);
}

pub shares_held : (bits : ℕ) (sets : List (List Ballot)) → AreParts bits sets → AreSharesOf bits (joined sets) sets
shares_held bits sets are = record {
  count = are.count;
  each = λ part lt.
      slice_get-get_or sets part [] (subst (λ n. part < n) (sym are.count) lt)
      ∙ ap (λ (s : List Ballot). Some s) (sym (share_joined bits part sets are));
}

-- ---- the stores

-- all are of their election
pub elections_are : (e : Election) (stores : List Contents) → AreStores e stores → All (λ store. store.election ≡ e) stores
elections_are e stores are k d lt = (are k d lt).0

-- so are those after a phase
pub stores_after : (e : Election) (stores after : List Contents) → AreStores e stores
    → map (λ store. store.election) after ≡ map (λ store. store.election) stores → All IsStored after → AreStores e after
stores_after e stores after are same stored k d lt =
    let of : Contents → Election = λ store. store.election in
    let many : length after ≡ length stores = omega (arith, ap length same, length-map after of, length-map stores of) in
    let here : k < length stores = omega (arith, many, lt) in (
      sym (get_or-map of after k d (of d) lt) ∙ ap (λ (es : List Election). get_or es k (of d)) same
          ∙ get_or-map of stores k d (of d) here ∙ (are k d here).0,
      stored k d lt,
    )

-- the election of the first is that of all
pub first_election : (bits : ℕ) (e : Election) (stores : List Contents) → AreBits bits → AreStores e stores
    → length (sets_of stores) ≡ 2 ^ bits → election_of stores ≡ e
first_election bits e stores few are many =
    own_election e stores are
    (omega (arith, many, two_parts bits few, length-map stores (λ (store : Contents). store.ballots)))

-- ---- a phase of them

-- what is always so of a phase that casts
abbrev CastingKeeps : Type 0
CastingKeeps = (bits : ℕ) (e : Election) (base : List (List Ballot)) (work : List (List Ballot))
    (replies : List (List CastReply)) (after : List (List Ballot)) → PlaysCastingInParts bits e base work replies after
    → HoldTheirOwn bits base → HoldTheirOwn bits after

abbrev CastingCloses : Type 0
CastingCloses = (bits : ℕ) (e : Election) (set after : List Ballot) (parts parts_after : List (List Ballot))
    (lists : List (List Ballot)) (replies : List (List CastReply)) (effect : Effect) → AreSharesOf bits set parts
    → AreSharesOf bits after parts_after → IsBallotSet e after → PlaysCastingInParts bits e parts lists replies parts_after
    → effect ≡ closing (map (map cast_text) replies) after → ClosesCastingInParts bits e set lists effect

-- and of one that withdraws
abbrev WithdrawingKeeps : Type 0
WithdrawingKeeps = (bits : ℕ) (base : List (List Ballot)) (work : List (List ℕ)) (replies : List (List WithdrawReply))
    (after : List (List Ballot)) → PlaysWithdrawingInParts bits base work replies after
    → HoldTheirOwn bits base → HoldTheirOwn bits after

abbrev WithdrawingCloses : Type 0
WithdrawingCloses = (bits : ℕ) (e : Election) (set after : List Ballot) (parts parts_after : List (List Ballot))
    (lists : List (List ℕ)) (replies : List (List WithdrawReply)) (effect : Effect) → 1 ≤ bits → bits ≤ 3
    → AreSharesOf bits set parts → AreSharesOf bits after parts_after → IsBallotSet e set → IsBallotSet e after
    → PlaysWithdrawingInParts bits parts lists replies parts_after
    → effect ≡ closing (map (map withdraw_text) replies) after → ClosesWithdrawingInParts bits set lists effect

module _ (store : Parted) (stores : List Contents) (sets : sets_of stores ≡ store.sets)
    (are : AreStores store.election stores) (parted : IsParted store) where
  -- the sets of the stores
  pub before : AreParts store.bits (sets_of stores)
  before = subst (AreParts store.bits) (sym sets) parted.parts

  -- its own election is that of the first
  pub election_before : election_of stores ≡ store.election
  election_before = first_election store.bits store.election stores parted.bits are before.count

  module _ (after : List Contents) (same : map (λ (s : Contents). s.election) after ≡ map (λ (s : Contents). s.election) stores)
      (stored : All IsStored after) where
    now : AreStores store.election after
    now = stores_after store.election stores after are same stored

    many : length (sets_of after) ≡ 2 ^ store.bits
    many =
        let of : Contents → Election = λ s. s.election in
        let set : Contents → List Ballot = λ s. s.ballots in
        omega (arith, before.count, ap length same, length-map after of, length-map stores of, length-map after set, length-map stores set)

    pub election_now : election_of after ≡ store.election
    election_now = first_election store.bits store.election after parted.bits now many

    pub stores_now : AreStores (election_of after) after
    stores_now = subst (λ e. AreStores e after) (sym election_now) now

    set_now : AreParts store.bits (sets_of after) → IsBallotSet store.election (joined (sets_of after))
    set_now parts = joined_set store.election store.bits (sets_of after) parted.bits parts
        (λ k d lt. (each_part store.election after now k d lt).0)

    set_before : IsBallotSet store.election (joined (sets_of stores))
    set_before = joined_set store.election store.bits (sets_of stores) parted.bits before
        (λ k d lt. (each_part store.election stores are k d lt).0)

    module _ (spread : ℕ) (is : spread ≡ store.bits) where
      cast_so : (work : List (List Ballot)) (replies : List (List CastReply))
          → ((e : Election) → All (λ store. store.election ≡ e) stores → PlaysCastingInParts spread e (sets_of stores) work replies (sets_of after))
          → PlaysCastingInParts store.bits store.election (sets_of stores) work replies (sets_of after)
      cast_so work replies plays =
          subst (λ n. PlaysCastingInParts n store.election (sets_of stores) work replies (sets_of after)) is
          (plays store.election (elections_are store.election stores are))

      pub parts_cast : (work : List (List Ballot)) (replies : List (List CastReply)) → CastingKeeps
          → ((e : Election) → All (λ store. store.election ≡ e) stores → PlaysCastingInParts spread e (sets_of stores) work replies (sets_of after))
          → AreParts store.bits (sets_of after)
      parts_cast work replies keeps plays =
          own_parts store.bits (sets_of after) many
          (keeps store.bits store.election (sets_of stores) work replies (sets_of after) (cast_so work replies plays)
          (own_held store.bits (sets_of stores) before))

      pub cast_closes : {V X : Type 0} (of : X → CastReply) (items : V → List X) (work : List (List Ballot)) (lists : List V)
          → CastingKeeps → CastingCloses
          → ((e : Election) → All (λ store. store.election ≡ e) stores → PlaysCastingInParts spread e (sets_of stores) work (map (λ v. map of (items v)) lists) (sets_of after))
          → ClosesCastingInParts store.bits store.election (joined store.sets) work
          (closing (map (λ v. map (λ x. cast_text (of x)) (items v)) lists) (joined (sets_of after)))
      cast_closes of items work lists keeps closes plays =
          let replies = map (λ v. map of (items v)) lists in
          let effect = closing (map (λ v. map (λ x. cast_text (of x)) (items v)) lists) (joined (sets_of after)) in
          let parts = parts_cast work replies keeps plays in
          subst (λ (all : List (List Ballot)). ClosesCastingInParts store.bits store.election (joined all) work effect) sets
          (closes store.bits store.election (joined (sets_of stores)) (joined (sets_of after)) (sets_of stores) (sets_of after)
          work replies effect (shares_held store.bits (sets_of stores) before) (shares_held store.bits (sets_of after) parts)
          (set_now parts) (cast_so work replies plays)
          (ap (λ words. closing words (joined (sets_of after))) (words_told cast_text of items lists)))

      withdrawn_so : (work : List (List ℕ)) (replies : List (List WithdrawReply))
          → PlaysWithdrawingInParts spread (sets_of stores) work replies (sets_of after)
          → PlaysWithdrawingInParts store.bits (sets_of stores) work replies (sets_of after)
      withdrawn_so work replies plays =
          subst (λ n. PlaysWithdrawingInParts n (sets_of stores) work replies (sets_of after)) is plays

      pub parts_withdrawn : (work : List (List ℕ)) (replies : List (List WithdrawReply)) → WithdrawingKeeps
          → PlaysWithdrawingInParts spread (sets_of stores) work replies (sets_of after)
          → AreParts store.bits (sets_of after)
      parts_withdrawn work replies keeps plays =
          own_parts store.bits (sets_of after) many
          (keeps store.bits (sets_of stores) work replies (sets_of after) (withdrawn_so work replies plays)
          (own_held store.bits (sets_of stores) before))

      pub withdrawal_closes : {V X : Type 0} (of : X → WithdrawReply) (items : V → List X) (work : List (List ℕ)) (lists : List V)
          → WithdrawingKeeps → WithdrawingCloses
          → PlaysWithdrawingInParts spread (sets_of stores) work (map (λ v. map of (items v)) lists) (sets_of after)
          → ClosesWithdrawingInParts store.bits (joined store.sets) work
          (closing (map (λ v. map (λ x. withdraw_text (of x)) (items v)) lists) (joined (sets_of after)))
      withdrawal_closes of items work lists keeps closes plays =
          let replies = map (λ v. map of (items v)) lists in
          let effect = closing (map (λ v. map (λ x. withdraw_text (of x)) (items v)) lists) (joined (sets_of after)) in
          let parts = parts_withdrawn work replies keeps plays in
          subst (λ (all : List (List Ballot)). ClosesWithdrawingInParts store.bits (joined all) work effect) sets
          (closes store.bits store.election (joined (sets_of stores)) (joined (sets_of after)) (sets_of stores) (sets_of after)
          work replies effect parted.bits.some parted.bits.few
          (shares_held store.bits (sets_of stores) before) (shares_held store.bits (sets_of after) parts)
          set_before (set_now parts) (withdrawn_so work replies plays)
          (ap (λ words. closing words (joined (sets_of after))) (words_told withdraw_text of items lists)))
