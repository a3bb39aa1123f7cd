-- Numbers that are looked up in the set of their part are looked up in the set of all.
use Rattle.std.proofs.Common.{◌≡◌, ◌∙◌, ℕ, Bool, List, ap, map, sym}
use Rattle.store_spec.proofs.Common.{Ballot, ClosesFinding, closing, find_text, map-map, part_of}
use Rattle.part_play.proofs.Found.{map_alike, part_has}
use Rattle.part_play.specs.Plays.{PlaysFindingInParts, is_present_in}
use Rattle.partition_store.proofs.Shares.{share_joined}
use Rattle.partition_store.specs.Parted.{AreParts, joined}
use Rattle.phase_find.specs.Present.{is_present}
use Rattle.phase_play.proofs.Closing.{closes_finding}
use Rattle.phase_play.proofs.Playing.{plays_finding}

module _ (bits : ℕ) (sets : List (List Ballot)) (are : AreParts bits sets) where
  in_part : (number : ℕ) → is_present_in bits sets number ≡ is_present (joined sets) number
  in_part number =
      ap (λ (s : List Ballot). is_present s number) (sym (share_joined bits (part_of bits number) sets are))
      ∙ part_has bits (joined sets) number

  abbrev Any : {X : Type 0} → X → Type 0
  Any x = Unit {0}

  in_list : (list : List ℕ) → map (is_present_in bits sets) list ≡ map (is_present (joined sets)) list
  in_list list = map_alike (is_present_in bits sets) (is_present (joined sets)) Any (λ number any. in_part number) list (λ k d below. tt)

  -- a finding phase does what its close asks
  pub found_closes : {V : Type 0} (items : V → List Bool) (work : List (List ℕ)) (lists : List V)
      → PlaysFindingInParts bits sets work (map items lists)
      → ClosesFinding (joined sets) work (closing (map (λ v. map find_text (items v)) lists) (joined sets))
  found_closes items work lists told =
      closes_finding (joined sets) work (map items lists)
      (closing (map (λ v. map find_text (items v)) lists) (joined sets))
      (plays_finding (joined sets) work (map items lists)
      (told ∙ map_alike (map (is_present_in bits sets)) (map (is_present (joined sets))) Any (λ list any. in_list list) work (λ k d below. tt)))
      (ap (λ words. closing words (joined sets)) (sym (map-map (map find_text) items lists)))
