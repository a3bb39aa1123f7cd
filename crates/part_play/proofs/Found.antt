-- Numbers that are looked up in the set of their part.
use Rattle.std.proofs.Common.{◌≡◌, ◌^◌, ◌<◌, ◌≤◌, ◌∙◌, ℕ, Bool, true, false, All, List, [], ◌∷◌, Some, ap, ap₂, cond, is_some, map, refl}
use Rattle.store_spec.proofs.Common.{All-head, All-tail, Ballot, ClosesFinding, Effect, closing, eq-eqb, eqb-true, filter, find_text, get_or_from_slice_get, part_of, share}
use Rattle.std.specs.List.{find}
use Rattle.std.specs.Prelude.{◌==◌}
use Rattle.part_play.specs.Plays.{AreSharesOf, PlaysFindingInParts, is_present_in}
use Rattle.partition_store.proofs.Shares.{each_in_part}
use Rattle.phase_find.specs.Present.{is_present}
use Rattle.phase_play.proofs.Closing.{closes_finding}
use Rattle.phase_play.proofs.Playing.{plays_finding}

-- ---- the part of a number has its ballot, if a set has it

one_passing : {X : Type 0} (test found : X → Bool) (x : X) (xs : List X) (t f : Bool) → test x ≡ t → found x ≡ f → (found x ≡ true → test x ≡ true) → find found (filter test xs) ≡ find found xs → find found (cond t (x ∷ filter test xs) (filter test xs)) ≡ cond f (Some x) (find found xs)
one_passing test found x xs true true is it passes rest = ap (λ b. cond b (Some x) (find found (filter test xs))) it
one_passing test found x xs true false is it passes rest = ap (λ b. cond b (Some x) (find found (filter test xs))) it ∙ rest
one_passing test found x xs false true is it passes rest = absurd (let yes = passes it in cc)
one_passing test found x xs false false is it passes rest = rest

find_passing : {X : Type 0} (test found : X → Bool) → ((x : X) → found x ≡ true → test x ≡ true) → (xs : List X) → find found (filter test xs) ≡ find found xs
find_passing test found passes [] = refl
find_passing test found passes (x ∷ xs) = one_passing test found x xs (test x) (found x) refl refl (passes x) (find_passing test found passes xs)

pub part_has : (bits : ℕ) (set : List Ballot) (number : ℕ) → is_present (share bits (part_of bits number) set) number ≡ is_present set number
part_has bits set number =
    ap is_some (find_passing (λ (b : Ballot). part_of bits b.number == part_of bits number) (λ (b : Ballot). b.number == number)
    (λ b is. eq-eqb (part_of bits b.number) (part_of bits number) (ap (part_of bits) (eqb-true b.number number is))) set)

in_part : (bits : ℕ) (set : List Ballot) (parts : List (List Ballot)) → 1 ≤ bits → bits ≤ 3 → AreSharesOf bits set parts → (number : ℕ) → number < 2 ^ 64 → is_present_in bits parts number ≡ is_present set number
in_part bits set parts some few shares number short =
    let part = part_of bits number in
    ap (λ (s : List Ballot). is_present s number) (get_or_from_slice_get parts part (share bits part set) [] (shares.each part (each_in_part bits number (record { some = some; few = few }) short)))
    ∙ part_has bits set number

pub map_alike : {X Y : Type 0} (f g : X → Y) (P : X → Type 0) → ((x : X) → P x → f x ≡ g x) → (xs : List X) → All P xs → map f xs ≡ map g xs
map_alike f g P same [] all = refl
map_alike f g P same (x ∷ xs) all = ap₂ (λ y ys. y ∷ ys) (same x (All-head P x xs all)) (map_alike f g P same xs (All-tail P x xs all))

pub finds_in_parts : (bits : ℕ) (set : List Ballot) (parts : List (List Ballot)) (lists : List (List ℕ)) (present : List (List Bool)) (effect : Effect) → 1 ≤ bits → bits ≤ 3 → AreSharesOf bits set parts → All (All (λ number. number < 2 ^ 64)) lists → PlaysFindingInParts bits parts lists present → effect ≡ closing (map (map find_text) present) set → ClosesFinding set lists effect
finds_in_parts bits set parts lists present effect some few shares short told is =
    let Short : ℕ → Type 0 = λ number. number < 2 ^ 64 in
    let same = in_part bits set parts some few shares in
    closes_finding set lists present effect
    (plays_finding set lists present (told ∙ map_alike (map (is_present_in bits parts)) (map (is_present set)) (All Short) (λ list all. map_alike (is_present_in bits parts) (is_present set) Short same list all) lists short))
    is
