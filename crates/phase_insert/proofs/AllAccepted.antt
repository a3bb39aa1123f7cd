-- Trays of which every ballot was accepted.
use Rattle.std.proofs.Common.{◌≡◌, List, [], ◌∷◌, ◌++◌, get_or, map, refl, sym, ap, subst, ◌∙◌}
use Rattle.store_spec.proofs.Common.{All, All-contains_itself, All-head, All-map, All-tail, Ballot, flat_map, flat_map-cons, flat_map-map, get_or_from_slice_get, slice_get-get_or, slice_get_within, zip}
use Rattle.ballot_record.specs.BallotList.{ListedBallots}
use Rattle.body_store.specs.Contents.{all_listed}
use Rattle.phase_insert.proofs.Outcome.{from_row}
use Rattle.phase_insert.proofs.Rows.{from_zip}
use Rattle.phase_insert.proofs.Trays.{all_kept}
use Rattle.phase_insert.specs.Closing.{trays_beside}
use Rattle.phase_insert.specs.Ends.{AreAllFinals, IsAnswer, IsAnswered, all_accepted}
use Rattle.phase_insert.specs.Tray.{Cast, CastTray, IsAllAccepted, IsTrayPaired, ballots_that, casts_of, is_accepted}
use Rattle.phase_insert.specs.declared.reply.CastReply.TheVariants.{Accepted}
use Rattle.phase_insert.specs.declared.reply.Final.{Final}
use Rattle.phase_kind.proofs.Trays.{told_parts}

-- their ballots are those that were accepted
all_joined : (trays : List CastTray) → All IsTrayPaired trays → All IsAllAccepted trays → flat_map (λ tray. tray.items.ballots) trays ≡ all_accepted (map casts_of trays)
all_joined [] paired accepted = refl
all_joined (tray ∷ trays) paired accepted =
    let first = all_kept tray.items.ballots tray.replies.items (All-head IsTrayPaired tray trays paired) (All-head IsAllAccepted tray trays accepted) in
    flat_map-cons (λ (tray : CastTray). tray.items.ballots) tray trays
    ∙ ap (λ l. l ++ flat_map (λ (tray : CastTray). tray.items.ballots) trays) (sym first)
    ∙ ap (λ l. ballots_that is_accepted (casts_of tray) ++ l) (all_joined trays (All-tail IsTrayPaired tray trays paired) (All-tail IsAllAccepted tray trays accepted))
    ∙ sym (flat_map-cons (ballots_that is_accepted) (casts_of tray) (map casts_of trays))

-- so they are all that stand in their lists
pub taken_in : (trays given : List CastTray) (lists taken : List ListedBallots) → given ≡ trays → All IsTrayPaired trays → All IsAllAccepted given
    → lists ≡ map (λ tray. tray.items) trays → taken ≡ lists → all_listed taken ≡ all_accepted (map casts_of trays)
taken_in trays given lists taken same paired accepted all is =
    ap all_listed (is ∙ all)
    ∙ flat_map-map (λ (list : ListedBallots). list.ballots) (λ (tray : CastTray). tray.items) trays
    ∙ all_joined trays paired (subst (All IsAllAccepted) same accepted)

abbrev WasAccepted : Cast → Type 0
WasAccepted cast = cast.reply ≡ Accepted

tray_accepted : (tray : CastTray) → IsTrayPaired tray → IsAllAccepted tray → All WasAccepted (casts_of tray)
tray_accepted tray paired accepted k d within =
    let cast = get_or (casts_of tray) k d in
    let parts = told_parts tray.items.ballots tray.replies.items k cast paired (slice_get-get_or (casts_of tray) k d within) in
    sym (get_or_from_slice_get tray.replies.items k cast.reply Accepted parts.1) ∙ accepted k Accepted (slice_get_within tray.replies.items k cast.reply parts.1)

-- what the final reply to a ballot that was accepted is does not depend on the set
answer_stays : (before after : List Ballot) (told : Cast × Final) → WasAccepted told.0 → IsAnswered before told → IsAnswered after told
answer_stays before after told accepted is =
    subst (λ reply. IsAnswer after told.0.item reply told.1) (sym accepted) (subst (λ reply. IsAnswer before told.0.item reply told.1) accepted is)

row_stays : (before after : List Ballot) (tray : List Cast) (list : List Final) → All WasAccepted tray → All (IsAnswered before) (zip tray list) → All (IsAnswered after) (zip tray list)
row_stays before after tray list accepted answered k d within =
    let told = get_or (zip tray list) k d in
    let there = (from_zip tray list told (All-contains_itself (zip tray list) k d within)).0 in
    answer_stays before after told (ap (λ (cast : Cast). cast.reply) (sym there.2) ∙ accepted there.0 told.0 there.1) (answered k d within)

pub finals_stay : (before after : List Ballot) (trays : List CastTray) (lists : List (List Final)) → All IsTrayPaired trays → All IsAllAccepted trays
    → AreAllFinals before (map casts_of trays) lists → AreAllFinals after (map casts_of trays) lists
finals_stay before after trays lists paired accepted finals =
    let casts = map casts_of trays in
    let each : All (All WasAccepted) casts = All-map (All WasAccepted) casts_of trays (λ k d within. tray_accepted (get_or trays k d) (paired k d within) (accepted k d within)) in
    record {
      as_many = finals.as_many;
      each = λ k d within.
          let row = get_or (trays_beside casts lists) k d in
          let is = from_row casts lists row (All-contains_itself (trays_beside casts lists) k d within) in
          let tray : All WasAccepted is.tray = subst (All WasAccepted) is.of.2 (each is.of.0 is.tray is.of.1) in
          subst (All (IsAnswered after)) (sym is.is) (row_stays before after is.tray is.list tray (subst (All (IsAnswered before)) is.is (finals.each k d within)));
    }
