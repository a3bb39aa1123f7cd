-- The trays of a phase with their final replies have the outcome of casting.
use Rattle.std.proofs.Common.{◌≡◌, ◌≢◌, ℕ, suc, ◌+◌, ◌⊎◌, ⊎_elim, inl, inr, Bool, true, false, cond, Some, None, List, [], ◌∷◌, ◌++◌, length, map, filter, refl, sym, ap, ◌∙◌, subst, arith, length-append}
use Rattle.store_spec.proofs.Common.{All, All-contains, All-head, All-map, All-tail, All-weaker, AllPairs, AllPairs-cons, Ballot, CastLine, CastView, Contains, Contains-append_cases, Contains-append_left, Contains-append_right, Contains-permutation, Election, HasNumber, IsBallotSet, IsPermutation, IsPermutation-sym, IsRightReply, IsWithinLimit, ballot_of, cases_eq, length_permutation, numbers_of, zip}
use Rattle.ballot_record.proofs.BallotNumbers.{ballot_with, contains_number, length-numbers_of}
use Rattle.ballot_record.proofs.Lookups.{found_in, missing_from, option_cases}
use Rattle.body_store.specs.Contents.{Contents}
use Rattle.phase_insert.proofs.Rows.{from_zip}
use Rattle.phase_insert.proofs.Trays.{listed}
use Rattle.phase_insert.proofs.Whole.{numbers_accepted, told_by}
use Rattle.phase_insert.specs.CastPhase.{AreCastWordsOf}
use Rattle.phase_insert.specs.Closing.{ClosesAs, IsFinal, reply_of, tray_line, trays_beside}
use Rattle.phase_insert.specs.Ends.{AreAllFinals, Decides, IsAnswer, IsAnswered, TabulatorView, TellsOf, all_accepted}
use Rattle.phase_kind.specs.Worker.{AreAll, seat_of}
use Rattle.phase_insert.specs.Tray.{Cast, ComparesWithBase, IsTrayOf, MayPrecede, ballots_that, is_accepted, is_full, is_taken}
use Rattle.phase_insert.specs.declared.reply.CastReply.{CastReply}
use Rattle.phase_insert.specs.declared.reply.CastReply.TheVariants as casts
use Rattle.phase_insert.specs.declared.reply.Final.{Final}
use Rattle.phase_insert.specs.declared.reply.Final.TheVariants as finals
use Rattle.store_spec.specs.BallotPhase as reply
use Rattle.word_rule.proofs.Members.{all_members, contains-filter, contains-flat_map, contains-map, from_map}
use Rattle.word_rule.specs.CastWords.{AgreeOn, accepted_by}
use Rattle.word_rule.specs.Places.{Place}
use Rattle.word_rule.specs.Seats.{SharedWords}

-- ---- one reply and its final reply

-- each final reply is one that its reply may become
pub is_final : (after : List Ballot) (b : Ballot) (r : CastReply) (f : Final) → IsAnswer after b r f → IsFinal r f
is_final after b casts.Accepted f is = is
is_final after b casts.Duplicate f is = is
is_final after b casts.Conflict f is = is
is_final after b casts.Taken finals.Accepted is = absurd is
is_final after b casts.Taken finals.Duplicate is = inl refl
is_final after b casts.Taken finals.Conflict is = inr refl
is_final after b casts.Taken finals.Full is = absurd is
is_final after b casts.Full f is = is

-- it accepts where the reply does
accepts_alike : (r : CastReply) (f : Final) → IsFinal r f → reply.is_accepted (reply_of f) ≡ is_accepted r
accepts_alike casts.Accepted f is = ap (λ (x : Final). reply.is_accepted (reply_of x)) is
accepts_alike casts.Duplicate f is = ap (λ (x : Final). reply.is_accepted (reply_of x)) is
accepts_alike casts.Conflict f is = ap (λ (x : Final). reply.is_accepted (reply_of x)) is
accepts_alike casts.Taken f is = ⊎_elim (λ e. ap (λ (x : Final). reply.is_accepted (reply_of x)) e) (λ e. ap (λ (x : Final). reply.is_accepted (reply_of x)) e) is
accepts_alike casts.Full f is = ap (λ (x : Final). reply.is_accepted (reply_of x)) is

-- and is Accepted or Full where the reply is
accepted_before : (r : CastReply) (f : Final) → IsFinal r f → reply_of f ≡ reply.CastReply.Accepted → r ≡ casts.Accepted
accepted_before casts.Accepted f is told = refl
accepted_before casts.Duplicate f is told = let e = sym (ap reply_of is) ∙ told in absurd cc
accepted_before casts.Conflict f is told = let e = sym (ap reply_of is) ∙ told in absurd cc
accepted_before casts.Taken f is told = ⊎_elim (λ d. let e = sym (ap reply_of d) ∙ told in absurd cc) (λ d. let e = sym (ap reply_of d) ∙ told in absurd cc) is
accepted_before casts.Full f is told = let e = sym (ap reply_of is) ∙ told in absurd cc

full_before : (r : CastReply) (f : Final) → IsFinal r f → reply_of f ≡ reply.CastReply.Full → r ≡ casts.Full
full_before casts.Accepted f is told = let e = sym (ap reply_of is) ∙ told in absurd cc
full_before casts.Duplicate f is told = let e = sym (ap reply_of is) ∙ told in absurd cc
full_before casts.Conflict f is told = let e = sym (ap reply_of is) ∙ told in absurd cc
full_before casts.Taken f is told = ⊎_elim (λ d. let e = sym (ap reply_of d) ∙ told in absurd cc) (λ d. let e = sym (ap reply_of d) ∙ told in absurd cc) is
full_before casts.Full f is told = refl

-- ---- a tray and its final replies

abbrev IsFinalOf : Cast × Final → Type 0
IsFinalOf told = IsFinal told.0.reply told.1

-- the lines accept the ballots that the tray accepts

lines_accept : (tray : List Cast) (list : List Final) → length list ≡ length tray → All IsFinalOf (zip tray list) → map (λ l. l.ballot) (filter (λ l. reply.is_accepted l.reply) (map tray_line (zip tray list))) ≡ ballots_that is_accepted tray
lines_accept [] list same each = refl
lines_accept (c ∷ tray) [] same each = absurd (omega arith)
lines_accept (c ∷ tray) (f ∷ list) same each = step (is_accepted c.reply) (accepts_alike c.reply f (All-head IsFinalOf (c, f) (zip tray list) each)) (lines_accept tray list (omega arith) (All-tail IsFinalOf (c, f) (zip tray list) each))
  where
    lines : List CastLine
    lines = filter (λ l. reply.is_accepted l.reply) (map tray_line (zip tray list))

    kept : List Cast
    kept = filter (λ x. is_accepted x.reply) tray

    step : (b : Bool) → reply.is_accepted (reply_of f) ≡ b → map (λ l. l.ballot) lines ≡ map (λ x. x.item) kept → map (λ l. l.ballot) (cond (reply.is_accepted (reply_of f)) (tray_line (c, f) ∷ lines) lines) ≡ map (λ x. x.item) (cond b (c ∷ kept) kept)
    step true is rest = ap (λ (t : Bool). map (λ (l : CastLine). l.ballot) (cond t (tray_line (c, f) ∷ lines) lines)) is ∙ ap (λ l. c.item ∷ l) rest
    step false is rest = ap (λ (t : Bool). map (λ (l : CastLine). l.ballot) (cond t (tray_line (c, f) ∷ lines) lines)) is ∙ rest

all_lines_accept : (trays : List (List Cast)) (lists : List (List Final)) → map length lists ≡ map length trays → All (All IsFinalOf) (trays_beside trays lists) → reply.accepted_in (map (map tray_line) (trays_beside trays lists)) ≡ all_accepted trays
all_lines_accept [] lists same each = refl
all_lines_accept (tray ∷ trays) [] same each = absurd cc
all_lines_accept (tray ∷ trays) (list ∷ lists) same each =
    let first : length list ≡ length tray = cc in
    let rest : map length lists ≡ map length trays = cc in
    ap (λ l. l ++ reply.accepted_in (map (map tray_line) (trays_beside trays lists))) (lines_accept tray list first (All-head (All IsFinalOf) (zip tray list) (trays_beside trays lists) each))
    ∙ ap (λ l. ballots_that is_accepted tray ++ l) (all_lines_accept trays lists rest (All-tail (All IsFinalOf) (zip tray list) (trays_beside trays lists) each))

-- the order of a tray is one of its lines
precedes : (c later : Cast) (f g : Final) → IsFinal c.reply f → IsFinal later.reply g → MayPrecede c later → reply.MayBeCastBefore (tray_line (c, f)) (tray_line (later, g))
precedes c later f g first second may accepts =
    let both = may (accepted_before later.reply g second accepts) in
    (both.0, λ full. both.1 (full_before c.reply f first full))

lines_in_order : (tray : List Cast) (list : List Final) → All IsFinalOf (zip tray list) → AllPairs MayPrecede tray → AllPairs reply.MayBeCastBefore (map tray_line (zip tray list))
lines_in_order [] list each order = λ i j d less within. absurd (omega arith)
lines_in_order (c ∷ tray) [] each order = λ i j d less within. absurd (omega arith)
lines_in_order (c ∷ tray) (f ∷ list) each order =
    let rest = All-tail IsFinalOf (c, f) (zip tray list) each in
    AllPairs-cons reply.MayBeCastBefore (tray_line (c, f)) (map tray_line (zip tray list))
    (all_members (reply.MayBeCastBefore (tray_line (c, f))) (map tray_line (zip tray list)) (λ l there.
    let told = from_map tray_line (zip tray list) l there in
    let later = from_zip tray list told.0 told.1 in
    subst (reply.MayBeCastBefore (tray_line (c, f))) told.2
    (precedes c (told.0).0 f (told.0).1 (All-head IsFinalOf (c, f) (zip tray list) each) (All-contains IsFinalOf (zip tray list) told.0 rest told.1) (first_before c tray order (told.0).0 later.0))))
    (lines_in_order tray list rest (λ i j d less within. order (suc i) (suc j) d (omega arith) (omega arith)))
  where
    first_before : (c : Cast) (tray : List Cast) → AllPairs MayPrecede (c ∷ tray) → (x : Cast) → Contains tray x → MayPrecede c x
    first_before c tray order x there = subst (MayPrecede c) there.2 (order 0 (suc there.0) x (omega arith) (omega (arith, there.1)))

-- ---- what each reply says of the set

-- a number that was taken has a ballot in the set, and the two are the same, or not
decided : (e : Election) (base after : List Ballot) (b : Ballot) (f : Final) → Contains (numbers_of after) b.number → Decides after b f → IsRightReply e base after b (reply_of f)
decided e base after b finals.Accepted there is = absurd is
decided e base after b finals.Duplicate there is = (found_in after b.number b is).0
decided e base after b finals.Conflict there is = ⊎_elim
    (λ (none : ballot_of after b.number ≡ None). let held = ballot_with after b.number there in absurd (missing_from after b.number none held.0 held.1 held.2))
    (λ some.
    let found = found_in after b.number some.0 some.1 in
    ((found.0).0, some.0, (found.0).1, (found.0).2, (found.1, λ same. is (some.1 ∙ ap (λ (x : Ballot). Some x) same))))
    (option_cases (ballot_of after b.number))
decided e base after b finals.Full there is = absurd is

-- a ballot of a set has its number there
pub number_there : (ballots : List Ballot) (number : ℕ) → HasNumber ballots number → Contains (numbers_of ballots) number
number_there ballots number h = contains_number ballots h.1 number (h.0, h.2, h.3) h.4

-- as many ballots as numbers
as_many_accepted : (tabs : List TabulatorView) → All TellsOf tabs → length (all_accepted (map (λ tab. tab.tray) tabs)) ≡ length (accepted_by (map seat_of tabs))
as_many_accepted tabs told = sym (length-numbers_of (all_accepted (map (λ tab. tab.tray) tabs))) ∙ ap length (numbers_accepted tabs told)

-- a ballot that its tray accepts is among the accepted ones
is_among : (tabs : List TabulatorView) (tab : TabulatorView) → Contains tabs tab → (c : Cast) → Contains tab.tray c → is_accepted c.reply ≡ true → Contains (all_accepted (map (λ tab. tab.tray) tabs)) c.item
is_among tabs tab of c there passes =
    contains-flat_map (ballots_that is_accepted) (map (λ (t : TabulatorView). t.tray) tabs) tab.tray c.item (contains-map (λ (t : TabulatorView). t.tray) tabs tab of)
    (contains-map (λ (x : Cast). x.item) (filter (λ (x : Cast). is_accepted x.reply) tab.tray) c (contains-filter (λ (x : Cast). is_accepted x.reply) tab.tray c there passes))

-- a row is a tray beside a list of final replies
pub record IsRow (trays : List (List Cast)) (row : List (Cast × Final)) : Type 0 where
  pub tray : List Cast
  pub list : List Final
  pub of : Contains trays tray
  pub is : row ≡ zip tray list

pub from_row : (trays : List (List Cast)) (lists : List (List Final)) (row : List (Cast × Final)) → Contains (trays_beside trays lists) row → IsRow trays row
from_row trays lists row c =
    let pair = from_map (λ (both : List Cast × List Final). zip both.0 both.1) (zip trays lists) row c in
    record { tray = (pair.0).0; list = (pair.0).1; of = (from_zip trays lists pair.0 pair.1).0; is = sym pair.2 }

module _ (base : Contents) (words : SharedWords) (tabs : List TabulatorView) (all : AreAll (record { base = base; words = words }) tabs) (own : AreCastWordsOf base words) (told : All TellsOf tabs) (agree : AgreeOn words (map seat_of tabs)) where
  abbrev accepted : List Ballot
  accepted = all_accepted (map (λ tab. tab.tray) tabs)

  abbrev claimed : List ℕ
  claimed = accepted_by (map seat_of tabs)

  module _ (after : List Ballot) (gains : IsPermutation (base.ballots ++ accepted) after) where
    to_after : (b : Ballot) → Contains (base.ballots ++ accepted) b → Contains after b
    to_after b = Contains-permutation (base.ballots ++ accepted) after b gains

    claimed_there : (number : ℕ) → Contains claimed number → Contains (numbers_of after) number
    claimed_there number c =
        let held = ballot_with accepted number (subst (λ (l : List ℕ). Contains l number) (sym (numbers_accepted tabs told)) c) in
        contains_number after held.0 number (to_after held.0 (Contains-append_right base.ballots accepted held.0 held.1)) held.2

    -- a number of the set is of the base, or was accepted
    of_either : (number : ℕ) → HasNumber after number → HasNumber base.ballots number ⊎ Contains claimed number
    of_either number h =
        let back = Contains-permutation after (base.ballots ++ accepted) h.1 (IsPermutation-sym (base.ballots ++ accepted) after gains) (h.0, h.2, h.3) in
        ⊎_elim
        (λ c. inl (c.0, h.1, c.1, c.2, h.4))
        (λ c. inr (subst (λ (l : List ℕ). Contains l number) (numbers_accepted tabs told) (contains_number accepted h.1 number c h.4)))
        (Contains-append_cases base.ballots accepted h.1 back)

    -- where a number met full claim words, it was not accepted, and there is no room
    no_room : (tab : TabulatorView) → Contains tabs tab → (number : ℕ) → (words.shape.claims ≢ 0 → Contains tab.seat.full number) → (¬ Contains claimed number) × (length claimed ≡ words.shape.claims)
    no_room tab there number met = ⊎_elim
        (λ (none : words.shape.claims ≡ 0). (λ c. let few = agree.few in omega (arith, c.1), omega (arith, agree.few)))
        (λ (some : words.shape.claims ≢ 0).
        let Full : Place CastView → Type 0 = λ seat. All (λ x. (¬ Contains claimed x) × (length claimed ≡ words.shape.claims)) seat.view.full in
        All-contains (λ x. (¬ Contains claimed x) × (length claimed ≡ words.shape.claims)) tab.seat.full number
        (All-contains Full (map seat_of tabs) (seat_of tab) agree.full (contains-map seat_of tabs tab there)) (met some))
        (cases_eq words.shape.claims 0)

    size : length after ≡ length base.ballots + length claimed
    size = length_permutation (base.ballots ++ accepted) after gains ∙ length-append base.ballots accepted ∙ ap (λ n. length base.ballots + n) (as_many_accepted tabs told)

    -- each final reply is right
    right : (tab : TabulatorView) → Contains tabs tab → (c : Cast) → Contains tab.tray c → (f : Final) → IsAnswered after (c, f) → IsRightReply base.election base.ballots after c.item (reply_of f)
    right tab of c there f is = by_reply c.reply refl compared is
      where
        tells : IsTrayOf (record { base = base; words = words }) tab.seat tab.tray
        tells = told_by base words tabs all told tab of

        compared : ComparesWithBase base.ballots c.item c.reply
        compared = All-contains (λ (x : Cast). ComparesWithBase base.ballots x.item x.reply) tab.tray c tells.compared there

        as_told : (r : reply.CastReply) → reply_of f ≡ r → IsRightReply base.election base.ballots after c.item r → IsRightReply base.election base.ballots after c.item (reply_of f)
        as_told r told h = subst (IsRightReply base.election base.ballots after c.item) (sym told) h

        by_reply : (r : CastReply) → c.reply ≡ r → ComparesWithBase base.ballots c.item r → IsAnswer after c.item r f → IsRightReply base.election base.ballots after c.item (reply_of f)
        by_reply casts.Accepted same none is =
            as_told reply.CastReply.Accepted (ap reply_of is)
            (none, to_after c.item (Contains-append_right base.ballots accepted c.item (is_among tabs tab of c there (ap is_accepted same))))
        by_reply casts.Duplicate same held is = as_told reply.CastReply.Duplicate (ap reply_of is) (to_after c.item (Contains-append_left base.ballots accepted c.item held))
        by_reply casts.Conflict same another is =
            as_told reply.CastReply.Conflict (ap reply_of is)
            (let c' = to_after another.1 (Contains-append_left base.ballots accepted another.1 (another.0, another.2, another.3)) in
            (c'.0, another.1, c'.1, c'.2, another.4))
        by_reply casts.Taken same none is =
            let in_list = subst (λ (l : List ℕ). Contains l c.item.number) tells.taken (listed is_taken tab.tray c there (ap is_taken same)) in
            let Taken : Place CastView → Type 0 = λ seat. All (Contains claimed) seat.view.taken in
            let was = All-contains (Contains claimed) tab.seat.taken c.item.number (All-contains Taken (map seat_of tabs) (seat_of tab) agree.taken (contains-map seat_of tabs tab of)) in_list in
            decided base.election base.ballots after c.item f (claimed_there c.item.number was) is
        by_reply casts.Full same none is =
            let full = no_room tab of c.item.number (λ some. subst (λ (l : List ℕ). Contains l c.item.number) (tells.full some) (listed is_full tab.tray c there (ap is_full same))) in
            as_told reply.CastReply.Full (ap reply_of is)
            (λ h. ⊎_elim none full.0 (of_either c.item.number h), omega (arith, size, full.1, own.claims))

    -- ---- all of it

    pub closes_as : (lists : List (List Final)) → IsBallotSet base.election after → IsWithinLimit base.election after → AreAllFinals after (map (λ tab. tab.tray) tabs) lists → ClosesAs base (map (λ tab. tab.tray) tabs) lists after
    closes_as lists set few answered =
        let trays = map (λ (tab : TabulatorView). tab.tray) tabs in
        let pairs = trays_beside trays lists in
        let finals : All (All IsFinalOf) pairs =
        All-weaker (All (IsAnswered after)) (All IsFinalOf) (λ list each. All-weaker (IsAnswered after) IsFinalOf (λ told is. is_final after told.0.item told.0.reply told.1 is) list each) pairs answered.each in
        let Right : CastLine → Type 0 = λ l. IsRightReply base.election base.ballots after l.ballot l.reply in
        record {
          as_many = answered.as_many;
          final = finals;
          outcome = record {
            gains = subst (λ (bs : List Ballot). IsPermutation (base.ballots ++ bs) after) (sym (all_lines_accept trays lists answered.as_many finals)) gains;
            set = set;
            within_limit = few;
            replies = All-map (All Right) (map tray_line) pairs (all_members (λ list. All Right (map tray_line list)) pairs (λ list there.
                let row = from_row trays lists list there in
                let of_tab = from_map (λ (t : TabulatorView). t.tray) tabs row.tray row.of in
                All-map Right tray_line list (all_members (λ told. Right (tray_line told)) list (λ told within.
                right of_tab.0 of_tab.1 told.0 (subst (λ (l : List Cast). Contains l told.0) (sym of_tab.2) (from_zip row.tray row.list told (subst (λ (l : List (Cast × Final)). Contains l told) row.is within)).0) told.1
                (All-contains (IsAnswered after) list told (All-contains (All (IsAnswered after)) pairs list answered.each there) within)))));
            in_order = All-map (AllPairs reply.MayBeCastBefore) (map tray_line) pairs (all_members (λ list. AllPairs reply.MayBeCastBefore (map tray_line list)) pairs (λ list there.
                let row = from_row trays lists list there in
                let of_tab = from_map (λ (t : TabulatorView). t.tray) tabs row.tray row.of in
                let each = All-contains (All IsFinalOf) pairs list finals there in
                subst (λ (l : List (Cast × Final)). AllPairs reply.MayBeCastBefore (map tray_line l)) (sym row.is)
                (lines_in_order row.tray row.list (subst (All IsFinalOf) row.is each)
                (subst (AllPairs MayPrecede) of_tab.2 (told_by base words tabs all told of_tab.0 of_tab.1).in_order))));
          };
        }
