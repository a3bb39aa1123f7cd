-- A tray with one ballot more, and the lists of its seat.
use Rattle.std.proofs.Common.{◌≡◌, ◌≢◌, ℕ, ⊎_elim, Bool, true, List, [], ◌∷◌, ◌++◌, arith, get_or, length, map, refl, sym, ap, ◌∙◌, subst}
use Rattle.store_spec.proofs.Common.{All, All-head, All-push, All-tail, Ballot, CastView, Contains, Contains-get_or, HasNumber, IsValid, Rest, all_pairs_push, append-nil, filter, filter-append, map-append}
use Rattle.phase_insert.proofs.Casts.{cast_of}
use Rattle.phase_insert.proofs.Compared.{another_number, has_own_number}
use Rattle.phase_kind.specs.Phase.{OpenPhase}
use Rattle.phase_kind.specs.AnsweredItem.{answered_items}
use Rattle.phase_insert.specs.Gains.{Gains, IsNewTo}
use Rattle.phase_insert.specs.Tray.{Cast, ComparesWithBase, IsTrayOf, MayPrecede, is_accepted, is_full, is_taken, ballots_that, numbers_that}
use Rattle.phase_insert.specs.declared.reply.CastReply.{CastReply}
use Rattle.phase_insert.specs.declared.reply.CastReply.TheVariants.{Accepted, Duplicate, Conflict, Taken, Full}
use Rattle.word_rule.proofs.Members.{contains-filter, contains-map, not_in_none}

-- ---- the numbers of a tray

numbers_that-append : (p : CastReply → Bool) (xs ys : List Cast) → numbers_that p (xs ++ ys) ≡ numbers_that p xs ++ numbers_that p ys
numbers_that-append p xs ys =
    ap (map (λ (c : Cast). c.item.number)) (filter-append (λ (c : Cast). p c.reply) xs ys)
    ∙ map-append (λ (c : Cast). c.item.number) (filter (λ (c : Cast). p c.reply) xs) (filter (λ (c : Cast). p c.reply) ys)

pub ballots_that-push : (p : CastReply → Bool) (tray : List Cast) (c : Cast) → ballots_that p (tray ++ c ∷ []) ≡ ballots_that p tray ++ ballots_that p (c ∷ [])
ballots_that-push p tray c =
    ap (map (λ (c : Cast). c.item)) (filter-append (λ (c : Cast). p c.reply) tray (c ∷ []))
    ∙ map-append (λ (c : Cast). c.item) (filter (λ (c : Cast). p c.reply) tray) (filter (λ (c : Cast). p c.reply) (c ∷ []))

pub one_accepted : (cast : Cast) → cast.reply ≡ Accepted → ballots_that is_accepted (cast ∷ []) ≡ cast.item ∷ []
one_accepted cast accepted = ap (λ r. ballots_that is_accepted (cast_of cast.item r ∷ [])) accepted

pub one_other : (cast : Cast) → cast.reply ≢ Accepted → ballots_that is_accepted (cast ∷ []) ≡ []
one_other cast other = by_reply cast.reply other
  where
    by_reply : (r : CastReply) → r ≢ Accepted → ballots_that is_accepted (cast_of cast.item r ∷ []) ≡ []
    by_reply Accepted other = absurd (other refl)
    by_reply Duplicate other = refl
    by_reply Conflict other = refl
    by_reply Taken other = refl
    by_reply Full other = refl

-- where all were accepted, these are all ballots
pub all_kept : (ballots : List Ballot) (replies : List CastReply) → length ballots ≡ length replies → All (λ reply. reply ≡ Accepted) replies
    → ballots_that is_accepted (answered_items ballots replies) ≡ ballots
all_kept [] [] same all = refl
all_kept [] (reply ∷ replies) same all = absurd (omega (arith, same))
all_kept (b ∷ ballots) [] same all = absurd (omega (arith, same))
all_kept (b ∷ ballots) (reply ∷ replies) same all =
    ap (λ reply. ballots_that is_accepted (cast_of b reply ∷ answered_items ballots replies)) (All-head (λ reply. reply ≡ Accepted) reply replies all)
    ∙ ap (λ l. b ∷ l) (all_kept ballots replies (omega (arith, same)) (All-tail (λ reply. reply ≡ Accepted) reply replies all))

-- a ballot adds its number, or nothing
module _ (p : CastReply → Bool) (tray : List Cast) (c : Cast) (list now : List ℕ) where
  adds : numbers_that p (c ∷ []) ≡ c.item.number ∷ [] → numbers_that p tray ≡ list → now ≡ list ++ c.item.number ∷ [] → numbers_that p (tray ++ c ∷ []) ≡ now
  adds one so_far is = numbers_that-append p tray (c ∷ []) ∙ ap (λ l. numbers_that p tray ++ l) one ∙ ap (λ l. l ++ c.item.number ∷ []) so_far ∙ sym is

  keeps : numbers_that p (c ∷ []) ≡ [] → numbers_that p tray ≡ list → now ≡ list → numbers_that p (tray ++ c ∷ []) ≡ now
  keeps none so_far is = numbers_that-append p tray (c ∷ []) ∙ ap (λ l. numbers_that p tray ++ l) none ∙ append-nil (numbers_that p tray) ∙ so_far ∙ sym is

-- a ballot of the tray with such a reply has its number among those
pub listed : (p : CastReply → Bool) (tray : List Cast) (c : Cast) → Contains tray c → p c.reply ≡ true → Contains (numbers_that p tray) c.item.number
listed p tray c there passes = contains-map (λ (x : Cast). x.item.number) (filter (λ (x : Cast). p x.reply) tray) c (contains-filter (λ (x : Cast). p x.reply) tray c there passes)

-- ---- the lists of the seat

-- the lists are those that the tray tells
pub record AreLists (claims : ℕ) (view : CastView) (tray : List Cast) : Type 0 where
  pub accepted : numbers_that is_accepted tray ≡ view.accepted
  pub taken : numbers_that is_taken tray ≡ view.taken
  pub full : claims ≢ 0 → numbers_that is_full tray ≡ view.full

lists_more : (claims : ℕ) (old now : CastView) (tray : List Cast) (b : Ballot) (reply : CastReply) → AreLists claims old tray → Gains claims old b.number reply now → AreLists claims now (tray ++ cast_of b reply ∷ [])
lists_more claims old now tray b Accepted h is = record {
  accepted = adds is_accepted tray (cast_of b Accepted) old.accepted now.accepted refl h.accepted (ap (λ v. v.accepted) is);
  taken = keeps is_taken tray (cast_of b Accepted) old.taken now.taken refl h.taken (ap (λ v. v.taken) is);
  full = λ some. keeps is_full tray (cast_of b Accepted) old.full now.full refl (h.full some) (ap (λ v. v.full) is);
}
lists_more claims old now tray b Duplicate h is = record {
  accepted = keeps is_accepted tray (cast_of b Duplicate) old.accepted now.accepted refl h.accepted (ap (λ v. v.accepted) is);
  taken = keeps is_taken tray (cast_of b Duplicate) old.taken now.taken refl h.taken (ap (λ v. v.taken) is);
  full = λ some. keeps is_full tray (cast_of b Duplicate) old.full now.full refl (h.full some) (ap (λ v. v.full) is);
}
lists_more claims old now tray b Conflict h is = record {
  accepted = keeps is_accepted tray (cast_of b Conflict) old.accepted now.accepted refl h.accepted (ap (λ v. v.accepted) is);
  taken = keeps is_taken tray (cast_of b Conflict) old.taken now.taken refl h.taken (ap (λ v. v.taken) is);
  full = λ some. keeps is_full tray (cast_of b Conflict) old.full now.full refl (h.full some) (ap (λ v. v.full) is);
}
lists_more claims old now tray b Taken h is = record {
  accepted = keeps is_accepted tray (cast_of b Taken) old.accepted now.accepted refl h.accepted (ap (λ v. v.accepted) is);
  taken = adds is_taken tray (cast_of b Taken) old.taken now.taken refl h.taken (ap (λ v. v.taken) is);
  full = λ some. keeps is_full tray (cast_of b Taken) old.full now.full refl (h.full some) (ap (λ v. v.full) is);
}
lists_more claims old now tray b Full h gains = ⊎_elim
    (λ none. record {
      accepted = keeps is_accepted tray (cast_of b Full) old.accepted now.accepted refl h.accepted (ap (λ v. v.accepted) none.1);
      taken = keeps is_taken tray (cast_of b Full) old.taken now.taken refl h.taken (ap (λ v. v.taken) none.1);
      full = λ some. absurd (some none.0);
    })
    (λ is. record {
      accepted = keeps is_accepted tray (cast_of b Full) old.accepted now.accepted refl h.accepted (ap (λ v. v.accepted) is);
      taken = keeps is_taken tray (cast_of b Full) old.taken now.taken refl h.taken (ap (λ v. v.taken) is);
      full = λ some. adds is_full tray (cast_of b Full) old.full now.full refl (h.full some) (ap (λ v. v.full) is);
    })
    gains

rests_more : (claims number : ℕ) (old now : CastView) (reply : CastReply) → old.state ≡ Rest → Gains claims old number reply now → now.state ≡ Rest
rests_more claims number old now Accepted rests is = ap (λ v. v.state) is
rests_more claims number old now Duplicate rests is = ap (λ v. v.state) is ∙ rests
rests_more claims number old now Conflict rests is = ap (λ v. v.state) is ∙ rests
rests_more claims number old now Taken rests is = ap (λ v. v.state) is
rests_more claims number old now Full rests gains = ⊎_elim (λ none. ap (λ v. v.state) none.1 ∙ rests) (λ is. ap (λ v. v.state) is) gains

-- ---- the order

-- a number that no held ballot has is not that of a held one
not_held : (base : List Ballot) (a b : ℕ) → ¬ HasNumber base b → HasNumber base a → a ≢ b
not_held base a b none there same = none (subst (HasNumber base) same there)

-- what is accepted now was not answered before
module _ (phase : OpenPhase) (old : CastView) (tray : List Cast) (b : Ballot) (lists : AreLists phase.words.shape.claims old tray) (new : IsNewTo phase.words.shape.claims old b.number) (none : ¬ HasNumber phase.base.ballots b.number) where
  other_than : (p : CastReply → Bool) (list : List ℕ) → numbers_that p tray ≡ list → ¬ Contains list b.number → (c : Cast) → Contains tray c → p c.reply ≡ true → c.item.number ≢ b.number
  other_than p list is without c there passes same = without (subst (λ (l : List ℕ). Contains l b.number) is (subst (Contains (numbers_that p tray)) same (listed p tray c there passes)))

  precedes : (c : Cast) → Contains tray c → ComparesWithBase phase.base.ballots c.item c.reply → (c.item.number ≢ b.number) × (c.reply ≢ Full)
  precedes c there compares = by_reply c.reply refl
    where
      by_reply : (reply : CastReply) → c.reply ≡ reply → (c.item.number ≢ b.number) × (c.reply ≢ Full)
      by_reply Accepted is = (other_than is_accepted old.accepted lists.accepted new.not_accepted c there (ap is_accepted is), λ full. let e : Accepted ≡ Full = sym is ∙ full in cc)
      by_reply Duplicate is = (
        not_held phase.base.ballots c.item.number b.number none (has_own_number phase.base.ballots c.item (subst (ComparesWithBase phase.base.ballots c.item) is compares)),
        λ full. let e : Duplicate ≡ Full = sym is ∙ full in cc,
      )
      by_reply Conflict is = (
        not_held phase.base.ballots c.item.number b.number none (another_number phase.base.ballots c.item (subst (ComparesWithBase phase.base.ballots c.item) is compares)),
        λ full. let e : Conflict ≡ Full = sym is ∙ full in cc,
      )
      by_reply Taken is = (other_than is_taken old.taken lists.taken new.not_taken c there (ap is_taken is), λ full. let e : Taken ≡ Full = sym is ∙ full in cc)
      by_reply Full is = not_in_none c.item.number (subst (λ (l : List ℕ). Contains l c.item.number) (lists.full new.some_claim ∙ new.no_full) (listed is_full tray c there (ap is_full is)))

-- ---- one ballot more

pub told_more : (phase : OpenPhase) (old now : CastView) (tray : List Cast) (b : Ballot) (reply : CastReply) → IsTrayOf phase old tray → IsValid phase.base.election b → ComparesWithBase phase.base.ballots b reply → Gains phase.words.shape.claims old b.number reply now
    → (reply ≡ Accepted → IsNewTo phase.words.shape.claims old b.number) → IsTrayOf phase now (tray ++ cast_of b reply ∷ [])
told_more phase old now tray b reply told valid compares gains new =
    let claims = phase.words.shape.claims in
    let c = cast_of b reply in
    let before : AreLists claims old tray = record { accepted = told.accepted; taken = told.taken; full = told.full } in
    let lists = lists_more claims old now tray b reply before gains in
    let Right : Cast → Type 0 = λ x. ComparesWithBase phase.base.ballots x.item x.reply in
    record {
      at_rest = rests_more claims b.number old now reply told.at_rest gains;
      accepted = lists.accepted;
      taken = lists.taken;
      full = lists.full;
      valid = All-push (λ (x : Cast). IsValid phase.base.election x.item) tray c told.valid valid;
      compared = All-push Right tray c told.compared compares;
      in_order = all_pairs_push MayPrecede tray c told.in_order (λ k d within accepts.
          precedes phase old tray b before (new accepts) (subst (ComparesWithBase phase.base.ballots b) accepts compares)
          (get_or tray k d) (Contains-get_or tray k d within) (told.compared k d within));
    }
