-- What a core tells of its withdrawers: whether all are done, and their replies.
use Rattle.std.proofs.Common.{◌≡◌, ◌↔◌, Bool, ℕ, ◌<◌, ◌≤◌, List, [], ◌∷◌, length, get_or, map, Option, Some, IsTrue, refl, sym, ap, ◌∙◌, subst, arith}
use Rattle.store_spec.proofs.Common.{All, All-map, get_or-map, length-map, option_map_or, slice_get, slice_get-get_or}
use Rattle.step_core.proofs.WithdrawCoreSteps.{done_at, tab_within}
use Rattle.step_core.proofs.WithdrawingEnds.{alone_ends, ends}
use Rattle.step_core.specs.WithdrawCore.{HasReplyRoom, answers_of, reply_of, tab_of}
use Rattle.step_core.specs.WithdrawCoreKept.{IsCoreKept, withdrawing_of}
use Rattle.step_core.specs.Withdrawing.{HasEnded, IsDone, Withdrawing, replies_at}
use Rattle.step_core.specs.Withdrawing as phase
use Rattle.step_core.specs.declared.withdraw_core.WithdrawCore.TheInside.{Inside}
use Rattle.step_core.specs.declared.withdrawer.WithdrawReply.{WithdrawReply}
use Rattle.step_core.specs.declared.withdrawer.Withdrawer.{Withdrawer}

module _ (a : Inside) (w : Withdrawing) (answer : Bool) where
  pub all_done : withdrawing_of a ≡ w → (IsTrue answer ↔ All (λ tab. IsDone (tab_of tab)) a.tabs.items) → IsTrue answer ↔ All IsDone w.tabs
  all_done is tells = subst (λ (v : Withdrawing). IsTrue answer ↔ All IsDone v.tabs) is (
    λ yes_all. All-map IsDone tab_of a.tabs.items (tells.0 yes_all),
    λ done. tells.1 (λ k d lt. subst IsDone (get_or-map tab_of a.tabs.items k d (tab_of d) lt) (done k (tab_of d) (omega (arith, length-map a.tabs.items tab_of)))),
  )

  pub has_ended : IsCoreKept a → withdrawing_of a ≡ w → (IsTrue answer ↔ All (λ tab. IsDone (tab_of tab)) a.tabs.items) → IsTrue answer → HasEnded w
  has_ended kept is tells yes_all = subst HasEnded is (ends (withdrawing_of a) kept.phase (All-map IsDone tab_of a.tabs.items (tells.0 yes_all)))

-- ---- replies

-- the replies stand for the answers, where there are no more than numbers
replies_of : (numbers : List ℕ) (replies : List WithdrawReply) → length replies ≤ length numbers → map (λ a. a.reply) (answers_of numbers replies) ≡ map reply_of replies
replies_of numbers [] few = refl
replies_of [] (r ∷ replies) few = absurd (omega arith)
replies_of (x ∷ numbers) (r ∷ replies) few = ap (λ l. reply_of r ∷ l) (replies_of numbers replies (omega arith))

pub replies_are : (a : Inside) (w : Withdrawing) (id : ℕ) (tab : Withdrawer) (told : List WithdrawReply) → IsCoreKept a → withdrawing_of a ≡ w → id < length w.tabs → tab ≡ get_or a.tabs.items id tab → told ≡ tab.replies.items → map reply_of told ≡ replies_at w id
replies_are a w id tab told kept is lt at same =
    let within = tab_within a w id is lt in
    let has : slice_get (map tab_of a.tabs.items) id ≡ Some (tab_of tab) =
    slice_get-get_or (map tab_of a.tabs.items) id (tab_of tab) (omega (arith, length-map a.tabs.items tab_of)) ∙ ap Some (get_or-map tab_of a.tabs.items id tab (tab_of tab) within ∙ ap tab_of (sym at)) in
    let few = (subst HasReplyRoom (sym at) (kept.room id tab within)).no_more in
    ap (map reply_of) same
    ∙ sym (replies_of tab.list.items tab.replies.items (omega (arith, tab.replies.ok.0, tab.list.ok.0)))
    ∙ ap (λ (o : Option phase.Withdrawer). option_map_or (λ t. map (λ a. a.reply) t.answers) o []) (sym has)
    ∙ ap (λ (v : Withdrawing). replies_at v id) is

-- ---- one withdrawer by itself

pub core_alone : (a : Inside) (w : Withdrawing) (id : ℕ) (tab : Withdrawer) → IsCoreKept a → withdrawing_of a ≡ w → id < length w.tabs → get_or a.tabs.items id tab ≡ tab → IsDone (tab_of tab) → length w.tabs ≡ 1 → HasEnded w
core_alone a w id tab kept is lt at done one =
    let at_id = done_at a.shape a.limit a.index.numbers.items a.words.items a.tabs.items id tab kept.cells (tab_within a w id is lt) at kept.phase done in
    subst HasEnded is (alone_ends (withdrawing_of a) id kept.phase (ap (λ (v : Withdrawing). length v.tabs) is ∙ one) at_id)
