-- The replies of a list, as the words that are told.
use Rattle.std.proofs.Common.{◌≡◌, ℕ, Option, Some, None, Result, Ok, Err, List, [], ◌++◌, map, sym, ap, ◌∙◌}
use Rattle.store_spec.proofs.Common.{IfOk, map-map, option_map, option_map_or, reply_lines, slice_get, slice_get-map, withdraw_text}
use Rattle.reply_lines.specs.Words.{met_text}
use Rattle.schedule_replay.specs.Replayed.{cast_words, withdraw_words}
use Rattle.step_core.specs.CastCore.{met_of}
use Rattle.step_core.specs.Casting as casting
use Rattle.step_core.specs.Casting.{Casting}
use Rattle.step_core.specs.WithdrawCore.{reply_of}
use Rattle.step_core.specs.Withdrawing as withdrawing
use Rattle.step_core.specs.Withdrawing.{Withdrawing}
use Rattle.step_core.specs.declared.tabulator.CastMet.{CastMet}
use Rattle.step_core.specs.declared.withdrawer.WithdrawReply.{WithdrawReply}

-- the words of the list at a place are those of the replies there
words_there : {T R W : Type 0} (replies_of : T → List R) (word : R → W) (tabs : List T) (id : ℕ) (ws : List W) → slice_get (map (λ tab. map word (replies_of tab)) tabs) id ≡ Some ws → map word (option_map_or replies_of (slice_get tabs id) []) ≡ ws
words_there {T} {R} {W} replies_of word tabs id ws stands = at (slice_get tabs id) (sym (slice_get-map (λ tab. map word (replies_of tab)) tabs id) ∙ stands)
  where
    at : (o : Option T) → option_map (λ tab. map word (replies_of tab)) o ≡ Some ws → map word (option_map_or replies_of o []) ≡ ws
    at None is = absurd cc
    at (Some tab) is = cc

pub cast_words_are : (c : Casting) (id : ℕ) (replies : List CastMet) (ws : List (List ℕ)) → map met_of replies ≡ casting.mets_at c id → slice_get (cast_words c) id ≡ Some ws → map (λ met. met_text (met_of met)) replies ≡ ws
cast_words_are c id replies ws are stands =
    sym (map-map met_text met_of replies) ∙ ap (map met_text) are
    ∙ words_there (λ (tab : casting.Tabulator). map (λ a. a.met) tab.answers) met_text c.tabs id ws stands

pub withdraw_words_are : (w : Withdrawing) (id : ℕ) (replies : List WithdrawReply) (ws : List (List ℕ)) → map reply_of replies ≡ withdrawing.replies_at w id → slice_get (withdraw_words w) id ≡ Some ws → map (λ reply. withdraw_text (reply_of reply)) replies ≡ ws
withdraw_words_are w id replies ws are stands =
    sym (map-map withdraw_text reply_of replies) ∙ ap (map withdraw_text) are
    ∙ words_there (λ (tab : withdrawing.Withdrawer). map (λ a. a.reply) tab.answers) withdraw_text w.tabs id ws stands

-- the lines of the words that are told are those of the words that stand there
pub lines_are : {A E : Type 0} (r : Result A E) (old now : List ℕ) (list : ℕ) (words : List (List ℕ)) (Stands : List (List ℕ) → Type 0) → ((ws : List (List ℕ)) → Stands ws → words ≡ ws) → IfOk r (λ _. now ≡ old ++ reply_lines list 1 words) → IfOk r (λ _. (ws : List (List ℕ)) → Stands ws → now ≡ old ++ reply_lines list 1 ws)
lines_are (Ok done) old now list words Stands same is = λ ws stands. is ∙ ap (λ l. old ++ reply_lines list 1 l) (same ws stands)
lines_are (Err fault) old now list words Stands same is = tt
