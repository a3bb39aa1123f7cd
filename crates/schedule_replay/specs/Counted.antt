-- There is a list of replies for each.
use Rattle.std.specs.Prelude.{◌≡◌, length}
use Rattle.std.proofs.lemmas.List.{length-map}
use Rattle.reply_lines.specs.Words.{met_text}
use Rattle.schedule_replay.specs.Replayed.{cast_words, withdraw_words}
use Rattle.store_spec.specs.Session.{withdraw_text}
use Rattle.std.specs.Prelude.{map}
use Rattle.step_core.specs.Casting.{Casting}
use Rattle.step_core.specs.Withdrawing.{Withdrawing}

pub cast_counted : (c : Casting) → length (cast_words c) ≡ length c.tabs
cast_counted c = length-map c.tabs (λ tab. map met_text (map (λ a. a.met) tab.answers))

pub withdraw_counted : (w : Withdrawing) → length (withdraw_words w) ≡ length w.tabs
withdraw_counted w = length-map w.tabs (λ tab. map withdraw_text (map (λ a. a.reply) tab.answers))
