-- What is told of a reply, from what was put of it.
use Rattle.std.proofs.Common.{◌≡◌, ℕ, List, [], ◌∷◌, ◌++◌, length, codes, refl, sym, ap, subst, ◌∙◌}
use Rattle.store_spec.proofs.Common.{Ballot, Checkpoint, Closed, Closes, DoesBy, Effect, Election, Export, IfOk, IfOk-weaker, Open, Phase, Result, ScriptLine, State, Tally, Work, counted, export_text, in_phase, opened, phase_text, replies, stays, tally_text}
use Rattle.phase_gate.proofs.Reports.{export_sums, tally_sums}
use Rattle.phase_gate.proofs.Summaries.{checkpoint_sums, sums}
use Rattle.phase_gate.specs.InnerSession.{WritesLine, closes_of, effect_of, election_of, phase_at, state_of}
use Rattle.phase_gate.specs.Writing.{WritesReply, as_written, written_of}
use Rattle.phase_gate.specs.declared.inner.Answer.{Answer}
use Rattle.phase_gate.specs.declared.inner.InnerSession.{InnerSession}
use Rattle.phase_gate.specs.declared.writing.Writing.{Writing}
use Rattle.phase_gate.specs.declared.writing.Writing.TheVariants.{All, Summary}

-- what was put is what is told of a text
pub put_as_told : (writing which : Writing) (text short old new : List ℕ) → writing ≡ which
    → written_of which text ≡ short → new ≡ old ++ short → new ≡ old ++ written_of writing text
put_as_told writing which text short old new is told put =
    put ∙ ap (λ t. old ++ t) (sym (ap (λ w. written_of w text) is ∙ told))

-- an answer tells of an effect that is such
pub tells : {A E : Type 0} (r : Result A E) (writing : Writing) (effect : Effect) (Did : Effect → Type 0)
    (of : A → Effect) → Did effect → IfOk r (λ a. of a ≡ as_written writing effect)
    → IfOk r (λ a. WritesReply writing Did (of a))
tells r writing effect Did of did is =
    IfOk-weaker r (λ a. of a ≡ as_written writing effect) (λ a. WritesReply writing Did (of a)) (λ a same. (effect, did, same))
    is

-- the same of what a line does
pub tells_line : {S E : Type 0} {s : _} (r : Result (Answer S s) E) (writing : Writing) (inner : InnerSession S s) (n : ℕ) (line : ScriptLine)
    (text : List ℕ) (effect : Effect)
    → DoesBy (closes_of inner) (election_of inner) n (state_of inner) line (phase_at inner) effect
    → IfOk r (λ answer. effect_of answer text ≡ as_written writing effect) → IfOk r (WritesLine writing inner n line text)
tells_line r writing inner n line text effect does is =
    tells r writing effect (DoesBy (closes_of inner) (election_of inner) n (state_of inner) line (phase_at inner))
    (λ answer. effect_of answer text) does is

-- what is told of a text that is its own summary
own_summary : (writing : Writing) (text : List ℕ) → written_of Summary text ≡ text → written_of writing text ≡ text
own_summary All text is = refl
own_summary Summary text is = is

-- ---- lines of the phase closed

module _ (writing : Writing) (closes : Closes) (e : Election) (n : ℕ) (s : State) (phase : Phase) (is : phase ≡ Closed) where
  pub tells_open : (work : Work) (tabs : ℕ) (text : List ℕ) (now : Phase) → now ≡ opened work tabs
      → text ≡ written_of writing (counted (phase_text (opened work tabs)) tabs)
      → WritesReply writing (DoesBy closes e n s (Open work tabs) phase) (replies text (in_phase now s.set))
  tells_open work tabs text now to put = (
    replies (counted (phase_text (opened work tabs)) tabs) (in_phase (opened work tabs) s.set),
    subst (λ p. DoesBy closes e n s (Open work tabs) p (replies (counted (phase_text (opened work tabs)) tabs)
        (in_phase (opened work tabs) s.set))) (sym is) refl,
    ap (λ t. replies t (in_phase now s.set)) put ∙ ap (λ p. replies
        (written_of writing (counted (phase_text (opened work tabs)) tabs)) (in_phase p s.set)) to,
  )

  pub tells_checkpoint : (text : List ℕ) → text ≡ counted (codes "checkpoint") (length s.set)
      → WritesReply writing (DoesBy closes e n s Checkpoint phase) (record { reply = text; acknowledged = s.set ∷ []; next = s })
  tells_checkpoint text put =
      let reply = counted (codes "checkpoint") (length s.set) in
      let whole : List ℕ → Effect = λ t. record { reply = t; acknowledged = s.set ∷ []; next = s } in (
        whole reply,
        subst (λ p. DoesBy closes e n s Checkpoint p (whole reply)) (sym is) refl,
        ap whole (put ∙ sym (own_summary writing reply (sums reply reply (checkpoint_sums (length s.set))))),
      )

  pub tells_tally : WritesReply writing (DoesBy closes e n s Tally phase) (replies (tally_text e s.set) s)
  tells_tally =
      let text = tally_text e s.set in (
        stays s text,
        subst (λ p. DoesBy closes e n s Tally p (stays s text)) (sym is) refl,
        ap (λ t. replies t s) (sym (own_summary writing text (sums text text (tally_sums e s.set)))),
      )

  pub tells_export : (text : List ℕ) → text ≡ written_of writing (export_text e s.set)
      → WritesReply writing (DoesBy closes e n s Export phase) (replies text s)
  tells_export text put = (
    stays s (export_text e s.set),
    subst
        (λ p. DoesBy closes e n s Export p (stays s (export_text e s.set))) (sym is) refl,
    ap (λ t. replies t s) put,
  )

-- a summary has no line of an export
pub export_untold : (e : Election) (set : List Ballot) → written_of Summary (export_text e set) ≡ []
export_untold e set = sums (export_text e set) [] (export_sums e set)
