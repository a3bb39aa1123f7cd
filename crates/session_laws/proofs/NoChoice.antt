-- Only the close of a phase of casting or of withdrawing leaves a choice.
use Rattle.std.proofs.Common.{◌≡◌, ℕ, List, Option, Some, None, codes, inl, inr, refl, sym, ap, subst, ◌∙◌}
use Rattle.store_spec.proofs.Common.{Answers, Cast, CastInvalid, Casts, Checkpoint, Close, Closed, Does, Effect, Election, Export, Find, Finds, Open, Phase, Says, ScriptLine, State, Tally, Withdraw, Withdraws}
use Rattle.script_lines.proofs.Meanings.{one_meaning}
use Rattle.session_laws.specs.SessionStates.{LeavesChoice}
use Rattle.session_laws.proofs.Findings.{finding_only}

-- by the forms of lines and the phases
pub no_choice : (e : Election) (n : ℕ) (s : State) (line : ScriptLine) (phase : Phase) (a b : Effect) → Does e n s line phase a → Does e n s line phase b → ¬ ((line ≡ Close) × LeavesChoice phase) → a ≡ b
no_choice e n s (Open work tabs) Closed a b x y none = x ∙ sym y
no_choice e n s (Open work tabs) phase a b x y none = x ∙ sym y
no_choice e n s Checkpoint Closed a b x y none = x ∙ sym y
no_choice e n s Checkpoint phase a b x y none = x ∙ sym y
no_choice e n s Tally Closed a b x y none = x ∙ sym y
no_choice e n s Tally phase a b x y none = x ∙ sym y
no_choice e n s Export Closed a b x y none = x ∙ sym y
no_choice e n s Export phase a b x y none = x ∙ sym y
no_choice e n s (Cast tab ballot) (Casts lists) a b x y none = x ∙ sym y
no_choice e n s (Cast tab ballot) phase a b x y none = x ∙ sym y
no_choice e n s (CastInvalid tab) (Casts lists) a b x y none = x ∙ sym y
no_choice e n s (CastInvalid tab) phase a b x y none = x ∙ sym y
no_choice e n s (Withdraw tab number) (Withdraws lists) a b x y none = x ∙ sym y
no_choice e n s (Withdraw tab number) phase a b x y none = x ∙ sym y
no_choice e n s (Find tab number) (Finds lists) a b x y none = x ∙ sym y
no_choice e n s (Find tab number) phase a b x y none = x ∙ sym y
no_choice e n s Close (Casts lists) a b x y none = absurd (none (refl, tt))
no_choice e n s Close (Withdraws lists) a b x y none = absurd (none (refl, tt))
no_choice e n s Close (Finds lists) a b x y none = finding_only s.set lists a x ∙ sym (finding_only s.set lists b y)
no_choice e n s Close Closed a b x y none = x ∙ sym y

-- so a line does one thing but at such a close
pub one_effect_elsewhere : (e : Election) (n : ℕ) (s : State) (line : Option (List ℕ)) (a b : Effect) → Answers e n s line a → Answers e n s line b → ¬ ((line ≡ Some (codes "close")) × LeavesChoice s.phase) → a ≡ b
one_effect_elsewhere e n s None a b x y none = x ∙ sym y
one_effect_elsewhere e n s (Some bytes) a b (inl x) (inl y) none = x.1 ∙ sym y.1
one_effect_elsewhere e n s (Some bytes) a b (inl x) (inr y) none = absurd (x.0 y.0 y.1)
one_effect_elsewhere e n s (Some bytes) a b (inr x) (inl y) none = absurd (y.0 x.0 x.1)
one_effect_elsewhere e n s (Some bytes) a b (inr x) (inr y) none =
    no_choice e n s y.0 s.phase a b (subst (λ (line : ScriptLine). Does e n s line s.phase a) (one_meaning e bytes x.0 y.0 x.1 y.1) x.2) y.2
    (λ choice. none (ap Some (subst (Says e bytes) choice.0 y.1), choice.1))
