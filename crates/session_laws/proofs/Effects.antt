-- Effects with the same parts are the same.
use Rattle.std.proofs.Common.{◌≡◌, ℕ, List, ap, ◌∙◌}
use Rattle.store_spec.proofs.Common.{Ballot, Effect, State}

-- an effect is its reply, what it acknowledges, and the state after it
pub same_effect : (a b : Effect) → a.reply ≡ b.reply → a.acknowledged ≡ b.acknowledged → a.next ≡ b.next → a ≡ b
same_effect a b reply acknowledged next =
    ap (λ (text : List ℕ). record { reply = text; acknowledged = a.acknowledged; next = a.next }) reply
    ∙ ap (λ (sets : List (List Ballot)). record { reply = b.reply; acknowledged = sets; next = a.next }) acknowledged
    ∙ ap (λ (next : State). record { reply = b.reply; acknowledged = b.acknowledged; next = next }) next
