-- The laws of a row, and what their proofs share.
use Rattle.std.proofs.Common.{◌≡◌, ◌<◌, ◌⊎◌, ℕ, List, Option, Some, Result, Ok as Fine, Err, arith, sym, subst}
use Rattle.store_spec.proofs.Common.{CountsFault, DiskModel, Election, IfErr, IsElection, IsErrAnd, OnErr, OnOk, Rose, last_count}
use Rattle.std.specs.Option.{IfSome}
use Rattle.run_outcome.specs.Row.{Content, NothingFailed, Row, Tells}
use Rattle.run_outcome.specs.Status.{IsDecided, ended}
use Rattle.run_outcome.specs.World.{IsSteady, Reported, World}
use Rattle.run_outcome.specs.declared.status.Status.{Status}
use Rattle.run_outcome.specs.declared.status.Status.TheVariants.{Ok, Memory, Usage, WriteFault}

-- What is proved of each row. What a command reads is the cause of its status, but for faults and want of memory, and
-- is the cause of one status alone; a fault comes only where a count rose; where nothing stands against a command the
-- cause is that it was carried out; and no command answers that the words form none.
pub record Laws (row : Row) : Type 1 where
  pub Cause : Election → Content → Status → Type 0
  pub caused : {S K D : Type 0} (model : DiskModel D) (e : Election) (a : Status) (report : Reported) (before after : World S K D) (content : Content)
      → Tells model row.touches before content → IsDecided a → row.ends model e a report before after → Cause e content a
  pub one : (e : Election) (content : Content) (a b : Status) → IsElection e → Cause e content a → Cause e content b → a ≡ b
  pub settled : {S K D : Type 0} (model : DiskModel D) (e : Election) (a : Status) (report : Reported) (before after : World S K D)
      → NothingFailed model row.touches before after → row.ends model e a report before after → IsDecided a ⊎ (a ≡ Memory)
  pub served : (e : Election) (content : Content) (a : Status) (words : List (List ℕ)) → IsElection e → row.further words → row.served e content → Cause e content a → row.done e content a
  pub no_usage : {S K D : Type 0} (model : DiskModel D) (e : Election) (report : Reported) (before after : World S K D) → row.ends model e Usage report before after → ⊥

-- ---- what the proofs of these laws share

-- a count of faults that is steady did not rise
pub not_risen : (before after : ℕ) → IsSteady before after → Rose before after → ⊥
not_risen before after steady rose =
    let below : after < last_count = omega (arith, steady.same, steady.below) in
    omega (arith, steady.same, rose below)

-- what holds of the bytes that are told
pub at_told : (told : Option (List ℕ)) (bytes : List ℕ) (P : List ℕ → Type 0) → told ≡ Some bytes → IfSome told P → P bytes
at_told told bytes P is all = subst (λ o. IfSome o P) is all

-- ---- how a command ends

-- with the status of a cause that was handed on
pub ended_with : (r : Result (Unit {0}) Status) (x : Status) (P : Status → Type 0) → IsErrAnd r (λ status. status ≡ x) → P x → P (ended r)
ended_with (Fine done) x P is holds = absurd is
ended_with (Err y) x P is holds = subst P (sym is) holds

-- with what came of telling a text, as its last step
pub ended_told : (r : Result (Unit {0}) Status) (Told Cut : Type 0) (before after : ℕ) (P : Status → Type 0)
    → OnOk r Told → OnErr r Cut → IfErr r (λ status. status ≡ WriteFault) → CountsFault r before after
    → (Told → after ≡ before → P Ok) → (Cut → Rose before after → P WriteFault) → P (ended r)
ended_told (Fine done) Told Cut before after P told cut failed count well badly = well told count.steady
ended_told (Err status) Told Cut before after P told cut failed count well badly = subst P (sym failed) (badly cut count.rose)
