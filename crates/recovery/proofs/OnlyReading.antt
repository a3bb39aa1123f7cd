-- Calls that write nothing, one after another.
use Rattle.std.proofs.Common.{◌≡◌, ℕ, List, Option, Some, refl, sym, ◌∙◌}
use Rattle.store_spec.proofs.Common.{IsSettled, KeepsCrashImages, leaves_now}
use Rattle.crash_disk.proofs.Moments.{goes_on_same, joined, started, weaker}
use Rattle.recovery.specs.ReadsOnly.{ReadsOnly, WritesNothing}

module _ {D : Type 0} (seen : D → Option (List ℕ)) (calls : D → ℕ) (may_leave : D → ℕ → List ℕ → Type 0) where
  -- no call
  pub nothing_called : (disk : D) → WritesNothing seen calls may_leave disk disk
  nothing_called disk = record {
    same_bytes = refl;
    still = λ c left. left;
    any_moment = started calls may_leave disk (leaves_now calls may_leave disk) (λ c left. left);
  }

  -- one call more
  pub nothing_on : (old mid new : D) → WritesNothing seen calls may_leave old mid → seen new ≡ seen mid → KeepsCrashImages calls may_leave mid new → WritesNothing seen calls may_leave old new
  nothing_on old mid new one same keeps = record {
    same_bytes = same ∙ one.same_bytes;
    still = λ c left. keeps.after c (one.still c left);
    any_moment = goes_on_same calls may_leave old mid new (leaves_now calls may_leave old) one.any_moment keeps.at_most;
  }

  -- one call
  pub nothing_once : (old new : D) → seen new ≡ seen old → KeepsCrashImages calls may_leave old new → WritesNothing seen calls may_leave old new
  nothing_once old new same keeps = nothing_on old old new (nothing_called old) same keeps

  -- two runs
  pub nothing_joined : (old mid new : D) → WritesNothing seen calls may_leave old mid → WritesNothing seen calls may_leave mid new → WritesNothing seen calls may_leave old new
  nothing_joined old mid new one two = record {
    same_bytes = two.same_bytes ∙ one.same_bytes;
    still = λ c left. two.still c (one.still c left);
    any_moment = joined calls may_leave old mid new (leaves_now calls may_leave old) one.any_moment
        (weaker calls may_leave mid new (leaves_now calls may_leave mid) (leaves_now calls may_leave old) one.any_moment.now two.any_moment);
  }

  -- on a settled disk
  pub settled_reads : (old new : D) → IsSettled seen calls may_leave old → WritesNothing seen calls may_leave old new → ReadsOnly seen calls may_leave old new
  settled_reads old new settled run = record {
    same_bytes = run.same_bytes;
    settled = λ c. (λ left. run.same_bytes ∙ (settled c).0 (run.any_moment.now c left), λ sees. run.still c ((settled c).1 (sym run.same_bytes ∙ sees)));
    any_moment = weaker calls may_leave old new (leaves_now calls may_leave old) (λ image. seen old ≡ Some image) (λ c left. (settled c).0 left) run.any_moment;
  }

  -- two runs on it
  pub reads_joined : (old mid new : D) → ReadsOnly seen calls may_leave old mid → ReadsOnly seen calls may_leave mid new → ReadsOnly seen calls may_leave old new
  reads_joined old mid new one two = record {
    same_bytes = two.same_bytes ∙ one.same_bytes;
    settled = two.settled;
    any_moment = joined calls may_leave old mid new (λ image. seen old ≡ Some image) one.any_moment
        (weaker calls may_leave mid new (λ image. seen mid ≡ Some image) (λ image. seen old ≡ Some image) (λ c sees. sym one.same_bytes ∙ sees) two.any_moment);
  }
