-- The laws of what calls on the disks of a store in parts lead to.
use Rattle.std.proofs.Common.{◌≡◌, ◌≤◌, ⊎_elim, inl, inr, ℕ, List, [], ◌∷◌, Option, refl, ◌∙◌, subst, arith}
use Rattle.std.specs.List.{AllZip}
use Rattle.parted_store.specs.Leads.{Blames, OnePartFails, PartsLead, PartsState}
use Rattle.store_spec.specs.Disk.{DiskModel}
use Rattle.store_spec.specs.Fault.{Rose}

each-itself : {X : Type 0} (R : X → X → Type 0) → ((x : X) → R x x) → (xs : List X) → AllZip R xs xs
each-itself R same [] = tt
each-itself R same (x ∷ xs) = (same x, each-itself R same xs)

each-on : {X : Type 0} (R : X → X → Type 0) → ((x y z : X) → R x y → R y z → R x z) → (xs ys zs : List X) → AllZip R xs ys → AllZip R ys zs → AllZip R xs zs
each-on R on [] [] [] one two = tt
each-on R on [] [] (z ∷ zs) one two = absurd two
each-on R on [] (y ∷ ys) zs one two = absurd one
each-on R on (x ∷ xs) [] zs one two = absurd one
each-on R on (x ∷ xs) (y ∷ ys) [] one two = absurd two
each-on R on (x ∷ xs) (y ∷ ys) (z ∷ zs) one two = (on x y z one.0 two.0, each-on R on xs ys zs one.1 two.1)

rise-before : (a b c : ℕ) → Rose a b → b ≤ c → Rose a c
rise-before a b c rose le lt = let before = rose (omega (arith, le, lt)) in omega (arith, before, le)

rise-behind : (a b c : ℕ) → a ≤ b → Rose b c → Rose a c
rise-behind a b c le rose lt = let before = rose lt in omega (arith, before, le)

module _ {A B : Type 0} (last : ℕ) (models : ℕ → DiskModel (A × List B)) (first_leads : A → A → Type 0) (further_leads : B → B → Type 0) where
  pub lead-itself : ((a : A) → first_leads a a) → ((b : B) → further_leads b b) → (now : PartsState A B) → PartsLead last models first_leads further_leads now now
  lead-itself first further now = record {
    same_first = refl;
    same_more = refl;
    first = first now.disks.0;
    more = each-itself further_leads further now.disks.1;
    faults = λ i within. omega arith;
    told = inl refl;
  }

  pub lead-on : ((old mid new : A) → first_leads old mid → first_leads mid new → first_leads old new) → ((old mid new : B) → further_leads old mid → further_leads mid new → further_leads old new) → (old mid new : PartsState A B) → PartsLead last models first_leads further_leads old mid → PartsLead last models first_leads further_leads mid new → PartsLead last models first_leads further_leads old new
  lead-on first further old mid new one two = record {
    same_first = two.same_first ∙ one.same_first;
    same_more = two.same_more ∙ one.same_more;
    first = first old.disks.0 mid.disks.0 new.disks.0 one.first two.first;
    more = each-on further_leads further old.disks.1 mid.disks.1 new.disks.1 one.more two.more;
    faults = λ i within. let before = one.faults i within in let after = two.faults i within in omega (arith, before, after);
    told = ⊎_elim
        (λ (same : new.failed ≡ mid.failed). ⊎_elim
        (λ (as_before : mid.failed ≡ old.failed). inl (same ∙ as_before))
        (λ (blames : (i : ℕ) × Blames last models mid.failed old.disks mid.disks i). inr (
          blames.0,
          record {
            within = blames.1.within;
            told = same ∙ blames.1.told;
            rose = rise-before ((models blames.0).faults old.disks) ((models blames.0).faults mid.disks) ((models blames.0).faults new.disks) blames.1.rose (two.faults blames.0 blames.1.within);
          },
        ))
        one.told)
        (λ (blames : (i : ℕ) × Blames last models new.failed mid.disks new.disks i). inr (
          blames.0,
          record {
            within = blames.1.within;
            told = blames.1.told;
            rose = rise-behind ((models blames.0).faults old.disks) ((models blames.0).faults mid.disks) ((models blames.0).faults new.disks) (one.faults blames.0 blames.1.within) blames.1.rose;
          },
        ))
        two.told;
  }

-- behind calls of which none failed
pub fail-on : {D : Type 0} (last : ℕ) (models : ℕ → DiskModel D) (failed : Option ℕ) (old mid new : D) → ((i : ℕ) → i ≤ last → (models i).faults mid ≡ (models i).faults old) → OnePartFails last models failed mid new → OnePartFails last models failed old new
fail-on last models failed old mid new steady fails = (
  fails.0,
  record {
    blamed = record {
      within = fails.1.blamed.within;
      told = fails.1.blamed.told;
      rose = subst (λ n. Rose n ((models fails.0).faults new)) (steady fails.0 fails.1.blamed.within) fails.1.blamed.rose;
    };
    others = λ j within other. fails.1.others j within other ∙ steady j within;
  },
)
