-- What an audit finds in the bytes of a medium.
use Rattle.std.specs.Prelude.{◌≡◌, ℕ, List, length}
use Rattle.audit_medium.specs.declared.finding.Audit.{Audit}
use Rattle.audit_medium.specs.declared.finding.Audit.TheVariants.{Canonical, Differs}
use Rattle.recovery.specs.Differing.{DiffersFirstAt}
use Rattle.store_spec.specs.Ballot.{Ballot}
use Rattle.store_spec.specs.Election.{Election}
use Rattle.store_spec.specs.Medium.{HoldsSet, IsMediumOf, medium_of}

-- they are the medium of a set of so many ballots
pub record IsCanonical (e : Election) (bytes : List ℕ) (held : ℕ) : Type 0 where
  pub set : List Ballot
  pub medium : IsMediumOf e bytes set
  pub count : length set ≡ held

-- they hold a set, and differ from its medium first at this place
pub record DiffersAt (e : Election) (bytes : List ℕ) (place : ℕ) : Type 0 where
  pub set : List Ballot
  pub held : HoldsSet e bytes set
  pub first : DiffersFirstAt place bytes (medium_of e set)

abbrev pub IsAudited : Election → List ℕ → Audit → Type 0
IsAudited e bytes (Canonical held) = IsCanonical e bytes held
IsAudited e bytes (Differs place) = DiffersAt e bytes place
