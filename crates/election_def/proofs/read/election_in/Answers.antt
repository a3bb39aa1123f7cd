use Rattle.std.proofs.Common.{◌≡◌, ℕ, List, length, rules, Err, Option, Some, IsSome, sym, ap, ◌∙◌, ap₂, ◌↔◌, subst, arith, is_ok, true≢false}
use Rattle.store_spec.proofs.Common.{Election, IfSome, IsElection, codes, in_version}
use Rattle.std.specs.Prelude.{IsSomeAnd, option_and_then}
use Rattle.serde_json.specs.View.{view}
use Rattle.serde_json.specs.Find.{as_str, get}
use Rattle.ballot_record.specs.Contest.{contests_of}
use Rattle.ballot_record.specs.Parts.{parts_of}
use Rattle.ballot_record.specs.declared.contest.Contest.{Contest}
use Rattle.ballot_record.proofs.Versions.{few_contests}
use Rattle.election_def.specs.declared.fault.ElectionFault.TheVariants.{NotElection}
use Rattle.election_def.specs.Text.{HasNoKeyBut, IsSaltText, IsVersionIn, election_keys}
use Rattle.election_def.proofs.One.{AreParts, AreContestsAt, contests_of_version, same_parts, no_styles, no_styles_at, are_styles, contest_count, described}
use Rattle.election_def.proofs.One as one
use Rattle.election_def.proofs.read.election_in.Goals as goal

pub returns-then-len-gt-MAX_CONTESTS-clause-refused : goal.returns-then-len-gt-MAX_CONTESTS-clause-refused
returns-then-len-gt-MAX_CONTESTS-clause-refused c = λ none e is.
    let contests = c.in_ok-contests.contests.items in
    let d = view c.args.value.now in
    let version = c.in_ok-version.version in
    let are : AreContestsAt (in_version version 32 64) (contests_of contests) d = search rules in
    let at : IsVersionIn d version = search rules in
    let same = contests_of_version d version (contests_of contests) e at are is in
    omega (arith, ap length same, contest_count contests, c.if-len-gt-MAX_CONTESTS.true, c.len.ensures, is.valid.few_contests, few_contests e)

pub returns-in_err-styles-clause-refused : goal.returns-in_err-styles-clause-refused
returns-in_err-styles-clause-refused c = λ none e is.
    let contests = c.in_ok-contests.contests.items in
    let d = view c.args.value.now in
    let version = c.in_ok-version.version in
    let are : AreContestsAt (in_version version 32 64) (contests_of contests) d = search rules in
    let stated : IsVersionIn d version = search rules in
    let at : Some (view c.in_ok-styles_value.styles_value.now) ≡ get (codes "styles") d = search rules in
    let fault : c.in_err-styles.field-0.0 ≡ NotElection = search rules in
    let count : c.len-2.result ≡ length (contests_of contests) = omega (arith, contest_count contests, c.len-2.ensures) in
    no_styles d version (contests_of contests) stated are (no_styles_at d (view c.in_ok-styles_value.styles_value.now) c.len-2.result (length (contests_of contests)) at count (c.in_err-styles.ensures.refused (ap Err fault))) e is

-- the election of the parts that were read
abbrev election_read : goal.After-drop-contests-2 → Election
election_read c = parts_of c.in_ok-version.version c.in_ok-contests.contests.items c.in_ok-styles.styles.items c.in_ok-limit.limit c.in_ok-bits.bits c.in_ok-salt.salt

parts_are : (c : goal.After-drop-contests-2) → AreParts (view c.args.value.now) (election_read c)
parts_are c =
    let d = view c.args.value.now in
    let contests = c.in_ok-contests.contests.items in
    let at : Some (view c.in_ok-styles_value.styles_value.now) ≡ get (codes "styles") d = search rules in
    let count : c.len-2.result ≡ length (contests_of contests) = omega (arith, contest_count contests, c.len-2.ensures) in
    record {
      version = search rules;
      contests = search rules;
      styles = are_styles d (view c.in_ok-styles_value.styles_value.now) c.len-2.result (length (contests_of contests)) c.in_ok-styles.styles.items at count c.in_ok-styles.ensures.styles;
      limit = search rules;
      bits = search rules;
      salt = search rules;
    }

-- what `from_parts` was handed is what was read
handed : (c : goal.After-drop-contests-2) → parts_of c.in_ok-version.version c.deref.result.now c.deref-2.result.now c.in_ok-limit.limit c.in_ok-bits.bits c.in_ok-salt.salt ≡ election_read c
handed c =
    let make : List Contest → List ℕ → Election = λ contests styles. parts_of c.in_ok-version.version contests styles c.in_ok-limit.limit c.in_ok-bits.bits c.in_ok-salt.salt in
    ap₂ make c.deref.ensures.value c.deref-2.ensures.value

pub returns-clause-election : goal.returns-clause-election
returns-clause-election c =
    let P : Election → Type 0 = λ e. (IsSome c.from_parts.result ↔ IsElection e) × IfSome c.from_parts.result (λ election. election ≡ e) in
    let read = subst P (handed c) (c.from_parts.ensures.valid, c.from_parts.ensures.parts) in
    let keys : HasNoKeyBut election_keys (view c.args.value.now) = search rules in
    described (view c.args.value.now) (election_read c) c.from_parts.result c.ok_or-8.result keys (parts_are c) read.0 read.1 c.ok_or-8.ensures.ok_part

pub returns-clause-refused : goal.returns-clause-refused
returns-clause-refused c = λ none e is.
    let d = view c.args.value.now in
    let same = same_parts d e (election_read c) (one.parts_of d e is) (parts_are c) in
    let some : IsSome c.from_parts.result = c.from_parts.ensures.valid.1 (subst IsElection (same ∙ sym (handed c)) is.valid) in
    true≢false (sym (sym (ap is_ok none) ∙ c.ok_or-8.ensures.variant ∙ some))

pub returns-in_err-salt-clause-refused : goal.returns-in_err-salt-clause-refused
returns-in_err-salt-clause-refused c = λ none e is.
    let text = c.in_ok-salt_text.salt_text.now in
    let P : Option (List ℕ) → Type 0 = λ found. IsSomeAnd found (λ text. IsSaltText text e.salt) in
    let at : Some text ≡ option_and_then as_str (get (codes "salt") (view c.args.value.now)) = search rules in
    c.salt.ensures.refused (sym c.in_err-salt.ensures.variant) e.salt (subst P (sym at) is.salt)

pub returns-in_err-version-clause-refused : goal.returns-in_err-version-clause-refused
returns-in_err-version-clause-refused c = λ none e is.
    omega (arith, c.version.ensures.refused (sym c.in_err-version.ensures.variant) e.version is.version, is.valid.known_version)
