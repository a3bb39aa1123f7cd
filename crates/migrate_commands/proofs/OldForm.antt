-- An election's form in version 1, and what an old medium holds under it.
use Rattle.std.proofs.Common.{◌≡◌, ℕ, List, Some, arith}
use Rattle.store_spec.proofs.Common.{Ballot, Election, HasVersionOne, IsElection, as_version_one}
use Rattle.image_builder.proofs.Held.{one_held}
use Rattle.migrate_commands.specs.Migrate.{HoldsOld}

pub form_valid : (e : Election) → IsElection e → HasVersionOne e → IsElection (as_version_one e)
form_valid e valid form = record {
  some_version = omega arith;
  known_version = omega arith;
  some_contest = valid.some_contest;
  few_contests = form.few_contests;
  each_contest = λ i d lt.
      let one = valid.each_contest i d lt in
      record { some_choice = one.some_choice; few_choices = form.few_choices i d lt; some_mark = one.some_mark; few_marks = one.few_marks };
  some_style = valid.some_style;
  few_styles = valid.few_styles;
  each_style = valid.each_style;
  some_ballot = valid.some_ballot;
  few_ballots = valid.few_ballots;
  few_bits = valid.few_bits;
  short_salt = valid.short_salt;
}

pub one_old : (e : Election) (bytes : List ℕ) (a b : List Ballot) → IsElection e → HoldsOld e bytes a → HoldsOld e bytes b → a ≡ b
one_old e bytes a b valid x y =
    let both : Some a ≡ Some b = one_held (as_version_one e) bytes (Some a) (Some b) (form_valid e valid x.0) x.1 y.1 in
    cc
