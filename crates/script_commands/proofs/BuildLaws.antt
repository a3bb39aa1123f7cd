-- The laws of `build`: its script decides how it ends, but for faults and want of memory.
use Rattle.std.proofs.Common.{◌≡◌, ◌⊎◌, ℕ, ◌<◌, ◌≤◌, List, length, Some, Result, Ok, Err, inl, inr, refl, sym, ◌∙◌, ap, subst, arith}
use Rattle.store_spec.proofs.Common.{Ballot, DiskModel, Election, Reason, lines_of, lines_within, script_limit}
use Rattle.ballot_record.proofs.BuildLaws.{build_one_way}
use Rattle.ballot_record.proofs.Reasons.{same_why}
use Rattle.ballot_record.specs.LineWhy.{reason}
use Rattle.ballot_record.specs.declared.fault.LineWhy.{LineWhy}
use Rattle.outside_io.proofs.FirstLine.{all_within}
use Rattle.outside_io.proofs.Told.{told_at}
use Rattle.outside_io.specs.Outside.{Outside}
use Rattle.run_outcome.proofs.Laws.{Laws, not_risen}
use Rattle.run_outcome.specs.Row.{NothingFailed}
use Rattle.run_outcome.specs.Status.{IsDecided}
use Rattle.run_outcome.specs.World.{World}
use Rattle.run_outcome.specs.declared.status.Status.{Status}
use Rattle.run_outcome.specs.declared.status.Status.TheVariants as status
use Rattle.run_outcome.specs.declared.status.Which.TheVariants as which
use Rattle.script_commands.specs.Build.{BuildEnds, build_row}
use Rattle.store_spec.specs.Build.{Builds, BuiltFrom}

-- the status that a script decides, and why
abbrev pub BuildDecides : Election → List ℕ → Status → Type 0
BuildDecides e text status.Ok = (length text ≤ script_limit) × ((set : List Ballot) × BuiltFrom e (lines_within script_limit text) (Ok set))
BuildDecides e text (status.BadLine line why) = BuiltFrom e (lines_within script_limit text) (Err (line, reason why))
BuildDecides e text (status.TooLong which.Script) = (script_limit < length text) × ((set : List Ballot) × BuiltFrom e (lines_within script_limit text) (Ok set))
BuildDecides e text other = ⊥

-- the lines of a text within the limit build this set
pub within : (e : Election) (text : List ℕ) (set : List Ballot) → length text ≤ script_limit → Builds e (lines_of text) set → BuildDecides e text status.Ok
within e text set few builds = (few, (set, subst (λ (lines : List (List ℕ)). BuiltFrom e lines (Ok set)) (sym (all_within script_limit text few)) builds))

build_decides : {S K : Type 0} (e : Election) (a : Status) (before after : Outside S K) (text : List ℕ) → before.script.left ≡ Some text
    → IsDecided a → BuildEnds e a before after → BuildDecides e text a
build_decides e status.Ok before after text is decided ends =
    let read = told_at text is ends.0.built in within e text ends.0.set read.1.0.0 read.1.1
build_decides e (status.BadLine line why) before after text is decided ends = (told_at text is ends.0.why).1.0
build_decides e (status.TooLong which.Script) before after text is decided ends =
    let read = (told_at text is ends.0.why).1 in (omega (arith, read.0), (read.1, read.2))
build_decides e (status.ReadFault which) before after text is decided ends = absurd decided
build_decides e status.WriteFault before after text is decided ends = absurd decided
build_decides e status.Memory before after text is decided ends = absurd decided
build_decides e other before after text is decided ends = ends

-- what lines build is no set and a bad line both
ok_err : {A B : Type 0} (a : A) (b : B) → Ok a ≡ Err b → ⊥
ok_err a b is = cc

err_err : {A B : Type 0} (x y : Result A B) (a b : B) → x ≡ Err a → y ≡ Err b → x ≡ y → a ≡ b
err_err x y a b one two is = cc

-- a bad line and its reason as a pair
abbrev Bad : Type 0
Bad = ℕ × Reason

same_bad_line : (l m : ℕ) (v w : LineWhy) (p q : Bad) → p.0 ≡ l → p.1 ≡ reason v → q.0 ≡ m → q.1 ≡ reason w → p ≡ q → status.BadLine l v ≡ status.BadLine m w
same_bad_line l m v w p q pl pv qm qw is =
    ap (λ n. status.BadLine n v) (sym pl ∙ ap (λ (r : Bad). r.0) is ∙ qm)
    ∙ ap (λ y. status.BadLine m y) (same_why v w (sym pv ∙ ap (λ (r : Bad). r.1) is ∙ qw))

-- lines that build a set have no first bad line
no_bad_line : (e : Election) (text : List ℕ) (line : ℕ) (why : LineWhy) → ((set : List Ballot) × BuiltFrom e (lines_within script_limit text) (Ok set)) → BuiltFrom e (lines_within script_limit text) (Err (line, reason why)) → ⊥
no_bad_line e text line why good bad =
    ok_err good.0 (line, reason why) (build_one_way e (lines_within script_limit text) (Ok good.0) (Err (line, reason why)) good.1 bad)

one_build : (e : Election) (text : List ℕ) (a b : Status) → BuildDecides e text a → BuildDecides e text b → a ≡ b
one_build e text status.Ok status.Ok x y = refl
one_build e text status.Ok (status.BadLine line why) x y = absurd (no_bad_line e text line why x.1 y)
one_build e text status.Ok (status.TooLong which.Script) x y = absurd (omega arith)
one_build e text (status.BadLine l v) status.Ok x y = absurd (no_bad_line e text l v y.1 x)
one_build e text (status.BadLine l v) (status.BadLine m w) x y = same_bad_line l m v w (l, reason v) (m, reason w) refl refl refl refl (err_err (Err (l, reason v)) (Err (m, reason w)) (l, reason v) (m, reason w) refl refl (build_one_way e (lines_within script_limit text) (Err (l, reason v)) (Err (m, reason w)) x y))
one_build e text (status.BadLine l v) (status.TooLong which.Script) x y = absurd (no_bad_line e text l v y.1 x)
one_build e text (status.TooLong which.Script) status.Ok x y = absurd (omega arith)
one_build e text (status.TooLong which.Script) (status.BadLine line why) x y = absurd (no_bad_line e text line why x.1 y)
one_build e text (status.TooLong which.Script) (status.TooLong which.Script) x y = refl
one_build e text a b x y = absurd (assumption (x, y))

-- no object failed, so the answer is decided, or there was no memory
build_settled : {S K D : Type 0} (model : DiskModel D) (e : Election) (a : Status) (before after : World S K D) → NothingFailed model build_row.touches before after → BuildEnds e a before.streams after.streams → IsDecided a ⊎ (a ≡ status.Memory)
build_settled model e (status.ReadFault which.Script) before after none ends = absurd (not_risen before.streams.script.faults after.streams.script.faults none.script ends.1)
build_settled model e (status.ReadFault which.Election) before after none ends = absurd ends
build_settled model e status.WriteFault before after none ends = absurd (not_risen before.streams.sink.faults after.streams.sink.faults none.sink ends.1)
build_settled model e status.DiskFault before after none ends = absurd ends
build_settled model e (status.OtherDiskFault index) before after none ends = absurd ends
build_settled model e status.Memory before after none ends = inr refl
build_settled model e other before after none ends = inl tt

pub build_laws : Laws build_row
build_laws = record {
  Cause = λ e content. BuildDecides e content.script;
  caused = λ model e a report before after content tells decided ends. build_decides e a before.streams after.streams content.script tells.script decided ends;
  one = λ e content a b valid x y. one_build e content.script a b x y;
  settled = λ model e a report before after none ends. build_settled model e a before after none ends;
  served = λ e content a words valid none has decides. one_build e content.script a status.Ok decides (within e content.script has.1 has.0 has.2);
  no_usage = λ model e report before after ends. ends;
}
