use Rattle.std.proofs.Common.{◌≡◌, ℕ, ◌*◌, ◌≤◌, ◌<◌, Bool, List, length, get_or, sym, ◌∙◌, ap, arith, subst}
use Rattle.crash_disk.proofs.Stops.{inside-failed, inside-quiet, inside-wrote, moment_of-late, state-ended}
use Rattle.crash_disk.proofs.recording.Recording.calls_by.Goals as goal
use Rattle.crash_disk.specs.Notes.{state_of}
use Rattle.crash_disk.specs.Stop.{moment_of}
use Rattle.crash_disk.specs.declared.entry.Entry.{Entry}

-- the entry that was looked up
found : (entries looked : List Entry) (i : ℕ) (entry : Entry) → looked ≡ entries → (i < length looked) × ((d : Entry) → entry ≡ get_or looked i d) → (i < length entries) × (entry ≡ get_or entries i entry)
found entries looked i entry same here =
    (subst (λ (xs : List Entry). i < length xs) same here.0, here.1 entry ∙ ap (λ (xs : List Entry). get_or xs i entry) same)

pub returns-in-Write-clause-state : goal.returns-in-Write-clause-state
returns-in-Write-clause-state c =
    let m = c.args.self.now in
    let entry = c.in-Some.entry.now in
    let here = found m.entries.items c.deref.result.now c.args.calls entry c.deref.ensures.value c.in-Some.ensures.lookup.3 in
    let inside = ap (λ (b : Bool). state_of m (moment_of c.args.calls b)) c.if-inside.true in
    inside-wrote m c.args.calls entry here.0 here.1 c.in-Write.at c.in-Write.count c.if-entry.true c.in-Write.is ∙ sym inside

pub returns-in_default : goal.returns-in_default
returns-in_default c =
    let m = c.args.self.now in
    let entry = c.in-Some.entry.now in
    let here = found m.entries.items c.deref.result.now c.args.calls entry c.deref.ensures.value c.in-Some.ensures.lookup.3 in
    let inside = ap (λ (b : Bool). state_of m (moment_of c.args.calls b)) c.if-inside.true in
    record {
      within = omega (arith, here.0);
      state = inside-quiet m c.args.calls entry here.0 here.1 c.if-entry.true c.in_default.not-Write ∙ sym inside;
    }

pub returns-in-Some-2-clause-state : goal.returns-in-Some-2-clause-state
returns-in-Some-2-clause-state c =
    let m = c.args.self.now in
    let entry = c.in-Some.entry.now in
    let here = found m.entries.items c.deref.result.now c.args.calls entry c.deref.ensures.value c.in-Some.ensures.lookup.3 in
    let inside = ap (λ (b : Bool). state_of m (moment_of c.args.calls b)) c.if-inside.true in
    inside-failed m c.args.calls entry here.0 here.1 c.if-entry.false ∙ sym inside

pub returns-in-None-clause-state : goal.returns-in-None-clause-state
returns-in-None-clause-state c =
    let m = c.args.self.now in
    let many : c.len.result ≡ length m.entries.items = omega arith in
    let behind : length m.entries.items ≤ c.args.calls = omega (arith, c.in-None.ensures.lookup.3, ap (λ (xs : List Entry). length xs) c.deref.ensures.value) in
    ap (λ n. state_of m (2 * n)) many ∙ state-ended m (moment_of c.args.calls c.args.inside) (omega (arith, behind, moment_of-late c.args.calls c.args.inside))
