use Rattle.std.proofs.Common.{◌∷◌, ◌++◌, refl, ap}
use Rattle.store_spec.proofs.Common.{Casting, Finding, Withdrawing, work_text}
use Rattle.script_lines.proofs.Forms.{cast_told, item_named, no_number, no_tab}
use Rattle.script_lines.specs.Words.{work}
use Rattle.script_lines.proofs.reading.read_item.Goals as goal

pub returns-in_err-tab : goal.returns-in_err-tab
returns-in_err-tab c = rw c.from_residual.ensures (no_tab c.args.election.now (work c.args.named) c.args.behind.now c.in_err-tab.ensures)

pub returns-in_err-whole_number-in-Withdrawing : goal.returns-in_err-whole_number-in-Withdrawing
returns-in_err-whole_number-in-Withdrawing c =
    let bytes = work_text (work c.args.named) ++ 32 ∷ c.args.behind.now in
    let named = item_named (work c.args.named) Withdrawing bytes c.args.behind.now c.in_ok-tab.rest.now c.in_ok-tab.tab refl (ap work c.in-Withdrawing.is) c.in_ok-tab.ensures.1 in
    rw c.from_residual-in_err-whole_number-in-Withdrawing.ensures
    (no_number c.args.election.now bytes Withdrawing c.in_ok-tab.tab c.in_ok-tab.rest.now (λ same. cc) c.in_ok-tab.ensures.0 named c.in_err-whole_number-in-Withdrawing.ensures)

pub returns-in_err-whole_number-in-Finding : goal.returns-in_err-whole_number-in-Finding
returns-in_err-whole_number-in-Finding c =
    let bytes = work_text (work c.args.named) ++ 32 ∷ c.args.behind.now in
    let named = item_named (work c.args.named) Finding bytes c.args.behind.now c.in_ok-tab.rest.now c.in_ok-tab.tab refl (ap work c.in-Finding.is) c.in_ok-tab.ensures.1 in
    rw c.from_residual-in_err-whole_number-in-Finding.ensures
    (no_number c.args.election.now bytes Finding c.in_ok-tab.tab c.in_ok-tab.rest.now (λ same. cc) c.in_ok-tab.ensures.0 named c.in_err-whole_number-in-Finding.ensures)

pub returns-in-Casting : goal.returns-in-Casting
returns-in-Casting c =
    let bytes = work_text (work c.args.named) ++ 32 ∷ c.args.behind.now in
    let named = item_named (work c.args.named) Casting bytes c.args.behind.now c.in_ok-tab.rest.now c.in_ok-tab.tab refl (ap work c.in-Casting.is) c.in_ok-tab.ensures.1 in
    cast_told c.args.election.now bytes c.in_ok-tab.tab c.in_ok-tab.rest.now c.read_cast.result c.read_cast.new.out c.in_ok-tab.ensures.0 named c.read_cast.ensures
