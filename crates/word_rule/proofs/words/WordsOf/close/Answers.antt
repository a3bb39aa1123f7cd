use Rattle.std.proofs.Common.{◌∙◌, take, sym, ap, subst}
use Rattle.layout_def.specs.Changes.{AreChanges}
use Rattle.word_rule.proofs.Closing.{have_ended}
use Rattle.word_rule.proofs.words.WordsOf.close.Given as given
use Rattle.word_rule.proofs.words.WordsOf.close.Goals as goal
use Rattle.word_rule.proofs.words.WordsOf.close.Goals.{In_ok-close_table}
use Rattle.word_rule.specs.Places.{AreWhole, words_seen}
use Rattle.word_rule.specs.Seats.{SharedWords}

pub join_seats-whole-requires-clause-whole : goal.join_seats-whole-requires-clause-whole
join_seats-whole-requires-clause-whole g c = subst (λ w. AreWhole g.Q.PhaseRule.rests w c.args.seats.items) (sym c.self.view_is) c.requires.whole

closed : (g : given.Over) (c : In_ok-close_table g) → AreChanges c.args.before.now (g.Q.PhaseRule.cells_after c.args.self c.args.seats.items) c.close_table.new.changes.items × g.Q.PhaseRule.agree_on c.args.self c.args.seats.items
closed g c =
    let q = g.Q.PhaseRule in
    let seats = c.args.seats.items in
    let before = c.args.before.now in
    let changes = c.close_table.new.changes.items in
    let shared = c.self.inside.table.shared in
    let cells = c.in_ok-close_table.ensures.0 in
    let ended = c.in_ok-close_table.ensures.1 in
    let noted = c.in_ok-close_table.ensures.2 in
    let told = c.laws.ensures.closes (words_seen shared) seats ended.last.words c.self.invariant.opened
    (have_ended q.holds q.fresh q.both q.rests shared seats c.join_seats-whole.result cells c.join_seats-whole.ensures (c.requires.whole.count ∙ ap (λ (w : SharedWords). w.seats) (sym c.self.view_is)) ended) in
    let size = sym noted.as_many ∙ c.requires.as_many ∙ ap (λ (w : SharedWords). w.shape.cells) (sym c.self.view_is) in
    subst (λ (w : SharedWords). AreChanges before (q.cells_after w seats) changes × q.agree_on w seats) c.self.view_is
    (subst (λ cells. AreChanges before cells changes) (ended.cells_are ∙ ap (λ n. take n ended.last.words) size ∙ told.0) noted, told.1)

pub returns-clause-changes : goal.returns-clause-changes
returns-clause-changes g c = (closed g c).0

pub returns-clause-lists : goal.returns-clause-lists
returns-clause-lists g c = (closed g c).1
