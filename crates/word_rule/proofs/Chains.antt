-- Chains of rows, put together.
use Rattle.word_rule.specs.Chain.{Chain, Rows}
use Rattle.word_rule.specs.Chain.Rows.{no_row, one_more}

module _ {V N : Type 0} (Row : V → N → V → Type 0) where
  pub none : (view : V) → Rows Row view view
  none view = no_row

  pub one : (old now : V) (note : N) → Row old note now → Rows Row old now
  one old now note made = one_more old now note no_row made

  pub both : (old mid now : V) → Rows Row old mid → Rows Row mid now → Rows Row old now
  both old mid _ rows no_row = rows
  both old mid _ rows (one_more last now note more made) = one_more last now note (both old mid last rows more) made

  -- a chain of a first step alone
  pub begun : (First : V → N → V → Type 0) (old now : V) (note : N) → First old note now → Chain First Row old now
  begun First old now note made = record { note = note; after = now; first = made; rows = no_row }

  -- a chain that goes on
  pub led_on : (First : V → N → V → Type 0) (old mid now : V) → Chain First Row old mid → Rows Row mid now → Chain First Row old now
  led_on First old mid now chain more = record {
    note = chain.note;
    after = chain.after;
    first = chain.first;
    rows = both chain.after mid now chain.rows more;
  }
