-- Steps of one seat, one after another, whatever their table. A row relates the view before a step, the note of the step
-- and the view after it.

module _ {V N : Type 0} where
  -- rows one after another from a view on, each from the view that the one before it led to
  pub data Rows (Row : V → N → V → Type 0) (from : V) : V → Type 0 where
    no_row : Rows Row from from
    one_more : (mid now : V) (note : N) → Rows Row from mid → Row mid note now → Rows Row from now

  -- A chain of rows: a first step, and then rows one after another from the view that it led to.
  pub record Chain (First Row : V → N → V → Type 0) (old now : V) : Type 0 where
    pub note : N
    pub after : V
    pub first : First old note after
    pub rows : Rows Row after now
