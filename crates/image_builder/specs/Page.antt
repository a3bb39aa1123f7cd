-- A bank is read, compared and written in pages, counted from its first byte.
use Rattle.std.specs.Prelude.{ℕ}

-- the bytes of a page; the last page of a bank may have fewer
abbrev pub page_size : ℕ
page_size = 4096
