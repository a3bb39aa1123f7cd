-- What a reader of lines keeps of its source.
use Rattle.std.specs.Prelude.{◌≡◌, ℕ, Bool, ◌+◌, ◌-◌, ◌<◌, ◌≤◌, List, ◌++◌, take, replicate, vec_len, slice_range}
use Rattle.outside_io.specs.declared.lines.Lines.TheInside.{Inside}
use Rattle.store_spec.specs.Input.{line_limit, script_limit, first_width}

-- `text` is what was read and not handed out; the bytes of a line that is too wide already stand as zeros. Of the source,
-- counted from the front of `text` on, so many bytes as `room` may still be handed out. `line` is the last whole line, and
-- `space` is how many bytes the buffer takes behind the others. `ended`: the source has given its end.
pub record Kept : Type 0 where
  pub text : List ℕ
  pub room : ℕ
  pub line : List ℕ
  pub space : ℕ
  pub ended : Bool

-- how many bytes the buffer holds
abbrev pub buffer_size : ℕ
buffer_size = 65536

-- the bytes in the buffer that were read and not handed out
abbrev pub window_of : Inside → List ℕ
window_of a = slice_range a.buffer.items a.start a.end

abbrev pub kept_of : Inside → Kept
kept_of a = record {
  text = replicate a.skipped 0 ++ window_of a;
  room = a.room;
  line = slice_range a.buffer.items a.line_start a.line_end;
  space = buffer_size - a.end;
  ended = a.ended;
}

pub record IsWindow (a : Inside) : Type 0 where
  pub size : vec_len a.buffer ≡ buffer_size
  pub ordered : a.start ≤ a.end
  pub within : a.end ≤ buffer_size
  pub line_ordered : a.line_start ≤ a.line_end
  pub line_within : a.line_end ≤ buffer_size
  pub searched : a.searched ≤ a.end - a.start
  pub no_end : first_width (take a.searched (window_of a)) ≡ a.searched
  pub wide : 0 < a.skipped → line_limit < a.skipped
  pub counted : a.skipped + (a.end - a.start) ≤ a.room + 1
  pub limited : a.room ≤ script_limit
