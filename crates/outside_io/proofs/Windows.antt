-- The bytes between two places of a buffer, behind the zeros that stand for forgotten ones.
use Rattle.std.proofs.Common.{◌≡◌, ℕ, ◌+◌, ◌-◌, ◌<◌, ◌≤◌, Bool, true, false, List, ◌++◌, length, take, drop, get_or, replicate, refl, ap, sym, ◌∙◌, arith, length-append, length-drop, take-append-drop}
use Rattle.store_spec.proofs.Common.{Global, drop-drop, drop-take, drop_at, first_width, length-replicate, length-take-le, slice_range, take-add, take-append-le, take-take}
use Rattle.std.proofs.lemmas.List.{take_rest}
use Rattle.std.proofs.lemmas.List.Sums.{position_or_len_is}
use Rattle.std.specs.Prelude.{◌==◌, Vec, vec_len}
use Rattle.memchr.specs.Find.{Nowhere, Passes, is_byte}
use Rattle.outside_io.specs.declared.lines.Lines.TheInside.{Inside}
use Rattle.outside_io.specs.Window.{window_of, kept_of, IsWindow}
use Rattle.outside_io.proofs.FirstLine.{first_width-le, first_width-append, first_width-zeros}

not_passed : (b : Bool) → ¬ (b ≡ true) → b ≡ false
not_passed true not = absurd (not refl)
not_passed false not = refl

-- the first place at which a line ends is the width of the line
pub found_first : (bytes : List ℕ) (place : ℕ) → place ≤ length bytes → Nowhere (Passes (is_byte 10) bytes) 0 place → (place < length bytes → Passes (is_byte 10) bytes place) → place ≡ first_width bytes
found_first bytes place within nowhere ends =
    sym (position_or_len_is (λ byte. byte == 10) bytes place 0 within (λ k before. not_passed (get_or bytes k 0 == 10) (nowhere k (omega arith) before)) ends)

-- a front with no line end was searched before
pub searched_width : (window : List ℕ) (searched width : ℕ) → first_width (take searched window) ≡ searched → searched ≤ length window → width ≡ first_width (drop searched window) → searched + width ≡ first_width window
searched_width window searched width none within is =
    let front : length (take searched window) ≡ searched = length-take-le searched window within in
    let joined : first_width (take searched window ++ drop searched window) ≡ length (take searched window) + first_width (drop searched window) =
    first_width-append (take searched window) (drop searched window) (none ∙ sym front) in
    sym (ap first_width (sym (take-append-drop searched window)) ∙ joined ∙ ap (λ n. n + first_width (drop searched window)) front ∙ ap (λ n. searched + n) (sym is))

-- zeros hold no line end
pub zeros_width : (skipped : ℕ) (window : List ℕ) → first_width (replicate skipped 0 ++ window) ≡ skipped + first_width window
zeros_width skipped window =
    first_width-append (replicate skipped 0) window (first_width-zeros skipped ∙ sym (length-replicate skipped 0)) ∙ ap (λ n. n + first_width window) (length-replicate skipped 0)

pub zeros_length : (skipped : ℕ) (window : List ℕ) → length (replicate skipped 0 ++ window) ≡ skipped + length window
zeros_length skipped window = length-append (replicate skipped 0) window ∙ ap (λ n. n + length window) (length-replicate skipped 0)

-- what a search of the window says of it
pub record Measured (a : Inside) (buffer : List ℕ) (width : ℕ) : Type 0 where
  pub found : a.searched + width ≡ first_width (window_of a)
  pub short : first_width (window_of a) ≤ a.end - a.start
  pub size : length (window_of a) ≡ a.end - a.start
  pub kept : length (slice_range buffer a.start a.end) ≡ a.end - a.start
  pub text_width : first_width (kept_of a).text ≡ a.skipped + first_width (window_of a)
  pub text_length : length (kept_of a).text ≡ a.skipped + (a.end - a.start)

window_length : (a : Inside) → IsWindow a → length a.buffer.items ≡ 65536 → length (window_of a) ≡ a.end - a.start
window_length a window size =
    length-take-le (a.end - a.start) (drop a.start a.buffer.items) (omega (arith, length-drop a.start a.buffer.items, window.within, window.ordered))

pub text_length : (a : Inside) → IsWindow a → length a.buffer.items ≡ 65536 → length (kept_of a).text ≡ a.skipped + (a.end - a.start)
text_length a window size = zeros_length a.skipped (window_of a) ∙ ap (λ n. a.skipped + n) (window_length a window size)

pub measured : (a : Inside) (buffer : List ℕ) (width : ℕ) → IsWindow a → buffer ≡ a.buffer.items → length buffer ≡ 65536 → width ≡ first_width (take (length (slice_range buffer a.start a.end) - a.searched) (drop a.searched (slice_range buffer a.start a.end))) → Measured a buffer width
measured a buffer width window is size found =
    let whole : length (window_of a) ≡ a.end - a.start = window_length a window (sym (ap length is) ∙ size) in
    let searched = window.searched in
    let rest = λ (bytes : List ℕ). take (length (slice_range bytes a.start a.end) - a.searched) (drop a.searched (slice_range bytes a.start a.end)) in
    let behind : width ≡ first_width (drop a.searched (window_of a)) =
    found ∙ ap (λ bytes. first_width (rest bytes)) is ∙ ap first_width (take_rest (window_of a) a.searched) in
    let all = searched_width (window_of a) a.searched width window.no_end (omega arith) behind in
    record {
      found = all;
      short = omega (arith, first_width-le (window_of a));
      size = whole;
      kept = ap (λ bytes. length (slice_range bytes a.start a.end)) is ∙ whole;
      text_width = zeros_width a.skipped (window_of a);
      text_length = zeros_length a.skipped (window_of a) ∙ ap (λ n. a.skipped + n) whole;
    }

-- what stands behind a line, and the line where nothing was forgotten
pub behind_cut : (buffer : List ℕ) (skipped start end length_ n : ℕ) → start + length_ < end → n ≡ skipped + length_ + 1 → slice_range buffer (start + (length_ + 1)) end ≡ drop n (replicate skipped 0 ++ slice_range buffer start end)
behind_cut buffer skipped start end length_ n within is =
    let zeros = replicate skipped 0 in
    let window = slice_range buffer start end in
    let rest : length_ + 1 + (end - (start + (length_ + 1))) ≡ end - start = omega arith in
    sym (ap (λ k. drop k (zeros ++ window)) (is ∙ omega arith)
    ∙ sym (drop-drop (length_ + 1) skipped (zeros ++ window)) ∙ ap (λ others. drop (length_ + 1) others) (drop_at zeros window skipped (length-replicate skipped 0))
    ∙ ap (λ k. drop (length_ + 1) (take k (drop start buffer))) (sym rest) ∙ drop-take (length_ + 1) (end - (start + (length_ + 1))) (drop start buffer)
    ∙ ap (λ others. take (end - (start + (length_ + 1))) others) (drop-drop (length_ + 1) start buffer))

pub line_cut : (buffer : List ℕ) (skipped start end length_ n : ℕ) → skipped ≡ 0 → start + length_ ≤ end → n ≡ skipped + length_ → slice_range buffer start (start + length_) ≡ take n (replicate skipped 0 ++ slice_range buffer start end)
line_cut buffer skipped start end length_ n none within is =
    let window = slice_range buffer start end in
    sym (ap (λ k. take k (replicate skipped 0 ++ window)) (is ∙ ap (λ s. s + length_) none ∙ omega arith) ∙ ap (λ s. take length_ (replicate s 0 ++ window)) none
    ∙ take-take length_ (end - start) (drop start buffer) (omega arith) ∙ ap (λ k. take k (drop start buffer)) (omega arith))

-- ---- after a piece was read into the buffer behind the window

pub refilled : (a : Inside) (items : List ℕ) → a.start ≤ a.end → take a.end items ≡ take a.end a.buffer.items → slice_range items a.start a.end ≡ window_of a
refilled a items ordered same =
    let n = a.end - a.start in
    let whole : a.start + n ≡ a.end = omega arith in
    sym (drop-take a.start n items) ∙ ap (λ k. drop a.start (take k items)) whole ∙ ap (λ front. drop a.start front) same
    ∙ ap (λ k. drop a.start (take k a.buffer.items)) (sym whole) ∙ drop-take a.start n a.buffer.items

pub refilled_more : (a : Inside) (items : List ℕ) (count : ℕ) → a.start ≤ a.end → take a.end items ≡ take a.end a.buffer.items → slice_range items a.start (a.end + count) ≡ window_of a ++ slice_range items a.end (a.end + count)
refilled_more a items count ordered same =
    let n = a.end - a.start in
    let size : a.end + count - a.start ≡ n + count = omega arith in
    let whole : a.start + n ≡ a.end = omega arith in
    let piece : a.end + count - a.end ≡ count = omega arith in
    ap (λ k. take k (drop a.start items)) size ∙ take-add n count (drop a.start items)
    ∙ ap (λ front. front ++ take count (drop n (drop a.start items))) (refilled a items ordered same)
    ∙ ap (λ rest. window_of a ++ take count rest) (drop-drop n a.start items ∙ ap (λ k. drop k items) whole)
    ∙ ap (λ k. window_of a ++ take k (drop a.end items)) (sym piece)

-- the window with as many bytes more
pub window_grown : (a : Inside) (buffer : Vec ℕ Global) (end : ℕ) → IsWindow a → length a.buffer.items ≡ 65536 → vec_len buffer ≡ vec_len a.buffer → take a.end buffer.items ≡ take a.end a.buffer.items → a.end ≤ end → end ≤ 65536 → a.skipped + (end - a.start) ≤ a.room + 1 → IsWindow (record a { buffer = buffer; end = end })
window_grown a buffer end window size same_size same later within counted =
    let count = end - a.end in
    let whole : a.end + count ≡ end = omega arith in
    let grown : slice_range buffer.items a.start end ≡ window_of a ++ slice_range buffer.items a.end end =
    ap (λ e. slice_range buffer.items a.start e) (sym whole) ∙ refilled_more a buffer.items count window.ordered same
    ∙ ap (λ e. window_of a ++ slice_range buffer.items a.end e) whole in
    let front : a.searched ≤ length (window_of a) = omega (arith, window_length a window size, window.searched) in
    record {
      size = same_size ∙ window.size;
      ordered = omega (arith, window.ordered);
      within = within;
      line_ordered = window.line_ordered;
      line_within = window.line_within;
      searched = omega (arith, window.searched, window.ordered);
      no_end = ap (λ bytes. first_width (take a.searched bytes)) grown ∙ ap first_width (take-append-le a.searched (window_of a) (slice_range buffer.items a.end end) front) ∙ window.no_end;
      wide = window.wide;
      counted = counted;
      limited = window.limited;
    }
