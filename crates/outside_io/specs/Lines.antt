-- How a source is cut into lines, whatever the pieces in which it gives its bytes.
use Rattle.std.specs.Prelude.{◌≡◌, ℕ, ◌+◌, ◌<◌, ◌≤◌, Bool, true, false, IfSome, List, [], ◌∷◌, ◌++◌, length, take, drop, Option, Some, None, Result, Ok, Err, codes}
use Rattle.outside_io.specs.declared.lines.Found.{Found}
use Rattle.outside_io.specs.declared.lines.Found.TheVariants.{Line, TooMuch, Nothing}
use Rattle.outside_io.specs.declared.lines.LineEndFault.{LineEndFault}
use Rattle.outside_io.specs.declared.lines.LineEndFault.TheVariants.{TooLong, ReadFault}
use Rattle.outside_io.specs.declared.lines.NextLine.{NextLine}
use Rattle.outside_io.specs.declared.lines.NextLine.TheVariants.{Whole, TooWide, End}
use Rattle.outside_io.specs.Told.{IfTold}
use Rattle.outside_io.specs.Window.{Kept}
use Rattle.store_spec.specs.Input.{line_limit, first_width, taken_line, taken_within, IsTooLong}

-- The first line of a text was handed out: it is none where it is too wide. What is left of the text and of the room
-- stands behind it and its end. A line with no end is the last one, and that the source has ended is known from then on.
pub record HandsOut (line : Option (List ℕ)) (text : List ℕ) (room : ℕ) (rest : List ℕ) (room_left : ℕ) (ended : Bool) : Type 0 where
  pub lines : taken_within room text ≡ line ∷ taken_within room_left rest
  pub behind : rest ≡ drop (first_width text + 1) text
  pub counted : room + length rest ≡ room_left + length text
  pub within : ¬ IsTooLong text room
  pub last : first_width text ≡ length text → ended ≡ true

-- there is nothing to hand out
pub record HandsNothing (text : List ℕ) (room : ℕ) : Type 0 where
  pub lines : taken_within room text ≡ []
  pub empty : text ≡ []

-- no further line ends within the room, and there are more bytes
pub record HasNoFurtherLine (text : List ℕ) (room : ℕ) : Type 0 where
  pub lines : taken_within room text ≡ []
  pub too_long : IsTooLong text room

-- The text is as it was, but that bytes of a first line which is too wide may have been forgotten: its width is kept.
pub record LooksLike (before now : List ℕ) : Type 0 where
  pub width : first_width now ≡ first_width before
  pub line : taken_line (take (first_width before) now) ≡ taken_line (take (first_width before) before)
  pub behind : drop (first_width before) now ≡ drop (first_width before) before
  pub size : length now ≡ length before

-- What a call answers for the text that was kept or left then, and what is kept and left of it now.
abbrev pub AnswersNext : Result NextLine LineEndFault → List ℕ → ℕ → Kept → List ℕ → Type 0
AnswersNext (Ok Whole) text room now rest = HandsOut (Some now.line) text room rest now.room now.ended
AnswersNext (Ok TooWide) text room now rest = HandsOut None text room rest now.room now.ended
AnswersNext (Ok End) text room now rest = HandsNothing text room × (rest ≡ []) × (now.room ≡ room) × (now.ended ≡ true)
AnswersNext (Err TooLong) text room now rest = HasNoFurtherLine text room × LooksLike text rest × IsTooLong now.text now.room × (now.room ≡ room)
AnswersNext (Err ReadFault) text room now rest = LooksLike text rest × (now.room ≡ room)

-- where it is known that the source has ended, nothing is kept, and the source has nothing left
abbrev pub EndsEmpty : Kept → Option (List ℕ) → Type 0
EndsEmpty kept left = kept.ended ≡ true → (kept.text ≡ []) × IfSome left (λ rest. rest ≡ [])

-- The same of one source, where it tells its bytes. Only a source that has not ended is asked, and so can fail.
pub record AnswersTold (answer : Result NextLine LineEndFault) (old : Kept) (before : Option (List ℕ)) (now : Kept) (left : Option (List ℕ)) : Type 0 where
  pub told : EndsEmpty old before → IfTold before left (λ before left. AnswersNext answer (old.text ++ before) old.room now (now.text ++ left))
  pub ended : EndsEmpty old before → EndsEmpty now left
  pub asked : answer ≡ Err ReadFault → old.ended ≡ false

-- what is printed of a fault
abbrev pub fault_text : LineEndFault → List ℕ
fault_text TooLong = codes "the input is too long"
fault_text ReadFault = codes "the input failed"

-- ---- what the parts of a call do

-- the answer for a line, of which the last argument is kept
abbrev pub IsAnswerFor : NextLine → List ℕ → List ℕ → Type 0
IsAnswerFor Whole line kept = (length line ≤ line_limit) × (kept ≡ line)
IsAnswerFor TooWide line kept = line_limit < length line
IsAnswerFor End line kept = ⊥

-- a line that ends within the room is cut off
pub record CutsOff (told : NextLine) (old now : Kept) : Type 0 where
  pub ends : first_width old.text < length old.text
  pub within : first_width old.text < old.room
  pub answer : IsAnswerFor told (take (first_width old.text) old.text) now.line
  pub rest : now.text ≡ drop (first_width old.text + 1) old.text
  pub room : old.room ≡ now.room + (first_width old.text + 1)
  pub ended : now.ended ≡ old.ended

pub record StaysSame (old now : Kept) : Type 0 where
  pub text : now.text ≡ old.text
  pub room : now.room ≡ old.room
  pub ended : now.ended ≡ old.ended

-- what stands in the text that is kept
abbrev pub FindsIn : Found → Kept → Kept → Type 0
FindsIn (Line answer) old now = CutsOff answer old now
FindsIn TooMuch old now = IsTooLong old.text old.room × StaysSame old now
FindsIn Nothing old now = (first_width old.text ≡ length old.text) × (length old.text ≤ old.room) × StaysSame old now

-- all that is kept is the last line, or nothing is, and the source has ended
abbrev pub TakesLast : NextLine → Kept → Kept → Type 0
TakesLast End old now = (old.text ≡ []) × (now.text ≡ []) × (now.room ≡ old.room) × (now.ended ≡ true)
TakesLast answer old now = (0 < length old.text) × (now.text ≡ []) × (old.room ≡ now.room + length old.text) × (now.ended ≡ true) × IsAnswerFor answer old.text now.line
