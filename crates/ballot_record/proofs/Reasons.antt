-- The reasons for which a line is refused.
use Rattle.std.proofs.Common.{◌≡◌, refl}
use Rattle.ballot_record.specs.LineWhy.{reason}
use Rattle.ballot_record.specs.declared.fault.LineWhy.{LineWhy}
use Rattle.ballot_record.specs.declared.fault.LineWhy.TheVariants.{Malformed, Invalid, Duplicate, Conflict, Full}

-- a reason is that of one cause
pub same_why : (a b : LineWhy) → reason a ≡ reason b → a ≡ b
same_why Malformed Malformed is = refl
same_why Malformed b is = absurd cc
same_why Invalid Invalid is = refl
same_why Invalid b is = absurd cc
same_why Duplicate Duplicate is = refl
same_why Duplicate b is = absurd cc
same_why Conflict Conflict is = refl
same_why Conflict b is = absurd cc
same_why Full Full is = refl
same_why Full b is = absurd cc
