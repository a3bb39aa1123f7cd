-- A reason of the program, as the definitions see it.
use Rattle.ballot_record.specs.declared.fault.LineWhy.{LineWhy}
use Rattle.ballot_record.specs.declared.fault.LineWhy.TheVariants as variants
use Rattle.store_spec.specs.Build.{Reason}
use Rattle.store_spec.specs.Build.Reason.{Malformed, Invalid, Duplicate, Conflict, Full}

abbrev pub reason : LineWhy → Reason
reason variants.Malformed = Malformed
reason variants.Invalid = Invalid
reason variants.Duplicate = Duplicate
reason variants.Conflict = Conflict
reason variants.Full = Full
