-- What an answer says of the first cause that applies: an answer is given exactly where there is none.
use Rattle.std.specs.Prelude.{◌≡◌, Bool, cond, Some, None, Ok, Err, Option, Result}
use Rattle.fault.specs.declared.Fault.{Fault}
use Rattle.fault.specs.declared.Failure.{Failure}
use Rattle.fault.specs.declared.Failure.TheVariants.{Refused, OutOfMemory}

-- the value x, unless a cause applies
abbrev pub unless : {X : Type 0} → Option Fault → X → Result X Fault
unless None x = Ok x
unless (Some f) x = Err f

-- the same of an answer whose value is told apart
abbrev pub RefusedFor : {X : Type 0} → Option Fault → Result X Fault → Type 0
RefusedFor cause (Ok x) = cause ≡ None
RefusedFor cause (Err f) = cause ≡ Some f

-- where memory is wanting too, it was wanting only where no cause applied
abbrev pub FailedFor : {X : Type 0} → Option Fault → Result X Failure → Type 0
FailedFor cause (Ok x) = cause ≡ None
FailedFor cause (Err (Refused f)) = cause ≡ Some f
FailedFor cause (Err OutOfMemory) = cause ≡ None

-- the first of two causes
abbrev pub or_else : Option Fault → Option Fault → Option Fault
or_else None later = later
or_else (Some f) later = Some f

-- the fault, where the test applies
abbrev pub when : Bool → Fault → Option Fault
when test f = cond test (Some f) None
