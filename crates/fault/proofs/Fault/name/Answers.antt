use Rattle.std.proofs.Common.{sym, ap}
use Rattle.fault.specs.Name.{fault_name}
use Rattle.fault.proofs.Fault.name.Goals as goal

pub returns-in-ReadingOutOfRange : goal.returns-in-ReadingOutOfRange
returns-in-ReadingOutOfRange c = ap fault_name (sym c.in-ReadingOutOfRange.is)

pub returns-in-TooManyReadings : goal.returns-in-TooManyReadings
returns-in-TooManyReadings c = ap fault_name (sym c.in-TooManyReadings.is)

pub returns-in-TooManyMarks : goal.returns-in-TooManyMarks
returns-in-TooManyMarks c = ap fault_name (sym c.in-TooManyMarks.is)

pub returns-in-NoSuchMark : goal.returns-in-NoSuchMark
returns-in-NoSuchMark c = ap fault_name (sym c.in-NoSuchMark.is)

pub returns-in-BadMark : goal.returns-in-BadMark
returns-in-BadMark c = ap fault_name (sym c.in-BadMark.is)
