-- The number of each refusal.
use Rattle.std.specs.Prelude.{ℕ}
use Rattle.fault.specs.declared.Fault.{Fault}
use Rattle.fault.specs.declared.Fault.TheVariants.{MalformedLine, UnknownFrame, ReadingOutOfRange, BadMark, BadShortest, BadPenalty, BadCount, BadStretch, TooManyReadings, SharedGap, TooManyMarks, NoSuchMark, NoAllowedDivision, ShortBuffer, TooHeavy, NoReading, WrongState}

abbrev pub number : Fault → ℕ
number MalformedLine = 11
number UnknownFrame = 12
number ReadingOutOfRange = 13
number BadMark = 14
number BadShortest = 15
number BadPenalty = 16
number BadCount = 17
number BadStretch = 18
number TooManyReadings = 21
number SharedGap = 22
number TooManyMarks = 23
number NoSuchMark = 24
number NoAllowedDivision = 25
number ShortBuffer = 26
number TooHeavy = 27
number NoReading = 28
number WrongState = 29
