-- The words that say each refusal to a person.
use Rattle.std.specs.Prelude.{ℕ, List, codes}
use Rattle.fault.specs.declared.Fault.{Fault}
use Rattle.fault.specs.declared.Fault.TheVariants.{MalformedLine, UnknownFrame, ReadingOutOfRange, BadMark, BadShortest, BadPenalty, BadCount, BadStretch, TooManyReadings, SharedGap, TooManyMarks, NoSuchMark, NoAllowedDivision, ShortBuffer, TooHeavy, NoReading, WrongState}

abbrev pub fault_name : Fault → List ℕ
fault_name MalformedLine = codes "malformed line"
fault_name UnknownFrame = codes "unknown kind, or a length that does not fit it"
fault_name ReadingOutOfRange = codes "reading outside its loss's range"
fault_name BadMark = codes "mark that cannot stand on this line"
fault_name BadShortest = codes "shortest stretch outside the line"
fault_name BadPenalty = codes "penalty above 2^49"
fault_name BadCount = codes "count above the number of gaps"
fault_name BadStretch = codes "stretch outside the loss"
fault_name TooManyReadings = codes "more than 512 readings"
fault_name SharedGap = codes "mark shares a gap with a standing one"
fault_name TooManyMarks = codes "64 marks stand already"
fault_name NoSuchMark = codes "no mark begins there"
fault_name NoAllowedDivision = codes "no allowed division"
fault_name ShortBuffer = codes "buffer or list too short"
fault_name TooHeavy = codes "loss too heavy"
fault_name NoReading = codes "no reading"
fault_name WrongState = codes "not a call of this state"
