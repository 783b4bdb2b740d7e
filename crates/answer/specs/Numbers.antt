-- The numbers by which endings and refusals are known outside.
use Rattle.std.specs.Prelude.{ℕ, Some, None, Option}
use Rattle.std.specs.Option.{unwrap_or}
use Rattle.answer.specs.declared.Ending.{Ending}
use Rattle.answer.specs.declared.Ending.TheVariants.{Finished, DivisorZero, IndexOutside, PageFull, NoTurnLeft, TooDeep, UnknownInstruction, OutsideCode, StackFull, TooFewWords, NoCaller, NegativeCount}
use Rattle.answer.specs.declared.Reason.{Reason}
use Rattle.answer.specs.declared.Reason.TheVariants.{Limits, Shape, Uses, Scope, Nesting, CodeLength, NothingLoaded, Allowance, StackLength, InputCount, Sizes, PacketLength, LengthField, HeaderFlags, OutputLength, OutputHeader}
use Rattle.answer.specs.declared.Refusal.{Refusal}

abbrev pub ending_number : Ending → ℕ
ending_number Finished = 0
ending_number DivisorZero = 1
ending_number IndexOutside = 2
ending_number PageFull = 3
ending_number NoTurnLeft = 4
ending_number TooDeep = 5
ending_number UnknownInstruction = 6
ending_number OutsideCode = 7
ending_number StackFull = 8
ending_number TooFewWords = 9
ending_number NoCaller = 10
ending_number NegativeCount = 11

abbrev pub reason_number : Reason → ℕ
reason_number Limits = 20
reason_number Shape = 21
reason_number Uses = 22
reason_number Scope = 23
reason_number Nesting = 24
reason_number CodeLength = 25
reason_number NothingLoaded = 30
reason_number Allowance = 31
reason_number StackLength = 32
reason_number InputCount = 33
reason_number Sizes = 34
reason_number PacketLength = 40
reason_number LengthField = 41
reason_number HeaderFlags = 42
reason_number OutputLength = 43
reason_number OutputHeader = 44

-- the number by which no place is known
abbrev pub no_place : ℕ
no_place = 65535

-- the number by which the place of a refusal is known: that of the node at fault, if one is
abbrev pub place_number : Option ℕ → ℕ
place_number place = unwrap_or place no_place

-- a refusal that names no node, and one that names a node
abbrev pub refused : Reason → Refusal
refused why = record { reason = why; place = None }

abbrev pub refused_at : Reason → ℕ → Refusal
refused_at why n = record { reason = why; place = Some n }
