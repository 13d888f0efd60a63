-- The name of each fault of a program, as notes tell it.
use Rattle.std.specs.Prelude.{ℕ, List, codes}
use Rattle.program_refusal.specs.declared.refusal.RefusalName.{RefusalName}
use Rattle.program_refusal.specs.declared.refusal.RefusalName.TheVariants.{LongText, BadUtf8, BadChar, BigNumber, Deep, Expected, Twice, Many, NoMain, Unbound, NoFunction, NoType, TooTall, TooWide, Mismatch, OutOfOrder, Jumpy, WaitNull, Arity, History, NotStream, WideOutput}

-- the name of a fault of a program
abbrev pub refusal_name : RefusalName → List ℕ
refusal_name LongText = codes "LongText"
refusal_name BadUtf8 = codes "BadUtf8"
refusal_name BadChar = codes "BadChar"
refusal_name BigNumber = codes "BigNumber"
refusal_name Deep = codes "Deep"
refusal_name Expected = codes "Expected"
refusal_name Twice = codes "Twice"
refusal_name Many = codes "Many"
refusal_name NoMain = codes "NoMain"
refusal_name Unbound = codes "Unbound"
refusal_name NoFunction = codes "NoFunction"
refusal_name NoType = codes "NoType"
refusal_name TooTall = codes "TooTall"
refusal_name TooWide = codes "TooWide"
refusal_name Mismatch = codes "Mismatch"
refusal_name OutOfOrder = codes "OutOfOrder"
refusal_name Jumpy = codes "Jumpy"
refusal_name WaitNull = codes "WaitNull"
refusal_name Arity = codes "Arity"
refusal_name History = codes "History"
refusal_name NotStream = codes "NotStream"
refusal_name WideOutput = codes "WideOutput"
