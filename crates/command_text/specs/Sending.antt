-- How the writing of a piece may end.
use Rattle.std.specs.Prelude.{⊤}
use Rattle.delta_end.specs.declared.end.End.{End}
use Rattle.delta_end.specs.declared.end.End.TheVariants.{WriteFailed, Memory}

abbrev pub IsOfSending : End → Type 0
IsOfSending WriteFailed = ⊤
IsOfSending Memory = ⊤
IsOfSending _ = ⊥
