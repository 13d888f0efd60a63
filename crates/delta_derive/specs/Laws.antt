-- What the laws of derivations that are written down say.
use Rattle.std.specs.Prelude.{ℕ, ◌≡◌, List, None}
use Rattle.core_term.specs.CoreTerm.{CoreProgram}
use Rattle.core_term.specs.FreeNames.{IsCore}
use Rattle.delta_derive.specs.FirstFault.{first_fault, IsValidText}

-- a text without a fault writes a derivation of the program
abbrev pub FaultlessIsValid : Type 0
FaultlessIsValid = (c : CoreProgram) (text : List ℕ) → first_fault c text ≡ None → IsValidText c text

-- and one that writes a derivation has no fault, where the program binds each name once
abbrev pub ValidIsFaultless : Type 0
ValidIsFaultless = (c : CoreProgram) (text : List ℕ) → IsCore c → IsValidText c text → first_fault c text ≡ None
