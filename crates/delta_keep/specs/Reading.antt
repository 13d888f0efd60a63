-- What is answered where a kept state is read.
use Rattle.std.specs.Prelude.{ℕ, ◌-◌, ◌≡◌, ◌≤◌, ⊤, List, length, Option, Some, None, Result, Ok, Err}
use Rattle.kept_state.specs.KeptForm.{FormFault, bad_form, bad_version}
use Rattle.delta_keep.specs.declared.fault.ReadFault.{ReadFault}
use Rattle.delta_keep.specs.declared.fault.ReadFault.TheVariants.{Memory, Form, Version}
use Rattle.delta_keep.specs.declared.halt.Halt.{Halt}
use Rattle.delta_keep.specs.declared.halt.Halt.TheVariants.{Memory as NoMemory, At}

-- bytes are read where nothing is wrong with their form, and else it is told what is wrong first. Nothing is said of
-- want of memory
abbrev pub TellsFault : {K : Type 0} → Option FormFault → Result K ReadFault → Type 0
TellsFault fault (Ok k) = fault ≡ None
TellsFault fault (Err Memory) = ⊤
TellsFault fault (Err (Form at)) = fault ≡ Some (bad_form at)
TellsFault fault (Err (Version n)) = fault ≡ Some (bad_version n)

-- all of the bytes are read where none is in a wrong place, and else it is told how many are left where the first is.
-- Nothing is said of want of memory
abbrev pub Ends : {K : Type 0} → List ℕ → Result K Halt → Option ℕ → Type 0
Ends bytes (Ok k) place = place ≡ None
Ends bytes (Err NoMemory) place = ⊤
Ends bytes (Err (At left)) place = (left ≤ length bytes) × (place ≡ Some (length bytes - left))
